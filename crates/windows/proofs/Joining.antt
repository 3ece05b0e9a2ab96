-- The load of a chain, alone and with one other after the other beside it. Assumes nothing.
use Prim.Native.Nat.{ℕ, zero, suc, ◌+◌, ◌*◌, ◌≤◌, ◌<◌}
use mathlib.Core.Path.{◌≡◌, refl, ap, ap₂, sym, subst, subst₂, ◌∙◌}
use mathlib.Core.List.{List, [], ◌∷◌, ◌++◌}
use native.Mathlib.Omega.{arith}
use native.Mathlib.Nat.{mul-zero, le_refl, ne_of_lt}
use borrow.Author.Count.{below_more}
use lib.ListN.{length, set, length-set, length-append}
use lib.Seq.{get_or-set_same, get_or-set_other}
use Rattle.search.specs.Lists.{sum_of}
use Rattle.search.proofs.Lists.{sum_append}
use Rattle.table.specs.Limits.{max_chains}
use Rattle.table.specs.Record.{list_place, row_at}
use Rattle.table.specs.declared.Row.{Row}
use Rattle.table.specs.Code.Listed.{distances_from, Lists}
use Rattle.table.specs.Code.Taken.{Stands}
use Rattle.arrivals.specs.Arrivals.{δ, η}
use Rattle.segments.specs.Tasks.{chain_cost}
use Rattle.segments.specs.View.{View}
use Rattle.segments.proofs.Bounds.{chain-max}
use Rattle.windows.specs.Demand.{term_of, counted_part, demand_of}
use Rattle.windows.specs.Code.Load.{once_limit, Load, held_rate, held_place, held_of, Held, demand_in, Sound, dearer, Joined, Loads, Adds}
use Rattle.segments.specs.Code.Held.{dearest}
use Rattle.windows.specs.declared.Term.{Term}
use Rattle.windows.proofs.Growth.{part-less}
use Rattle.windows.proofs.Bounds.{held_on}

-- the chain at `at` alone: nothing is held
pub alone_loads : (s : List ℕ) (at : ℕ) → Stands s at → (held : List ℕ) → length held ≡ 2 * max_chains
    → Loads (row_at s at) []
    (record { bytes = s; at = at; list = list_place s at; cost = chain_cost (row_at s at); part = counted_part (row_at s at); once = 0; count = 0; held = held })
unfolding demand_in demand_of held_of sum_of
alone_loads s at here held long = record {
  sound = record {
    stands = here;
    placed = refl;
    some = omega (arith, part-less (row_at s at) here.good);
    cheap = chain-max (row_at s at) here.good;
    part = omega (arith, part-less (row_at s at) here.good);
    once = omega arith;
    held = record {
      few = omega arith;
      size = long;
      lists = λ i h. absurd (omega (arith, h));
      cheap = λ i h. absurd (omega (arith, h));
    };
  };
  chain = refl;
  count = le_refl 0;
  once = le_refl 0;
  demand = λ q t. omega arith;
}

-- a cost more
module _ (l : Load) (cost : ℕ) where
  pub dearer-sound : Sound l → l.once + cost ≤ once_limit → Sound (dearer l cost)
  dearer-sound ok h = record {
    stands = ok.stands;
    placed = ok.placed;
    some = ok.some;
    cheap = ok.cheap;
    part = ok.part;
    once = h;
    held = ok.held;
  }

  pub dearer-demand : (q t : ℕ) → demand_in (dearer l cost) q t ≡ demand_in l q t + cost
  unfolding demand_in
  dearer-demand q t = omega arith

-- what one view adds
one-term : (v : View) (t : ℕ) → sum_of (λ w. term_of δ w t) (v ∷ []) ≡ term_of δ v t
unfolding sum_of
one-term v t = omega arith

-- a chain more whose η counts nothing
pub once-joined : (l : Load) (v : View) (x : Term) → Sound l → Adds v x → x.rate ≡ 0 → l.once + dearest ≤ once_limit → Joined l (v ∷ []) (dearer l x.once)
once-joined l v x ok a z room = record {
  sound = dearer-sound l x.once ok (omega (arith, a.once));
  bytes = refl;
  at = refl;
  count = omega arith;
  once = omega (arith, a.once);
  demand = λ q t.
      omega (arith, dearer-demand l x.once q t, one-term v t, a.term t, ap (λ r. η v.list t * r) z, mul-zero (η v.list t));
}

-- a chain more whose η counts: its rate and where its list starts come after those of the n held so far
abbrev pub held_with : List ℕ → ℕ → ℕ → ℕ → List ℕ
held_with held n rate place = set (set held n rate) (max_chains + n) place

module _ (s held : List ℕ) (n rate place : ℕ) (before : Held s held n) (room : n < max_chains) where
  abbrev more : List ℕ
  more = held_with held n rate place

  -- the numbers before are as they were
  rate-old : (i : ℕ) → i < n → held_rate more i ≡ held_rate held i
  rate-old i h = get_or-set_other (set held n rate) (max_chains + n) i place 0 (λ e. omega (arith, h, e)) ∙ get_or-set_other held n i rate 0 (ne_of_lt h)

  place-old : (i : ℕ) → i < n → held_place more i ≡ held_place held i
  place-old i h =
      get_or-set_other (set held n rate) (max_chains + n) (max_chains + i) place 0 (λ e. omega (arith, h, e))
      ∙ get_or-set_other held n (max_chains + i) rate 0 (λ e. omega (arith, e))

  -- and these are there
  rate-new : held_rate more n ≡ rate
  rate-new = get_or-set_other (set held n rate) (max_chains + n) n place 0 (λ e. omega (arith, e)) ∙ get_or-set_same held n rate 0 (omega (arith, before.size))

  place-new : held_place more n ≡ place
  place-new = get_or-set_same (set held n rate) (max_chains + n) place 0 (omega (arith, length-set held n rate, before.size))

  held_same : (i t : ℕ) → i ≤ n → held_of s more i t ≡ held_of s held i t
  unfolding held_of
  held_same zero t h = refl
  held_same (suc i) t h = ap₂ ◌+◌ (held_same i t (omega arith)) (ap₂ (λ p r. η (distances_from s p) t * r) (place-old i h) (rate-old i h))

  held_more : (t : ℕ) → held_of s more (n + 1) t ≡ held_of s held n t + η (distances_from s place) t * rate
  held_more t = held_on s more n t ∙ ap₂ ◌+◌ (held_same n t (le_refl n)) (ap₂ (λ p r. η (distances_from s p) t * r) place-new rate-new)

  held-room : Lists s place → rate ≤ dearest → Held s more (n + 1)
  held-room there cheap = record {
    few = omega arith;
    size = length-set (set held n rate) (max_chains + n) place ∙ length-set held n rate ∙ before.size;
    lists = below_more (λ i. Lists s (held_place more i)) n
        (λ i h. subst (Lists s) (sym (place-old i h)) (before.lists i h)) (subst (Lists s) (sym place-new) there);
    cheap = below_more (λ i. held_rate more i ≤ dearest) n (λ i h. rw (rate-old i h) (before.cheap i h)) (rw rate-new cheap);
  }

-- the load with such a chain more
abbrev pub joined : Load → Term → ℕ → Load
joined l x place =
    record {
      bytes = l.bytes;
      at = l.at;
      list = l.list;
      cost = l.cost;
      part = l.part;
      once = l.once + x.once;
      count = l.count + 1;
      held = held_with l.held l.count x.rate place;
    }

module _ (l : Load) (v : View) (x : Term) (place : ℕ) (ok : Sound l) (few : l.count < max_chains) (room : l.once + dearest ≤ once_limit)
    (adds : Adds v x) (same : v.list ≡ distances_from l.bytes place) (there : Lists l.bytes place) where
  joined-demand : (q t : ℕ) → demand_in (joined l x place) q t ≡ demand_in l q t + term_of δ v t
  unfolding demand_in
  joined-demand q t =
      omega (
        arith,
        adds.term t,
        ap (λ ds. η ds t * x.rate) same,
        held_more l.bytes l.held l.count x.rate place ok.held few t,
      )

  pub held-joined : Joined l (v ∷ []) (joined l x place)
  held-joined = record {
    sound = record {
      stands = ok.stands;
      placed = ok.placed;
      some = ok.some;
      cheap = ok.cheap;
      part = ok.part;
      once = omega (arith, adds.once);
      held = held-room l.bytes l.held l.count x.rate place ok.held few there adds.rate;
    };
    bytes = refl;
    at = refl;
    count = le_refl (l.count + 1);
    once = omega (arith, adds.once);
    demand = λ q t. omega (arith, joined-demand q t, one-term v t);
  }

-- the chains of some views after those of others
pub joined-none : (l : Load) → Sound l → Joined l [] l
unfolding sum_of
joined-none l ok = record { sound = ok; bytes = refl; at = refl; count = omega arith; once = omega arith; demand = λ q t. omega arith }

pub joined-on : {l m r : Load} {vs ws : List View} → Joined l vs m → Joined m ws r → Joined l (vs ++ ws) r
joined-on {vs = vs} {ws = ws} a b = record {
  sound = b.sound;
  bytes = b.bytes ∙ a.bytes;
  at = b.at ∙ a.at;
  count = omega (arith, a.count, b.count, length-append vs ws);
  once = omega (arith, a.once, b.once, length-append vs ws);
  demand = λ q t. omega (arith, a.demand q t, b.demand q t, sum_append (λ v. term_of δ v t) vs ws);
}

pub loads_on : {b : Row} {l r : Load} {vs ws : List View} → Loads b vs l → Joined l ws r → Loads b (vs ++ ws) r
unfolding demand_of
loads_on {vs = vs} {ws = ws} a j = record {
  sound = j.sound;
  chain = ap₂ row_at j.bytes j.at ∙ a.chain;
  count = omega (arith, a.count, j.count, length-append vs ws);
  once = omega (arith, a.once, j.once, length-append vs ws);
  demand = λ q t. omega (arith, a.demand q t, j.demand q t, sum_append (λ v. term_of δ v t) vs ws);
}

-- the same row and the same views have the same loads
pub loads_same : {b c : Row} {vs ws : List View} {l : Load} → b ≡ c → vs ≡ ws → Loads b vs l → Loads c ws l
loads_same {l = l} e f a = subst₂ (λ b vs. Loads b vs l) e f a
