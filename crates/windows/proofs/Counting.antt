-- By which list a chain's own arrivals are counted; counts of arrivals while t grows: none falls. Assumes nothing.
use Prim.Native.Nat.{ℕ, ◌+◌, ◌≤◌, ◌<◌}
use mathlib.Core.Path.{◌≡◌, refl, sym, subst, ◌∙◌}
use mathlib.Core.List.{List}
use mathlib.Core.Logic.{⊎_elim}
use native.Mathlib.Omega.{arith}
use native.Mathlib.Nat.{le_trans, le_of_eq, eq-or-lt_of_le}
use lib.ListN.{length, get_or, set, replicate, length-set, get_or-replicate}
use lib.Seq.{get_or-set_same, get_or-set_other}
use Rattle.search.proofs.Choice.{lt_or_le}
use Rattle.table.specs.Limits.{max_chains}
use Rattle.arrivals.specs.Arrivals.{η}
use Rattle.table.specs.Code.Good.{GoodDistances}
use Rattle.table.specs.Code.Listed.{distances_from, Lists}
use Rattle.table.proofs.Stands.{distances-from, lists}
use Rattle.arrivals.proofs.Counts.{η-mono}
use Rattle.windows.specs.Code.Load.{Load, held_at, own_of, Sound}
use Rattle.windows.specs.Code.Climb.{Behind, Counted}

-- the chain's own list, where it starts
module _ (l : Load) (ok : Sound l) where
  pub own-list : own_of l ≡ distances_from l.bytes l.list
  own-list = distances-from l.bytes l.at ok.placed

  pub own-lists : Lists l.bytes l.list
  own-lists = lists l.bytes l.at ok.placed ok.stands

module _ {s held : List ℕ} where
  -- the chain i is counted too
  pub behind-next : {i n t : ℕ} {counts : List ℕ} → Behind s held i n t counts → i < n → n ≤ max_chains
      → (count : ℕ) → count ≡ η (held_at s held i) t → Behind s held (i + 1) n t (set counts i count)
  behind-next {i} {n} {t} {counts} b h few count e =
      let within : i < length counts = omega (arith, b.size) in
      let same : get_or (set counts i count) i 0 ≡ η (held_at s held i) t = get_or-set_same counts i count 0 within ∙ e in
      record {
        size = length-set counts i count ∙ b.size;
        all = λ j k. ⊎_elim (λ e. subst (λ m. get_or (set counts i count) m 0 ≡ η (held_at s held m) t) (sym e) same)
            (λ l. get_or-set_other counts i j count 0 (λ q. omega (arith, l, q)) ∙ b.all j l) (eq-or-lt_of_le (let l : j ≤ i = omega arith in l));
        rest = λ j k. ⊎_elim (λ l. le_trans (le_of_eq (get_or-set_other counts i j count 0 (λ q. omega (arith, l, q)))) (b.rest j k))
            (λ l. ⊎_elim (λ z. subst (λ m. get_or (set counts i count) m 0 ≤ η (held_at s held m) t) z (le_of_eq same))
            (λ z. le_trans (le_of_eq (get_or-set_other counts i j count 0 (λ q. omega (arith, z, q)))) (b.rest j k)) (eq-or-lt_of_le l)) (lt_or_le j i);
      }

  -- a later t has no fewer arrivals
  pub behind-later : {n t u : ℕ} {counts : List ℕ} → Behind s held n n t counts → ((j : ℕ) → j < n → GoodDistances (held_at s held j)) → t ≤ u
      → Behind s held 0 n u counts
  behind-later b good h =
      record {
        size = b.size;
        all = λ j l. absurd (omega (arith, l));
        rest = λ j l. le_trans (b.rest j l) (η-mono (good j l) _ _ h);
      }

  -- the chain's own count stands past them
  pub behind-own : {n t : ℕ} {counts : List ℕ} → Behind s held 0 n t counts → n ≤ max_chains → (count : ℕ) → Behind s held 0 n t (set counts max_chains count)
  behind-own {counts = counts} b few count =
      record {
        size = length-set counts max_chains count ∙ b.size;
        all = λ j h. absurd (omega (arith, h));
        rest = λ j h. le_trans (le_of_eq (get_or-set_other counts max_chains j count 0 (λ q. omega (arith, h, q)))) (b.rest j h);
      }

-- and stays while these are counted
pub own-stays : (counts : List ℕ) (i count : ℕ) → i < max_chains → get_or (set counts i count) max_chains 0 ≡ get_or counts max_chains 0
own-stays counts i count h = get_or-set_other counts i max_chains count 0 (λ q. omega (arith, h, q))

-- nothing is counted yet
pub counted_none : (l : Load) (t : ℕ) → Sound l → Counted l t (replicate (max_chains + 1) 0)
counted_none l t sound =
    record {
      own = omega (arith, get_or-replicate {A = ℕ} (max_chains + 1) max_chains 0 0 (omega arith));
      held = record {
        size = refl;
        all = λ j h. absurd (omega (arith, h));
        rest = λ j h. omega (arith, get_or-replicate {A = ℕ} (max_chains + 1) j 0 0 (omega (arith, h, sound.held.few)));
      };
    }
