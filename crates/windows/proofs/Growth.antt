-- The demand by a lawful rule never falls with t, and grows with q: its own first part costs less than the chain. Assumes nothing.
use Prim.Native.Nat.{ℕ, zero, suc, ◌+◌, ◌*◌, ◌-◌, ◌≤◌, ◌<◌}
use mathlib.Core.List.{List}
use native.Mathlib.Omega.{arith}
use native.Mathlib.Nat.{mul-le-mul_right, mul-pos, le_refl}
use Rattle.search.proofs.Choice.{when_cases}
use Rattle.table.specs.Code.Good.{GoodRow}
use Rattle.table.specs.declared.Row.{Row}
use Rattle.arrivals.specs.Arrivals.{Rule, count_by, η}
use Rattle.table.specs.Record.{distances}
use Rattle.arrivals.proofs.Counts.{η-mono}
use Rattle.segments.specs.Tasks.{chain_cost}
use Rattle.segments.specs.View.{View}
use Rattle.segments.proofs.Bounds.{own-less}
use Rattle.windows.specs.Demand.{asynchronous, counted_part, demand_of}
use Rattle.windows.specs.Code.Load.{Load, held_rate, held_of, Held, own_of, demand_in, Sound}
use Rattle.windows.proofs.Least.{Grows}
use Rattle.arrivals.proofs.Rules.{GoodRule, slower_same}
use Rattle.windows.proofs.Comparing.{demand-less, Paced, row-less, views-less}

-- a demand for q activations in t that never falls with t, and not with q
pub record Growing (demand : ℕ → ℕ → ℕ) : Type 0 where
  pub grows : (q : ℕ) → 1 ≤ q → Grows (demand q)
  pub more : (q t : ℕ) → demand q t ≤ demand (q + 1) t

-- what b's activations past q add: it never falls with their number, and loses at most one part where q is one more
again-mono : (q part m n : ℕ) → m ≤ n → (m - q) * part ≤ (n - q) * part
again-mono q part m n h = let k : m - q ≤ n - q = omega arith in mul-le-mul_right part k

again-more : (q part n : ℕ) → (n - q) * part ≤ (n - (q + 1)) * part + part
again-more q part n =
    let k : n - q ≤ n - (q + 1) + 1 = omega arith in
    omega (arith, mul-le-mul_right part k)

pub part-less : (b : Row) → GoodRow b → counted_part b < chain_cost b
unfolding counted_part
part-less b good =
    when_cases (λ p. p < chain_cost b) (asynchronous b.kind) (λ e. own-less b good) (λ e. omega (arith, own-less b good))

-- of one chain by one rule
module _ {rule : Rule} (lawful : GoodRule rule) (b : Row) (vs : List View) (good : GoodRow b) (paced : Paced vs) where
  pub demand-mono : (q s t : ℕ) → s ≤ t → demand_of rule b vs q s ≤ demand_of rule b vs q t
  demand-mono = demand-less (row-less (slower_same lawful) b good) (views-less (slower_same lawful) vs paced)

  pub demand-more : (q t : ℕ) → demand_of rule b vs q t < demand_of rule b vs (q + 1) t
  unfolding demand_of
  demand-more q t = omega (arith, again-more q (counted_part b) (count_by rule (distances b) t), part-less b good)

  pub demand-some : (q t : ℕ) → 1 ≤ q → 1 ≤ demand_of rule b vs q t
  unfolding demand_of
  demand-some q t h =
      let c : 1 ≤ chain_cost b = omega (arith, part-less b good) in
      omega (arith, mul-pos h c)

  pub demand-growing : Growing (demand_of rule b vs)
  demand-growing = record {
    grows = λ q h. record { some = λ t l. demand-some q t h; mono = demand-mono q };
    more = λ q t. omega (arith, demand-more q t);
  }

-- the same of a demand as the code holds it
module _ (s held : List ℕ) where
  pub held-fewer : (n : ℕ) → Held s held (suc n) → Held s held n
  held-fewer n h = record {
    few = omega (arith, h.few);
    size = h.size;
    lists = λ i l. h.lists i (omega arith);
    cheap = λ i l. h.cheap i (omega arith);
  }

  pub held-mono : (n t u : ℕ) → Held s held n → t ≤ u → held_of s held n t ≤ held_of s held n u
  unfolding held_of
  held-mono zero t u h l = le_refl 0
  held-mono (suc n) t u h l =
      omega (arith, held-mono n t u (held-fewer n h) l, mul-le-mul_right (held_rate held n) (η-mono (h.lists n (le_refl (suc n))).good t u l))

pub load-growing : (l : Load) → Sound l → Growing (demand_in l)
unfolding demand_in
load-growing l ok = record {
  grows = λ q h. record {
    some = λ t k. omega (arith, mul-pos h ok.some);
    mono = λ s t k.
        omega (arith, again-mono q l.part _ _ (η-mono ok.stands.good.list s t k), held-mono l.bytes l.held l.count s t ok.held k);
  };
  more = λ q t. omega (arith, again-more q l.part (η (own_of l) t), ok.part);
}
