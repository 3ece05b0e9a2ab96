-- The walk step by step keeps just these records, wherever it starts. Assumes nothing.
use Prim.Native.Nat.{ℕ, zero, suc, ◌+◌, ◌-◌, ◌≤◌}
use native.Mathlib.Omega.{arith}
use native.Mathlib.Nat.{eq-or-lt_of_le}
use mathlib.Core.Path.{◌≡◌, ap, subst, ◌∙◌}
use mathlib.Core.List.{List, [], ◌∷◌}
use mathlib.Core.Bool.{false}
use mathlib.Core.Logic.{⊎_elim}
use lib.ListN.{length}
use Rattle.search.proofs.Choice.{when_cases}
use Rattle.table.specs.Record.{length_at, row_at}
use Rattle.table.specs.Read.{empty, plus}
use Rattle.table.specs.declared.Table.{Table}
use Rattle.salvaging.specs.Kept.{acceptable, kept, kept_places}
use Rattle.salvaging.specs.Steps.{Walks}
use Rattle.salvaging.proofs.Walks.{not-whole, kept_from, from_end, from-keep, from-over}

module _ (s : List ℕ) where
  -- a place where none is acceptable comes before
  before : (at : ℕ) (t : Table) (places : List ℕ) → acceptable s at t ≡ false → Walks s (at + 1) t places → Walks s at t places
  unfolding Walks
  before at t places e = by places
    where
      first : (i : ℕ) → at ≤ i → (at + 1 ≤ i → acceptable s i t ≡ false) → acceptable s i t ≡ false
      first i l on = ⊎_elim (λ f. subst (λ j. acceptable s j t ≡ false) f e) (λ h. on (omega arith)) (eq-or-lt_of_le l)

      by : (places : List ℕ) → Walks s (at + 1) t places → Walks s at t places
      by [] h = λ i l. first i l (λ k. h i k)
      by (place ∷ places) h = (record { on = omega (arith, h.0.on); none = λ i l m. first i l (λ k. h.0.none i k m); starts = h.0.starts }, h.1)

  -- what is kept is walked
  steps : (n at : ℕ) (t : Table) → length s ≤ at + n → Walks s at t (kept n s at t)
  unfolding Walks kept
  steps zero at t l = λ i k. not-whole s i t (omega arith)
  steps (suc n) at t l = when_cases (Walks s at t) (acceptable s at t)
      (λ e. (record { on = omega arith; none = λ i a b. absurd (omega (arith, a, b)); starts = e }, steps n (at + length_at s at) (plus t (row_at s at)) (omega arith)))
      (λ e. before at t (kept n s (at + 1) t) e (steps n (at + 1) t (omega arith)))

  -- and nothing else is
  walks_kept : (at : ℕ) (t : Table) (places : List ℕ) → Walks s at t places → kept_from s at t ≡ places
  unfolding Walks
  walks_kept at t [] h = from-over s (length s) at t (λ i a b. h i a) ∙ from_end s (at + length s) t (omega arith)
  walks_kept at t (place ∷ places) h =
      let e : at + (place - at) ≡ place = omega (arith, h.0.on) in
      from-over s (place - at) at t (λ i a b. h.0.none i a (omega (arith, b, h.0.on)))
      ∙ ap (λ n. kept_from s n t) e ∙ from-keep s place t h.0.starts
      ∙ ap (λ (l : List ℕ). place ∷ l) (walks_kept (place + length_at s place) (plus t (row_at s place)) places h.1)

  pub kept_walks : Walks s 0 empty (kept_places s)
  kept_walks = steps (length s) 0 empty (omega arith)

  pub walks_only : (places : List ℕ) → Walks s 0 empty places → kept_places s ≡ places
  walks_only places h = let e : length s - 0 ≡ length s = omega arith in rw e at (walks_kept 0 empty places h)
