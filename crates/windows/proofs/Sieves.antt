-- From which cost on a set is called bad, activation by activation. Assumes nothing.
use Prim.Native.Nat.{ℕ, ◌+◌, ◌-◌, min}
use mathlib.Core.Path.{◌≡◌, refl, ap, ap₂, sym, ◌∙◌}
use mathlib.Core.Bool.{Bool, ◌||◌}
use mathlib.Core.Logic.{⊎_elim}
use native.Mathlib.Omega.{arith}
use native.Mathlib.Numerals.{add-one}
use borrow.Author.Tests.{lt-ltb, le-ltb, le-leb, lt-leb}
use lib.Dec.{leb, ltb}
use Rattle.search.specs.Lists.{some}
use Rattle.search.proofs.Choice.{lt_or_le}
use Rattle.arrivals.specs.Arrivals.{δ}
use Rattle.windows.specs.Latency.{up_to}
use Rattle.windows.specs.Sieve.{due}
use Rattle.windows.specs.Code.Load.{Load, row_in, own_of, demand_in}
use Rattle.windows.specs.Code.Called.{CalledFrom}

some_next : (p : ℕ → Bool) (close : ℕ) → some p (up_to (close + 1)) ≡ p (close + 1) || some p (up_to close)
unfolding some up_to
some_next p close = rw add-one refl

-- the smaller of two is within a cost where one of them is; `room` is, where d and the cost are above t
one-within : (least room t d cost : ℕ) → room ≡ t + 1 - d → leb (min least room) cost ≡ ltb t (d + cost) || leb least cost
one-within least room t d cost e = ⊎_elim
    (λ h. le-leb (min least room) cost (omega arith) ∙ sym (ap (λ b. b || leb least cost) (lt-ltb t (d + cost) h)))
    (λ h. ⊎_elim
    (λ g. lt-leb (min least room) cost (omega arith) ∙ sym (ap₂ ◌||◌ (le-ltb t (d + cost) h) (lt-leb least cost g)))
    (λ g. le-leb (min least room) cost (omega arith) ∙ sym (ap₂ ◌||◌ (le-ltb t (d + cost) h) (le-leb least cost g)))
    (lt_or_le cost least))
    (lt_or_le t (d + cost))

module _ (l : Load) (most : ℕ) where
  -- no activation is looked at yet: no cost below `most` is called bad
  pub called-none : CalledFrom l 0 most most
  unfolding some up_to
  called-none = record { tells = λ cost h. lt-leb most cost h }

  -- one activation more, due at t: a cost is called bad that was, or that is more than the demand leaves of t
  pub called_on : {done least : ℕ} → CalledFrom l done most least → (t room : ℕ) → t ≡ due (δ (own_of l)) (row_in l).deadline (done + 1)
      → room ≡ t + 1 - demand_in l (done + 1) t → CalledFrom l (done + 1) most (min least room)
  called_on {done} {least} called t room due-is room-is = record {
    tells = λ cost h.
        one-within least room t (demand_in l (done + 1) t) cost room-is
        ∙ ap₂ (λ u b. ltb u (demand_in l (done + 1) u + cost) || b) due-is (called.tells cost h)
        ∙ sym (some_next (λ q. ltb (due (δ (own_of l)) (row_in l).deadline q) (demand_in l q (due (δ (own_of l)) (row_in l).deadline q) + cost)) done);
  }
