-- What an id counts: its conflict, and the bytes of its state. Assumes nothing.
use Prim.Native.Nat.{ℕ, zero, suc}
use mathlib.Core.Path.{◌≡◌, refl, ap, sym, ◌∙◌}
use mathlib.Core.List.{[]}
use mathlib.Core.Bool.{Bool, true, false, ◌&&◌}
use lib.Dec.{ltb}
use lib.ListN.{length}
use borrow.Author.Tests.{lt-ltb}
use native.Mathlib.Omega.{arith}
use Rattle.search.specs.Choice.{◌when◌else◌}
use Rattle.merging.specs.Versions.{Versions, state_of}
use Rattle.merging.specs.Rule.{taken_of, conflict_of}
use Rattle.merging.specs.declared.states.Weight.{Weight}
use Rattle.merging.specs.Code.Weight.{weight_of}
use Rattle.merging.proofs.Rules.{by-given}

module _ (v : Versions) (id : ℕ) where
  pub weight-bytes : (weight_of v id).bytes ≡ length (taken_of v id)
  unfolding weight_of
  weight-bytes =
      by-given (λ (w : Weight). w.bytes) (state_of v.ancestor id) (state_of v.first id) (state_of v.second id) _ _ _
      ∙ sym (by-given length (state_of v.ancestor id) (state_of v.first id) (state_of v.second id) (state_of v.first id) (state_of v.second id) [])

  pub weight-conflict : (weight_of v id).conflict ≡ (id when conflict_of v id else 0)
  unfolding weight_of ◌when◌else◌
  weight-conflict =
      by-given (λ (w : Weight). w.conflict) (state_of v.ancestor id) (state_of v.first id) (state_of v.second id) _ _ _
      ∙ sym (by-given (λ (t : Bool). id when t else 0) (state_of v.ancestor id) (state_of v.first id) (state_of v.second id) false false true)

-- every id in conflict is above 0, or counts as none
pub above_zero : (id : ℕ) (t : Bool) → (id when ltb 0 id && t else 0) ≡ (id when t else 0)
unfolding ◌when◌else◌
above_zero zero t = by (ltb 0 0 && t) ∙ sym (by t)
  where
    by : (u : Bool) → ◌≡◌ {A = ℕ} (0 when u else 0) 0
    by true = refl
    by false = refl
above_zero (suc id) t = ap (λ (u : Bool). suc id when u && t else 0) (lt-ltb 0 (suc id) (omega arith))

-- what it counts, where that is greater than a number
pub only-counted : (above id : ℕ) (t : Bool) → ((id when t else 0) when ltb above (id when t else 0) else 0) ≡ (id when ltb above id && t else 0)
unfolding ◌when◌else◌
only-counted above id true = by (ltb above id)
  where
    by : (b : Bool) → (id when b else 0) ≡ (id when b && true else 0)
    by true = refl
    by false = refl
only-counted above id false = by (ltb above 0) (ltb above id)
  where
    by : (a b : Bool) → (0 when a else 0) ≡ (id when b && false else 0)
    by true true = refl
    by true false = refl
    by false true = refl
    by false false = refl
