-- A chain by its id. Assumes nothing.
use Prim.Native.Nat.{ℕ, ◌<◌, ◌≤◌}
use native.Mathlib.Omega.{arith}
use mathlib.Core.Path.{◌≡◌, refl, subst}
use Rattle.std.specs.declared.option.Option.{Option}
use mathlib.Core.Bool.{Bool, true, false}
use Rattle.std.specs.declared.option.Option.TheVariants.{Some, None}
use Rattle.std.specs.declared.result.Result.{Result}
use Rattle.std.specs.declared.result.Result.TheVariants.{Ok, Err}
use Rattle.std.specs.Option.{ok_or}
use Rattle.search.specs.Choice.{◌when◌else◌}
use borrow.Author.Tests.{eq-eqb, eqb-true, eqb-false}
use lib.Dec.{eqb}
use Rattle.search.proofs.Find.{first_le, first-is}
use Rattle.table.specs.Find.{row_of, find_of, chain_with}
use Rattle.table.specs.Code.Good.{GoodTable}
use Rattle.table.specs.declared.Table.{Table}

module _ (t : Table) (id : ℕ) where
  pub find_le : find_of t id ≤ t.count
  unfolding find_of
  find_le = omega (arith, first_le (λ chain. eqb (row_of t chain).id id) 0 t.count)

-- in a good table each chain is found by its id
pub find_is : (t : Table) → GoodTable t → (chain : ℕ) → chain < t.count → find_of t (row_of t chain).id ≡ chain
unfolding find_of
find_is t good chain h =
    first-is (λ i. eqb (row_of t i).id (row_of t chain).id) 0 t.count chain (omega arith) (omega arith) (eq-eqb (row_of t chain).id (row_of t chain).id refl)
    (λ i a l e. omega (arith, good.ids i chain (omega arith) h (eqb-true _ _ e)))

-- a chain that was asked for by its id: it is there, or e says that none bears it
abbrev Asked : {E : Type 0} → Table → ℕ → E → Result ℕ E → Type 0
Asked t id e (Ok chain) = (chain ≡ find_of t id) × (chain < t.count)
Asked t id e (Err q) = (find_of t id ≡ t.count) × (q ≡ e)

-- what `find(..).ok_or(e)` gives
module _ {E : Type 0} (t : Table) (id : ℕ) (e : E) where
  by-test : (b : Bool) → eqb (find_of t id) t.count ≡ b → Asked t id e (ok_or (None when b else Some (find_of t id)) e)
  unfolding ◌when◌else◌
  by-test true h = (eqb-true _ _ h, refl)
  by-test false h = (refl, omega (arith, find_le t id, eqb-false _ _ h))

  asked : {f : Option ℕ} {r : Result ℕ E} → f ≡ chain_with t id → r ≡ ok_or f e → Asked t id e r
  asked g h = rw (h, g) (by-test (eqb (find_of t id) t.count) refl)

  pub asked-there : {f : Option ℕ} {r : Result ℕ E} {chain : ℕ} → f ≡ chain_with t id → r ≡ ok_or f e → r ≡ Ok chain → (chain ≡ find_of t id) × (chain < t.count)
  asked-there g h k = subst (Asked t id e) k (asked g h)

  pub asked-none : {f : Option ℕ} {r : Result ℕ E} {q : E} → f ≡ chain_with t id → r ≡ ok_or f e → r ≡ Err q → (find_of t id ≡ t.count) × (q ≡ e)
  asked-none g h k = subst (Asked t id e) k (asked g h)
