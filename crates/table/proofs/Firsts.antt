-- The first fault decides: laws of `_then_`, and of a verdict without a fault. Assumes nothing.
use Prim.Native.Nat.{ℕ}
use mathlib.Core.Path.{◌≡◌, refl}
use mathlib.Core.Bool.{Bool, true, false, ◌||◌}
use mathlib.Core.Logic.{◌⊎◌, inl, inr}
use native.Mathlib.Omega.{arith}
use Rattle.search.specs.Choice.{◌when◌else◌}
use Rattle.table.specs.Fault.{◌then◌}
use Rattle.table.specs.Read.{unless, refusal, accepted}
use Rattle.table.specs.declared.Table.{Table}
use Rattle.table.specs.Refusal.{Verdict}
use Rattle.std.specs.declared.result.Result.{Result}
use Rattle.std.specs.declared.result.Result.TheVariants.{Ok, Err}
use Rattle.std.specs.Result.{IsErrAnd, result_and}
use Rattle.std.proofs.lemmas.Result.{err_from_is_err_and}
use Rattle.table.specs.declared.refusal.Refusal.{Refusal}

-- what a test gives where an earlier one has not
pub or_left : (a b : Bool) → a ≡ true → (a || b) ≡ true
or_left a b e = rw e

pub or_right : (a b : Bool) → b ≡ true → (a || b) ≡ true
or_right true b e = refl
or_right false b e = e

pub or_none : (a b : Bool) → a ≡ false → b ≡ false → (a || b) ≡ false
or_none a b e f = rw (e, f)

pub none_or : (a b : Bool) → (a || b) ≡ false → (a ≡ false) × (b ≡ false)
none_or true b e = absurd (let z : ◌≡◌ {A = ℕ} 0 1 = cc in omega arith)
none_or false b e = (refl, e)

pub or_cases : (a b : Bool) → (a || b) ≡ true → (a ≡ true) ⊎ (b ≡ true)
or_cases true b e = inl refl
or_cases false b e = inr e

-- a refusal is not accepted
pub not-accepted : {n : Refusal} {place : ℕ} → ◌≡◌ {A = Verdict} (Err (n, place)) (Ok tt) → ⊥
not-accepted e = let z : ◌≡◌ {A = ℕ} 0 1 = cc in omega arith

pub then_stop : (a b : Verdict) {n : Refusal} {place : ℕ} → a ≡ Err (n, place) → (a then b) ≡ a
unfolding ◌then◌
then_stop a b e = rw e

pub then_go : (a b : Verdict) → a ≡ Ok tt → (a then b) ≡ b
unfolding ◌then◌
then_go a b e = rw e

-- no fault: what it says
pub when_none : (n : Refusal) (place : ℕ) (v : Verdict) (t : Bool) → (Err (n, place) when t else v) ≡ Ok tt → (t ≡ false) × (v ≡ Ok tt)
unfolding ◌when◌else◌
when_none n place v true e = absurd (not-accepted e)
when_none n place v false e = (refl, e)

pub then_none : (a b : Verdict) → (a then b) ≡ Ok tt → (a ≡ Ok tt) × (b ≡ Ok tt)
unfolding ◌then◌
then_none (Ok u) b e = (refl, e)
then_none (Err f) b e = absurd (not-accepted e)

-- a fault refuses; where there is none, what follows is the answer
pub unless-fault : {A : Type 0} (refuse : Refusal → ℕ → A) (v : Verdict) (rest : A) {n : Refusal} {place : ℕ} → v ≡ Err (n, place) → unless refuse v rest ≡ refuse n place
unfolding unless
unless-fault refuse v rest e = rw e

pub unless-none : {A : Type 0} (refuse : Refusal → ℕ → A) (v : Verdict) (rest : A) → v ≡ Ok tt → unless refuse v rest ≡ rest
unfolding unless
unless-none refuse v rest e = rw e

-- the verdict of what ends there is that of the end record
pub ends_verdict : (v : Verdict) (t : Table) → (unless refusal v (accepted t)).verdict ≡ v
unfolding unless
ends_verdict (Ok u) t = refl
ends_verdict (Err f) t = refl

-- two verdicts asked for together decide as one after the other
pub then_two : (a b v : Verdict) → (a then b then v) ≡ (result_and a b then v)
unfolding ◌then◌
then_two (Ok u) b v = refl
then_two (Err f) b v = refl

-- what a `?` hands on is the error that it met
pub handed_on : {T E : Type 0} {e : E} (r : Result T E) → IsErrAnd r (λ y. y ≡ e) → r ≡ Err e
handed_on r h = let p = err_from_is_err_and r h in rw (p.1, p.2)
