-- What is left leads to the answer. Assumes nothing.
use Prim.Native.Nat.{ℕ}
use mathlib.Core.Path.{◌≡◌, ap, ◌∙◌}
use native.Mathlib.Omega.{arith}
use Rattle.std.specs.declared.result.Result.{Result}
use Rattle.std.specs.declared.result.Result.TheVariants.{Ok, Err}
use Rattle.table.specs.declared.refusal.Refusal.{Refusal}
use Rattle.misses.specs.Misses.{Answer}
use Rattle.misses.specs.Code.Packings.{Leaves, LeadsTo, answer_by}
use Rattle.misses.specs.declared.Left.{Left}

-- a refusal
pub leads_refused : {k : ℕ} {answer : Answer} {n : Refusal} {r : Result Left Refusal} → r ≡ Err n → Err n ≡ answer → LeadsTo k answer r
leads_refused {k} e f = record {
  is = ap (answer_by k) e ∙ f;
  within = λ l g. let z : ◌≡◌ {A = ℕ} 0 1 = cc in absurd (omega arith);
}

-- so many misses
pub leads_left : {k n : ℕ} {answer : Answer} {l : Left} → Leaves k n l → Ok n ≡ answer → LeadsTo k answer (Ok l)
leads_left {k} {l = l} leaves e = record {
  is = ap Ok leaves.is ∙ e;
  within = λ r g. let same : l ≡ r = cc in rw (← same) leaves.within;
}

-- to the same answer by another name
pub leads_same : {k : ℕ} {answer other : Answer} {r : Result Left Refusal} → LeadsTo k answer r → answer ≡ other → LeadsTo k other r
leads_same l e = record { is = l.is ∙ e; within = l.within }
