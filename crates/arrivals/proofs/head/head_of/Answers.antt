-- `head_of` meets its contract: with a best step of 2 the head is as long as the list, with one of 1 there is none.
use Prim.Native.Nat.{ℕ, ◌*◌, ◌-◌, ◌≤◌}
use mathlib.Core.Path.{◌≡◌, ap, sym, ◌∙◌}
use mathlib.Core.List.{List}
use native.Mathlib.Omega.{arith}
use native.Mathlib.Nat.{mul-le-mul, mul-le-mul_right}
use lib.ListN.{length}
use Rattle.table.specs.Limits.{max_distances}
use Rattle.table.specs.Code.Listed.{distances_from}
use Rattle.arrivals.specs.Code.Sums.{head_of}
use Rattle.arrivals.proofs.Rows.{lists_length}
use Rattle.arrivals.proofs.head.head_of.Goals as goal
use Rattle.arrivals.proofs.head.head_of.Goals.{Else-step-le2, Start}

abbrev ds : (c : Start) → List ℕ
ds c = distances_from c.args.s.now c.args.list

pub returns-then-step-le2 : goal.returns-then-step-le2
returns-then-step-le2 c = let one : c.args.step - 1 ≤ 1 = omega (arith, c.if-step-le2.true) in
    omega (arith, c.listed_from-listed.ensures.0, lists_length c.requires.0, mul-le-mul_right (length (ds (goal.at.returns-then-step-le2 c).Start)) one)

head-is : (c : Else-step-le2) → (c.args.step - 1) * c.listed_from-listed.result ≡ head_of ((distances_from c.args.s.now c.args.list)) c.args.step
head-is c = ap (λ n. (c.args.step - 1) * n) (c.listed_from-listed.ensures.0 ∙ sym (lists_length c.requires.0))

pub overflow_mul-result : goal.overflow_mul-result
overflow_mul-result c = let few : c.args.step - 1 ≤ max_distances = omega (arith, c.requires.1, lists_length c.requires.0, c.requires.0.good.few) in
    omega (arith, head-is c, mul-le-mul few c.requires.0.good.few)

pub returns : goal.returns
returns c = let one : 1 ≤ c.args.step - 1 = omega (arith, c.if-step-le2.false) in
    omega (arith, head-is c, lists_length c.requires.0, mul-le-mul_right (length (ds (goal.at.returns c).Start)) one)
