-- By the sign: the digits alone, or after `-`.
use mathlib.Core.Path.{ap, sym, subst, ◌∙◌}
use mathlib.Core.List.{◌∷◌}
use lib.IntN.{nat_abs}
use mir.Facts.{to_z-of_z}
use native.Mathlib.Omega.{arith}
use Rattle.windows.proofs.Signs.{Upper, upper, Lower, lower}
use Rattle.report_text.specs.Numbers.{decimal, signed}
use Rattle.report_text.specs.Report.{after_space}
use Rattle.slices.specs.Code.Wrote.{Wrote}
use Rattle.report_text.proofs.Decimals.{decimal-fits}
use Rattle.slices.proofs.Writes.{wrote_on}
use Rattle.report_text.proofs.text.put_signed.Goals as goal
use Rattle.report_text.proofs.text.put_signed.Goals.{Else-x-ge0, Then-x-ge0}

up : (c : Then-x-ge0) → Upper c.args.x
up c = upper c.args.x c.ranges.x c.if-x-ge0.true

down : (c : Else-x-ge0) → Lower c.args.x
down c = lower c.args.x c.ranges.x c.if-x-ge0.false

pub returns-then-x-ge0 : goal.returns-then-x-ge0
returns-then-x-ge0 c = let m = c.unsigned_abs in (
  subst (λ l. Wrote c.args.out.now c.args.at (after_space l) c.put_number.new.out c.put_number.result) (ap decimal (m.ensures.value ∙ ap nat_abs (to_z-of_z c.ranges.x)) ∙ sym (ap signed (up (goal.at.returns-then-x-ge0 c).Then-x-ge0).is)) c.put_number.ensures.0,
  omega (arith, c.put_number.ensures.1),
)

pub put_decimal-requires : goal.put_decimal-requires
put_decimal-requires c = let w = c.put_text-next.ensures in
    omega (arith, c.requires, w.ends, w.long, decimal-fits c.unsigned_abs-2.result c.unsigned_abs-2.type_inv)

pub returns : goal.returns
returns c = let m = c.unsigned_abs-2 in
    let w = c.put_text-next.ensures in
    let x = (down (goal.at.returns c).Else-x-ge0).is in (
      subst (λ l. Wrote c.args.out.now c.args.at (after_space l) c.put_decimal.new.out c.put_decimal.result) (ap (λ n. 45 ∷ decimal n) (m.ensures.value ∙ ap nat_abs (to_z-of_z c.ranges.x ∙ x)) ∙ sym (ap signed x)) (wrote_on w c.put_decimal.ensures),
      omega (arith, w.ends, c.put_decimal.ensures.ends, decimal-fits m.result m.type_inv),
    )
