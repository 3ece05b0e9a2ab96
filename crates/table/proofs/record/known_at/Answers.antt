-- The flag is 1 only in the form that has one.
use native.Mathlib.Omega.{arith}
use mathlib.Core.Path.{sym, ◌∙◌}
use Rattle.table.proofs.Forms.{known-yes, known_no}
use Rattle.table.proofs.record.known_at.Goals as goal

pub returns-then-flag_at-eq1 : goal.returns-then-flag_at-eq1
returns-then-flag_at-eq1 c = let a = c.args in
    let e = known-yes a.s.now a.at (sym c.flag_at.ensures ∙ c.if-flag_at-eq1.true) in
    (c.listed_at.ensures.0 ∙ sym e, omega (arith, c.listed_at.ensures.0))

pub returns : goal.returns
returns c = let a = c.args in
    (sym (known_no a.s.now a.at (λ e. c.if-flag_at-eq1.false (c.flag_at.ensures ∙ e))), omega arith)
