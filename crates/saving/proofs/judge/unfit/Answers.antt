-- Each test decides, in order.
use Prim.Native.Nat.{◌≤◌}
use native.Mathlib.Omega.{arith}
use mathlib.Core.Path.{sym, ◌∙◌}
use lib.ListN.{length}
use borrow.Author.Tests.{ltb-false, eq-eqb, ne_eqb}
use Rattle.table.specs.Record.{form_at, head_length}
use Rattle.saving.specs.Save.{unfit}
use Rattle.saving.proofs.judge.unfit.Goals as goal
use Rattle.saving.proofs.judge.unfit.Goals.{Else-cut}

-- the fixed part is there
there : (c : Else-cut) → head_length (form_at c.args.new.now 0) ≤ length c.args.new.now
there c = ltb-false _ _ (sym c.cut.ensures ∙ c.if-cut.false)

pub returns-then-cut : goal.returns-then-cut
unfolding unfit
returns-then-cut c = rw (← c.cut.ensures, c.if-cut.true)

pub form_at-requires : goal.form_at-requires
form_at-requires c = omega (arith, there c)

pub returns-then-not-is_chain : goal.returns-then-not-is_chain
unfolding unfit
returns-then-not-is_chain c = rw (← c.cut.ensures, c.if-cut.false, ← c.form_at.ensures, ← c.mark_of.ensures, ← c.is_chain.ensures, c.if-not-is_chain.true)

pub record_length-requires : goal.record_length-requires
record_length-requires c = omega (arith, there (goal.at.record_length-requires c).Else-cut)

pub returns-then-new-record_length : goal.returns-then-new-record_length
unfolding unfit
returns-then-new-record_length c = rw (← c.cut.ensures, c.if-cut.false, ← c.record_length.ensures, ← c.form_at.ensures, ← c.mark_of.ensures, ← c.is_chain.ensures, c.if-not-is_chain.false, ne_eqb _ _ c.if-new-record_length.true)

pub id_at-requires : goal.id_at-requires
id_at-requires c = omega (arith, there (goal.at.id_at-requires c).Else-cut)

pub returns : goal.returns
unfolding unfit
returns c = rw (← c.cut.ensures, c.if-cut.false, ← c.record_length.ensures, ← c.form_at.ensures, ← c.mark_of.ensures, ← c.is_chain.ensures, c.if-not-is_chain.false, eq-eqb _ _ c.if-new-record_length.false, ← c.id_at.ensures)
