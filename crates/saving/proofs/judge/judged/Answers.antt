-- The table's fault comes first; where it is accepted, what `replaced` gave.
use mathlib.Core.Path.{sym, ap, ◌∙◌}
use Rattle.table.specs.Read.{refused_by}
use Rattle.table.proofs.Firsts.{handed_on}
use Rattle.saving.proofs.Verdicts.{not-none}
use Rattle.saving.proofs.Faults.{change_unread, change_read}
use Rattle.saving.proofs.judge.judged.Goals as goal

pub returns-in_err-judge : goal.returns-in_err-judge
returns-in_err-judge c = let a = c.args in
    let e = handed_on _ c.from_residual.ensures.1 in
    record {
      faulty = e ∙ sym (change_unread a.room a.s.now a.old.now a.new.now (sym c.judge.ensures ∙ c.in_err-judge.was));
      begins = λ z. not-none _ (sym e ∙ z);
    }

pub replaced-requires : goal.replaced-requires
replaced-requires c = sym c.judge.ensures ∙ c.in_ok-judge.was

pub returns : goal.returns
returns c = let a = c.args in
    record {
      faulty = c.replaced.ensures.faulty ∙ sym (change_read a.room a.s.now a.old.now a.new.now (ap refused_by (sym c.judge.ensures ∙ c.in_ok-judge.was)));
      begins = c.replaced.ensures.begins;
    }
