-- The first of the three that refuses.
use Rattle.table.proofs.Firsts.{handed_on}
use Rattle.writing.specs.Code.Tally.{lists_refusal}
use Rattle.writing.proofs.Fit.{row_fits}
use Rattle.writing.proofs.judged.lists_refusal.Goals as goal

pub list_refusal-requires : goal.list_refusal-requires
list_refusal-requires c = (c.requires.0, c.requires.1, (row_fits c.args.row _ c.well_formed.0).list_places)

pub returns-in_err-list_refusal : goal.returns-in_err-list_refusal
unfolding lists_refusal
returns-in_err-list_refusal c = rw (handed_on _ c.from_residual.ensures.1, ← c.gap_of.ensures, ← c.list_refusal.ensures, c.in_err-list_refusal.was)

pub returns-in_err-largest_refusal : goal.returns-in_err-largest_refusal
unfolding lists_refusal
returns-in_err-largest_refusal c = rw (
  handed_on _ c.from_residual-in_err-largest_refusal.ensures.1,
  ← c.gap_of.ensures,
  ← c.list_refusal.ensures,
  c.in_ok-list_refusal.was,
  ← c.largest_refusal.ensures,
  c.in_err-largest_refusal.was,
)

pub returns : goal.returns
unfolding lists_refusal
returns c = rw (
  ← c.gap_of.ensures,
  ← c.list_refusal.ensures,
  c.in_ok-list_refusal.was,
  ← c.largest_refusal.ensures,
  c.in_ok-largest_refusal.was,
  ← c.tasks_refusal.ensures,
)
