-- Each field is what its bytes make.
use native.Mathlib.Omega.{arith}
use Rattle.table.specs.Record.{row_at}
use Rattle.table.proofs.decode.row_at.Goals as goal

pub list_of-list-requires : goal.list_of-list-requires
unfolding row_at
list_of-list-requires c = let n = c.listed_at-listed.ensures.0 in let p = c.requires in (omega (arith, n, p.good.list.few, p.good.listed), omega (arith, n, c.list_place.ensures, p.there))

pub list_of-largest-requires : goal.list_of-largest-requires
unfolding row_at
list_of-largest-requires c = let n = c.known_at.ensures in let p = c.requires in (omega (arith, n.1, p.good.list.few, p.good.listed), omega (arith, n.0, c.largest_place.ensures, p.there))

pub tasks_of-held-requires : goal.tasks_of-held-requires
unfolding row_at
tasks_of-held-requires c = let n = c.tasks_at-tasks.ensures.0 in let p = c.requires in (omega (arith, n, p.good.tasks.few), omega (arith, n, c.first_task.ensures, p.there))

pub flag_at-requires : goal.flag_at-requires
flag_at-requires c = omega (arith, c.requires.there)

pub deadline_at-requires : goal.deadline_at-requires
deadline_at-requires c = omega (arith, c.requires.there)

pub gap_at-requires : goal.gap_at-requires
gap_at-requires c = omega (arith, c.requires.there)

pub returns : goal.returns
unfolding row_at
returns c = rw (
  c.list_of-list.ensures,
  c.list_of-largest.ensures,
  c.tasks_of-held.ensures.0,
  c.tasks_of-held.ensures.1,
  c.listed_at-listed.ensures.0,
  c.tasks_at-tasks.ensures.0,
  c.list_place.ensures,
  c.largest_place.ensures,
  c.known_at.ensures.0,
  c.first_task.ensures,
  c.form_at.ensures,
  c.id_at.ensures,
  c.kind_at.ensures,
  c.overload_at.ensures,
  c.flag_at.ensures,
  c.deadline_at.ensures,
  c.gap_at.ensures,
)
