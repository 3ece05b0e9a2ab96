-- At each return the tests so far, in order, are what the calls gave; `timed` brings the refusal to what follows the first of them.
use native.Mathlib.Omega.{arith}
use mathlib.Core.Path.{◌≡◌}
use mathlib.Core.Logic.{inl, inr}
use borrow.Author.Tests.{lt-ltb, le-ltb, eq-eqb, ne_eqb}
use Rattle.search.specs.Choice.{◌when◌else◌}
use Rattle.table.specs.Limits.{max_distances, max_tasks}
use Rattle.writing.specs.Rows.{gap_of}
use Rattle.writing.specs.Code.Tally.{first_refusal, identity_refusal, times_refusal, counts_refusal, lists_refusal, row_refusal}
use Rattle.writing.proofs.Faults.{outside-yes, outside_no}
use Rattle.writing.proofs.judged.row_refusal.Goals as goal
use Rattle.writing.proofs.judged.row_refusal.Goals.{Else-row-gt1-2, Else-gap_of-gt-GAP}
use Rattle.writing.proofs.judged.row_refusal.Goals.{then-row-lt1-via-then-row-lt1, then-row-lt1-via-else-row-lt1+then-row-gt-DISTANCES}
use Rattle.writing.proofs.judged.row_refusal.Goals.{then-row-lt1-2-via-then-row-lt1-2, then-row-lt1-2-via-else-row-lt1-2+then-row-gt-TASKS}

-- past the id, the kind and the overload mark
known : (c : Else-row-gt1-2) → row_refusal c.args.judged c.args.row
    ≡ first_refusal (times_refusal c.args.row.deadline (gap_of c.args.row.form c.args.row.gap))
    (first_refusal (counts_refusal c.args.judged.tasks c.args.row.listed c.args.row.tasks) (lists_refusal c.args.row))
unfolding row_refusal identity_refusal ◌when◌else◌
known c = rw (ne_eqb _ _ c.if-row-eq0.false, ← c.bears.ensures, c.if-bears.false, le-ltb _ _ c.if-row-gt1.false, le-ltb _ _ c.if-row-gt1-2.false)

-- and past the deadline and the gap
timed : (c : Else-gap_of-gt-GAP) → row_refusal c.args.judged c.args.row
    ≡ first_refusal (counts_refusal c.args.judged.tasks c.args.row.listed c.args.row.tasks) (lists_refusal c.args.row)
unfolding row_refusal identity_refusal times_refusal ◌when◌else◌
timed c = rw (
  ne_eqb _ _ c.if-row-eq0.false,
  ← c.bears.ensures,
  c.if-bears.false,
  le-ltb _ _ c.if-row-gt1.false,
  le-ltb _ _ c.if-row-gt1-2.false,
  ← c.outside.ensures,
  c.if-outside.false,
  ← c.gap_of.ensures,
  le-ltb _ _ c.if-gap_of-gt-GAP.false,
)

pub returns-then-row-eq0 : goal.returns-then-row-eq0
unfolding row_refusal identity_refusal times_refusal counts_refusal ◌when◌else◌
returns-then-row-eq0 c = rw (eq-eqb _ _ c.if-row-eq0.true)

pub returns-then-bears : goal.returns-then-bears
unfolding row_refusal identity_refusal times_refusal counts_refusal ◌when◌else◌
returns-then-bears c = rw (ne_eqb _ _ c.if-row-eq0.false, ← c.bears.ensures, c.if-bears.true)

pub returns-then-row-gt1 : goal.returns-then-row-gt1
unfolding row_refusal identity_refusal times_refusal counts_refusal ◌when◌else◌
returns-then-row-gt1 c = rw (ne_eqb _ _ c.if-row-eq0.false, ← c.bears.ensures, c.if-bears.false, lt-ltb _ _ c.if-row-gt1.true)

pub returns-then-row-gt1-2 : goal.returns-then-row-gt1-2
unfolding row_refusal identity_refusal times_refusal counts_refusal ◌when◌else◌
returns-then-row-gt1-2 c = rw (
  ne_eqb _ _ c.if-row-eq0.false,
  ← c.bears.ensures,
  c.if-bears.false,
  le-ltb _ _ c.if-row-gt1.false,
  lt-ltb _ _ c.if-row-gt1-2.true,
)

pub returns-then-outside : goal.returns-then-outside
unfolding times_refusal ◌when◌else◌
returns-then-outside c = rw (known (goal.at.returns-then-outside c).Else-row-gt1-2, ← c.outside.ensures, c.if-outside.true)

pub returns-then-gap_of-gt-GAP : goal.returns-then-gap_of-gt-GAP
unfolding times_refusal ◌when◌else◌
returns-then-gap_of-gt-GAP c = rw (
  known (goal.at.returns-then-gap_of-gt-GAP c).Else-row-gt1-2,
  ← c.outside.ensures,
  c.if-outside.false,
  ← c.gap_of.ensures,
  lt-ltb _ _ c.if-gap_of-gt-GAP.true,
)

pub returns-then-row-lt1 : goal.returns-then-row-lt1
unfolding counts_refusal ◌when◌else◌
returns-then-row-lt1 c = rw (
  timed (goal.at.returns-then-row-lt1 c).Else-gap_of-gt-GAP,
  outside-yes max_distances c.args.row.listed
      (elim c.then-row-lt1.branch [
        | then-row-lt1-via-then-row-lt1 w ↦ inl w.if-row-lt1.true
        | then-row-lt1-via-else-row-lt1+then-row-gt-DISTANCES w ↦ inr (lt-ltb _ _ w.if-row-gt-DISTANCES.true)
      ]),
)

pub returns-then-row-lt1-2 : goal.returns-then-row-lt1-2
unfolding counts_refusal ◌when◌else◌
returns-then-row-lt1-2 c = rw (
  timed (goal.at.returns-then-row-lt1-2 c).Else-gap_of-gt-GAP,
  outside_no max_distances c.args.row.listed c.if-row-lt1.false (le-ltb _ _ c.if-row-gt-DISTANCES.false),
  outside-yes max_tasks c.args.row.tasks
      (elim c.then-row-lt1-2.branch [
        | then-row-lt1-2-via-then-row-lt1-2 w ↦ inl w.if-row-lt1-2.true
        | then-row-lt1-2-via-else-row-lt1-2+then-row-gt-TASKS w ↦ inr (lt-ltb _ _ w.if-row-gt-TASKS.true)
      ]),
)

pub overflow_add-judged : goal.overflow_add-judged
overflow_add-judged c = omega (arith, c.if-row-gt-TASKS.false, c.requires.tasks)

pub returns-then-judged-row-gt-ALL_TASKS : goal.returns-then-judged-row-gt-ALL_TASKS
unfolding counts_refusal ◌when◌else◌
returns-then-judged-row-gt-ALL_TASKS c = rw (
  timed (goal.at.returns-then-judged-row-gt-ALL_TASKS c).Else-gap_of-gt-GAP,
  outside_no max_distances c.args.row.listed c.if-row-lt1.false (le-ltb _ _ c.if-row-gt-DISTANCES.false),
  outside_no max_tasks c.args.row.tasks c.if-row-lt1-2.false (le-ltb _ _ c.if-row-gt-TASKS.false),
  lt-ltb _ _ c.if-judged-row-gt-ALL_TASKS.true,
)

pub lists_refusal-requires : goal.lists_refusal-requires
lists_refusal-requires c = (
  c.if-row-lt1.false,
  c.if-row-gt-DISTANCES.false,
  c.if-row-gt-TASKS.false,
)

pub returns : goal.returns
unfolding counts_refusal ◌when◌else◌
returns c = rw (
  timed (goal.at.returns c).Else-gap_of-gt-GAP,
  outside_no max_distances c.args.row.listed c.if-row-lt1.false (le-ltb _ _ c.if-row-gt-DISTANCES.false),
  outside_no max_tasks c.args.row.tasks c.if-row-lt1-2.false (le-ltb _ _ c.if-row-gt-TASKS.false),
  le-ltb _ _ c.if-judged-row-gt-ALL_TASKS.false,
  ← c.lists_refusal.ensures,
)
