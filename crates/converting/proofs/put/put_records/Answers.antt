-- The records of the first chains are put; the record of `chain` starts at `at`.
use Prim.Native.Nat.{◌+◌, ◌*◌, ◌<◌}
use native.Mathlib.Omega.{arith}
use mathlib.Core.Path.{◌≡◌, ap, sym, subst, ◌∙◌}
use Rattle.table.specs.Bytes.{word}
use Rattle.table.specs.Record.{first_task, row_at}
use Rattle.table.specs.Fault.{mark_of}
use Rattle.table.specs.Find.{row_of}
use Rattle.table.specs.Place.{length_of}
use Rattle.table.specs.Read.{table_of}
use Rattle.table.specs.Code.Taken.{Stands}
use Rattle.table.specs.declared.Row.{Row}
use Rattle.table.specs.declared.Mark.TheVariants.{Chain, Task}
use Rattle.table.proofs.Standing.{place_none}
use Rattle.table.proofs.Stands.{row-there, stands, place-next}
use Rattle.slices.specs.Code.Wrote.{Wrote}
use Rattle.writing.specs.Rows.{row_bytes}
use Rattle.writing.proofs.Loops.{rows_start, rows_on, records-all}
use Rattle.converting.specs.Forms.{converted}
use Rattle.converting.specs.Convert.{rows_in}
use Rattle.converting.specs.Code.Copied.{Marked}
use Rattle.converting.proofs.Puts.{count_in, row_in, room_in}
use Rattle.converting.proofs.put.put_records.Goals as goal
use Rattle.converting.proofs.put.put_records.Goals.{In-loop}

-- the chain is there
within : (c : In-loop) → c.loop.counter < (table_of c.args.s.now).count
within c = omega (arith, c.count-end.ensures, c.loop-test.true)

there : (c : In-loop) → Stands c.args.s.now c.loop.at
there c = stands c.requires.0 c.loop.invariant.1 (within c)

row_is : (c : In-loop) → row_at c.args.s.now c.loop.at ≡ row_of (table_of c.args.s.now) c.loop.counter
row_is c = row-there c.requires.0 c.loop.invariant.1 (within c)

-- its marks are right
marked : (c : In-loop) → Marked c.args.s.now c.loop.at
unfolding row_at
marked c = let l = c.loop in
    let h = c.requires.0.holds in
    record {
      stands = there c;
      mark = subst (λ p. mark_of (word 2 c.args.s.now p) ≡ Chain) (sym l.invariant.1) (h.marks l.counter (within c));
      tasks = λ i k.
          subst (λ p. mark_of (word 2 c.args.s.now (first_task c.args.s.now p + 8 * i)) ≡ Task) (sym l.invariant.1)
          (h.task_marks l.counter (within c) i (omega (arith, k, ap (λ (r : Row). r.tasks) (row_is c))));
    }

pub count-end-requires : goal.count-end-requires
count-end-requires c = c.requires.0

pub loop-init : goal.loop-init
loop-init c = let a = c.args in
    (omega arith, place_none (table_of a.s.now), rows_start (rows_in a.to a.s.now) a.out.now)

pub put_record-next-requires : goal.put_record-next-requires
put_record-next-requires c = let l = c.loop in
    let e = ap (λ (r : Row). length_of (converted c.args.to r)) (row_is (goal.at.put_record-next-requires c).In-loop) in
    (marked (goal.at.put_record-next-requires c).In-loop, omega (arith, e, room_in c.args.to c.requires.0 l.counter (within (goal.at.put_record-next-requires c).In-loop) c.args.out.now l.out l.next c.requires.1 l.invariant.2))

pub record_length-at-requires : goal.record_length-at-requires
record_length-at-requires c = omega (arith, (there (goal.at.record_length-at-requires c).In-loop).there)

pub overflow_add-at : goal.overflow_add-at
overflow_add-at c = omega (arith, c.record_length-at.ensures, (there (goal.at.overflow_add-at c).In-loop).there)

pub loop-preserved : goal.loop-preserved
loop-preserved c = let l = c.loop in
    let put = c.put_record-next in (
      omega (arith, within (goal.at.loop-preserved c).In-loop),
      ap (λ n. l.at + n) c.record_length-at.ensures ∙ place-next c.requires.0 l.invariant.1 (within (goal.at.loop-preserved c).In-loop),
      rows_on (rows_in c.args.to c.args.s.now) l.counter (omega (arith, within (goal.at.loop-preserved c).In-loop, count_in c.args.to c.requires.0)) c.args.out.now l.out put.new.out l.next put.result l.invariant.2
          (subst (λ r. Wrote l.out l.next (row_bytes r) put.new.out put.result) (ap (converted c.args.to) (row_is (goal.at.loop-preserved c).In-loop) ∙ sym (row_in c.args.to c.requires.0 l.counter (within (goal.at.loop-preserved c).In-loop))) put.ensures),
    )

pub returns : goal.returns
returns c = let l = c.loop in
    let rs = rows_in c.args.to c.args.s.now in
    subst (λ text. Wrote c.args.out.now 0 text l.out l.next)
    (records-all rs l.counter (omega (arith, l.invariant.0, c.count-end.ensures, c.loop-test.false, count_in c.args.to c.requires.0))) l.invariant.2
