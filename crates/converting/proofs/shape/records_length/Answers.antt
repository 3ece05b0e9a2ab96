-- At the loop's head n and the lengths from `chain` on make all; its record starts at `at`.
use Prim.Native.Nat.{ℕ, ◌+◌, ◌<◌}
use native.Mathlib.Omega.{arith}
use mathlib.Core.Path.{◌≡◌, ap, sym, ◌∙◌}
use mathlib.Core.List.{List, map}
use lib.ListN.{drop}
use Rattle.search.specs.Lists.{sum_of}
use Rattle.table.specs.Find.{rows}
use Rattle.table.specs.Place.{length_of}
use Rattle.table.specs.Read.{table_of}
use Rattle.table.specs.Code.Taken.{Stands}
use Rattle.table.proofs.Standing.{place_none}
use Rattle.table.proofs.Stands.{row-there, stands, place-next}
use Rattle.converting.specs.Forms.{converted}
use Rattle.converting.specs.declared.To.{To}
use Rattle.converting.proofs.Walks.{rows-from, rows_end}
use Rattle.converting.proofs.Lengths.{lengths_most}
use Rattle.converting.proofs.shape.records_length.Goals as goal
use Rattle.converting.proofs.shape.records_length.Goals.{After-length_in-n, In-loop}

-- the chain is there
within : (c : In-loop) → c.loop.counter < (table_of c.args.s.now).count
within c = omega (arith, c.count-end.ensures, c.loop-test.true)

there : (c : In-loop) → Stands c.args.s.now c.loop.at
there c = stands c.requires c.loop.invariant.1 (within c)

-- how long the records from that chain on are: this one, and those after it
abbrev left : To → List ℕ → ℕ → ℕ
left to s chain = sum_of length_of (map (converted to) (drop chain (rows (table_of s))))

on : (c : After-length_in-n) → left c.args.to c.args.s.now c.loop.counter ≡ c.length_in-n.result + left c.args.to c.args.s.now (c.loop.counter + 1)
unfolding sum_of
on c = let l = c.loop in
    let h : l.counter < (table_of c.args.s.now).count = omega (arith, c.count-end.ensures, c.loop-test.true) in
    ap (λ rs. sum_of length_of (map (converted c.args.to) rs)) (rows-from c.requires.good l.counter h)
    ∙ ap (λ n. n + left c.args.to c.args.s.now (l.counter + 1)) (ap (λ r. length_of (converted c.args.to r)) (sym (row-there c.requires l.invariant.1 h)) ∙ sym c.length_in-n.ensures)

pub count-end-requires : goal.count-end-requires
count-end-requires c = c.requires

pub loop-init : goal.loop-init
loop-init c = (omega arith, place_none (table_of c.args.s.now), omega arith)

pub length_in-n-requires : goal.length_in-n-requires
length_in-n-requires c = there c

pub overflow_add-n : goal.overflow_add-n
overflow_add-n c = omega (arith, c.loop.invariant.2, on c, lengths_most c.requires.good c.args.to)

pub record_length-at-requires : goal.record_length-at-requires
record_length-at-requires c = omega (arith, (there (goal.at.record_length-at-requires c).In-loop).there)

pub overflow_add-at : goal.overflow_add-at
overflow_add-at c = omega (arith, c.record_length-at.ensures, (there (goal.at.overflow_add-at c).In-loop).there)

pub loop-preserved : goal.loop-preserved
loop-preserved c = let l = c.loop in
    let h = within (goal.at.loop-preserved c).In-loop in (
      omega (arith, h),
      ap (λ n. l.at + n) c.record_length-at.ensures ∙ place-next c.requires l.invariant.1 h,
      omega (arith, l.invariant.2, on (goal.at.loop-preserved c).After-length_in-n),
    )

pub returns : goal.returns
unfolding sum_of
returns c = let l = c.loop in
    let e = ap (λ rs. sum_of length_of (map (converted c.args.to) rs)) (rows_end c.requires.good l.counter (omega (arith, c.count-end.ensures, c.loop-test.false))) in
    omega (arith, l.invariant.2, e)
