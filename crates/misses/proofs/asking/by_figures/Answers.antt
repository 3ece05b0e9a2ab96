-- Each refusal answers the query, in the documents' order (`Judging`).
use Prim.Native.Nat.{ℕ, ◌+◌, ◌*◌, ◌≤◌}
use mathlib.Core.Path.{◌≡◌, refl, ap, ap₂, ◌∙◌}
use native.Mathlib.Omega.{arith}
use Rattle.table.specs.Limits.{max_run, max_largest}
use Rattle.table.specs.Find.{row_of, rows}
use Rattle.table.specs.Record.{row_at}
use Rattle.table.specs.declared.Row.{Row}
use Rattle.table.specs.declared.Table.{Table}
use Rattle.table.specs.Code.Good.{GoodTable}
use Rattle.table.specs.Code.Taken.{Stands}
use Rattle.table.specs.Read.{table_of}
use Rattle.table.proofs.Stands.{row-there, stands}
use Rattle.arrivals.specs.Arrivals.{largest}
use Rattle.arrivals.proofs.Rows.{largest-near}
use Rattle.misses.specs.Overloads.{overloads}
use Rattle.misses.specs.Code.Held.{gathered}
use Rattle.misses.specs.declared.Pieces.{Pieces}
use Rattle.misses.specs.Code.Packings.{test_of}
use Rattle.misses.proofs.Judging.{judged-late, judged-size, judged-many, judged-again, judged_roomy, judged-admitted, judged_missed}
use Rattle.misses.proofs.Leading.{leads_refused, leads_left}
use Rattle.misses.proofs.asking.by_figures.Goals as goal
use Rattle.misses.proofs.asking.by_figures.Goals.{After-place-b, Start}

-- the table, and the chain b
abbrev t : (c : Start) → Table
t c = table_of c.args.s.now

abbrev b : (c : Start) → Row
b c = row_of (t c) c.args.chain

good : (c : Start) → GoodTable (t c)
good c = c.requires.0.good

here : (c : After-place-b) → Stands c.args.s.now c.place-b.result
here c = stands c.requires.0 c.place-b.ensures c.requires.1

row : (c : After-place-b) → row_at c.args.s.now c.place-b.result ≡ row_of (table_of c.args.s.now) c.args.chain
row c = row-there c.requires.0 c.place-b.ensures c.requires.1

-- the largest run, by its own row
run_is : (c : After-place-b) → {n : ℕ} → n ≡ largest (row_at c.args.s.now c.place-b.result) c.args.k → n ≡ largest (row_of (table_of c.args.s.now) c.args.chain) c.args.k
run_is c e = e ∙ ap (λ (r : Row). largest r c.args.k) (row c)

run : (c : After-place-b) → {n : ℕ} → n ≡ largest (row_at c.args.s.now c.place-b.result) c.args.k → n ≤ max_run * max_largest
run c e = omega (arith, run_is c e, largest-near ((c.requires.0.good).row c.args.chain c.requires.1) c.args.k c.requires.2.high)

-- and so are its active segments
gathers : (c : After-place-b) → {n m : ℕ} {p : Pieces} → n ≡ largest (row_at c.args.s.now c.place-b.result) c.args.k → m ≡ c.args.w.figures.latency
    → p ≡ gathered (n + m) (overloads (row_at c.args.s.now c.place-b.result) (rows (table_of c.args.s.now)))
    → p ≡ gathered (largest (row_of (table_of c.args.s.now) c.args.chain) c.args.k + c.args.w.figures.latency) (overloads (row_of (table_of c.args.s.now) c.args.chain) (rows (table_of c.args.s.now)))
gathers c {n} e l f = f
    ∙ ap (λ m. gathered (n + m) (overloads (row_at c.args.s.now c.place-b.result) (rows (table_of c.args.s.now)))) l
    ∙ ap₂ (λ n r. gathered (n + c.args.w.figures.latency) (overloads r (rows (table_of c.args.s.now)))) (run_is c e) (row c)

pub returns-then-w-eq0 : goal.returns-then-w-eq0
returns-then-w-eq0 c = leads_left (record { is = refl; within = tt }) (judged-late (good (goal.at.returns-then-w-eq0 c).Start) c.args.chain c.requires.1 c.requires.2 c.if-w-eq0.true (test_of c.args.how))

pub place-b-requires : goal.place-b-requires
place-b-requires c = let p = c.requires in (p.0, omega (arith, p.1))

pub largest-requires : goal.largest-requires
largest-requires c = (here c, c.requires.2.low, c.requires.2.high)

pub overflow_add-largest : goal.overflow_add-largest
overflow_add-largest c = omega (arith, run (goal.at.overflow_add-largest c).After-place-b c.largest.ensures, c.requires.2.near)

pub of-p-requires : goal.of-p-requires
of-p-requires c = (c.requires.0, here (goal.at.of-p-requires c).After-place-b, omega (arith, run (goal.at.of-p-requires c).After-place-b c.largest.ensures, c.requires.2.near))

pub returns-then-p-gt-OVERLOADS : goal.returns-then-p-gt-OVERLOADS
returns-then-p-gt-OVERLOADS c = leads_refused refl (judged-many (good (goal.at.returns-then-p-gt-OVERLOADS c).Start) c.args.chain c.requires.1 c.requires.2 c.if-w-eq0.false (gathers (goal.at.returns-then-p-gt-OVERLOADS c).After-place-b c.largest.ensures c.from.ensures c.of-p.ensures) c.if-p-gt-OVERLOADS.true (test_of c.args.how))

pub any_again-requires : goal.any_again-requires
any_again-requires c = (c.requires.0, c.requires.2.end)

pub returns-then-any_again : goal.returns-then-any_again
returns-then-any_again c = leads_refused refl
    (judged-again (good (goal.at.returns-then-any_again c).Start) c.args.chain c.requires.1 c.requires.2 c.if-w-eq0.false (gathers (goal.at.returns-then-any_again c).After-place-b c.largest.ensures c.from.ensures c.of-p.ensures) c.if-p-gt-OVERLOADS.false (c.any_again.ensures _) c.if-any_again.true (test_of c.args.how))

pub above-requires : goal.above-requires
above-requires c = judged-size (good (goal.at.above-requires c).Start) c.args.chain c.requires.1 c.requires.2 c.if-w-eq0.false (gathers (goal.at.above-requires c).After-place-b c.largest.ensures c.from.ensures c.of-p.ensures)

pub returns-then-above : goal.returns-then-above
returns-then-above c = leads_refused refl
    (judged_roomy (good (goal.at.returns-then-above c).Start) c.args.chain c.requires.1 c.requires.2 c.if-w-eq0.false (gathers (goal.at.returns-then-above c).After-place-b c.largest.ensures c.from.ensures c.of-p.ensures) c.if-p-gt-OVERLOADS.false (c.any_again.ensures _) c.if-any_again.false c.above.ensures c.if-above.true (test_of c.args.how))

pub by_test-requires : goal.by_test-requires
by_test-requires c = record {
  taken = c.requires.0;
  there = c.requires.1;
  asked = c.requires.2;
  admitted = judged-admitted (good (goal.at.by_test-requires c).Start) c.args.chain c.requires.1 c.requires.2 c.if-w-eq0.false (gathers (goal.at.by_test-requires c).After-place-b c.largest.ensures c.from.ensures c.of-p.ensures) c.if-p-gt-OVERLOADS.false (c.any_again.ensures _) c.if-any_again.false c.above.ensures c.if-above.false;
}

pub returns : goal.returns
returns c = leads_left c.by_test.ensures
    (judged_missed (good (goal.at.returns c).Start) c.args.chain c.requires.1 c.requires.2 c.if-w-eq0.false (gathers (goal.at.returns c).After-place-b c.largest.ensures c.from.ensures c.of-p.ensures) c.if-p-gt-OVERLOADS.false (c.any_again.ensures _) c.if-any_again.false c.above.ensures c.if-above.false (test_of c.args.how))
