-- Each refusal answers, in the documents' order; else the records are put, and their end.
use Prim.Native.Nat.{ℕ, ◌+◌, ◌*◌, ◌≤◌}
use native.Mathlib.Omega.{arith}
use mathlib.Core.Path.{◌≡◌, ap, sym, ◌∙◌}
use mathlib.Core.Bool.{true, not}
use lib.Dec.{eqb}
use lib.ListN.{length}
use borrow.Author.Tests.{eq-eqb}
use Rattle.search.specs.Lists.{sum_of, every}
use Rattle.table.specs.Limits.{max_chains}
use Rattle.table.specs.Record.{form_at, end_record}
use Rattle.table.specs.Find.{rows}
use Rattle.table.specs.Place.{length_of}
use Rattle.table.specs.Read.{table_of}
use Rattle.table.proofs.Firsts.{or_left, or_right}
use Rattle.table.proofs.Standing.{longest_record}
use Rattle.slices.specs.Slices.{splice}
use Rattle.converting.specs.Forms.{form_of, fits_form}
use Rattle.converting.specs.Convert.{rows_in}
use Rattle.converting.proofs.Lengths.{lengths_most}
use Rattle.converting.proofs.Puts.{records-sum}
use Rattle.converting.proofs.Results.{Given, no-form, short, put}
use Rattle.converting.proofs.put.put_table.Goals as goal
use Rattle.converting.proofs.put.put_table.Goals.{After-records_length-n, Else-form_at-form_of, Else-not-all_fit, Else-out-n}

-- the table, its mark and its shape
given : (c : Else-not-all_fit) → Given c.args.s.now
given c = record { bytes = λ k. omega (arith, c.type_inv.s k); accepted = c.requires.1 }

other : (c : Else-form_at-form_of) → form_at c.args.s.now 0 ≡ form_of c.args.to → ⊥
other c e = c.if-form_at-form_of.false (c.form_at.ensures ∙ e ∙ sym c.form_of.ensures)

fit : (c : Else-not-all_fit) → every (fits_form c.args.to) (rows (table_of c.args.s.now)) ≡ true
fit c = sym c.all_fit.ensures ∙ c.if-not-all_fit.false

abbrev all : (c : After-records_length-n) → ℕ
all c = sum_of length_of (rows_in c.args.to c.args.s.now)

size : (c : After-records_length-n) → c.records_length-n.result ≡ all c
size c = c.records_length-n.ensures

near : (c : After-records_length-n) → c.records_length-n.result ≤ longest_record * max_chains
near c = omega (arith, size c, lengths_most c.requires.0.good c.args.to)

-- there is room for them
room : (c : Else-out-n) → sum_of length_of (rows_in c.args.to c.args.s.now) + 4 ≤ length c.args.out.now
room c = omega (arith, c.records_length-n.ensures, c.if-out-n.false)

pub form_at-requires : goal.form_at-requires
form_at-requires c = omega (arith, c.requires.0.holds.ends)

pub returns-then-form_at-form_of : goal.returns-then-form_at-form_of
returns-then-form_at-form_of c = no-form c.args.to c.args.s.now c.args.out.now c.requires.1 (or_left _ _ (eq-eqb _ _ (sym c.form_at.ensures ∙ c.if-form_at-form_of.true ∙ c.form_of.ensures)))

pub all_fit-requires : goal.all_fit-requires
all_fit-requires c = c.requires.0

pub returns-then-not-all_fit : goal.returns-then-not-all_fit
returns-then-not-all_fit c = no-form c.args.to c.args.s.now c.args.out.now c.requires.1 (or_right (eqb (form_at c.args.s.now 0) (form_of c.args.to)) _ (ap not (sym c.all_fit.ensures ∙ c.if-not-all_fit.true)))

pub records_length-n-requires : goal.records_length-n-requires
records_length-n-requires c = c.requires.0

pub overflow_add-n : goal.overflow_add-n
overflow_add-n c = omega (arith, near c)

pub returns-then-out-n : goal.returns-then-out-n
returns-then-out-n c = short c.args.to (given (goal.at.returns-then-out-n c).Else-not-all_fit) (other (goal.at.returns-then-out-n c).Else-form_at-form_of) (fit (goal.at.returns-then-out-n c).Else-not-all_fit) c.args.out.now (omega (arith, size (goal.at.returns-then-out-n c).After-records_length-n, c.if-out-n.true))

pub put_records-at-requires : goal.put_records-at-requires
put_records-at-requires c = (c.requires.0, omega (arith, room (goal.at.put_records-at-requires c).Else-out-n))

pub count-requires : goal.count-requires
count-requires c = c.requires.0

pub put_end-requires : goal.put_end-requires
put_end-requires c = let w = c.put_records-at.ensures in
    (omega (arith, c.count.ensures, c.requires.0.good.few), omega (arith, room (goal.at.put_end-requires c).Else-out-n, w.ends, w.long, records-sum (rows_in c.args.to c.args.s.now)))

pub overflow_cast-result : goal.overflow_cast-result
overflow_cast-result c = omega (arith, near (goal.at.overflow_cast-result c).After-records_length-n)

pub returns : goal.returns
returns c = let w = c.put_records-at in
    put c.args.to (given (goal.at.returns c).Else-not-all_fit) (other (goal.at.returns c).Else-form_at-form_of) (fit (goal.at.returns c).Else-not-all_fit) c.args.out.now _ _ _ _ (room (goal.at.returns c).Else-out-n) (ap (λ n. n + 4) (size (goal.at.returns c).After-records_length-n)) w.ensures
    (c.put_end.ensures ∙ ap (λ n. splice w.new.out w.result 4 (end_record n)) c.count.ensures)
