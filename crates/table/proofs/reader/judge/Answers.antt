-- The loop has read the rows of some table t; what is left gives what the whole gives.
use Prim.Native.Nat.{ℕ, ◌+◌, ◌-◌, ◌<◌, ◌≤◌, ◌*◌}
use native.Mathlib.Omega.{arith}
use mathlib.Core.Path.{◌≡◌, refl, ap, sym, ◌∙◌}
use mathlib.Core.List.{List}
use mathlib.Core.Bool.{true, ◌||◌}
use lib.ListN.{length, length-set}
use lib.Dec.{eqb, ltb}
use borrow.Author.Tests.{eq-eqb, ne_eqb, le-ltb, lt-ltb}
use Rattle.table.specs.Limits.{max_chains, max_bytes}
use Rattle.table.specs.Bytes.{word}
use Rattle.table.specs.Record.{form_at, id_at, length_at, row_at}
use Rattle.table.specs.Fault.{mark_of, beside_fault, end_fault}
use Rattle.table.specs.Read.{empty, plus, accepted, refusal, unless, by_mark, records, limit_of, read_table}
use Rattle.table.specs.declared.Table.{Table}
use Rattle.table.specs.Read.{Reading}
use Rattle.table.specs.declared.Mark.{Mark}
use Rattle.table.specs.declared.Mark.TheVariants.{Chain, Task, End, Unknown}
use Rattle.std.specs.declared.result.Result.TheVariants.{Ok, Err}
use Rattle.table.specs.declared.refusal.Refusal.TheVariants.{BadMark, BadChainCount}
use Rattle.table.specs.declared.refusal.Refusal.{Refusal}
use Rattle.table.proofs.Widths.{limit-most}
use Rattle.table.proofs.Earlier.{before_more}
use Rattle.table.proofs.Firsts.{handed_on, or_left, or_right, or_none, ends_verdict}
use Rattle.table.proofs.Faultless.{ChainRight, chain-right, BesideRight, beside-right}
use Rattle.table.proofs.Steps.{read-long, read-on, records-short, records-mark, records-refused, records-beside}
use Rattle.table.proofs.reader.judge.Goals as goal
use Rattle.table.proofs.reader.judge.Goals.{then-s-eq0-via-then-s-eq0, then-s-eq0-via-else-s-eq0+then-limit-s}
use Rattle.table.proofs.reader.judge.Goals.{After-mark_of, After-tasks_part-tasks, At-loop-at, In_ok-beside_fault-in-Chain}

abbrev verdict : {r q : Reading} → r ≡ q → r.verdict ≡ q.verdict
verdict e = ap (λ (x : Reading). x.verdict) e

-- at the loop's head: the bytes, the table so far, and how many rows it has
abbrev bytes : (c : At-loop-at) → List ℕ
bytes c = c.args.s.now

abbrev sofar : (c : At-loop-at) → Table
sofar c = c.loop-at.invariant.0

counts : (c : At-loop-at) → (sofar c).count ≡ c.loop-at.before.count
counts c = sym c.loop-at.invariant.1.known.count

totals : (c : At-loop-at) → (sofar c).tasks ≡ c.loop-at.before.tasks
totals c = sym c.loop-at.invariant.1.known.tasks

-- the length is right, and what is left gives what the whole gives
abbrev Left : List ℕ → ℕ → Table → Type 0
Left s at t = read_table s ≡ records (max_chains - t.count) s at t

whole : (c : At-loop-at) → Left (bytes c) c.loop-at.at (sofar c)
whole c = read-on (bytes c) (or_none _ _ (ne_eqb _ _ c.if-s-eq0.false) (ap (λ n. ltb n (length (bytes c))) (sym c.limit.ensures) ∙ le-ltb _ _ c.if-limit-s.false)) ∙ sym c.loop-at.invariant.1.left

short : (c : At-loop-at) → length (bytes c) ≤ max_bytes
short c = omega (arith, c.limit.ensures, limit-most (word 2 (bytes c) 0))

mark : (c : After-mark_of) → mark_of (word 2 (c.args.s.now) c.loop-at.at) ≡ c.mark_of.result
mark c = ap mark_of (sym c.u16_at.ensures) ∙ sym c.mark_of.ensures

-- a fault of a chain's record is that of the whole; any other mark decides alone
refused : (c : After-mark_of) → c.mark_of.result ≡ Chain → {n : Refusal} {place : ℕ} → Left c.args.s.now c.loop-at.at c.loop-at.invariant.0 → beside_fault c.args.s.now c.loop-at.at (form_at c.args.s.now 0) c.loop-at.invariant.0 ≡ Err (n, place)
    → read_table c.args.s.now ≡ refusal n place
refused c e left h = left ∙ records-refused c.args.s.now c.loop-at.at c.loop-at.invariant.0 c.loop-at-test.true (mark c ∙ e) (max_chains - c.loop-at.invariant.0.count) h

other : (c : After-mark_of) → (m : Mark) → c.mark_of.result ≡ m → (m ≡ Chain → ⊥) → Left c.args.s.now c.loop-at.at c.loop-at.invariant.0
    → read_table c.args.s.now ≡ by_mark c.loop-at.at m (refusal BadChainCount c.loop-at.at) (unless refusal (end_fault c.args.s.now c.loop-at.at c.loop-at.invariant.0) (accepted c.loop-at.invariant.0))
other c m e h left = left ∙ records-mark c.args.s.now c.loop-at.at c.loop-at.invariant.0 c.loop-at-test.true (max_chains - c.loop-at.invariant.0.count) m (mark c ∙ e) h

beside-is : (c : In_ok-beside_fault-in-Chain) → beside_fault c.args.s.now c.loop-at.at (form_at c.args.s.now 0) c.loop-at.invariant.0 ≡ Ok tt
beside-is c = ap (λ f. beside_fault c.args.s.now c.loop-at.at f c.loop-at.invariant.0) (sym c.form_at.ensures) ∙ sym (c.beside_fault.ensures _ c.loop-at.invariant.1.known) ∙ c.in_ok-beside_fault-in-Chain.was

fits : (c : In_ok-beside_fault-in-Chain) → BesideRight c.args.s.now c.loop-at.at (form_at c.args.s.now 0) c.loop-at.invariant.0
fits c = beside-right _ _ _ _ (beside-is c)

right : (c : In_ok-beside_fault-in-Chain) → ChainRight c.args.s.now c.loop-at.at c.loop-at.invariant.0
right c = chain-right _ _ _ (fits c).chain

-- there is room for a chain more
room : (c : In_ok-beside_fault-in-Chain) → c.loop-at.before.count < max_chains
room c = omega (arith, c.loop-at.invariant.1.known.count, c.loop-at.invariant.1.few, (fits c).room)

pub returns-then-s-eq0 : goal.returns-then-s-eq0
returns-then-s-eq0 c =
    let s = c.args.s.now in
    let long : (eqb (length s) 0 || ltb (limit_of (word 2 s 0)) (length s)) ≡ true =
    elim c.then-s-eq0.branch [
      | then-s-eq0-via-then-s-eq0 w ↦ or_left _ _ (eq-eqb _ _ w.if-s-eq0.true)
      | then-s-eq0-via-else-s-eq0+then-limit-s w ↦ or_right (eqb (length s) 0) _ (ap (λ n. ltb n (length s)) (sym w.limit.ensures) ∙ lt-ltb _ _ w.if-limit-s.true)
    ] in
    sym (verdict (read-long s long))

pub loop-at-init : goal.loop-at-init
loop-at-init c = let k = c.nothing-before.ensures in
    (empty, record { few = omega (arith, k.count); all = omega (arith, k.tasks); inside = omega arith; left = refl; size = ap length k.bear; known = k })

pub beside_fault-requires : goal.beside_fault-requires
beside_fault-requires c = let i = c.loop-at.invariant.1 in
    (c.loop-at-test.true, i.few, i.all)

pub tasks_part-tasks-requires : goal.tasks_part-tasks-requires
tasks_part-tasks-requires c = (right (goal.at.tasks_part-tasks-requires c).In_ok-beside_fault-in-Chain).head.there

pub id_at-requires : goal.id_at-requires
id_at-requires c = (right (goal.at.id_at-requires c).In_ok-beside_fault-in-Chain).head.there

pub add-requires : goal.add-requires
add-requires c = let i = c.loop-at.invariant.1 in
    let h = room (goal.at.add-requires c).In_ok-beside_fault-in-Chain in
    (omega (arith, i.size, h), h, omega (arith, i.all), c.tasks_part-tasks.ensures.3)

pub overflow_mul-at : goal.overflow_mul-at
overflow_mul-at c = omega (arith, c.tasks_part-tasks.ensures.3)

-- the next record starts where this one ends
next : (c : After-tasks_part-tasks) → c.loop-at.at + (c.tasks_part-tasks.result.from + 8 * c.tasks_part-tasks.result.count) ≡ c.loop-at.at + length_at c.args.s.now c.loop-at.at
next c = omega (arith, c.tasks_part-tasks.ensures.0, c.tasks_part-tasks.ensures.1)

pub overflow_add-at-in-Chain-2 : goal.overflow_add-at-in-Chain-2
overflow_add-at-in-Chain-2 c = rw (next (goal.at.overflow_add-at-in-Chain-2 c).After-tasks_part-tasks) (omega (arith, (right (goal.at.overflow_add-at-in-Chain-2 c).In_ok-beside_fault-in-Chain).there, short (goal.at.overflow_add-at-in-Chain-2 c).At-loop-at))

pub loop-at-smaller : goal.loop-at-smaller
loop-at-smaller c = rw c.add.ensures (omega (arith, room (goal.at.loop-at-smaller c).In_ok-beside_fault-in-Chain))

pub loop-at-preserved : goal.loop-at-preserved
unfolding row_at
loop-at-preserved c = let l = (goal.at.loop-at-preserved c).At-loop-at in
    let t = sofar l in
    let at = c.loop-at.at in
    let i = c.loop-at.invariant.1 in
    let h = (goal.at.loop-at-preserved c).In_ok-beside_fault-in-Chain in
    let r = right h in
    let on = records-beside (bytes l) at t c.loop-at-test.true (mark (goal.at.loop-at-preserved c).After-mark_of ∙ c.in-Chain.is) (beside-is h) (omega (arith, counts l, room h)) in
    rw (c.add.ensures, c.id_at.ensures, next (goal.at.loop-at-preserved c).After-tasks_part-tasks, c.tasks_part-tasks.ensures.1) (
      plus t (row_at (bytes l) at),
      record {
        few = omega (arith, room h);
        all = omega (arith, r.head.all, totals l);
        inside = r.there;
        left = sym on ∙ i.left;
        size = length-set c.loop-at.before.ids c.loop-at.before.count (id_at (bytes l) at) ∙ i.size;
        known = before_more t (row_at (bytes l) at) i.known;
      },
    )

pub returns-in_err-beside_fault-in-Chain : goal.returns-in_err-beside_fault-in-Chain
returns-in_err-beside_fault-in-Chain c = let l = (goal.at.returns-in_err-beside_fault-in-Chain c).At-loop-at in
    let given = c.in_err-beside_fault-in-Chain.was in
    let fault = ap (λ f. beside_fault (bytes l) c.loop-at.at f (sofar l)) (sym c.form_at.ensures) ∙ sym (c.beside_fault.ensures (sofar l) c.loop-at.invariant.1.known) ∙ given in
    handed_on _ c.from_residual.ensures.1 ∙ sym (verdict (refused (goal.at.returns-in_err-beside_fault-in-Chain c).After-mark_of c.in-Chain.is (whole l) fault))

pub returns-in-End : goal.returns-in-End
returns-in-End c = let l = (goal.at.returns-in-End c).At-loop-at in
    c.end_fault.ensures (sofar l) (counts l)
    ∙ sym (verdict (other (goal.at.returns-in-End c).After-mark_of End c.in-End.is (λ e. let z : ◌≡◌ {A = ℕ} 0 1 = cc in omega arith) (whole l)) ∙ ends_verdict (end_fault (bytes l) c.loop-at.at (sofar l)) (sofar l))

-- a mark that is neither is unknown there
unknown : (m : Mark) (at : ℕ) (chain end : Reading) → (m ≡ Chain → ⊥) → (m ≡ End → ⊥) → (by_mark at m chain end).verdict ≡ Err (BadMark, at)
unknown Chain at chain end h k = absurd (h refl)
unknown End at chain end h k = absurd (k refl)
unknown Task at chain end h k = refl
unknown Unknown at chain end h k = refl

pub returns-in_default : goal.returns-in_default
returns-in_default c = let l = (goal.at.returns-in_default c).At-loop-at in
    sym (verdict (other (goal.at.returns-in_default c).After-mark_of c.mark_of.result refl c.in_default.not-Chain (whole l)) ∙ unknown _ _ _ _ c.in_default.not-Chain c.in_default.not-End)

pub returns : goal.returns
returns c = let l = (goal.at.returns c).At-loop-at in
    sym (verdict (whole l ∙ records-short (bytes l) c.loop-at.at (sofar l) (max_chains - (sofar l).count) c.loop-at-test.false))
