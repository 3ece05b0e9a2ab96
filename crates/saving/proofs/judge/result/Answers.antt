-- The result is as long as n says; within the limit it is what `out` begins with.
use Prim.Native.Nat.{ℕ, ◌+◌, ◌-◌}
use mathlib.Core.Path.{◌≡◌, ap, sym, ◌∙◌}
use mathlib.Core.List.{List}
use lib.ListN.{length, take}
use native.Mathlib.Omega.{arith}
use Rattle.table.specs.Read.{read_table, refused_by}
use Rattle.table.proofs.Firsts.{handed_on}
use Rattle.slices.specs.Slices.{splice}
use Rattle.slices.proofs.Splices.{splice-length}
use Rattle.saving.proofs.Verdicts.{not-none, read_out}
use Rattle.saving.proofs.Faults.{result-long, result-read}
use Rattle.saving.proofs.judge.result.Goals as goal
use Rattle.saving.proofs.judge.result.Goals.{After-judge, After-spliced, Start}

abbrev made : (c : Start) → List ℕ
made c = splice c.args.s.now c.args.at c.args.gone c.args.new.now

abbrev n : (c : Start) → ℕ
n c = length c.args.s.now - c.args.gone + length c.args.new.now

made-length : (c : Start) → length (made c) ≡ n c
made-length c = splice-length c.args.s.now c.args.at c.args.gone c.args.new.now c.requires.0

begins : (c : After-spliced) → take (length c.args.s.now - c.args.gone + length c.args.new.now) c.spliced.new.out ≡ splice c.args.s.now c.args.at c.args.gone c.args.new.now
begins c = ap (λ (m : ℕ). take m c.spliced.new.out) (sym (splice-length c.args.s.now c.args.at c.args.gone c.args.new.now c.requires.0)) ∙ c.spliced.ensures.first

pub returns-then-room-n : goal.returns-then-room-n
returns-then-room-n c = record { faulty = sym (result-long c.args.room (made (goal.at.returns-then-room-n c).Start) (omega (arith, made-length (goal.at.returns-then-room-n c).Start, c.if-room-n.true))); begins = λ z. not-none _ z }

pub returns-then-n-gt-BYTES : goal.returns-then-n-gt-BYTES
returns-then-n-gt-BYTES c = let e = made-length (goal.at.returns-then-n-gt-BYTES c).Start in
    let f = result-read c.args.room (made (goal.at.returns-then-n-gt-BYTES c).Start) (omega (arith, e, c.if-room-n.false)) ∙ read_out (made (goal.at.returns-then-n-gt-BYTES c).Start) (omega (arith, e, c.if-n-gt-BYTES.true)) in
    record { faulty = sym f; begins = λ z. not-none _ z }

pub spliced-requires : goal.spliced-requires
spliced-requires c = (c.requires.0, omega (arith, made-length (goal.at.spliced-requires c).Start, c.if-n-gt-BYTES.false, c.requires.1))

pub slice_bounds-judge-end-2 : goal.slice_bounds-judge-end-2
slice_bounds-judge-end-2 c = sym (made-length (goal.at.slice_bounds-judge-end-2 c).Start) ∙ ap length (sym (begins (goal.at.slice_bounds-judge-end-2 c).After-spliced))

-- the verdict on it is the result's
verdict : (c : After-judge) → take (length c.args.s.now - c.args.gone + length c.args.new.now) c.spliced.new.out ≡ splice c.args.s.now c.args.at c.args.gone c.args.new.now
    → c.judge.result ≡ (read_table (splice c.args.s.now c.args.at c.args.gone c.args.new.now)).verdict
verdict c b = c.judge.ensures ∙ ap (λ s. (read_table s).verdict) b

pub returns-in_err-judge : goal.returns-in_err-judge
returns-in_err-judge c = let at = goal.at.returns-in_err-judge c in
    let v = verdict at.After-judge (begins at.After-spliced) in
    record {
      faulty =
          handed_on _ c.from_residual.ensures.1
          ∙ ap refused_by (sym c.in_err-judge.was ∙ v)
          ∙ sym (result-read c.args.room (made at.Start) (omega (arith, made-length at.Start, c.if-room-n.false)));
      begins = λ z. not-none _ (sym (handed_on _ c.from_residual.ensures.1) ∙ z);
    }

pub returns : goal.returns
returns c = let at = goal.at.returns c in
    let v = verdict at.After-judge (begins at.After-spliced) in
    record {
      faulty =
          ap refused_by (sym c.in_ok-judge.was ∙ v)
          ∙ sym (result-read c.args.room (made at.Start) (omega (arith, made-length at.Start, c.if-room-n.false)));
      begins = λ z. c.spliced.ensures;
    }
