-- One byte, or a number of four.
use Prim.Native.Nat.{◌+◌, ◌%◌}
use native.Mathlib.Omega.{arith}
use mathlib.Core.Path.{◌≡◌, ap, sym, subst, ◌∙◌}
use mathlib.Core.List.{[], ◌∷◌}
use lib.ListN.{set}
use Rattle.table.specs.Bytes.{bytes_of}
use Rattle.slices.specs.Code.Wrote.{Wrote}
use Rattle.slices.proofs.Writes.{wrote_byte, wrote_number}
use Rattle.table.proofs.Forms.{wide, narrow}
use Rattle.writing.proofs.Forms.{flag-bytes, gap_bytes_holds}
use Rattle.writing.proofs.put.put_gap.Goals as goal

pub bounds-out-at : goal.bounds-out-at
bounds-out-at c = omega (arith, c.requires, narrow c.args.form c.if-form-eq-LARGEST_FORM.true)

pub put_u32-requires : goal.put_u32-requires
put_u32-requires c = omega (arith, c.requires, wide c.args.form c.if-form-eq-LARGEST_FORM.false)

pub returns-then-form-eq-LARGEST_FORM : goal.returns-then-form-eq-LARGEST_FORM
unfolding bytes_of
returns-then-form-eq-LARGEST_FORM c = let a = c.args in
    let small : a.flag % 256 ≡ a.flag = omega (arith, c.ranges.flag) in
    let one : bytes_of 1 a.flag ≡ a.flag ∷ [] = ap (λ n. n ∷ []) small in
    subst (λ text. Wrote a.out.now a.at text (set a.out.now a.at a.flag) (a.at + 1)) (sym (flag-bytes a.form a.flag a.gap c.if-form-eq-LARGEST_FORM.true ∙ one))
    (wrote_byte a.out.now a.at a.flag (omega (arith, c.requires, narrow a.form c.if-form-eq-LARGEST_FORM.true)))

pub returns-else-form-eq-LARGEST_FORM : goal.returns-else-form-eq-LARGEST_FORM
returns-else-form-eq-LARGEST_FORM c = let a = c.args in
    let p = c.put_u32 in
    let form = c.if-form-eq-LARGEST_FORM.false in
    subst (λ text. Wrote a.out.now a.at text p.new.s (a.at + 4)) (sym (gap_bytes_holds a.form a.flag a.gap form))
    (wrote_number a.out.now a.at 4 a.gap p.new.s (a.at + 4) (omega arith) (omega (arith, c.requires, wide a.form form)) p.ensures)
