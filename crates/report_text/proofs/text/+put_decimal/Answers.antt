-- By the last digit: the digits before it stand first, and it comes after them.
use Prim.Native.Nat.{◌+◌, ◌/◌, ◌%◌}
use native.Mathlib.Omega.{arith}
use mathlib.Core.Path.{ap, sym, subst, ◌∙◌}
use mathlib.Core.List.{[], ◌∷◌, ◌++◌}
use lib.ListN.{length, length-append}
use Rattle.report_text.specs.Numbers.{decimal}
use Rattle.slices.specs.Code.Wrote.{Wrote}
use Rattle.report_text.proofs.Decimals.{decimal-one, decimal-more}
use Rattle.slices.proofs.Writes.{wrote_on}
use Rattle.report_text.proofs.text.+put_decimal.Goals as goal

pub put_byte-requires : goal.put_byte-requires
put_byte-requires t c = omega (arith, ap length (decimal-one c.args.n c.if-n-le9.true))

pub returns-then-n-le9 : goal.returns-then-n-le9
returns-then-n-le9 t c =
    subst (λ l. Wrote c.args.out.now c.args.at l c.put_byte.new.out c.put_byte.result)
    (ap (λ d. d ∷ []) c.digit.ensures ∙ sym (decimal-one c.args.n c.if-n-le9.true)) c.put_byte.ensures

pub put_decimal-last-requires : goal.put_decimal-last-requires
put_decimal-last-requires t c =
    let n = c.args.n in
    let e = ap length (decimal-more n c.if-n-le9.false) ∙ length-append (decimal (n / 10)) ((48 + n % 10) ∷ []) in
    (omega (arith, c.decreases), omega (arith, e))

pub put_byte-requires-2 : goal.put_byte-requires-2
put_byte-requires-2 t c =
    let n = c.args.n in
    let w = c.put_decimal-last.ensures in
    let e = ap length (decimal-more n c.if-n-le9.false) ∙ length-append (decimal (n / 10)) ((48 + n % 10) ∷ []) in
    omega (arith, e, w.long, w.ends)

pub returns : goal.returns
returns t c =
    let n = c.args.n in
    let b = c.put_byte-2 in
    subst (λ l. Wrote c.args.out.now c.args.at l b.new.out b.result)
    (ap (λ d. decimal (n / 10) ++ (d ∷ [])) c.digit-2.ensures ∙ sym (decimal-more n c.if-n-le9.false))
    (wrote_on c.put_decimal-last.ensures b.ensures)
