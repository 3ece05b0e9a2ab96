-- The first i bytes are copied.
use mathlib.Core.Path.{◌≡◌, refl, ap, ◌∙◌}
use lib.ListN.{length, length-set}
use lib.Seq.{paste, paste-zero, paste-suc, take-length}
use native.Mathlib.Omega.{arith}
use native.Mathlib.Numerals.{add-one}
use Rattle.slices.proofs.put.Goals as goal

pub loop-i-init : goal.loop-i-init
loop-i-init c = (omega arith, paste-zero c.args.to.now c.args.at c.args.from.now, refl)

pub loop-i-preserved : goal.loop-i-preserved
loop-i-preserved c = let a = c.args in
    let l = c.loop-i in (
      omega arith,
      rw (l.invariant.1, add-one) (paste-suc a.to.now a.at a.from.now l.i 0 (omega arith) (omega arith)),
      simp length-set l.invariant.2,
    )

pub returns : goal.returns
returns c = let a = c.args in
    let e : c.loop-i.i ≡ length a.from.now = omega arith in
    c.loop-i.invariant.1 ∙ ap (paste a.to.now a.at a.from.now) e ∙ rw take-length
