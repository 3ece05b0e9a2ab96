-- The id and the first i ids stand.
use Prim.Native.Nat.{◌+◌}
use native.Mathlib.Omega.{arith}
use mathlib.Core.Path.{◌≡◌, refl, sym, subst, ◌∙◌}
use mathlib.Core.List.{◌∷◌}
use lib.ListN.{take, length-set}
use lib.Seq.{take_all}
use Rattle.writing.proofs.Ids.{moved_on}
use Rattle.writing.proofs.judged.after_id.Goals as goal

pub loop-i-init : goal.loop-i-init
loop-i-init c = (refl, refl)

pub loop-i-preserved : goal.loop-i-preserved
loop-i-preserved c = let a = c.args in
    let l = c.loop-i in (
      length-set l.with _ _ ∙ l.invariant.0,
      moved_on l.with a.ids.now a.id l.i (omega (arith, l.invariant.0)) (omega (arith, c.requires)) l.invariant.1,
    )

pub returns : goal.returns
returns c = let a = c.args in
    let l = c.loop-i in
    let e : l.i ≡ 15 = omega arith in
    sym (take_all 16 l.with (omega (arith, l.invariant.0))) ∙ subst (λ k. take (k + 1) l.with ≡ a.id ∷ take k a.ids.now) e l.invariant.1
