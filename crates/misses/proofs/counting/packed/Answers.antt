-- Known, or so many uses reach k.
use mathlib.Core.Path.{ap, sym, subst, ◌∙◌}
use native.Mathlib.Omega.{arith}
use Rattle.misses.specs.Code.Packings.{Sized, Within, missed_by}
use Rattle.misses.proofs.Enough.{enough-few, enough-uses}
use Rattle.misses.proofs.counting.packed.Goals as goal
use Rattle.misses.proofs.counting.packed.Goals.{In-Packed}

-- something is to be packed
sized : (c : In-Packed) → Sized c.args.k c.in-Packed.p.late
sized c = subst (Within c.args.k) c.in-Packed.is c.requires

pub overflow_sub-enough : goal.overflow_sub-enough
overflow_sub-enough c = (sized c).low

pub nonzero_div-enough : goal.nonzero_div-enough
nonzero_div-enough c = omega (arith, (sized c).some)

pub overflow_add-enough : goal.overflow_add-enough
overflow_add-enough c = let z = sized c in omega (arith, enough-few c.args.k c.in-Packed.p.late z.low z.some, z.high)

pub returns-in-Known : goal.returns-in-Known
returns-in-Known c = sym (ap (missed_by c.args.k) c.in-Known.is)

pub returns-in-Packed : goal.returns-in-Packed
returns-in-Packed c = let k = c.args.k in
    let z = sized (goal.at.returns-in-Packed c).In-Packed in
    c.figure.ensures ∙ enough-uses k c.in-Packed.p.late z.low z.some _ _ c.uses_up_to.ensures ∙ sym (ap (missed_by k) c.in-Packed.is)
