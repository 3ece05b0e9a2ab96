-- By the two tests.
use native.Mathlib.Omega.{arith}
use borrow.Author.Tests.{eq-eqb, ne_eqb}
use Rattle.packing.proofs.Kept.{kept-good, kept-held, kept_new}
use Rattle.packing.proofs.masks.keep.Goals as goal

pub returns-then-bad-m-ne1 : goal.returns-then-bad-m-ne1
returns-then-bad-m-ne1 c = kept-good c.requires.2 c.requires.1 (ne_eqb _ 1 c.if-bad-m-ne1.true)

pub returns-then-kept_part-count : goal.returns-then-kept_part-count
returns-then-kept_part-count c = kept-held c.requires.2 c.requires.1 (omega (arith, c.kept_part.ensures))

pub returns : goal.returns
returns c = kept_new c.requires.2 c.requires.1 c.requires.0 (eq-eqb _ 1 c.if-bad-m-ne1.false)
