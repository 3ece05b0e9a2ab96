-- No kept combination before j is a part of m.
use Prim.Native.Nat.{ℕ}
use mathlib.Core.Path.{◌≡◌, ◌∙◌}
use native.Mathlib.Omega.{arith}
use borrow.Author.Tests.{eq-eqb, ne_eqb}
use lib.Bits.{bit_and}
use Rattle.packing.specs.Code.Engine.{nth}
use Rattle.packing.proofs.Loops.{passed_start, passed_on, passed_hit, passed-end}
use borrow.Author.Rules.{rules}
use Rattle.packing.proofs.masks.kept_part.Goals as goal

pub loop-j-init : goal.loop-j-init
loop-j-init c = passed_start _ 0 _

pub returns-then-s-m : goal.returns-then-s-m
returns-then-s-m c =
    let own : ℕ = nth c.args.kept.now c.loop-j.j in
    passed_hit c.loop-j.invariant (search rules) (eq-eqb (bit_and own c.args.m) own (omega (arith, c.if-s-m.true)))

pub loop-j-preserved : goal.loop-j-preserved
loop-j-preserved c =
    let own : ℕ = nth c.args.kept.now c.loop-j.j in
    passed_on c.loop-j.invariant (search rules) (ne_eqb (bit_and own c.args.m) own (λ e. omega (arith, e, c.if-s-m.false)))

pub returns : goal.returns
returns c = let e : c.args.count ≡ c.loop-j.j = omega (arith, c.loop-j.invariant.to) in e ∙ passed-end c.loop-j.invariant (search rules)
