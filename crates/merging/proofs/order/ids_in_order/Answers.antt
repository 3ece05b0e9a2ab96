-- Each table's ids are joined to those before it.
use mathlib.Core.Path.{ap, ◌∙◌}
use mathlib.Core.List.{List}
use Prim.Native.Nat.{ℕ}
use native.Mathlib.Omega.{arith}
use Rattle.merging.specs.Versions.{ids_of}
use Rattle.merging.specs.Rule.{joined, order}
use Rattle.merging.proofs.Orders.{joined-none}
use Rattle.merging.proofs.order.ids_in_order.Goals as goal

pub join-of_ancestor-requires : goal.join-of_ancestor-requires
join-of_ancestor-requires c = (c.requires.0.of_ancestor, omega (arith, c.requires.1))

pub join-of_both-requires : goal.join-of_both-requires
join-of_both-requires c = (c.requires.0.of_first, omega (arith, c.requires.1, c.join-of_ancestor.ensures.few, c.join-of_ancestor.ensures.long))

pub join-requires : goal.join-requires
join-requires c = let x = c.join-of_ancestor.ensures in
    let y = c.join-of_both.ensures in
    (c.requires.0.of_second, omega (arith, c.requires.1, x.few, x.long, y.few, y.long))

pub returns : goal.returns
unfolding order
returns c = let a = c.args in
    let x = c.join-of_ancestor.ensures in
    let y = c.join-of_both.ensures in
    let z = c.join.ensures in
    record {
      numbers =
          z.numbers
          ∙ ap (λ (l : List ℕ). joined l (ids_of a.second.now)) (y.numbers ∙ ap (λ (l : List ℕ). joined l (ids_of a.first.now)) (x.numbers ∙ joined-none (ids_of a.ancestor.now)));
      few = omega (arith, c.requires.1, x.few, x.long, y.few, y.long, z.few, z.long);
    }
