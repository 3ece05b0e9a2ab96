-- The id is put at `end` where it is not among the first n, which stay.
use mathlib.Core.Path.{◌≡◌, refl, ap, sym, ◌∙◌}
use mathlib.Core.List.{[], ◌∷◌, ◌++◌, append-nil}
use mathlib.Core.Bool.{not}
use lib.ListN.{take, length-set}
use lib.Seq.{length-take-le, take-set-le, take-suc-set}
use native.Mathlib.Omega.{arith}
use native.Mathlib.Numerals.{add-one}
use Rattle.search.proofs.Choice.{when_yes, when_no}
use Rattle.merging.specs.Rule.{among}
use Rattle.merging.proofs.Orders.{among-is}
use Rattle.merging.proofs.order.add.Goals as goal
use Rattle.merging.proofs.order.add.Goals.{After-contains}

tested : (c : After-contains) → among (take c.args.n c.args.ids.now) c.args.id ≡ c.contains.result
tested c = sym (c.contains.ensures.value ∙ among-is (take c.args.n c.args.ids.now) c.args.id)

pub slice_bounds-contains-end-2 : goal.slice_bounds-contains-end-2
slice_bounds-contains-end-2 c = sym (length-take-le c.args.n c.args.ids.now (omega (arith, c.requires.0, c.requires.1)))

pub returns-then-contains : goal.returns-then-contains
returns-then-contains c = let a = c.args in
    record {
      numbers = sym (ap (λ r. take a.end a.ids.now ++ r) (when_no (a.id ∷ []) [] (ap not (tested (goal.at.returns-then-contains c).After-contains ∙ c.if-contains.true))) ∙ append-nil (take a.end a.ids.now));
      first = refl;
      least = omega arith;
      most = omega arith;
      long = refl;
    }

pub returns : goal.returns
returns c = let a = c.args in
    record {
      numbers =
          rw add-one (take-suc-set a.ids.now a.end a.id c.requires.1
          ∙ ap (λ r. take a.end a.ids.now ++ r) (sym (when_yes (a.id ∷ []) [] (ap not (tested (goal.at.returns c).After-contains ∙ c.if-contains.false)))));
      first = take-set-le a.n a.ids.now a.end a.id c.requires.0;
      least = omega arith;
      most = omega arith;
      long = simp length-set;
    }
