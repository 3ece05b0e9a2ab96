-- What was found, or one of the places left, is the id.
use native.Mathlib.Omega.{arith}
use mathlib.Core.Path.{refl, ap, sym, ◌∙◌}
use mathlib.Core.Bool.{◌||◌}
use lib.ListN.{drop_of_length-le}
use Rattle.writing.specs.Code.Tally.{bears}
use Rattle.writing.proofs.Ids.{bears-none, bears-on, or_assoc, or_last}
use Rattle.writing.proofs.judged.bears.Goals as goal

pub loop-i-init : goal.loop-i-init
loop-i-init c = refl

pub loop-i-preserved : goal.loop-i-preserved
loop-i-preserved c = let a = c.args in
    let l = c.loop-i in
    or_assoc l.found _ _ ∙ ap (λ b. l.found || b) (sym (bears-on a.ids.now a.id l.i (omega (arith, c.requires)))) ∙ l.invariant

pub returns : goal.returns
returns c = let a = c.args in
    let l = c.loop-i in
    let none = drop_of_length-le a.ids.now {i = l.i} (omega (arith, c.requires)) in
    sym (ap (λ b. l.found || b) (ap (λ d. bears d a.id) none ∙ bears-none a.id) ∙ or_last l.found) ∙ l.invariant
