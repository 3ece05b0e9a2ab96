-- The definition by its tests; a bit that is not 0 is 1.
use mathlib.Core.Path.{◌≡◌, refl, sym, ◌∙◌}
use mathlib.Core.Bool.{Bool, true, false, not}
use native.Mathlib.Omega.{arith}
use borrow.Author.Tests.{eq-eqb, ne_eqb}
use Rattle.search.proofs.Choice.{when_yes, when_no, true-not-false}
use Rattle.packing.specs.Packing.{bit}
use Rattle.misses.proofs.Masks.{bit-low}
use Rattle.misses.proofs.pricing.agrees.Goals as goal
use Rattle.misses.proofs.pricing.agrees.Goals.{After-has, then-has-eq0, else-has-eq0}

-- the active segment j is in the set, or it is not
inside : (c : After-has) → (c.has.result ≡ 0 → ⊥) → bit c.args.j c.args.m ≡ 1
inside c h = let a = c.args in omega (arith, c.has.ensures, h, bit-low a.j a.m)

outside : (c : After-has) → c.has.result ≡ 0 → bit c.args.j c.args.m ≡ 1 → ⊥
outside c h e = omega (arith, sym c.has.ensures ∙ h)

not_yes : (b : Bool) → not b ≡ true → b ≡ false
not_yes true e = sym e
not_yes false e = refl

not_no : (b : Bool) → not b ≡ false → b ≡ true
not_no true e = refl
not_no false e = sym e

pub returns-then-chain-i : goal.returns-then-chain-i
returns-then-chain-i c = let p = (goal.at.returns-then-chain-i c).After-has in
    c.if-chain-i.true ∙ sym (elim c.if-has-eq0.branch [
      | then-has-eq0 w ↦ when_no _ _ (ne_eqb _ _ (outside p w.if-has-eq0.true))
      | else-has-eq0 w ↦ when_yes _ _ (eq-eqb _ _ (inside p w.if-has-eq0.false)) ∙ when_no _ _ (not_yes _ (sym w.value-is ∙ c.if-chain-i.true))
    ])

pub returns-else-chain-i : goal.returns-else-chain-i
returns-else-chain-i c = let p = (goal.at.returns-else-chain-i c).After-has in
    elim c.if-has-eq0.branch [
      | then-has-eq0 w ↦ absurd (true-not-false (eq-eqb _ _ w.if-has-eq0.true) (sym w.value-is ∙ c.if-chain-i.false))
      | else-has-eq0 w ↦ sym (when_yes _ _ (eq-eqb _ _ (inside p w.if-has-eq0.false)) ∙ when_yes _ _ (not_no _ (sym w.value-is ∙ c.if-chain-i.false)))
    ]
