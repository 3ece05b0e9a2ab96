-- Bad, and each active segment has room.
use Prim.Native.Nat.{ℕ, ◌≤◌, ◌<◌}
use mathlib.Core.Path.{◌≡◌, refl, subst, ◌∙◌}
use native.Mathlib.Omega.{arith}
use lib.ListN.{get_or}
use borrow.Author.Tests.{tests, eq-eqb}
use borrow.Author.Rules.{rules}
use Rattle.std.specs.List.{HoldsAt, range_with_len}
use Rattle.std.proofs.lemmas.Bool.{MatchBool-at_true, MatchBool-at_false}
use Rattle.std.proofs.lemmas.Iterator.{cases_from_all, YieldsList-from_range}
use Rattle.std.proofs.lemmas.List.FromFn.{get_or-range_with_len}
use Rattle.packing.specs.Packing.{bit}
use Rattle.packing.specs.Most.{capacity}
use Rattle.odometer.proofs.fits.Goals as goal

-- number i of 0, 1, .., 5
is : (i : ℕ) → i < 6 → get_or (range_with_len 0 6) i 0 ≡ i
is i l = get_or-range_with_len 0 6 i 0 l ∙ omega arith

-- where `all` stopped there is too little room
full : (room takes : ℕ → ℕ) (i : ℕ) → i < 6 → HoldsAt (λ j. room j < takes j) (range_with_len 0 6) i → room i < takes i
full room takes i l h = subst (λ j. room j < takes j) (is i l) (h 0)

pub returns-then-bad-m-eq1 : goal.returns-then-bad-m-eq1
returns-then-bad-m-eq1 c =
    let takes = λ (i : ℕ). bit i c.args.m in
    let room = capacity c.args.left.now in
    let h = cases_from_all _ _ c.all.result (λ i. takes i ≤ room i) (λ i. room i < takes i) c.all.ensures.ran
    (YieldsList-from_range 0 6 6 refl refl) (λ x q k. search (rules, tests)) (λ x q k. search (rules, tests)) in
    record {
      so = λ e. record { marked = eq-eqb _ 1 c.if-bad-m-eq1.true; room = λ i l. rw (is i l) at (MatchBool-at_true _ _ e h i 0 (omega arith) l) };
      not = λ e f. let n = MatchBool-at_false _ _ e h in omega (arith, f.room n.0 n.1, full room takes n.0 n.1 n.2);
    }
