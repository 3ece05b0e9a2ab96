-- Nothing from the start up to `at` is acceptable, and there the bytes start like a record.
use Prim.Native.Nat.{ℕ, ◌+◌, ◌-◌, ◌<◌, ◌≤◌}
use native.Mathlib.Omega.{arith}
use mathlib.Core.Path.{◌≡◌, sym, subst, ◌∙◌}
use mathlib.Core.Bool.{true}
use mathlib.Core.List.{List}
use mathlib.Core.Logic.{⊎_elim}
use lib.ListN.{length}
use Rattle.search.specs.Find.{first}
use Rattle.search.proofs.Find.{first_ge, first_le, first_miss, first_hit, first-is, first-none}
use Rattle.search.proofs.Choice.{lt_or_le, true-not-false}
use Rattle.table.specs.declared.Table.{Table}
use Rattle.salvaging.specs.Kept.{acceptable}
use Rattle.salvaging.specs.Code.Walk.{Knows, starts_like}
use Rattle.salvaging.proofs.Starts.{unlike_not}
use Rattle.salvaging.proofs.walk.next_record.Invariants.{Passed}
use Rattle.salvaging.proofs.walk.next_record.Goals as goal
use Rattle.salvaging.proofs.walk.next_record.Goals.{After-next_start-at-in-loop-at}

-- the next place where they do, from some place on
module _ (s : List ℕ) (from next : ℕ) (inside : from ≤ length s) (found : next ≡ first (starts_like s) from (length s - from)) where
  bounds : (from ≤ next) × (next ≤ length s)
  bounds = (omega (arith, found, first_ge (starts_like s) from (length s - from)), omega (arith, found, first_le (starts_like s) from (length s - from)))

  like : next < length s → starts_like s next ≡ true
  like l = subst (λ n. starts_like s n ≡ true) (sym found) (first_hit (starts_like s) from (length s - from) (omega (arith, found, l)))

  none_between : (t : Table) (j : ℕ) → from ≤ j → j < next → acceptable s j t ≡ true → ⊥
  none_between t j a b e = true-not-false e (unlike_not s j t (first_miss (starts_like s) from (length s - from) j a (omega (arith, found, b))))

pub loop-at-init : goal.loop-at-init
loop-at-init c = let all = c.args.s.now in
    let b = bounds all c.args.from c.next_start-at.result c.requires.0 c.next_start-at.ensures in
    (b.0, b.1, like all c.args.from c.next_start-at.result c.requires.0 c.next_start-at.ensures, λ t k. record { none = none_between all c.args.from c.next_start-at.result c.requires.0 c.next_start-at.ensures t })

pub accepts-requires : goal.accepts-requires
accepts-requires c = (c.loop-at.invariant.2 c.loop-at-test.true, c.requires.1, c.requires.2)

pub returns-then-accepts : goal.returns-then-accepts
returns-then-accepts c t b = let l = c.loop-at in
    let all = c.args.s.now in
    sym (first-is (λ i. acceptable all i t) c.args.from (length all - c.args.from) l.at l.invariant.0 (omega (arith, c.loop-at-test.true))
    (sym (c.accepts.ensures t b) ∙ c.if-accepts.true) (l.invariant.3 t b).none)

pub overflow_add-at : goal.overflow_add-at
overflow_add-at c = omega (arith, c.loop-at-test.true)

pub next_start-at-requires-in-loop-at : goal.next_start-at-requires-in-loop-at
next_start-at-requires-in-loop-at c = omega (arith, c.loop-at-test.true)

abbrev all : (c : After-next_start-at-in-loop-at) → List ℕ
all c = c.args.s.now

abbrev at : (c : After-next_start-at-in-loop-at) → ℕ
at c = c.loop-at.at

inside : (c : After-next_start-at-in-loop-at) → (at c) + 1 ≤ length (all c)
inside c = omega (arith, c.loop-at-test.true)

on : (c : After-next_start-at-in-loop-at) → ((at c) + 1 ≤ c.next_start-at-in-loop-at.result) × (c.next_start-at-in-loop-at.result ≤ length (all c))
on c = bounds (all c) ((at c) + 1) c.next_start-at-in-loop-at.result (inside c) c.next_start-at-in-loop-at.ensures

passed : (c : After-next_start-at-in-loop-at) → (t : Table) → Knows c.args.before.now c.args.form t → Passed (all c) c.args.from t c.next_start-at-in-loop-at.result
passed c t b = record {
  none = λ j a h e. ⊎_elim
      (λ l. (c.loop-at.invariant.3 t b).none j a l e)
      (λ l. ⊎_elim (λ k. none_between (all c) ((at c) + 1) c.next_start-at-in-loop-at.result (inside c) c.next_start-at-in-loop-at.ensures t j (omega (arith, k)) h e)
      (λ k. let f : j ≡ (at c) = omega arith in true-not-false (c.accepts.ensures t b ∙ subst (λ n. acceptable (all c) n t ≡ true) f e) c.if-accepts.false)
      (lt_or_le (at c) j)) (lt_or_le j (at c));
}

pub loop-at-smaller : goal.loop-at-smaller
loop-at-smaller c = omega (arith, (on c).0, (on c).1)

pub loop-at-preserved : goal.loop-at-preserved
loop-at-preserved c = (omega (arith, c.loop-at.invariant.0, (on c).0), (on c).1, like (all c) (at c + 1) c.next_start-at-in-loop-at.result (inside c) c.next_start-at-in-loop-at.ensures, passed c)

pub returns : goal.returns
returns c t b = let l = c.loop-at in
    let bytes = c.args.s.now in
    let e : l.at ≡ c.args.from + (length bytes - c.args.from) = omega (arith, l.invariant.1, c.loop-at-test.false) in
    e ∙ sym (first-none (λ i. acceptable bytes i t) c.args.from (length bytes - c.args.from) (λ j a h p. (l.invariant.3 t b).none j a (omega (arith, e, h)) p))
