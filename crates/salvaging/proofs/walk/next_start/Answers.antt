-- Nothing from the start up to `at` starts like a record.
use Prim.Native.Nat.{ℕ, ◌+◌, ◌-◌}
use native.Mathlib.Omega.{arith}
use mathlib.Core.Path.{◌≡◌, sym, subst, ◌∙◌}
use mathlib.Core.Bool.{true}
use mathlib.Core.List.{List}
use mathlib.Core.Logic.{⊎_elim}
use lib.ListN.{length}
use Rattle.search.proofs.Find.{first-is, first-none}
use Rattle.search.proofs.Choice.{lt_or_le, true-not-false}
use Rattle.table.specs.Bytes.{Bytes}
use Rattle.salvaging.specs.Code.Walk.{NoC, starts_like}
use Rattle.salvaging.proofs.Starts.{unlike_short, unlike_byte}
use Rattle.salvaging.proofs.walk.next_start.Invariants.{NoneUp}
use Rattle.salvaging.proofs.walk.next_start.Goals as goal
use Rattle.salvaging.proofs.walk.next_start.Goals.{After-pass-at}

-- over bytes none of which is a `C`
none_over : (s : List ℕ) (from mid at : ℕ) → Bytes s → NoneUp s from mid → NoC s mid at → NoneUp s from at
none_over s from mid at bytes h n j a b e = ⊎_elim (λ l. h j a l e) (λ l. unlike_byte s j bytes (n j l b) e) (lt_or_le j mid)

none_more : (s : List ℕ) (from at : ℕ) → NoneUp s from at → (starts_like s at ≡ true → ⊥) → NoneUp s from (at + 1)
none_more s from at h n j a b e = ⊎_elim (λ l. h j a l e) (λ l. let f : j ≡ at = omega arith in n (subst (λ k. starts_like s k ≡ true) f e)) (lt_or_le j at)

-- the slice has bytes
bytes : (c : After-pass-at) → Bytes c.args.s.now
bytes c i = omega (arith, c.type_inv.s i)

pub loop-at-init : goal.loop-at-init
loop-at-init c = let p = c.pass-at.ensures in
    (p.0, p.1, none_over c.args.s.now c.args.from c.args.from c.pass-at.result (bytes (goal.at.loop-at-init c).After-pass-at) (λ j a b e. omega (arith, a, b)) p.2)

pub starts_like-requires : goal.starts_like-requires
starts_like-requires c = omega (arith, c.loop-at-test.true)

pub returns-then-starts_like : goal.returns-then-starts_like
returns-then-starts_like c = let l = c.loop-at in
    let all = c.args.s.now in
    sym (first-is (starts_like all) c.args.from (length all - c.args.from) l.at l.invariant.0 (omega (arith, c.loop-at-test.true)) (sym c.starts_like.ensures ∙ c.if-starts_like.true) l.invariant.2)

pub overflow_add-at : goal.overflow_add-at
overflow_add-at c = omega (arith, c.loop-at-test.true)

pub pass-at-requires-in-loop-at : goal.pass-at-requires-in-loop-at
pass-at-requires-in-loop-at c = omega (arith, c.loop-at-test.true)

pub loop-at-smaller : goal.loop-at-smaller
loop-at-smaller c = omega (arith, c.pass-at-in-loop-at.ensures.0, c.loop-at-test.true)

pub loop-at-preserved : goal.loop-at-preserved
loop-at-preserved c = let l = c.loop-at in
    let all = c.args.s.now in
    let p = c.pass-at-in-loop-at.ensures in (
      omega (arith, l.invariant.0, p.0),
      p.1,
      none_over all c.args.from (l.at + 1) c.pass-at-in-loop-at.result (bytes (goal.at.loop-at-preserved c).After-pass-at)
          (none_more all c.args.from l.at l.invariant.2 (λ e. true-not-false (c.starts_like.ensures ∙ e) c.if-starts_like.false)) p.2,
    )

pub returns : goal.returns
returns c = let l = c.loop-at in
    let all = c.args.s.now in
    let e : length all ≡ c.args.from + (length all - c.args.from) = omega arith in
    e ∙ sym (first-none (starts_like all) c.args.from (length all - c.args.from)
    (λ j a b p. ⊎_elim (λ k. l.invariant.2 j a k p) (λ k. unlike_short all j (omega (arith, k, c.loop-at-test.false)) p) (lt_or_le j l.at)))
