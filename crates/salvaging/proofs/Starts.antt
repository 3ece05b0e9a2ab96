-- Laws of what starts like a chain record: every acceptable one does. Assumes nothing.
use Prim.Native.Nat.{ℕ, ◌+◌, ◌*◌, ◌<◌, ◌≤◌}
use native.Mathlib.Omega.{arith}
use mathlib.Core.Path.{◌≡◌, refl, subst}
use mathlib.Core.List.{List}
use mathlib.Core.Bool.{Bool, true, false, ◌&&◌}
use mathlib.Core.Logic.{⊎_elim}
use lib.ListN.{length, get_or}
use lib.Dec.{leb}
use borrow.Author.Tests.{leb-true, le-leb}
use Rattle.search.proofs.Choice.{true-not-false, both_true, lt_or_le}
use Rattle.table.specs.Bytes.{word, Bytes}
use Rattle.table.specs.Record.{form_at, kind_at, overload_at, first_task}
use Rattle.table.specs.Fault.{mark_of, is_chain}
use Rattle.table.specs.declared.Table.{Table}
use Rattle.table.specs.declared.Mark.TheVariants.{Chain, Task}
use Rattle.table.proofs.Marks.{chain-told, chain-form}
use Rattle.table.proofs.Faultless.{TaskRight}
use Rattle.table.proofs.Widths.{width-least}
use Rattle.salvaging.specs.Kept.{acceptable}
use Rattle.salvaging.specs.Code.Walk.{NoC, least_head, starts_like}
use Rattle.salvaging.proofs.Walks.{acceptable-says}

module _ (s : List ℕ) (at : ℕ) where
  -- what it says
  like_says : starts_like s at ≡ true → (at + least_head ≤ length s) × (is_chain (mark_of (word 2 s at)) ≡ true)
  unfolding starts_like
  like_says e =
      let three = both_true (leb (at + least_head) (length s) && leb (kind_at s at) 1 && leb (overload_at s at) 1) (is_chain (mark_of (word 2 s at))) e in
      let two = both_true (leb (at + least_head) (length s) && leb (kind_at s at) 1) (leb (overload_at s at) 1) three.0 in
      (leb-true _ _ (both_true (leb (at + least_head) (length s)) (leb (kind_at s at) 1) two.0).0, three.1)

  pub like_there : starts_like s at ≡ true → at + least_head ≤ length s
  like_there e = (like_says e).0

  pub like_chain : starts_like s at ≡ true → mark_of (word 2 s at) ≡ Chain
  like_chain e = chain-told _ (like_says e).1

  -- what does not
  pub unlike_short : length s < at + least_head → starts_like s at ≡ true → ⊥
  unlike_short l e = omega (arith, l, like_there e)

  pub unlike_byte : Bytes s → (get_or s at 0 ≡ 67 → ⊥) → starts_like s at ≡ true → ⊥
  unfolding word
  unlike_byte bytes h e = h (⊎_elim (λ f. omega (arith, f, bytes at)) (λ f. omega (arith, f, bytes at)) (chain-form (word 2 s at) (like_chain e)))

  -- an acceptable record starts so
  pub like_acceptable : (t : Table) → acceptable s at t ≡ true → starts_like s at ≡ true
  unfolding starts_like
  like_acceptable t e =
      let a = acceptable-says s at t e in
      let head = a.chain.head in
      rw (le-leb (at + least_head) (length s) (omega (arith, head.there, width-least (form_at s at))), a.mark, le-leb (kind_at s at) 1 head.kind, le-leb (overload_at s at) 1 head.overload)

  pub unlike_not : (t : Table) → starts_like s at ≡ false → acceptable s at t ≡ false
  unlike_not t f = by (acceptable s at t) refl
    where
      by : (b : Bool) → acceptable s at t ≡ b → b ≡ false
      by true e = absurd (true-not-false (like_acceptable t e) f)
      by false e = refl

-- bytes none of which is a `C`: none yet, one more, and a stretch more
pub no_c-none : (s : List ℕ) (from : ℕ) → NoC s from from
no_c-none s from j a b e = omega (arith, a, b)

pub no_c-more : (s : List ℕ) (from to : ℕ) → NoC s from to → (get_or s to 0 ≡ 67 → ⊥) → NoC s from (to + 1)
no_c-more s from to h n j a b e = ⊎_elim (λ l. h j a l e) (λ l. let f : j ≡ to = omega arith in n (subst (λ k. get_or s k 0 ≡ 67) f e)) (lt_or_le j to)

pub no_c-on : (s : List ℕ) (from mid to : ℕ) → NoC s from mid → NoC s mid to → NoC s from to
no_c-on s from mid to h k j a b e = ⊎_elim (λ l. h j a l e) (λ l. k j l b e) (lt_or_le j mid)

-- the first task's mark of an acceptable record
pub first-marked : (s : List ℕ) (at : ℕ) (t : Table) → acceptable s at t ≡ true → (first_task s at + 2 ≤ length s) × (mark_of (word 2 s (first_task s at)) ≡ Task)
first-marked s at t e =
    let c = (acceptable-says s at t e).chain in
    let z : first_task s at + 8 * 0 ≡ first_task s at = omega arith in
    let first = subst (TaskRight s) z (c.tasks 0 c.head.tasks.0) in
    (omega (arith, first.there), first.mark)
