-- The lists agree at each of the first i places, and so far on as their next numbers are the same.
use Prim.Native.Nat.{ℕ, ◌+◌, ◌<◌, ◌-◌}
use mathlib.Core.Path.{◌≡◌, sym, subst, ◌∙◌}
use mathlib.Core.List.{List}
use mathlib.Core.Logic.{⊎_elim}
use lib.ListN.{get_or}
use native.Mathlib.Omega.{arith}
use Rattle.search.proofs.Choice.{lt_or_le}
use Rattle.table.specs.Bytes.{Bytes, word}
use Rattle.table.proofs.Words.{word_same}
use Rattle.slices.proofs.agree.Goals as goal

-- the same number of n bytes more
more : (n : ℕ) (a b : List ℕ) (i : ℕ) → Bytes a → Bytes b → word n a i ≡ word n b i
    → ((j : ℕ) → j < i → get_or a j 0 ≡ get_or b j 0) → (j : ℕ) → j < i + n → get_or a j 0 ≡ get_or b j 0
more n a b i of_a of_b same old j h = ⊎_elim (old j)
    (λ g. let e : i + (j - i) ≡ j = omega arith in
    subst (λ m. get_or a m 0 ≡ get_or b m 0) e (word_same n a b i i of_a of_b same (j - i) (omega (arith, h, g))))
    (lt_or_le j i)

pub loop-i-preserved : goal.loop-i-preserved
loop-i-preserved c =
    let same = sym c.u64_at.ensures ∙ c.if-u64_at.true ∙ c.u64_at-in-loop-i.ensures in
    (omega arith, more 8 c.args.a.now c.args.b.now c.loop-i.i (λ j. (c.type_inv.a j).fits) (λ j. (c.type_inv.b j).fits) same c.loop-i.invariant.1)

pub returns-then-u32_at : goal.returns-then-u32_at
returns-then-u32_at c =
    let same = sym c.u32_at.ensures ∙ c.if-u32_at.true ∙ c.u32_at-then-a-i-ge4.ensures in
    (omega arith, more 4 c.args.a.now c.args.b.now c.loop-i.i (λ j. (c.type_inv.a j).fits) (λ j. (c.type_inv.b j).fits) same c.loop-i.invariant.1)
