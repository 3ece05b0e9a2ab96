-- An array that a loop fills from its first place on. Assumes nothing.
use Prim.Native.Nat.{ℕ, ◌+◌, ◌≤◌, ◌<◌}
use mathlib.Core.Path.{◌≡◌, sym, subst, ◌∙◌}
use mathlib.Core.List.{List}
use native.Mathlib.Omega.{arith}
use borrow.Author.Count.{below_more}
use lib.ListN.{length, get_or, set, replicate, length-set, length-replicate, get_or-replicate}
use lib.Seq.{get_or-set_same, get_or-set_other}
use native.Mathlib.Nat.{ne_of_lt, ne_of_gt}

-- the places below k of `size` hold what P asks for, those from k on 0
pub record Filled (P : ℕ → ℕ → Type 0) (size : ℕ) (l : List ℕ) (k : ℕ) : Type 0 where
  pub inside : k ≤ size
  pub long : length l ≡ size
  pub each : (j : ℕ) → j < k → P j (get_or l j 0)
  pub rest : (j : ℕ) → k ≤ j → j < size → get_or l j 0 ≡ 0

pub filled_none : (P : ℕ → ℕ → Type 0) (size : ℕ) → Filled P size (replicate size 0) 0
filled_none P size = record {
  inside = omega arith;
  long = length-replicate size 0;
  each = λ j h. absurd (omega arith);
  rest = λ j h l. get_or-replicate size j 0 0 l;
}

pub filled_on : (P : ℕ → ℕ → Type 0) (size : ℕ) (l : List ℕ) (k x : ℕ) → Filled P size l k → k < size → P k x → Filled P size (set l k x) (k + 1)
filled_on P size l k x f h p = record {
  inside = omega arith;
  long = length-set l k x ∙ f.long;
  each = below_more (λ j. P j (get_or (set l k x) j 0)) k
      (λ j lt. subst (P j) (sym (get_or-set_other l k j x 0 (ne_of_lt lt))) (f.each j lt))
      (subst (P k) (sym (get_or-set_same l k x 0 (omega (arith, f.long)))) p);
  rest = λ j h1 h2. get_or-set_other l k j x 0 (ne_of_gt (omega arith)) ∙ f.rest j (omega arith) h2;
}
