-- Byte by byte.
use Prim.Native.Nat.{ℕ, ◌+◌}
use native.Mathlib.Omega.{arith}
use mathlib.Core.Path.{◌≡◌, subst}
use mathlib.Core.Bool.{◌||◌}
use mathlib.Core.List.{List}
use lib.Dec.{eqb}
use lib.ListN.{get_or}
use borrow.Author.Tests.{eqb-false}
use Rattle.table.proofs.Firsts.{none_or}
use Rattle.salvaging.specs.Code.Walk.{NoC}
use Rattle.salvaging.proofs.Starts.{no_c-none, no_c-more}
use Rattle.salvaging.proofs.walk.has_c.Goals as goal

-- four bytes, one after the other
four : (s : List ℕ) (at : ℕ) → (get_or s at 0 ≡ 67 → ⊥) → (get_or s (at + 1) 0 ≡ 67 → ⊥) → (get_or s (at + 2) 0 ≡ 67 → ⊥) → (get_or s (at + 3) 0 ≡ 67 → ⊥) → NoC s at (at + 4)
four s at a b c d =
    let e : at + 1 + 1 ≡ at + 2 = omega arith in
    let f : at + 2 + 1 ≡ at + 3 = omega arith in
    let g : at + 3 + 1 ≡ at + 4 = omega arith in
    let two = subst (NoC s at) e (no_c-more s at (at + 1) (no_c-more s at at (no_c-none s at) a) b) in
    let three = subst (NoC s at) f (no_c-more s at (at + 2) two c) in
    subst (NoC s at) g (no_c-more s at (at + 3) three d)

pub returns : goal.returns
returns c e = let s = c.args.s.now in
    let at = c.args.at in
    let last = none_or (eqb (get_or s at 0) 67 || eqb (get_or s (at + 1) 0) 67 || eqb (get_or s (at + 2) 0) 67) (eqb (get_or s (at + 3) 0) 67) e in
    let third = none_or (eqb (get_or s at 0) 67 || eqb (get_or s (at + 1) 0) 67) (eqb (get_or s (at + 2) 0) 67) last.0 in
    let two = none_or (eqb (get_or s at 0) 67) (eqb (get_or s (at + 1) 0) 67) third.0 in
    four s at (eqb-false _ _ two.0) (eqb-false _ _ two.1) (eqb-false _ _ third.1) (eqb-false _ _ last.1)
