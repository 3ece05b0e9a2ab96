-- The first six of a list, one more at a time. Assumes nothing.
use Prim.Native.Nat.{ℕ, suc, ◌+◌, ◌-◌, ◌≤◌, ◌<◌}
use mathlib.Core.Path.{◌≡◌, refl, ap, sym, ◌∙◌}
use mathlib.Core.List.{List, [], ◌∷◌, ◌++◌, append_assoc}
use mathlib.Core.Logic.{⊎_elim}
use native.Mathlib.Omega.{arith}
use lib.ListN.{length, get_or, take, set, replicate, length-append, length-take, length-replicate}
use lib.Seq.{take_all, take-append-le, set_at, set_out, get_or-take}
use Rattle.search.proofs.Choice.{lt_or_le}
use Rattle.table.specs.Limits.{max_overloads}
use Rattle.table.specs.Record.{pad}
use Rattle.table.proofs.Goods.{pad-at}
use Rattle.misses.specs.Code.Held.{six}

pub six-length : (l : List ℕ) → length (six l) ≡ max_overloads
six-length l =
    length-append (take max_overloads l) (replicate (max_overloads - length (take max_overloads l)) 0)
    ∙ omega (arith, length-replicate {A = ℕ} (max_overloads - length (take max_overloads l)) 0, length-take max_overloads l)

-- one more: past six it is not kept
pub six-put : (l : List ℕ) (x : ℕ) → six (l ++ (x ∷ [])) ≡ set (six l) (length l) x
six-put l x = ⊎_elim room none (lt_or_le (length l) max_overloads)
  where
    room : length l < max_overloads → six (l ++ (x ∷ [])) ≡ set (six l) (length l) x
    room h =
        let a : take max_overloads (l ++ (x ∷ [])) ≡ l ++ (x ∷ []) = take_all max_overloads (l ++ (x ∷ [])) (omega (arith, length-append l (x ∷ []))) in
        let b : take max_overloads l ≡ l = take_all max_overloads l (omega arith) in
        let e : max_overloads - length l ≡ suc (max_overloads - (length l + 1)) = omega arith in
        rw (a, b, length-append, e, set_at l 0 (replicate (max_overloads - (length l + 1)) 0) x (length l) refl, append_assoc) refl

    none : max_overloads ≤ length l → six (l ++ (x ∷ [])) ≡ set (six l) (length l) x
    none h =
        ap (pad max_overloads) (take-append-le max_overloads l (x ∷ []) h)
        ∙ sym (set_out (six l) (length l) x (omega (arith, six-length l)))

-- each of the first six stands at its place
pub six-at : (l : List ℕ) (i : ℕ) → i < max_overloads → get_or (six l) i 0 ≡ get_or l i 0
six-at l i h = pad-at max_overloads (take max_overloads l) i ∙ get_or-take max_overloads l i 0 h
