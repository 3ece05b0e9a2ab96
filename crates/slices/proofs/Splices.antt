-- Laws of `splice`: lengths, and bytes put one piece after the other. Assumes nothing.
use Prim.Native.Nat.{ℕ, ◌+◌, ◌-◌, ◌≤◌}
use native.Mathlib.Omega.{arith}
use mathlib.Core.Path.{◌≡◌, refl, ap, sym, ◌∙◌}
use mathlib.Core.List.{List, [], ◌++◌}
use lib.ListN.{length, take, drop, length-append, length-take, length-drop, take-append-drop}
use lib.Seq.{take_at, take-add}
use Rattle.slices.specs.Slices.{splice}
use Rattle.slices.specs.Code.Begins.{Begins}

pub splice-length : (s : List ℕ) (at n : ℕ) (new : List ℕ) → at + n ≤ length s → length (splice s at n new) ≡ length s - n + length new
splice-length s at n new h = simp (length-append, length-take, length-drop) (omega arith)

-- as many bytes as are put give way
pub put-length : (s : List ℕ) (at : ℕ) (x : List ℕ) → at + length x ≤ length s → length (splice s at (length x) x) ≡ length s
put-length s at x h = splice-length s at (length x) x h ∙ omega arith

-- bytes in their own place change nothing
pub splice-same : (s : List ℕ) (at n : ℕ) → splice s at n (take n (drop at s)) ≡ s
splice-same s at n = rw (← take-add at n s) (take-append-drop (at + n) s)

-- bytes put from the first on
pub splice-first : (buffer result : List ℕ) → splice buffer 0 (length result) result ≡ result ++ drop (length result) buffer
splice-first buffer result = let e : 0 + length result ≡ length result = omega arith in rw e

-- any bytes begin with none
pub begins-none : (out : List ℕ) → Begins out []
begins-none out = record { first = refl }

-- more is put after what is there
pub begins-put : (out l x : List ℕ) (at : ℕ) → Begins out l → length l ≡ at → Begins (splice out at (length x) x) (l ++ x)
begins-put out l x at b e =
    let f : take at out ≡ l = ap (λ (n : ℕ). take n out) (sym e) ∙ b.first in
    record { first = rw f (take_at (l ++ x) (drop (at + length x) out) (length (l ++ x)) refl) }

-- there is room for what they begin with
pub begins-length : (out l : List ℕ) → Begins out l → length l ≤ length out
begins-length out l b = omega (arith, ap length b.first, length-take (length l) out)
