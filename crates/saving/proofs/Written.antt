-- Laws of `written`: the two writes of a save. Assumes nothing.
use Prim.Native.Nat.{ℕ, max, ◌+◌, ◌-◌, ◌<◌, ◌≤◌}
use native.Mathlib.Omega.{arith}
use mathlib.Core.Path.{◌≡◌, refl}
use mathlib.Core.List.{List, ◌++◌, append_assoc, append-nil}
use lib.ListN.{length, take, drop, replicate, length-take, length-drop, take-append-drop}
use lib.Seq.{length-take-le, take_at, drop_at, drop-drop}
use Rattle.slices.specs.Slices.{splice}
use Rattle.saving.specs.Save.{written}
use Rattle.slices.proofs.Splices.{splice-length, splice-first}

pub written_same : (buffer : List ℕ) (used : ℕ) → used ≤ length buffer → written buffer used (take used buffer) ≡ buffer
unfolding written
written_same buffer used h =
    let l = length-take-le used buffer h in
    let z : used - used ≡ 0 = omega arith in
    let m : max used used ≡ used = omega arith in
    rw (l, z, m, append-nil) (take-append-drop used buffer)

-- the result written first is all where it is no shorter; else what is left of the former table is cleared
pub written-longer : (buffer : List ℕ) (used : ℕ) (result : List ℕ) → used ≤ length result → splice buffer 0 (length result) result ≡ written buffer used result
unfolding written
written-longer buffer used result h =
    let e : used - length result ≡ 0 = omega arith in
    let f : max used (length result) ≡ length result = omega arith in
    rw (e, f, append-nil) (splice-first buffer result)

pub written-shorter : (buffer : List ℕ) (used : ℕ) (result b zeros : List ℕ) → length result < used → used ≤ length buffer
    → b ≡ splice buffer 0 (length result) result → zeros ≡ replicate (length (take (used - length result) (drop (length result) b))) 0
    → take (length result) b ++ (zeros ++ drop (used - length result) (drop (length result) b)) ≡ written buffer used result
unfolding written
written-shorter buffer used result b zeros h room e z =
    let n = length result in
    let l : length (take (used - n) (drop n b)) ≡ used - n = rw (length-take, length-drop, e, splice-length buffer 0 n result (omega arith)) (omega arith) in
    let u : n + (used - n) ≡ used = omega arith in
    let m : max used n ≡ used = omega arith in
    rw (z, l, e, splice-first buffer result, take_at result (drop n buffer) n refl, drop_at result (drop n buffer) n refl, drop-drop, u, m, ← append_assoc)
