-- Laws of the lists that a record's bytes make: one step of each recursion, in the code's shape. Assumes nothing.
use Prim.Native.Nat.{ℕ, zero, suc, ◌+◌, ◌*◌, ◌-◌, ◌<◌, ◌≤◌}
use native.Mathlib.Omega.{arith}
use native.Mathlib.Nat.{add-zero, mul-zero, mul-suc}
use native.Mathlib.Numerals.{add-one}
use mathlib.Core.Path.{◌≡◌, refl, ap}
use mathlib.Core.List.{List, [], ◌∷◌, ◌++◌, append_assoc}
use lib.ListN.{length, get_or, set, replicate, length-append}
use lib.Seq.{set_at}
use mathlib.Core.Bool.{true, false}
use borrow.Author.Tests.{lt-ltb, le-ltb}
use Rattle.search.specs.Choice.{◌when◌else◌}
use Rattle.table.specs.Limits.{max_distance}
use Rattle.table.specs.Fault.{◌then◌, outside, fall_fault, gap_short, task_fault, tasks_fault}
use Rattle.table.specs.Record.{spaced, pad}
use Rattle.std.specs.declared.result.Result.TheVariants.{Ok, Err}
use Rattle.table.specs.declared.refusal.Refusal.TheVariants.{BadDistance}

module _ (f : ℕ → ℕ) (step : ℕ) where
  next : (at i : ℕ) → at + step * i + step ≡ at + step * (i + 1)
  next at i = rw add-one (omega (arith, mul-suc step i))

  -- what is left after i, of n
  pub spaced-on : (n i at : ℕ) → i < n
      → spaced f step (n - i) (at + step * i) ≡ f (at + step * i) ∷ spaced f step (n - (i + 1)) (at + step * (i + 1))
  unfolding spaced
  spaced-on n i at h =
      let e : n - i ≡ suc (n - (i + 1)) = omega arith in
      rw (e, ← next at i)

  pub spaced-end : (n i at : ℕ) → n ≤ i → spaced f step (n - i) at ≡ []
  unfolding spaced
  spaced-end n i at h = let e : n - i ≡ 0 = omega arith in rw e

  pub length-spaced : (n at : ℕ) → length (spaced f step n at) ≡ n
  unfolding spaced
  length-spaced zero at = refl
  length-spaced (suc n) at = ap suc (length-spaced n (at + step))

  pub spaced-at : (n i at : ℕ) → i < n → get_or (spaced f step n at) i 0 ≡ f (at + step * i)
  unfolding spaced
  spaced-at zero i at h = absurd (omega arith)
  spaced-at (suc n) zero at h = simp (mul-zero, add-zero)
  spaced-at (suc n) (suc i) at h =
      let e : at + step + step * i ≡ at + step * suc i = omega (arith, mul-suc step i) in
      rw (← e) (spaced-at n i (at + step) (omega arith))

  -- one more at the end
  spaced-more : (n at : ℕ) → spaced f step (suc n) at ≡ spaced f step n at ++ (f (at + step * n) ∷ [])
  unfolding spaced
  spaced-more zero at = simp (mul-zero, add-zero)
  spaced-more (suc n) at =
      let e : at + step + step * n ≡ at + step * suc n = omega (arith, mul-suc step n) in
      rw (← e) (ap (λ (l : List ℕ). f at ∷ l) (spaced-more n (at + step)))

  -- a store of the next number into what is filled up with 0
  pub pad-on : (m i at : ℕ) → i < m
      → set (pad m (spaced f step i at)) i (f (at + step * i)) ≡ pad m (spaced f step (i + 1) at)
  pad-on m i at h =
      let e : m - i ≡ suc (m - (i + 1)) = omega arith in
      rw (add-one, spaced-more, length-append, length-spaced, e, set_at (spaced f step i at) 0 (replicate (m - (i + 1)) 0) (f (at + step * i)) i (length-spaced i at), append_assoc)
      refl

  -- from nothing
  pub pad-none : (m at : ℕ) → replicate m 0 ≡ pad m (spaced f step 0 at)
  unfolding spaced
  pad-none m at = let e : m - 0 ≡ m = omega arith in rw e

  -- from the first on
  pub spaced-start : (n at : ℕ) → spaced f step (n - 0) (at + step * 0) ≡ spaced f step n at
  spaced-start n at =
      let e : n - 0 ≡ n = omega arith in
      let g : at + step * 0 ≡ at = omega arith in
      rw (e, g)

  pub spaced-last : (n at : ℕ) → 0 < n → get_or (spaced f step n at) (length (spaced f step n at) - 1) 0 ≡ f (at + step * (n - 1))
  spaced-last n at h = rw (length-spaced n at) (spaced-at n (n - 1) at (omega arith))

-- the list judged, one distance at a time
module _ (before d : ℕ) (ds : List ℕ) (at : ℕ) where
  pub fall_here : outside before max_distance d ≡ true → fall_fault before (d ∷ ds) at ≡ Err (BadDistance, at)
  unfolding fall_fault ◌when◌else◌
  fall_here e = rw e

  pub fall_on : outside before max_distance d ≡ false → fall_fault before (d ∷ ds) at ≡ fall_fault d ds (at + 4)
  unfolding fall_fault ◌when◌else◌
  fall_on e = rw e

module _ (gap n d : ℕ) (ds : List ℕ) where
  pub gap-yes : gap * n < d → gap_short gap n (d ∷ ds) ≡ true
  unfolding gap_short
  gap-yes h = rw (lt-ltb _ _ h)

  pub gap_no : d ≤ gap * n → gap_short gap n (d ∷ ds) ≡ gap_short gap (n + 1) ds
  unfolding gap_short
  gap_no h = rw (le-ltb _ _ h)

pub fall_end : (before at : ℕ) → fall_fault before [] at ≡ Ok tt
unfolding fall_fault
fall_end before at = refl

pub gap-end : (gap n : ℕ) → gap_short gap n [] ≡ false
unfolding gap_short
gap-end gap n = refl

-- the tasks judged, one at a time
pub tasks-on : (s : List ℕ) (n i at : ℕ) → i < n
    → tasks_fault s (n - i) (at + 8 * i) ≡ (task_fault s (at + 8 * i) then tasks_fault s (n - (i + 1)) (at + 8 * (i + 1)))
unfolding tasks_fault
tasks-on s n i at h =
    let e : n - i ≡ suc (n - (i + 1)) = omega arith in
    let f : at + 8 * i + 8 ≡ at + 8 * (i + 1) = omega arith in
    rw (e, ← f)

pub tasks-end : (s : List ℕ) (n i at : ℕ) → n ≤ i → tasks_fault s (n - i) at ≡ Ok tt
unfolding tasks_fault
tasks-end s n i at h = let e : n - i ≡ 0 = omega arith in rw e
