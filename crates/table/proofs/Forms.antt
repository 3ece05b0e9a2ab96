-- Laws of the two forms of a chain record, in the code's shape. Assumes nothing.
use Prim.Native.Nat.{ℕ, max, ◌+◌, ◌*◌, ◌-◌, ◌<◌, ◌≤◌}
use native.Mathlib.Omega.{arith}
use mathlib.Core.Path.{◌≡◌, refl}
use mathlib.Core.List.{List, [], ◌∷◌}
use mathlib.Core.Bool.{Bool, true, false, ◌&&◌}
use mathlib.Core.Logic.{◌⊎◌, inl, inr, ⊎_elim}
use lib.ListN.{length, get_or, get_or-eq_default}
use lib.Dec.{eqb}
use borrow.Author.Tests.{eq-eqb, ne_eqb, le-ltb}
use Rattle.search.specs.Choice.{◌when◌else◌}
use Rattle.search.proofs.Choice.{when_cases}
use Rattle.table.specs.Limits.{max_largest}
use Rattle.table.specs.Bytes.{word, Bytes}
use Rattle.table.specs.Record.{largest_form, form_at, flag_at, gap_place, gap_width, known, listed_place, listed_at, tasks_place, list_place, known_at, largest_place, spaced}
use Rattle.table.specs.Fault.{outside, short_fault, largest_fault}
use Rattle.std.specs.declared.result.Result.TheVariants.{Ok, Err}
use Rattle.table.specs.declared.refusal.Refusal.TheVariants.{BadLargest}

-- the form with a gap has four bytes for it, the other one for its flag
pub wide : (form : ℕ) → (form ≡ largest_form → ⊥) → gap_width form ≡ 4
unfolding gap_width ◌when◌else◌
wide form h = rw (ne_eqb _ _ h)

pub narrow : (form : ℕ) → form ≡ largest_form → gap_width form ≡ 1
unfolding gap_width ◌when◌else◌
narrow form e = rw (eq-eqb _ _ e)

-- and no largest distances
pub known-lacks : (form flag listed : ℕ) → (form ≡ largest_form → ⊥) → known form flag listed ≡ 0
unfolding known ◌when◌else◌
known-lacks form flag listed h = rw (ne_eqb _ _ h)

-- the two counts stand before the list
module _ (s : List ℕ) (list at : ℕ) (e : list ≡ list_place s at) where
  pub listed-before : list - 2 ≡ listed_place s at
  listed-before = omega (arith, e)

  pub tasks-before : list - 1 ≡ tasks_place s at
  tasks-before = omega (arith, e)

-- fewer than two bytes are no mark of a chain
pub no_mark : (s : List ℕ) → Bytes s → length s < 2 → word 2 s 0 < 256
unfolding word
no_mark s bytes h = let e : ◌≡◌ {A = ℕ} (get_or s 1 0) 0 = get_or-eq_default s 0 {n = 1} (omega arith) in omega (arith, e, bytes 0)

-- its flag alone tells how many largest distances a record has, since the other form's is 0
flag-yes : (b : Bool) (x listed : ℕ) → (x when b else 0) ≡ 1 → (listed when b && eqb (x when b else 0) 1 else 0) ≡ listed
unfolding ◌when◌else◌
flag-yes true x listed e = rw (eq-eqb _ _ e)
flag-yes false x listed e = absurd (omega (arith, e))

flag_no : (b : Bool) (x listed : ℕ) → ((x when b else 0) ≡ 1 → ⊥) → (listed when b && eqb (x when b else 0) 1 else 0) ≡ 0
unfolding ◌when◌else◌
flag_no true x listed h = rw (ne_eqb _ _ h)
flag_no false x listed h = refl

module _ (s : List ℕ) (at : ℕ) where
  pub known-yes : flag_at s at ≡ 1 → known_at s at ≡ listed_at s at
  unfolding known flag_at
  known-yes = flag-yes (eqb (form_at s at) largest_form) (get_or s (gap_place at) 0) (listed_at s at)

  pub known_no : (flag_at s at ≡ 1 → ⊥) → known_at s at ≡ 0
  unfolding known flag_at
  known_no = flag_no (eqb (form_at s at) largest_form) (get_or s (gap_place at) 0) (listed_at s at)

-- the form with a gap has no fault of largest distances
flag-none : (s : List ℕ) (at : ℕ) → (form_at s at ≡ largest_form → ⊥) → flag_at s at ≡ 0
unfolding flag_at ◌when◌else◌
flag-none s at h = rw (ne_eqb _ _ h)

pub largest-none : (s : List ℕ) (at : ℕ) → (form_at s at ≡ largest_form → ⊥) → largest_place s at ≤ length s → largest_fault s at ≡ Ok tt
unfolding largest_fault short_fault spaced ◌when◌else◌
largest-none s at h room =
    let fits : largest_place s at + 4 * 0 ≤ length s = omega (arith, room) in
    rw (known-lacks (form_at s at) (flag_at s at) (listed_at s at) h, flag-none s at h, le-ltb _ _ fits)

-- as many as smallest, or none
pub known-cases : (form flag listed : ℕ) → (known form flag listed ≡ listed) ⊎ (known form flag listed ≡ 0)
unfolding known
known-cases form flag listed = when_cases (λ n. (n ≡ listed) ⊎ (n ≡ 0)) (eqb form largest_form && eqb flag 1) (λ e. inl refl) (λ e. inr refl)

-- the largest distances judged, one at a time
module _ (before d : ℕ) (ds : List ℕ) (l : ℕ) (ls : List ℕ) (at : ℕ) where
  pub short-here : outside (max before d) max_largest l ≡ true → short_fault before (d ∷ ds) (l ∷ ls) at ≡ Err (BadLargest, at)
  unfolding short_fault ◌when◌else◌
  short-here e = rw e

  pub short_on : outside (max before d) max_largest l ≡ false → short_fault before (d ∷ ds) (l ∷ ls) at ≡ short_fault l ds ls (at + 4)
  unfolding short_fault ◌when◌else◌
  short_on e = rw e

pub short-end : (before : ℕ) (ds : List ℕ) (at : ℕ) → short_fault before ds [] at ≡ Ok tt
unfolding short_fault
short-end before ds at = refl

-- of the smallest distances only as many count as there are largest
pub short-known : (f : ℕ → ℕ) (n m from at : ℕ) → (n ≡ m) ⊎ (n ≡ 0)
    → short_fault 0 (spaced f 4 n from) (spaced f 4 n at) at ≡ short_fault 0 (spaced f 4 m from) (spaced f 4 n at) at
unfolding spaced short_fault
short-known f n m from at = ⊎_elim (λ e. rw e) (λ e. rw e)
