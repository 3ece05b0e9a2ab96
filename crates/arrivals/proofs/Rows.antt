-- What a row and a record that stands give of their distances, smallest and largest. Assumes nothing.
use Prim.Native.Nat.{ℕ, ◌+◌, ◌*◌, ◌-◌, ◌<◌, ◌≤◌}
use mathlib.Core.Path.{◌≡◌, refl, ap, ◌∙◌}
use mathlib.Core.List.{List}
use mathlib.Core.Logic.{◌⊎◌, ⊎_elim}
use native.Mathlib.Omega.{arith}
use lib.ListN.{length}
use borrow.Author.Tests.{eq-eqb, ne_eqb, eqb-true}
use native.Mathlib.Nat.{mul-le-mul, mul-le-mul_right}
use Rattle.search.specs.Choice.{◌when◌else◌}
use Rattle.search.proofs.Choice.{when_cases, when_yes, when_no}
use lib.Dec.{eqb}
use mathlib.Core.Bool.{Bool, true, false, ◌&&◌}
use Rattle.table.specs.Limits.{max_largest, max_run}
use Rattle.arrivals.specs.Arrivals.{as_listed, repeated, largest, unknown}
use Rattle.arrivals.proofs.Lists.{Rising, repeated-after}
use Rattle.arrivals.proofs.Repeating.{repeated-rises, repeated-bounded}
use Rattle.table.specs.Bytes.{word}
use Rattle.table.specs.Record.{listed_at, row_at, largests}
use Rattle.table.specs.Code.Good.{GoodRow}
use Rattle.table.specs.Code.Listed.{listed_from, distances_from, Lists}
use Rattle.table.specs.Code.Taken.{Stands}
use Rattle.table.specs.declared.Row.{Row}
use Rattle.table.proofs.Lists.{length-spaced}
use Rattle.table.proofs.Largests.{largests-long}

-- a list where it stands has as many distances as it says, and one at least; so has a record's
pub lists_length : {s : List ℕ} {list : ℕ} → Lists s list → length (distances_from s list) ≡ listed_from s list
lists_length {s} {list} here = length-spaced (word 4 s) 4 (listed_from s list) list

-- its number stands before it
pub lists-inside : {s : List ℕ} {list : ℕ} → Lists s list → (2 ≤ list) × (list ≤ length s)
lists-inside here = (here.after, omega (arith, here.there))

pub lists-some : {s : List ℕ} {list : ℕ} → Lists s list → 0 < listed_from s list
lists-some here = omega (arith, lists_length here, here.good.some)

pub stands-some : {s : List ℕ} {at : ℕ} → Stands s at → 0 < listed_at s at
unfolding row_at
stands-some here = omega (arith, here.good.listed, here.good.list.some)

-- its largest distances rise, where it has any
pub largests-rising : {r : Row} → GoodRow r → r.flag ≡ 1 → Rising max_largest (largests r)
largests-rising good e = record { some = omega (arith, largests-long good e, good.listed, good.list.some); rises = good.largest.rises; near = good.largest.near }

-- the largest distance in the code's shape: by the gap, or by whole lists and steps into the next
pub largest-by-gap : (r : Row) (k : ℕ) → (r.flag ≡ 1 → ⊥) → largest r k ≡ (k - 1) * r.gap
unfolding largest
largest-by-gap r k h = when_no _ _ (ne_eqb r.flag 1 h)

pub largest-by-list : (r : Row) (k : ℕ) → r.flag ≡ 1 → largest r k ≡ repeated (largests r) k
unfolding largest
largest-by-list r k e = when_yes _ _ (eq-eqb r.flag 1 e)

pub largest-by-lists : {r : Row} → GoodRow r → r.flag ≡ 1 → (k lists rest : ℕ) → 1 ≤ k → lists * length (largests r) + rest ≡ k - 1 → rest < length (largests r)
    → largest r k ≡ lists * as_listed (largests r) (length (largests r)) + as_listed (largests r) rest
largest-by-lists {r} good e k lists rest some whole less =
    largest-by-list r k e ∙ ap (repeated (largests r)) (omega (arith, whole, some)) ∙ repeated-after (largests-rising good e) lists rest (omega (arith, less))

-- the largest distance never falls, and is bounded
pub largest-mono : {r : Row} → GoodRow r → (k long : ℕ) → k ≤ long → largest r k ≤ largest r long
unfolding largest ◌when◌else◌
largest-mono {r} good k long h = go (eqb r.flag 1) refl
  where
    go : (b : Bool) → eqb r.flag 1 ≡ b → (repeated (largests r) k when b else (k - 1) * r.gap) ≤ (repeated (largests r) long when b else (long - 1) * r.gap)
    go true e = repeated-rises (largests-rising good (eqb-true _ _ e)) k long h
    go false e = let less : k - 1 ≤ long - 1 = omega arith in omega (arith, mul-le-mul_right r.gap less)

pub largest-near : {r : Row} → GoodRow r → (k : ℕ) → k ≤ max_run → largest r k ≤ max_run * max_largest
unfolding largest
largest-near {r} good k h =
    when_cases (λ n. n ≤ max_run * max_largest) (eqb r.flag 1)
    (λ e. omega (arith, repeated-bounded (largests-rising good (eqb-true _ _ e)) k))
    (λ e. let l : k - 1 ≤ max_run = omega arith in let g : r.gap ≤ max_largest = omega (arith, good.gap_max) in mul-le-mul l g)

-- it is unknown exactly where there is neither a gap nor a flag
pub unknown-yes : (r : Row) → r.gap ≡ 0 → r.flag ≡ 0 → unknown r ≡ true
unfolding unknown
unknown-yes r g f = rw (eq-eqb _ _ g, eq-eqb _ _ f)

no_both : (b : Bool) → (b && false) ≡ false
no_both true = refl
no_both false = refl

pub unknown_no : (r : Row) → (1 ≤ r.gap) ⊎ (1 ≤ r.flag) → unknown r ≡ false
unfolding unknown
unknown_no r h = ⊎_elim (λ g. rw (ne_eqb r.gap 0 (λ z. omega (arith, g, z)))) (λ g. rw (ne_eqb r.flag 0 (λ z. omega (arith, g, z))) (no_both (eqb r.gap 0))) h
