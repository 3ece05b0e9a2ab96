-- Laws of the places and of what lies between them: one place more, and the end. Assumes nothing.
use Prim.Native.Nat.{ℕ, zero, suc, ◌+◌, ◌*◌, ◌-◌, ◌<◌, ◌≤◌}
use native.Mathlib.Omega.{arith}
use mathlib.Core.Path.{◌≡◌, refl, ap, subst, ◌∙◌}
use mathlib.Core.List.{List, [], ◌∷◌, ◌++◌, map, flatten, map-append}
use lib.ListN.{length, get_or, drop, length-append}
use lib.Dec.{ltb}
use lib.Seq.{drop-length}
use borrow.Author.Tests.{lt-ltb, le-ltb}
use Rattle.search.specs.Choice.{◌when◌else◌}
use Rattle.search.proofs.Choice.{when_yes, when_no, when_cases}
use Rattle.search.proofs.Rest.{rest}
use Rattle.table.specs.Limits.{max_chains}
use Rattle.table.specs.Bytes.{bytes_of}
use Rattle.table.specs.Record.{length_at}
use Rattle.table.proofs.Words.{length-bytes}
use Rattle.slices.proofs.Cuts.{cut-long}
use Rattle.slices.proofs.Parts.{flatten_append}
use Rattle.salvaging.specs.Skipped.{Stretch, between, skipped_from}
use Rattle.salvaging.specs.Salvage.{record_at, stretch_bytes}
use Rattle.salvaging.specs.Code.Walk.{InOrder}

-- the bytes of stretches
abbrev pub list_of : List Stretch → List ℕ
list_of xs = flatten (map stretch_bytes xs)

pub list_append : (xs ys : List Stretch) → list_of (xs ++ ys) ≡ list_of xs ++ list_of ys
list_append xs ys = ap flatten (map-append stretch_bytes xs ys) ∙ flatten_append (map stretch_bytes xs) (map stretch_bytes ys)

pub list_long : (xs : List Stretch) → length (list_of xs) ≡ 8 * length xs
unfolding flatten
list_long [] = refl
list_long (x ∷ xs) = omega (arith, length-append (stretch_bytes x) (list_of xs), length-append (bytes_of 4 x.offset) (bytes_of 4 x.size), length-bytes 4 x.offset, length-bytes 4 x.size, list_long xs)

-- between two places
pub between-some : (at to : ℕ) → at < to → between at to ≡ record { offset = at; size = to - at } ∷ []
unfolding between
between-some at to h = when_yes _ _ (lt-ltb _ _ h)

pub between_none : (at to : ℕ) → to ≤ at → between at to ≡ []
unfolding between
between_none at to h = when_no _ _ (le-ltb _ _ h)

pub between-long : (at to : ℕ) → length (between at to) ≡ (1 when ltb at to else 0)
unfolding between ◌when◌else◌
between-long at to = when_cases (λ n. length (between at to) ≡ n) (ltb at to) (λ e. ap (λ (l : List Stretch). length l) (when_yes _ _ e)) (λ e. ap (λ (l : List Stretch). length l) (when_no _ _ e))

pub between-few : (at to : ℕ) → length (between at to) ≤ 1
unfolding between
between-few at to = when_cases (λ (l : List Stretch). length l ≤ 1) (ltb at to) (λ e. omega arith) (λ e. omega arith)

-- there are no more stretches than records that could be kept
pub skipped-few : (left : ℕ) (s : List ℕ) (at : ℕ) (places : List ℕ) → length (skipped_from left s at places) ≤ left
unfolding skipped_from
skipped-few zero s at places = omega arith
skipped-few (suc left) s at [] = omega (arith, between-few at (length s))
skipped-few (suc left) s at (p ∷ places) =
    let more = skipped_from left s (p + length_at s p) places in
    omega (arith, between-few at p, length-append (between at p) more, skipped-few left s (p + length_at s p) places)

-- records in order lie within the bytes
pub order-within : (s : List ℕ) (at : ℕ) (places : List ℕ) → InOrder s at places → at ≤ length s
unfolding InOrder
order-within s at [] h = h
order-within s at (p ∷ places) h = omega (arith, h.0, order-within s (p + length_at s p) places h.1)

-- one place more
module _ (s places : List ℕ) (i at : ℕ) (one : i < length places) where
  abbrev here : ℕ
  here = get_or places i 0

  pub order-on : InOrder s at (drop i places) → (at ≤ here) × InOrder s (here + length_at s here) (drop (i + 1) places)
  unfolding InOrder
  order-on h = subst (InOrder s at) (rest places i 0 one) h

  pub skipped-on : i < max_chains
      → skipped_from (max_chains - i) s at (drop i places) ≡ between at here ++ skipped_from (max_chains - (i + 1)) s (here + length_at s here) (drop (i + 1) places)
  unfolding skipped_from
  skipped-on few = let e : max_chains - i ≡ suc (max_chains - (i + 1)) = omega arith in rw (e, rest places i 0 one)

  pub records-on : flatten (map (record_at s) (drop i places)) ≡ record_at s here ++ flatten (map (record_at s) (drop (i + 1) places))
  unfolding flatten
  records-on = rw (rest places i 0 one)

-- after the last place
module _ (s places : List ℕ) (i at : ℕ) (all : i ≡ length places) where
  none_left : drop i places ≡ []
  none_left = ap (λ n. drop n places) all ∙ drop-length places

  pub skipped-end : length places < max_chains → skipped_from (max_chains - i) s at (drop i places) ≡ between at (length s)
  unfolding skipped_from
  skipped-end few = let e : max_chains - i ≡ suc (max_chains - (i + 1)) = omega arith in rw (e, none_left)

  pub skipped-full : max_chains ≤ length places → skipped_from (max_chains - i) s at (drop i places) ≡ []
  unfolding skipped_from
  skipped-full few = let e : max_chains - i ≡ 0 = omega arith in rw e

  pub records-end : flatten (map (record_at s) (drop i places)) ≡ []
  unfolding flatten
  records-end = rw none_left

-- so records in order have no more bytes than there are
pub records-within : (s : List ℕ) (at : ℕ) (places : List ℕ) → InOrder s at places → at + length (flatten (map (record_at s) places)) ≤ length s
unfolding InOrder flatten
records-within s at [] h = omega arith
records-within s at (p ∷ places) h =
    let there = order-within s (p + length_at s p) places h.1 in
    omega (arith, h.0, cut-long s p there, records-within s (p + length_at s p) places h.1, length-append (record_at s p) (flatten (map (record_at s) places)))
