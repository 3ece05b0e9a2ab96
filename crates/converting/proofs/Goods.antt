-- A good row in the other form: it is good, and goes back to what it was. Assumes nothing.
use Prim.Native.Nat.{ℕ, ◌+◌, ◌*◌, ◌-◌, ◌<◌, ◌≤◌}
use native.Mathlib.Omega.{arith}
use native.Mathlib.Nat.{mul-le-mul}
use mathlib.Core.Path.{◌≡◌, refl, ap, ap₂, sym, subst, ◌∙◌}
use mathlib.Core.Bool.{true}
use mathlib.Core.List.{List, []}
use mathlib.Core.Logic.{◌⊎◌, inl, inr, ⊎_elim}
use lib.ListN.{length, get_or, replicate}
use lib.Seq.{ext_get_or, take_at}
use lib.Dec.{eqb}
use borrow.Author.Tests.{eq-eqb, ne_eqb}
use Rattle.search.specs.Choice.{◌when◌else◌}
use Rattle.search.proofs.Choice.{when_cases, when_yes, when_no, true-not-false, lt_or_le}
use Rattle.table.specs.Limits.{max_distances, max_gap}
use Rattle.table.specs.Record.{gap_form, largest_form, known, pad, distances, known_of, largests}
use Rattle.table.specs.Code.Good.{GoodLargests, GoodRow}
use Rattle.table.specs.declared.Row.{Row}
use Rattle.table.proofs.Goods.{pad-at}
use Rattle.table.proofs.Widths.{known-most}
use Rattle.table.proofs.Largests.{largests-at, largests-long}
use Rattle.slices.proofs.Sameness.{same-yes, same_true}
use Rattle.writing.proofs.Typed.{pad-long, listed-few}
use Rattle.converting.specs.Forms.{multiples, in_form, with_largest, first_largest, with_gap, fits_gap}
use Rattle.converting.proofs.Multiples.{multiples-long, multiple-at, multiple-past, multiple-none}
use Rattle.converting.proofs.Gaps.{fits-unknown, fits-wide, fits-multiples, multiples-yes, multiples-each}

module _ {r : Row} (good : GoodRow r) where
  -- it lists a distance, and its flag is 0 or 1
  some : 0 < r.listed
  some = omega (arith, good.listed, good.list.some)

  flag-cases : (r.flag ≡ 0) ⊎ (r.flag ≡ 1)
  flag-cases = ⊎_elim (λ h. inl (omega arith)) (λ h. inr (omega (arith, good.flag))) (lt_or_le r.flag 1)

  -- with flag 0 every largest place is 0
  pub largest-none : r.flag ≡ 0 → (j : ℕ) → get_or r.largest j 0 ≡ 0
  unfolding known ◌when◌else◌
  largest-none e j =
      let in_form_lem : (form : ℕ) → r.form ≡ form → known_of r ≡ known form 0 r.listed = λ form f. ap₂ (λ x flag. known x flag r.listed) f e in
      let n : known_of r ≡ 0 = ⊎_elim (in_form_lem gap_form) (in_form_lem largest_form) good.form in
      good.largest_past j (omega (arith, n))

-- what it means that a row can be said with a gap
pub fits-says : {r : Row} → GoodRow r → r.form ≡ largest_form → fits_gap r ≡ true
    → (r.flag ≡ 0) ⊎ ((first_largest r ≤ max_gap) × ((j : ℕ) → j < r.listed → get_or r.largest j 0 ≡ first_largest r * (j + 1)))
fits-says {r} good form e = ⊎_elim inl
    (λ f. let set : r.flag ≡ 0 → ⊥ = λ z. omega (arith, z, f) in
    ⊎_elim (λ h. absurd (true-not-false e (fits-wide r set h)))
    (λ h. inr (h, multiples-each good f (same_true (largests r) (multiples (first_largest r) r.listed) (sym (fits-multiples r set h) ∙ e)))) (lt_or_le max_gap (first_largest r))) (flag-cases good)

pub fits-given : {r : Row} → GoodRow r → r.form ≡ largest_form
    → (r.flag ≡ 0) ⊎ ((g : ℕ) × (g ≤ max_gap) × ((j : ℕ) → j < r.listed → get_or r.largest j 0 ≡ g * (j + 1))) → fits_gap r ≡ true
fits-given {r} good form h = ⊎_elim (fits-unknown r) (λ f. ⊎_elim (fits-unknown r)
    (λ s. let g : first_largest r ≡ s.0 = omega (arith, s.2 0 (some good)) in
    fits-multiples r (λ z. omega (arith, z, f)) (omega (arith, g, s.1))
    ∙ same-yes (largests r) (multiples (first_largest r) r.listed) (multiples-yes good f (λ j l. s.2 j l ∙ ap (λ n. n * (j + 1)) (sym g)))) h) (flag-cases good)

-- the places of a gap's multiples
pub place_at : (r : Row) (j : ℕ) → j < r.listed → get_or (with_largest r).largest j 0 ≡ r.gap * (j + 1)
place_at r j h = pad-at max_distances (multiples r.gap r.listed) j ∙ multiple-at r.gap r.listed j h

-- no largest distance is good beside any smallest
none-good : (ds : List ℕ) → GoodLargests ds []
none-good ds = record { rises = λ j h. absurd (omega (arith, h)); near = λ j. omega arith; above = λ j h. absurd (omega (arith, h)) }

-- the largest distances that a gap becomes: none for gap 0, else its multiples
module _ {r : Row} (good : GoodRow r) where
  abbrev made : List ℕ
  made = multiples r.gap r.listed

  module _ (none : r.gap ≡ 0) where
    known-none : known_of (with_largest r) ≡ 0
    unfolding known ◌when◌else◌
    known-none = rw (eq-eqb _ _ none)

    largests-none : largests (with_largest r) ≡ []
    largests-none = rw known-none

  module _ (above : 0 < r.gap) where
    known-all : known_of (with_largest r) ≡ r.listed
    unfolding known ◌when◌else◌
    known-all = rw (ne_eqb r.gap 0 (λ z. omega (arith, z, above)))

    pub largests-all : largests (with_largest r) ≡ made
    largests-all = rw known-all (take_at made (replicate (max_distances - length made) 0) r.listed (multiples-long r.gap r.listed))

    multiples-good : GoodLargests (distances r) made
    multiples-good =
        let n = multiples-long r.gap r.listed in
        record {
          rises = λ j h. omega (arith, multiple-at r.gap r.listed j (omega (arith, h, n)), multiple-at r.gap r.listed (j + 1) (omega (arith, h, n)));
          near = λ j. ⊎_elim
              (λ h. let l : j + 1 ≤ max_distances = omega (arith, h, listed-few good) in omega (arith, multiple-at r.gap r.listed j h, mul-le-mul good.gap_max l))
              (λ h. omega (arith, multiple-past r.gap r.listed j h)) (lt_or_le j r.listed);
          above = λ j h. let l : j < r.listed = omega (arith, h, n) in omega (arith, multiple-at r.gap r.listed j l, good.gaps above j l);
        }

  gap-cases : (r.gap ≡ 0) ⊎ (0 < r.gap)
  gap-cases = ⊎_elim (λ h. inr h) (λ h. inl (omega arith)) (lt_or_le 0 r.gap)

pub largest-good : {r : Row} → GoodRow r → r.form ≡ gap_form → GoodRow (with_largest r)
largest-good {r} good form = record {
  form = inr refl;
  id = good.id;
  kind = good.kind;
  overload = good.overload;
  deadline = good.deadline;
  deadline_max = good.deadline_max;
  gap_max = omega arith;
  gap_form_holds = λ e. refl;
  flag = when_cases (λ n. n ≤ 1) (eqb r.gap 0) (λ e. omega arith) (λ e. omega arith);
  flag_form = λ e. absurd (omega (arith, e));
  list = good.list;
  listed = good.listed;
  list_past = good.list_past;
  gaps = λ h. absurd (omega (arith, h));
  largest = ⊎_elim (λ z. rw (largests-none good z) (none-good (distances r))) (λ h. rw (largests-all good h) (multiples-good good h)) (gap-cases good);
  largest_listed = ⊎_elim (λ z. rw (known-none good z)) (λ h. rw (largests-all good h, known-all good h) (multiples-long r.gap r.listed)) (gap-cases good);
  largest_past = λ j. ⊎_elim
      (λ z h. pad-at max_distances (made good) j ∙ rw z (multiple-none r.listed j))
      (λ a h. pad-at max_distances (made good) j ∙ multiple-past r.gap r.listed j (omega (arith, h, known-all good a))) (gap-cases good);
  tasks = good.tasks;
}

pub largest-fits : {r : Row} → GoodRow r → r.form ≡ gap_form → fits_gap (with_largest r) ≡ true
largest-fits {r} good form = fits-given (largest-good good form) refl (inr (r.gap, good.gap_max, place_at r))

-- with a gap: the first largest distance, which is 0 where none is known
module _ {r : Row} (good : GoodRow r) (form : r.form ≡ largest_form) (fits : fits_gap r ≡ true) where
  gap-near : first_largest r ≤ max_gap
  gap-near = ⊎_elim (λ z. omega (arith, largest-none good z 0)) (λ s. s.0) (fits-says good form fits)

  -- each is a multiple of it, with flag 0 too
  gap_at_lem : (j : ℕ) → j < r.listed → get_or r.largest j 0 ≡ first_largest r * (j + 1)
  gap_at_lem j h =
      ⊎_elim (λ z. omega (arith, largest-none good z j, ap (λ n. n * (j + 1)) (largest-none good z 0))) (λ s. s.1 j h) (fits-says good form fits)

  gap-known : 0 < first_largest r → r.flag ≡ 1
  gap-known h = ⊎_elim (λ z. absurd (omega (arith, h, largest-none good z 0))) (λ f. f) (flag-cases good)

  -- the last largest distance is above 0, and so is the gap
  gap-above : r.flag ≡ 1 → first_largest r ≡ 0 → ⊥
  gap-above f z =
      let ends = subst (λ n. 0 < get_or (distances r) (n - 1) 0) good.listed good.list.ends in
      let l : r.listed - 1 < r.listed = omega (arith, some good) in
      omega (arith, ends, good.largest.above (r.listed - 1) (omega (arith, l, largests-long good f)), largests-at good (r.listed - 1), gap_at_lem (r.listed - 1) l, ap (λ n. n * (r.listed - 1 + 1)) z)

  flag-back : (0 when eqb (first_largest r) 0 else 1) ≡ r.flag
  flag-back = ⊎_elim
      (λ z. when_yes 0 1 (eq-eqb (first_largest r) 0 (largest-none good z 0)) ∙ sym z)
      (λ f. when_no 0 1 (ne_eqb (first_largest r) 0 (gap-above f)) ∙ sym f) (flag-cases good)

  place-back : (j : ℕ) → get_or (multiples (first_largest r) r.listed) j 0 ≡ get_or r.largest j 0
  place-back j = ⊎_elim
      (λ h. multiple-at (first_largest r) r.listed j h ∙ sym (gap_at_lem j h))
      (λ h. multiple-past (first_largest r) r.listed j h ∙ sym (good.largest_past j (omega (arith, h, known-most r.form r.flag r.listed)))) (lt_or_le j r.listed)

pub gap-good : {r : Row} → GoodRow r → r.form ≡ largest_form → fits_gap r ≡ true → GoodRow (with_gap r)
unfolding known ◌when◌else◌
gap-good {r} good form fits = record {
  form = inl refl;
  id = good.id;
  kind = good.kind;
  overload = good.overload;
  deadline = good.deadline;
  deadline_max = good.deadline_max;
  gap_max = gap-near good form fits;
  gap_form_holds = λ e. absurd (omega (arith, e));
  flag = omega arith;
  flag_form = λ e. refl;
  list = good.list;
  listed = good.listed;
  list_past = good.list_past;
  gaps = λ h j l.
      let n = largests-long good (gap-known good form fits h) in
      omega (arith, good.largest.above j (omega (arith, l, n)), largests-at good j, gap_at_lem good form fits j l);
  largest = none-good (distances r);
  largest_listed = refl;
  largest_past = λ j h. pad-at max_distances [] j;
  tasks = good.tasks;
}

-- there and back: a row is known by what stays and these four
same_row : (r : Row) {form flag gap : ℕ} {largest : List ℕ} → form ≡ r.form → flag ≡ r.flag → gap ≡ r.gap → largest ≡ r.largest → in_form r form flag gap largest ≡ r
same_row r a b c d = λ i. in_form r (a i) (b i) (c i) (d i)

pub largest-back : {r : Row} → GoodRow r → r.form ≡ gap_form → length r.largest ≡ max_distances → with_gap (with_largest r) ≡ r
largest-back {r} good form long =
    same_row r (sym form) (sym (good.flag_form form)) (omega (arith, place_at r 0 (some good)))
    (ext_get_or 0 (replicate max_distances 0) r.largest (sym long)
    (λ j h. pad-at max_distances [] j ∙ sym (largest-none good (good.flag_form form) j)))

pub gap_back : {r : Row} → GoodRow r → r.form ≡ largest_form → fits_gap r ≡ true → length r.largest ≡ max_distances → with_largest (with_gap r) ≡ r
gap_back {r} good form fits long =
    let ms = multiples (first_largest r) r.listed in
    let n = pad-long max_distances ms (omega (arith, multiples-long (first_largest r) r.listed, listed-few good)) in
    same_row r (sym form) (flag-back good form fits) (sym (good.gap_form_holds form))
    (ext_get_or 0 (pad max_distances ms) r.largest (n ∙ sym long) (λ j h. pad-at max_distances ms j ∙ place-back good form fits j))
