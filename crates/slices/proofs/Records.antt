-- The stored records of an accepted table: its bytes are these records one after the other. Assumes nothing.
use Prim.Native.Nat.{ℕ, zero, suc, ◌+◌, ◌<◌, ◌≤◌}
use native.Mathlib.Omega.{arith}
use mathlib.Core.Path.{◌≡◌, refl, ap, sym, subst, ◌∙◌}
use mathlib.Core.List.{List, [], ◌∷◌, ◌++◌, flatten, append_assoc}
use lib.ListN.{length, get_or, take, drop, set, take-append-drop, length-take, length-drop, length-map}
use lib.Seq.{get_or-take, take-take, drop-drop}
use Rattle.search.specs.Lists.{sum_of, All}
use Rattle.table.specs.Bytes.{Bytes}
use Rattle.table.specs.Record.{form_at, id_at, length_at, row_at, blank}
use Rattle.table.specs.Find.{row_of}
use Rattle.table.specs.Read.{accepted, read_table}
use Rattle.table.specs.Place.{length_of, place_of}
use Rattle.table.specs.declared.Row.{Row}
use Rattle.table.specs.declared.Table.{Table}
use Rattle.table.proofs.Standing.{place_none, place-on}
use Rattle.slices.specs.Stored.{record_of, form_in}
use Rattle.slices.specs.Slices.{splice}
use Rattle.slices.proofs.Stored.{record_is, stored-good, stored-holds}
use Rattle.slices.proofs.Cuts.{cut_out, cut-row, cut-whole}
use Rattle.slices.proofs.Parts.{Whole, Parts, row_in, row-size, all-at, map_at, place-sum, stands-there, parts-splice}
use Rattle.slices.proofs.Parsed.{parts-rows}

-- n stored records, from that of `chain` on
unfoldable pub records_from : List ℕ → ℕ → ℕ → List (List ℕ)
records_from s zero chain = []
records_from s (suc n) chain = record_of s chain ∷ records_from s n (chain + 1)

pub length-records : (s : List ℕ) (n chain : ℕ) → length (records_from s n chain) ≡ n
unfolding records_from
length-records s zero chain = refl
length-records s (suc n) chain = ap suc (length-records s n (chain + 1))

pub records-at : (s : List ℕ) (n chain j : ℕ) → j < n → get_or (records_from s n chain) j [] ≡ record_of s (chain + j)
unfolding records_from
records-at s zero chain j h = absurd (omega arith)
records-at s (suc n) chain zero h = let e : chain + 0 ≡ chain = omega arith in rw e
records-at s (suc n) chain (suc j) h = let e : chain + suc j ≡ chain + 1 + j = omega arith in rw e (records-at s n (chain + 1) j (omega arith))

module _ (s : List ℕ) (t : Table) (read : read_table s ≡ accepted t) (bytes : Bytes s) where
  module _ (chain : ℕ) (h : chain < t.count) where
    size-there : length_at s (place_of t chain) ≡ length_of (row_of t chain)
    unfolding row_at
    size-there = ap length_of ((stored-holds s t read bytes).makes chain h)

    pub record_there : place_of t chain + length_at s (place_of t chain) ≤ length s
    record_there = omega (arith, size-there, (stored-holds s t read bytes).inside chain h)

    pub record_cut : record_of s chain ≡ cut_out s (place_of t chain)
    record_cut = record_is s t read chain ∙ ap (λ n. take n (drop (place_of t chain) s)) (sym size-there)

    pub record_whole : Whole (record_of s chain)
    record_whole = subst Whole (sym record_cut) (cut-whole s (place_of t chain) record_there ((stored-holds s t read bytes).marks chain h))

    pub record_row : row_in (record_of s chain) ≡ row_of t chain
    record_row = ap row_in record_cut ∙ cut-row s (place_of t chain) record_there ∙ (stored-holds s t read bytes).makes chain h

    pub record_id : id_at (record_of s chain) 0 ≡ (row_of t chain).id
    unfolding row_at
    record_id = ap (λ (r : Row). r.id) record_row

  -- each has the form of the first mark
  pub record_form : (chain : ℕ) → chain < t.count → form_at (record_of s chain) 0 ≡ form_at s 0
  unfolding row_at
  record_form chain h =
      let good = stored-good s t read bytes in
      ap (λ (r : Row). r.form) (record_row chain h) ∙ good.forms chain h
      ∙ sym (ap (λ (r : Row). r.form) (ap (row_at s) (place_none t) ∙ (stored-holds s t read bytes).makes 0 good.some))

  -- no two bear one id
  pub record_alone : (j chain : ℕ) → j < t.count → chain < t.count → id_at (record_of s j) 0 ≡ id_at (record_of s chain) 0 → j ≡ chain
  record_alone j chain a b e = (stored-good s t read bytes).ids j chain a b (sym (record_id j a) ∙ e ∙ record_id chain b)

  all_whole : (n chain : ℕ) → chain + n ≤ t.count → All Whole (records_from s n chain)
  unfolding records_from
  all_whole zero chain h = tt
  all_whole (suc n) chain h = (record_whole chain (omega arith), all_whole n (chain + 1) (omega arith))

  one-after_the_other : (n chain : ℕ) → chain + n ≤ t.count → drop (place_of t chain) s ≡ flatten (records_from s n chain) ++ drop (place_of t (chain + n)) s
  unfolding records_from flatten
  one-after_the_other zero chain h = let e : chain + 0 ≡ chain = omega arith in rw e
  one-after_the_other (suc n) chain h =
      let z = length_of (row_of t chain) in
      let good = stored-good s t read bytes in
      let next : place_of t chain + z ≡ place_of t (chain + 1) = sym (place-on t chain (omega (arith, good.few, good.size))) in
      let e : chain + 1 + n ≡ chain + suc n = omega arith in
      sym (take-append-drop z (drop (place_of t chain) s))
      ∙ rw (← record_is s t read chain, drop-drop, next, one-after_the_other n (chain + 1) (omega arith), e) (simp append_assoc)

  pub parts-of : Parts s (records_from s t.count 0) (drop (place_of t t.count) s)
  parts-of =
      let z : 0 + t.count ≡ t.count = omega arith in
      record {
        bytes = ap (λ (n : ℕ). drop n s) (place_none t) ∙ one-after_the_other t.count 0 (omega arith) ∙ rw z;
        whole = all_whole t.count 0 (omega arith);
        last = omega (arith, length-drop (place_of t t.count) s, (stored-holds s t read bytes).ends);
      }

-- and wherever they are known to be records one after the other, these are the stored ones
module _ (s : List ℕ) (t : Table) (read : read_table s ≡ accepted t) (bytes : Bytes s) (rs : List (List ℕ)) (e : List ℕ) (p : Parts s rs e) where
  pub parts-count : t.count ≡ length rs
  parts-count =
      let good = stored-good s t read bytes in
      let f = ap length (parts-rows s t read rs e p) in
      omega (arith, f, length-take t.count t.row, length-map rs row_in, good.few, good.size)

  module _ (chain : ℕ) (h : chain < t.count) where
    within : chain < length rs
    within = omega (arith, parts-count)

    row-there : row_of t chain ≡ row_in (get_or rs chain [])
    row-there = sym (get_or-take t.count t.row chain blank h) ∙ ap (λ (l : List Row). get_or l chain blank) (parts-rows s t read rs e p) ∙ map_at row_in rs chain [] blank within

    place-there : place_of t chain ≡ length (flatten (take chain rs))
    unfolding place_of
    place-there =
        ap (sum_of length_of) (sym (take-take chain t.count t.row (omega arith)) ∙ ap (take chain) (parts-rows s t read rs e p))
        ∙ place-sum s rs e p chain within

    size_is : length_of (row_of t chain) ≡ length (get_or rs chain [])
    size_is = ap length_of row-there ∙ row-size (get_or rs chain []) (all-at Whole rs chain [] p.whole within)

    pub parts_record : record_of s chain ≡ get_or rs chain []
    parts_record = record_is s t read chain ∙ stands-there s rs e p chain within (place_of t chain) (length_of (row_of t chain)) place-there size_is

    -- another record in the place of one
    pub parts-put : (new : List ℕ) → Whole new → Parts (splice s (place_of t chain) (length_of (row_of t chain)) new) (set rs chain new) e
    parts-put new w = parts-splice s rs e p chain within (place_of t chain) (length_of (row_of t chain)) place-there size_is new w

  -- and all have the first one's form
  pub parts-form : (chain : ℕ) → chain < length rs → form_in rs chain ≡ form_in rs 0
  unfolding row_at
  parts-form chain h =
      let good = stored-good s t read bytes in
      let l : chain < t.count = omega (arith, parts-count) in
      ap (λ (r : Row). r.form) (sym (row-there chain l)) ∙ good.forms chain l ∙ ap (λ (r : Row). r.form) (row-there 0 good.some)
