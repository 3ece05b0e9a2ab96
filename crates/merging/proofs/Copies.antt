-- An accepted table as its records: the state of an id is the record that is picked for it, and its ids stand alone. Assumes nothing.
use Prim.Native.Nat.{ℕ, zero, suc, ◌+◌, ◌<◌}
use native.Mathlib.Omega.{arith}
use mathlib.Core.Path.{◌≡◌, refl, ap, ap₂, sym, subst, ◌∙◌}
use mathlib.Core.List.{List, [], ◌∷◌, map}
use mathlib.Core.Bool.{Bool, true, false, ◌||◌}
use lib.Dec.{eqb, ltb}
use lib.ListN.{length, get_or, drop, length-map}
use native.Mathlib.Numerals.{add-one}
use lib.Seq.{ext_get_or}
use borrow.Author.Tests.{eqb-true, eqb-false, eq-eqb, ne_eqb, lt-ltb, le-ltb}
use Rattle.search.specs.Choice.{◌when◌else◌}
use Rattle.search.specs.Find.{first}
use Rattle.search.specs.Lists.{some, All}
use Rattle.search.proofs.Lists.{all_map}
use Rattle.search.proofs.Choice.{when_yes, when_no, true-not-false}
use Rattle.table.specs.Bytes.{Bytes}
use Rattle.table.specs.Find.{row_of, find_of}
use Rattle.table.specs.Read.{accepted, read_table, table_of}
use Rattle.table.specs.Place.{place_of}
use Rattle.table.specs.declared.Table.{Table}
use Rattle.std.specs.declared.result.Result.TheVariants.{Ok}
use Rattle.table.specs.Code.Taken.{Taken}
use Rattle.table.proofs.Accepted.{taken}
use Rattle.table.proofs.Firsts.{none_or}
use Rattle.slices.specs.Stored.{record_of}
use Rattle.slices.proofs.Stored.{accepted-read}
use Rattle.slices.proofs.Parts.{Parts, map_at}
use Rattle.slices.proofs.Records.{records_from, length-records, records-at, record_id, parts-of}
use Rattle.merging.specs.Versions.{state_of, ids_of}
use Rattle.merging.specs.Rule.{among}
use Rattle.merging.specs.Merge.{is_record}
use Rattle.merging.proofs.Orders.{ids-length, ids_at}
use Rattle.merging.proofs.Picks.{id_in, pick, Alone, pick-here, pick-on, pick-none}

-- numbers that differ at any two places stand alone
fresh : (n : ℕ) (l : List ℕ) → ((j : ℕ) → j < length l → get_or l j 0 ≡ n → ⊥) → among l n ≡ false
unfolding some
fresh n [] g = refl
fresh n (m ∷ l) g = ap₂ ◌||◌ (ne_eqb m n (g 0 (omega arith))) (fresh n l (λ j a. g (suc j) (omega (arith, a))))

there : (l : List ℕ) {n : ℕ} (j : ℕ) → j < length l → get_or l j 0 ≡ n → among l n ≡ false → ⊥
unfolding some
there [] j h e f = absurd (omega arith)
there (m ∷ l) {n} zero h e f = true-not-false (eq-eqb m n e) (none_or (eqb m n) (among l n) f).0
there (m ∷ l) {n} (suc j) h e f = there l j (omega arith) e (none_or (eqb m n) (among l n) f).1

pub alone_at : (l : List ℕ) → ((i j : ℕ) → i < length l → j < length l → get_or l i 0 ≡ get_or l j 0 → i ≡ j) → Alone l
unfolding Alone
alone_at [] h = tt
alone_at (n ∷ l) h = (
  fresh n l (λ j m e. omega (arith, h 0 (suc j) (omega arith) (omega (arith, m)) (sym e))),
  alone_at l (λ i j a b e. omega (arith, h (suc i) (suc j) (omega (arith, a)) (omega (arith, b)) e)),
)

-- and the other way round
pub alone-apart : (l : List ℕ) → Alone l → (i j : ℕ) → i < length l → j < length l → get_or l i 0 ≡ get_or l j 0 → i ≡ j
unfolding Alone
alone-apart [] h i j a b e = absurd (omega arith)
alone-apart (n ∷ l) h zero zero a b e = refl
alone-apart (n ∷ l) h zero (suc j) a b e = absurd (there l j (omega arith) (sym e) h.0)
alone-apart (n ∷ l) h (suc i) zero a b e = absurd (there l i (omega arith) e h.0)
alone-apart (n ∷ l) h (suc i) (suc j) a b e = ap suc (alone-apart l h.1 i j (omega arith) (omega arith) e)

-- an accepted table of bytes
module _ (s : List ℕ) (bytes : Bytes s) (verdict : (read_table s).verdict ≡ Ok tt) where
  abbrev t : Table
  t = table_of s

  pub read_as : read_table s ≡ accepted t
  read_as = accepted-read s verdict

  held : Taken s
  held = taken s bytes verdict

  -- its records
  abbrev pub records_in : List (List ℕ)
  records_in = records_from s t.count 0

  pub in_parts : Parts s records_in (drop (place_of t t.count) s)
  in_parts = parts-of s t read_as bytes

  abbrev bearing : ℕ → ℕ → Bool
  bearing id chain = eqb (row_of t chain).id id

  abbrev found : ℕ → List ℕ
  found chain = record_of s chain when ltb chain t.count else []

  picked : (id n chain : ℕ) → chain + n ≡ t.count → pick id (records_from s n chain) ≡ found (first (bearing id) chain n)
  unfolding records_from first
  picked id zero chain e = none id ∙ sym (when_no (record_of s chain) [] (le-ltb chain t.count (omega arith)))
    where
      none : (id : ℕ) → pick id [] ≡ []
      none id = pick-none id [] (fresh id [] (λ j h. absurd (omega (arith, h))))
  picked id (suc n) chain e = by (bearing id chain) refl (rw add-one at (picked id n (chain + 1) (omega arith)))
    where
      h : chain < t.count
      h = omega arith

      by : (b : Bool) → bearing id chain ≡ b → pick id (records_from s n (suc chain)) ≡ found (first (bearing id) (suc chain) n)
          → pick id (record_of s chain ∷ records_from s n (chain + 1)) ≡ found (chain when bearing id chain else first (bearing id) (suc chain) n)
      by true f on =
          pick-here id (record_of s chain) (records_from s n (chain + 1)) (record_id s t read_as bytes chain h ∙ eqb-true _ _ f)
          ∙ sym (when_yes (record_of s chain) [] (lt-ltb chain t.count h))
          ∙ ap found (sym (when_yes chain (first (bearing id) (suc chain) n) f))
      by false f on =
          pick-on id (record_of s chain) (records_from s n (chain + 1)) (λ z. eqb-false _ _ f (sym (record_id s t read_as bytes chain h) ∙ z))
          ∙ ap (λ m. pick id (records_from s n m)) (add-one chain) ∙ on
          ∙ ap found (sym (when_no chain (first (bearing id) (suc chain) n) f))

  -- the state of an id
  pub state_picked : (id : ℕ) → state_of s id ≡ pick id records_in
  unfolding state_of find_of
  state_picked id = sym (picked id t.count 0 (omega arith))

  -- the ids that they bear
  pub ids_borne : map id_in records_in ≡ ids_of s
  ids_borne = ext_get_or 0 (map id_in records_in) (ids_of s) (length-map records_in id_in ∙ length-records s t.count 0 ∙ sym (ids-length held))
      (λ j h. let l : j < t.count = omega (arith, h, length-map records_in id_in, length-records s t.count 0) in
      let z : 0 + j ≡ j = omega arith in
      map_at id_in records_in j [] 0 (omega (arith, l, length-records s t.count 0)) ∙ ap id_in (records-at s t.count 0 j l ∙ ap (record_of s) z) ∙ record_id s t read_as bytes j l ∙ sym (ids_at held j l))

  pub ids-alone : Alone (ids_of s)
  ids-alone = alone_at (ids_of s) (λ i j a b e.
      let l : i < t.count = omega (arith, a, ids-length held) in
      let m : j < t.count = omega (arith, b, ids-length held) in
      held.good.ids i j l m (sym (ids_at held i l) ∙ e ∙ ids_at held j m))

  pub records-alone : Alone (map id_in records_in)
  records-alone = subst Alone (sym ids_borne) ids-alone

  pub all-records : All (λ r. is_record r ≡ true) records_in
  all-records = all_map (λ r w. lt-ltb 0 (length r) (omega (arith, w.long))) records_in in_parts.whole
