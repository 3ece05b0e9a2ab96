-- An accepted table comes back byte for byte, and only its end record is skipped. Assumes nothing.
use Prim.Native.Nat.{ℕ, zero, suc, ◌+◌, ◌-◌, ◌<◌, ◌≤◌}
use native.Mathlib.Omega.{arith}
use native.Mathlib.Decide.{ℕ_discrete}
use mathlib.Core.Path.{◌≡◌, refl, ap, ap₂, sym, subst, ◌∙◌}
use mathlib.Core.List.{List, [], ◌∷◌, ◌++◌, map, flatten, append_assoc}
use lib.ListN.{length, drop, length-drop, length-set, length-replicate}
use lib.Seq.{take_at}
use borrow.Author.Tests.{lt-ltb, eq-eqb, ne_eqb}
use Rattle.search.specs.Lists.{All}
use Rattle.search.proofs.Choice.{when_yes, when_no}
use Rattle.table.specs.Limits.{max_chains}
use Rattle.table.specs.Bytes.{Bytes}
use Rattle.table.specs.Record.{blank, form_at, length_at, row_at, end_record}
use Rattle.table.specs.Find.{row_of}
use Rattle.table.specs.Place.{place_of}
use Rattle.table.specs.Read.{empty, plus, records, read_table, table_of}
use Rattle.table.specs.declared.Row.{Row}
use Rattle.table.specs.Read.{Reading}
use Rattle.table.specs.declared.Table.{Table}
use Rattle.std.specs.declared.result.Result.TheVariants.{Ok}
use Rattle.table.proofs.Faultless.{BesideRight, beside-is}
use Rattle.slices.proofs.Parts.{Whole, Parts}
use Rattle.slices.proofs.Parsed.{stands-long, stands-rest, stands-mark, stands-inside, chain-read, started}
use Rattle.slices.proofs.Stored.{accepted-read}
use Rattle.slices.proofs.Records.{records_from, length-records, parts-of}
use Rattle.slices.proofs.Ends.{end-stored}
use Rattle.salvaging.specs.Kept.{form_beside, kept_places}
use Rattle.salvaging.specs.Skipped.{Stretch, between, skipped_from, skipped}
use Rattle.salvaging.specs.Salvage.{record_at, table_kept}
use Rattle.salvaging.specs.Steps.{Walks}
use Rattle.salvaging.proofs.Walks.{acceptable-given, not-whole, first-added, first-stays}
use Rattle.salvaging.proofs.Stretches.{between_none}
use Rattle.salvaging.proofs.Stepping.{walks_only}
use Rattle.salvaging.proofs.Results.{kept-bytes, kept-accepted}

-- where records start that stand one after the other from `at` on
unfoldable places_from : ℕ → List (List ℕ) → List ℕ
places_from at [] = []
places_from at (r ∷ rs) = at ∷ places_from (at + length r) rs

length-places : (at : ℕ) (rs : List (List ℕ)) → length (places_from at rs) ≡ length rs
unfolding places_from
length-places at [] = refl
length-places at (r ∷ rs) = ap suc (length-places (at + length r) rs)

-- between the place four bytes before the end and the end the last four lie
abbrev pub last_four : List ℕ → Stretch
last_four s = record { offset = length s - 4; size = 4 }

between_four : (s : List ℕ) (at : ℕ) → length s ≡ at + 4 → between at (length s) ≡ last_four s ∷ []
unfolding between
between_four s at e = when_yes _ _ (lt-ltb at (length s) (omega arith)) ∙ ap₂ (λ n m. record { offset = n; size = m } ∷ []) (omega arith) (omega arith)

module _ (s : List ℕ) where
  -- the rows read have the form of the first mark
  Formed : Table → Type 0
  Formed t = (t.count ≡ 0 → ⊥) → (row_of t 0).form ≡ form_at s 0

  module _ (at : ℕ) (t : Table) (right : BesideRight s at (form_at s 0) t) where
    form-beside : Formed t → form_at s at ≡ form_beside s at t
    unfolding form_beside Formed
    form-beside f = elim (ℕ_discrete t.count 0) [
      | yes e ↦ sym (when_yes _ _ (eq-eqb _ _ e))
      | no h ↦ right.form ∙ sym (f h) ∙ sym (when_no _ _ (ne_eqb _ _ h))
    ]

    formed-on : length t.row ≡ max_chains → Formed t → Formed (plus t (row_at s at))
    unfolding Formed row_at
    formed-on long f some = elim (ℕ_discrete t.count 0) [
      | yes e ↦ ap (λ (r : Row). r.form) (first-added t (row_at s at) long e) ∙ right.form
      | no h ↦ ap (λ (r : Row). r.form) (first-stays t (row_at s at) h) ∙ f h
    ]

  -- each record of an accepted table is acceptable beside those before it, and the end record's four bytes are none
  walked : (rs : List (List ℕ)) (at : ℕ) (t : Table) (e : List ℕ) → drop at s ≡ flatten rs ++ e → All Whole rs → length e ≡ 4
      → t.count ≤ max_chains → length t.row ≡ max_chains → Formed t → (records (max_chains - t.count) s at t).verdict ≡ Ok tt → Walks s at t (places_from at rs)
  unfolding Walks places_from flatten
  walked [] at t e d w n few long f a = λ i l. not-whole s i t (omega (arith, length-drop at s, ap length d))
  walked (r ∷ rs) at t e d w n few long f a =
      let d' : drop at s ≡ r ++ (flatten rs ++ e) = d ∙ append_assoc r (flatten rs) e in
      let mark = stands-mark s at r (flatten rs ++ e) d' w.0 in
      let c = chain-read s at t few (omega (arith, stands-inside s at r (flatten rs ++ e) d' w.0, w.0.long)) a mark in
      let next = at + length_at s at in
      let more = plus t (row_at s at) in
      let on = walked rs next more e (stands-rest s at r (flatten rs ++ e) d' w.0) w.1 n (omega (arith, c.1)) (simp length-set long) (formed-on at t c.0 long f)
      (subst (λ (x : Reading). x.verdict ≡ Ok tt) c.2 a) in (
        record {
          on = omega arith;
          none = λ i k l. absurd (omega (arith, k, l));
          starts = acceptable-given s at t mark (beside-is s at (form_beside s at t) t (form-beside at t c.0 f) c.0.room ∙ c.0.chain);
        },
        subst (λ m. Walks s next more (places_from (at + m) rs)) (stands-long s at r (flatten rs ++ e) d' w.0) on,
      )

  -- and it is kept as it stands
  records-are : (rs : List (List ℕ)) (at : ℕ) (e : List ℕ) → drop at s ≡ flatten rs ++ e → All Whole rs → map (record_at s) (places_from at rs) ≡ rs
  unfolding places_from flatten
  records-are [] at e d w = refl
  records-are (r ∷ rs) at e d w =
      let d' : drop at s ≡ r ++ (flatten rs ++ e) = d ∙ append_assoc r (flatten rs) e in
      let long = stands-long s at r (flatten rs ++ e) d' w.0 in
      rw (long, d', take_at r (flatten rs ++ e) (length r) refl, records-are rs (at + length r) e (rw long at (stands-rest s at r (flatten rs ++ e) d' w.0)) w.1)

  -- nothing is skipped before them, nor after a 16th
  none_before : (r : List ℕ) (rs : List (List ℕ)) (at left : ℕ) → length_at s at ≡ length r → skipped_from (suc left) s at (places_from at (r ∷ rs)) ≡ skipped_from left s (at + length r) (places_from (at + length r) rs)
  unfolding skipped_from places_from
  none_before r rs at left e = rw (between_none at at (omega arith), e)

  back_none : (rs : List (List ℕ)) (at left : ℕ) (e : List ℕ) → drop at s ≡ flatten rs ++ e → All Whole rs → length rs ≡ left → skipped_from left s at (places_from at rs) ≡ []
  unfolding skipped_from flatten
  back_none rs at zero e d w n = refl
  back_none [] at (suc left) e d w n = absurd (omega arith)
  back_none (r ∷ rs) at (suc left) e d w n =
      let d' : drop at s ≡ r ++ (flatten rs ++ e) = d ∙ append_assoc r (flatten rs) e in
      let long = stands-long s at r (flatten rs ++ e) d' w.0 in
      none_before r rs at left long ∙ back_none rs (at + length r) left e (rw long at (stands-rest s at r (flatten rs ++ e) d' w.0)) w.1 (omega arith)

  -- after fewer the end record is
  back_end : (rs : List (List ℕ)) (at left : ℕ) (e : List ℕ) → drop at s ≡ flatten rs ++ e → All Whole rs → length e ≡ 4 → length rs < left → skipped_from left s at (places_from at rs) ≡ last_four s ∷ []
  unfolding skipped_from places_from flatten
  back_end rs at zero e d w n l = absurd (omega arith)
  back_end [] at (suc left) e d w n l = between_four s at (omega (arith, length-drop at s, ap length d))
  back_end (r ∷ rs) at (suc left) e d w n l =
      let d' : drop at s ≡ r ++ (flatten rs ++ e) = d ∙ append_assoc r (flatten rs) e in
      let long = stands-long s at r (flatten rs ++ e) d' w.0 in
      none_before r rs at left long ∙ back_end rs (at + length r) left e (rw long at (stands-rest s at r (flatten rs ++ e) d' w.0)) w.1 n (omega arith)

-- an accepted table
module _ (s : List ℕ) (bytes : Bytes s) (verdict : (read_table s).verdict ≡ Ok tt) where
  abbrev t : Table
  t = table_of s

  abbrev rs : List (List ℕ)
  rs = records_from s t.count 0

  abbrev last : List ℕ
  last = drop (place_of t t.count) s

  parts : Parts s rs last
  parts = parts-of s t (accepted-read s verdict) bytes

  count : length rs ≡ t.count
  count = length-records s t.count 0

  kept-are : kept_places s ≡ places_from 0 rs
  unfolding Formed
  kept-are = walks_only s (places_from 0 rs)
      (walked s rs 0 empty last parts.bytes parts.whole parts.last (omega arith) (length-replicate max_chains blank) (λ some. absurd (some refl))
      (ap (λ (r : Reading). r.verdict) (started s t (accepted-read s verdict))))

  -- each of its chains is kept
  pub all-kept : length (kept_places s) ≡ t.count
  all-kept = ap length kept-are ∙ length-places 0 rs ∙ count

  pub comes_back : table_kept s ≡ s
  comes_back =
      ap (λ (l : List ℕ). flatten (map (record_at s) l) ++ end_record (length l)) kept-are
      ∙ rw (records-are s rs 0 last parts.bytes parts.whole, length-places 0 rs, count, end-stored s bytes verdict) (sym parts.bytes)

  -- with fewer than 16 chains its end record is skipped, with 16 nothing
  pub skips-end : t.count < max_chains → skipped s ≡ last_four s ∷ []
  skips-end l = ap (skipped_from max_chains s 0) kept-are ∙ back_end s rs 0 max_chains last parts.bytes parts.whole parts.last (omega (arith, count))

  pub skips-none : t.count ≡ max_chains → skipped s ≡ []
  skips-none e = ap (skipped_from max_chains s 0) kept-are ∙ back_none s rs 0 max_chains last parts.bytes parts.whole (count ∙ e)

-- so what is kept, salvaged again, comes back
pub same-again : (s : List ℕ) → Bytes s → 1 ≤ length (kept_places s) → table_kept (table_kept s) ≡ table_kept s
same-again s bytes some = comes_back (table_kept s) (kept-bytes s bytes) (kept-accepted s bytes some)
