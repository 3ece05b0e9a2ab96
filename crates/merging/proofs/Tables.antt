-- The result as a table: its records, its bytes, the state of each id, and why it can be refused. Assumes nothing.
use Prim.Native.Nat.{ℕ, zero, suc, ◌+◌, ◌<◌, ◌≤◌}
use native.Mathlib.Omega.{arith}
use mathlib.Core.Path.{◌≡◌, refl, ap, sym, subst, ◌∙◌}
use mathlib.Core.List.{List, [], ◌∷◌, map, flatten, Permᴰ}
use mathlib.Core.Bool.{true, not}
use lib.ListN.{length, get_or, take, drop, length-append, length-map}
use lib.Seq.{ext_get_or}
use borrow.Author.Tests.{ltb-true}
use Rattle.search.specs.Choice.{◌when◌else◌}
use Rattle.search.specs.Lists.{sum_of, All, keep}
use Rattle.search.proofs.Choice.{when_cases}
use Rattle.search.proofs.Keeping.{keep-length}
use Rattle.search.proofs.Lists.{all_map, perm_sum, perm_length, perm_all, sum-map}
use Rattle.table.specs.Limits.{max_chains, max_all_tasks}
use Rattle.table.specs.Bytes.{word, bytes_of, Bytes}
use Rattle.table.specs.Record.{form_at, tasks_at, row_at, end_record}
use Rattle.table.specs.Fault.{mark_of}
use Rattle.table.specs.Find.{row_of, rows}
use Rattle.table.specs.Read.{limit_of, read_table, table_of}
use Rattle.table.specs.Place.{length_of, place_of}
use Rattle.table.specs.Code.Good.{GoodTable}
use Rattle.table.specs.declared.Row.{Row}
use Rattle.table.specs.declared.Table.{Table}
use Rattle.table.specs.declared.Mark.TheVariants.{End}
use Rattle.table.specs.Refusal.{Verdict, numbered}
use Rattle.std.specs.declared.result.Result.TheVariants.{Ok, Err}
use Rattle.table.specs.declared.refusal.Refusal.{Refusal}
use Rattle.table.specs.declared.refusal.Refusal.TheVariants.{BadMark, BadChainCount}
use Rattle.table.proofs.Numbers.{numbered_same}
use Rattle.table.proofs.Accepted.{taken, accepted-short}
use Rattle.table.proofs.Widths.{limit-least}
use Rattle.slices.specs.Stored.{record_of, form_in, OneForm, Mixed}
use Rattle.slices.proofs.Bytes.{bytes_append, bytes_take, bytes_drop, bytes-flatten}
use Rattle.slices.proofs.Parts.{Parts, row_in, all-at, map_at}
use Rattle.slices.proofs.Parsed.{parts-rows}
use Rattle.slices.proofs.Records.{records_from, length-records, records-at, record_form, parts-count, parts_record, parts-form}
use Rattle.slices.proofs.Sound.{Sound, record_sound, tasks_in, NoTable, tasks-first, no_table, mixed-refused}
use Rattle.merging.specs.Versions.{Versions, state_of, ids_of}
use Rattle.merging.specs.Rule.{taken_of, among, joined, order}
use Rattle.merging.specs.Merge.{is_record, taken_records, result_of}
use Rattle.merging.proofs.Sizes.{by_cases}
use Rattle.table.proofs.Words.{bytes-of, end-length, end-mark-word, end-count}
use Rattle.merging.proofs.Orders.{ids-length}
use Rattle.merging.proofs.Picks.{id_in, pick}
use Rattle.merging.proofs.Copies.{read_as, records_in, in_parts, state_picked, alone-apart}
use Rattle.merging.proofs.Merges.{Edited, taken-picked, taken-alone}

-- what holds of each record of two copies holds of each that is taken
picked_of : (P : List ℕ → Type 0) (id : ℕ) (rs : List (List ℕ)) → All P rs → is_record (pick id rs) ≡ true → P (pick id rs)
unfolding pick
picked_of P id [] h e = absurd (omega (arith, ltb-true 0 0 e))
picked_of P id (r ∷ rs) h e = when_cases (λ (x : List ℕ). is_record x ≡ true → P x) _ (λ t z. h.0) (λ t z. picked_of P id rs h.1 z) e

kept_of : (P : List ℕ → Type 0) (g : ℕ → List ℕ) → ((id : ℕ) → is_record (g id) ≡ true → P (g id)) → (ids : List ℕ) → All P (keep is_record (map g ids))
unfolding keep
kept_of P g h [] = tt
kept_of P g h (id ∷ ids) = when_cases (All P) (is_record (g id)) (λ e. (h id e, kept_of P g h ids)) (λ e. kept_of P g h ids)

-- where no state is a record, none is kept
none_kept : (states : List (List ℕ)) → All (λ r. r ≡ []) states → keep is_record states ≡ []
unfolding keep ◌when◌else◌
none_kept [] h = refl
none_kept (r ∷ rs) h = ap (λ (x : List ℕ). r ∷ keep is_record rs when is_record x else keep is_record rs) h.0 ∙ none_kept rs h.1

all-given : (g : ℕ → List ℕ) → ((id : ℕ) → g id ≡ []) → (ids : List ℕ) → All (λ r. r ≡ []) (map g ids)
all-given g h [] = tt
all-given g h (id ∷ ids) = (h id, all-given g h ids)

-- what holds of each stored record
records-of : (P : List ℕ → Type 0) (s : List ℕ) (most : ℕ) → ((chain : ℕ) → chain < most → P (record_of s chain)) → (n chain : ℕ) → chain + n ≤ most → All P (records_from s n chain)
unfolding records_from
records-of P s most h zero chain l = tt
records-of P s most h (suc n) chain l = (h chain (omega arith), records-of P s most h n (chain + 1) (omega arith))

-- sums over records
pub flatten-length : (rs : List (List ℕ)) → length (flatten rs) ≡ sum_of length rs
unfolding flatten sum_of
flatten-length [] = refl
flatten-length (r ∷ rs) = length-append r (flatten rs) ∙ ap (λ n. length r + n) (flatten-length rs)

joined_length : (l r : List ℕ) → length (joined l r) ≤ length l + length r
joined_length l r = omega (arith, length-append l (keep (λ n. not (among l n)) r), keep-length (λ n. not (among l n)) r)

-- the end record
end_mark : (n : ℕ) → mark_of (word 2 (end_record n) 0) ≡ End
unfolding mark_of ◌when◌else◌
end_mark n = ap mark_of (end-mark-word n)

module _ (v : Versions) (e : Edited v) where
  taken-of : (P : List ℕ → Type 0)
      → ((s : List ℕ) → Bytes s → (read_table s).verdict ≡ Ok tt → (chain : ℕ) → chain < (table_of s).count → P (record_of s chain)) → All P (taken_records v)
  unfolding taken_records
  taken-of P each =
      kept_of P (taken_of v)
      (λ id. by_cases (λ (state : List ℕ). is_record state ≡ true → P state) (state_of v.ancestor id) (state_of v.first id) (state_of v.second id)
      (copy v.first e.of_first e.all.first id) (copy v.second e.of_second e.all.second id) (λ z. absurd (omega (arith, ltb-true 0 0 z))))
      (order v)
    where
      copy : (s : List ℕ) → Bytes s → (read_table s).verdict ≡ Ok tt → (id : ℕ) → is_record (state_of s id) ≡ true → P (state_of s id)
      copy s bytes verdict id h =
          let f = state_picked s bytes verdict id in
          subst P (sym f) (picked_of P id (records_in s bytes verdict) (records-of P s (table_of s).count (each s bytes verdict) (table_of s).count 0 (omega arith)) (ap is_record (sym f) ∙ h))

  pub all_sound : All Sound (taken_records v)
  all_sound = taken-of Sound (λ s bytes verdict. record_sound s (table_of s) (read_as s bytes verdict) bytes)

  -- its records and its end record
  pub result_parts : Parts (result_of v) (taken_records v) (end_record (length (taken_records v)))
  unfolding result_of
  result_parts = record { bytes = refl; whole = all_map (λ r h. h.whole) (taken_records v) all_sound; last = end-length (length (taken_records v)) }

  pub result-length : length (result_of v) ≡ length (flatten (taken_records v)) + 4
  result-length =
      ap length result_parts.bytes ∙ length-append (flatten (taken_records v)) (end_record (length (taken_records v)))
      ∙ ap (λ n. length (flatten (taken_records v)) + n) (end-length (length (taken_records v)))

  few : length (taken_records v) < 65536
  unfolding taken_records order
  few =
      let a = taken v.ancestor e.of_ancestor e.all.ancestor in
      let f = taken v.first e.of_first e.all.first in
      let s = taken v.second e.of_second e.all.second in
      let x = ids_of v.ancestor in
      let y = joined x (ids_of v.first) in
      omega (
        arith,
        keep-length is_record (map (taken_of v) (order v)),
        length-map (order v) (taken_of v),
        joined_length y (ids_of v.second),
        joined_length x (ids_of v.first),
        ids-length a,
        ids-length f,
        ids-length s,
        a.good.few,
        f.good.few,
        s.good.few,
      )

  apart : (i j : ℕ) → i < length (taken_records v) → j < length (taken_records v) → id_in (get_or (taken_records v) i []) ≡ id_in (get_or (taken_records v) j []) → i ≡ j
  apart i j a b h =
      let n = length-map (taken_records v) id_in in
      alone-apart (map id_in (taken_records v)) (taken-alone v e) i j (omega (arith, n)) (omega (arith, n))
      (map_at id_in (taken_records v) i [] 0 a ∙ h ∙ sym (map_at id_in (taken_records v) j [] 0 b))

  -- why it can be refused
  pub refused_for : {n : Refusal} {place : ℕ} → (read_table (result_of v)).verdict ≡ Err (n, place) → NoTable (taken_records v) (numbered n)
  refused_for =
      no_table (taken_records v) (end_record (length (taken_records v))) (result_of v) result_parts all_sound apart
      (end_mark (length (taken_records v))) (end-count (length (taken_records v)) few)

  pub result-bytes : Bytes (result_of v)
  unfolding result_of record_of
  result-bytes =
      bytes_append (flatten (taken_records v)) (end_record (length (taken_records v)))
      (bytes-flatten (taken_records v) (taken-of Bytes (λ s bytes verdict chain h. bytes_take (length_of (row_of (table_of s) chain)) (drop (place_of (table_of s) chain) s) (bytes_drop (place_of (table_of s) chain) s bytes))))
      (bytes_append (bytes_of 2 20037) (bytes_of 2 (length (taken_records v))) (bytes-of 2 20037) (bytes-of 2 (length (taken_records v))))

  -- mixed forms are 3, unless the length or a field before the first record of the other form is at fault
  pub mixed-result : (i : ℕ) → Mixed (taken_records v) i → length (result_of v) ≤ limit_of (form_in (taken_records v) 0) → i ≤ max_chains
      → tasks_in (take i (taken_records v)) ≤ max_all_tasks → (place : ℕ) × ((read_table (result_of v)).verdict ≡ Err (BadMark, place))
  mixed-result =
      mixed-refused (taken_records v) (end_record (length (taken_records v))) (result_of v) result_parts all_sound apart
      (end_mark (length (taken_records v))) (end-count (length (taken_records v)) few) result-bytes

  -- an accepted result: its records are those taken, and each id has the state that was
  module _ (verdict : (read_table (result_of v)).verdict ≡ Ok tt) where
    abbrev t : Table
    t = table_of (result_of v)

    pub result-records : records_in (result_of v) result-bytes verdict ≡ taken_records v
    result-records =
        let read = read_as (result_of v) result-bytes verdict in
        let rs = taken_records v in
        let end = end_record (length rs) in
        let n = length-records (result_of v) t.count 0 in
        ext_get_or [] (records_from (result_of v) t.count 0) rs (n ∙ parts-count (result_of v) t read result-bytes rs end result_parts)
        (λ j h. let l : j < t.count = omega (arith, h, n) in
        let z : 0 + j ≡ j = omega arith in
        records-at (result_of v) t.count 0 j l ∙ ap (record_of (result_of v)) z ∙ parts_record (result_of v) t read result-bytes rs end result_parts j l)

    -- and have one form
    pub result-form : OneForm (taken_records v) (length (taken_records v))
    result-form = parts-form (result_of v) t (read_as (result_of v) result-bytes verdict) result-bytes (taken_records v) (end_record (length (taken_records v))) result_parts

    pub result_state : (id : ℕ) → state_of (result_of v) id ≡ taken_of v id
    result_state id = state_picked (result_of v) result-bytes verdict id ∙ ap (pick id) result-records ∙ taken-picked v e id

    pub result_rows : rows t ≡ map row_in (taken_records v)
    result_rows = parts-rows (result_of v) t (read_as (result_of v) result-bytes verdict) (taken_records v) (end_record (length (taken_records v))) result_parts

  -- where nothing is taken: an end record alone, which is refused with 11
  module _ (missing : (id : ℕ) → taken_of v id ≡ []) where
    none-taken : taken_records v ≡ []
    unfolding taken_records
    none-taken = none_kept (map (taken_of v) (order v)) (all-given (taken_of v) missing (order v))

    pub emptied-refused : (place : ℕ) × ((read_table (result_of v)).verdict ≡ Err (BadChainCount, place)) × (length (result_of v) ≤ 4)
    unfolding flatten sum_of
    emptied-refused = by (read_table (result_of v)).verdict refl
      where
        short : length (flatten (taken_records v)) ≡ 0
        short = ap (λ (rs : List (List ℕ)). length (flatten rs)) none-taken

        number : {n : ℕ} → NoTable (taken_records v) n → n ≡ 11
        number (NoTable.bytes f h) = absurd (omega (arith, h, short, limit-least (form_in (taken_records v) 0)))
        number (NoTable.forms f i m) = absurd (omega (arith, m.one, ap length none-taken))
        number (NoTable.tasks f i alike h) = absurd (omega (arith, h, tasks-first i (taken_records v), ap tasks_in none-taken))
        number (NoTable.chains f alike h) = absurd (omega (arith, h, ap length none-taken))
        number (NoTable.none f h) = f

        by : (w : Verdict) → (read_table (result_of v)).verdict ≡ w → (place : ℕ) × ((read_table (result_of v)).verdict ≡ Err (BadChainCount, place)) × (length (result_of v) ≤ 4)
        by (Ok u) f = absurd (omega (arith, ap length (sym (result-records f)) ∙ length-records (result_of v) (table_of (result_of v)).count 0, ap length none-taken, (taken (result_of v) result-bytes f).good.some))
        by (Err f) e = (f.1, e ∙ ap (λ k. Err (k, f.1)) (numbered_same f.0 BadChainCount (number (refused_for e))), omega (arith, result-length, short))

  -- records of an accepted table, in any order, are an accepted result
  module _ (s : List ℕ) (bytes : Bytes s) (verdict : (read_table s).verdict ≡ Ok tt) (p : Permᴰ (records_in s bytes verdict) (taken_records v)) where
    abbrev rs : List (List ℕ)
    rs = records_in s bytes verdict

    pub same_size : length (result_of v) ≡ length s
    same_size =
        let q = in_parts s bytes verdict in
        omega (arith, result-length, flatten-length (taken_records v), flatten-length rs, perm_sum length p, ap length q.bytes, length-append (flatten rs) (drop (place_of (table_of s) (table_of s).count) s), q.last)

    same-tasks : tasks_in (taken_records v) ≡ (table_of s).tasks
    unfolding row_at
    same-tasks =
        let read = read_as s bytes verdict in
        sym (perm_sum (λ (r : List ℕ). tasks_at r 0) p) ∙ sym (sum-map (λ (r : Row). r.tasks) row_in rs)
        ∙ ap (sum_of (λ (r : Row). r.tasks)) (sym (parts-rows s (table_of s) read rs (drop (place_of (table_of s) (table_of s).count) s) (in_parts s bytes verdict)))
        ∙ sym (taken s bytes verdict).good.tasks

    same_count : length (taken_records v) ≡ (table_of s).count
    same_count = sym (perm_length p) ∙ length-records s (table_of s).count 0

    same-form : (i : ℕ) → i < length (taken_records v) → form_in (taken_records v) i ≡ form_at s 0
    same-form i h =
        let read = read_as s bytes verdict in
        let all = records-of (λ (r : List ℕ). form_at r 0 ≡ form_at s 0) s (table_of s).count (record_form s (table_of s) read bytes) (table_of s).count 0 (omega arith) in
        all-at (λ (r : List ℕ). form_at r 0 ≡ form_at s 0) (taken_records v) i [] (perm_all (λ (r : List ℕ). form_at r 0 ≡ form_at s 0) p all) h

    pub accepted-again : (read_table (result_of v)).verdict ≡ Ok tt
    accepted-again = by (read_table (result_of v)).verdict refl
      where
        good : GoodTable (table_of s)
        good = (taken s bytes verdict).good

        some : 0 < length (taken_records v)
        some = omega (arith, same_count, good.some)

        never : {n : ℕ} → NoTable (taken_records v) n → ⊥
        never (NoTable.bytes f h) = omega (arith, h, ap limit_of (same-form 0 some), result-length, same_size, accepted-short s verdict)
        never (NoTable.forms f i m) = m.other (same-form i m.one ∙ sym (same-form 0 some))
        never (NoTable.tasks f i alike h) = omega (arith, h, tasks-first i (taken_records v), same-tasks, good.tasks_max)
        never (NoTable.chains f alike h) = omega (arith, h, same_count, good.few)
        never (NoTable.none f h) = omega (arith, h, some)

        by : (w : Verdict) → (read_table (result_of v)).verdict ≡ w → w ≡ Ok tt
        by (Ok u) f = refl
        by (Err f) e = absurd (never (refused_for e))
