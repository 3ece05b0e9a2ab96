-- The records kept stand in the input, and together they make an accepted table. Assumes nothing.
use Prim.Native.Nat.{ℕ, zero, suc, ◌+◌, ◌<◌, ◌≤◌}
use native.Mathlib.Omega.{arith}
use mathlib.Core.Path.{◌≡◌, refl, ap, sym, subst, ◌∙◌}
use mathlib.Core.List.{List, [], ◌∷◌, map, flatten}
use mathlib.Core.Bool.{true}
use lib.ListN.{length, get_or, drop, length-map, length-set, length-replicate}
use lib.Seq.{get_or-set_same, get_or-set_other}
use borrow.Author.Tests.{ne_eqb}
use Rattle.search.specs.Lists.{sum_of, All}
use Rattle.search.proofs.Choice.{when_no}
use Rattle.search.proofs.Lists.{all_map, all_of, all_after}
use Rattle.table.specs.Limits.{max_chains, max_all_tasks, max_bytes}
use Rattle.table.specs.Bytes.{word, bytes_of, Bytes}
use Rattle.table.specs.Record.{blank, form_at, id_at, tasks_at, length_at, row_at, end_mark, end_record}
use Rattle.table.specs.Find.{row_of, rows}
use Rattle.table.specs.Read.{empty, plus, read_table, table_of}
use Rattle.table.specs.declared.Row.{Row}
use Rattle.table.specs.declared.Table.{Table}
use Rattle.std.specs.declared.result.Result.TheVariants.{Ok}
use Rattle.table.proofs.Goods.{row-good}
use Rattle.table.proofs.Words.{bytes-of}
use Rattle.table.proofs.Widths.{limit-most}
use Rattle.table.proofs.Accepted.{fresh, accepted-short}
use Rattle.slices.proofs.Bytes.{bytes_append, bytes_take, bytes_drop, bytes-flatten}
use Rattle.slices.proofs.Cuts.{cut-row, cut-form, cut-id, cut-tasks}
use Rattle.slices.proofs.Parts.{row_in, all-at, map_at}
use Rattle.slices.proofs.Sound.{Sound, cut-sound, tasks_in}
use Rattle.slices.proofs.Together.{Together, together-accepted, together-rows}
use Rattle.salvaging.specs.Kept.{form_beside, acceptable, kept_places}
use Rattle.salvaging.specs.Skipped.{skipped}
use Rattle.salvaging.specs.Salvage.{record_at, table_kept, list_skipped}
use Rattle.salvaging.specs.Steps.{Walks}
use Rattle.salvaging.proofs.Walks.{acceptable-says, kept-few, first-stays}
use Rattle.salvaging.proofs.Stepping.{kept_walks}
use Rattle.salvaging.proofs.Stretches.{list_long, skipped-few}

-- an acceptable record is sound by itself
acceptable-sound : (s : List ℕ) (place : ℕ) (t : Table) → Bytes s → acceptable s place t ≡ true → Sound (record_at s place)
acceptable-sound s place t bytes e =
    let a = acceptable-says s place t e in
    cut-sound s place a.chain.there a.mark (row-good s place t bytes a.mark a.right.chain) (λ i l. (a.chain.tasks i l).mark)

module _ (s : List ℕ) where
  -- what holds of an acceptable record holds of each one kept
  each : (P : ℕ → Type 0) → ((place : ℕ) (t : Table) → acceptable s place t ≡ true → P place) → (at : ℕ) (t : Table) (places : List ℕ) → Walks s at t places → All P places
  unfolding Walks
  each P f at t [] h = tt
  each P f at t (place ∷ places) h = (f place t h.0.starts, each P f (place + length_at s place) (plus t (row_at s place)) places h.1)

  -- beside fewer than 16 rows
  has-room : (place : ℕ) (t : Table) → t.count ≤ max_chains → acceptable s place t ≡ true → t.count < max_chains
  has-room place t few e = let full : t.count ≡ max_chains → ⊥ = (acceptable-says s place t e).right.room in omega arith

  -- each has the form of the rows before it
  forms-beside : (at : ℕ) (t : Table) (places : List ℕ) → (t.count ≡ 0 → ⊥) → Walks s at t places → All (λ place. form_at s place ≡ (row_of t 0).form) places
  unfolding Walks form_beside
  forms-beside at t [] some h = tt
  forms-beside at t (place ∷ places) some h =
      let rest = forms-beside (place + length_at s place) (plus t (row_at s place)) places (λ e. omega (arith, e)) h.1 in
      ((acceptable-says s place t h.0.starts).right.form ∙ when_no _ _ (ne_eqb _ _ some), subst (λ (r : Row). All (λ p. form_at s p ≡ r.form) places) (first-stays t (row_at s place) some) rest)

  -- an id that none of them bears
  ids-beside : (at : ℕ) (t : Table) (places : List ℕ) → Walks s at t places → All (λ place. (chain : ℕ) → chain < t.count → (row_of t chain).id ≡ id_at s place → ⊥) places
  unfolding Walks
  ids-beside at t [] h = tt
  ids-beside at t (place ∷ places) h =
      let more = plus t (row_at s place) in
      let rest = ids-beside (place + length_at s place) more places h.1 in (
        fresh t (id_at s place) (acceptable-says s place t h.0.starts).chain.head.fresh,
        all_map {P = λ p. (chain : ℕ) → chain < more.count → (row_of more chain).id ≡ id_at s p → ⊥}
            (λ p f chain l e. f chain (omega (arith, l)) (ap (λ (r : Row). r.id) (get_or-set_other t.row t.count chain (row_at s place) blank (λ q. omega (arith, l, q))) ∙ e)) places rest,
      )

  -- and all tasks are no more than may be
  tasks-beside : (at : ℕ) (t : Table) (places : List ℕ) → t.tasks ≤ max_all_tasks → Walks s at t places → t.tasks + sum_of (tasks_at s) places ≤ max_all_tasks
  unfolding Walks sum_of row_at
  tasks-beside at t [] l h = omega arith
  tasks-beside at t (place ∷ places) l h =
      omega (arith, tasks-beside (place + length_at s place) (plus t (row_at s place)) places (acceptable-says s place t h.0.starts).chain.head.all h.1)

  -- so none of those after a record bears its id, and no two bear one
  id-alone : (place : ℕ) (t : Table) (places : List ℕ) → length t.row ≡ max_chains → t.count < max_chains → Walks s (place + length_at s place) (plus t (row_at s place)) places
      → (j : ℕ) → j < length places → id_at s place ≡ id_at s (get_or places j 0) → ⊥
  unfolding row_at
  id-alone place t places long room h j l e =
      let more = plus t (row_at s place) in
      all-at (λ p. (chain : ℕ) → chain < more.count → (row_of more chain).id ≡ id_at s p → ⊥) places j 0 (ids-beside (place + length_at s place) more places h) l t.count (omega arith)
      (ap (λ (r : Row). r.id) (get_or-set_same t.row t.count (row_at s place) blank (omega arith)) ∙ e)

  ids-apart : (at : ℕ) (t : Table) (places : List ℕ) → length t.row ≡ max_chains → t.count ≤ max_chains → Walks s at t places
      → (i j : ℕ) → i < length places → j < length places → id_at s (get_or places i 0) ≡ id_at s (get_or places j 0) → i ≡ j
  unfolding Walks
  ids-apart at t [] long few h i j k l e = absurd (omega arith)
  ids-apart at t (place ∷ places) long few h zero zero k l e = refl
  ids-apart at t (place ∷ places) long few h zero (suc j) k l e = absurd (id-alone place t places long (has-room place t few h.0.starts) h.1 j (omega arith) e)
  ids-apart at t (place ∷ places) long few h (suc i) zero k l e = absurd (id-alone place t places long (has-room place t few h.0.starts) h.1 i (omega arith) (sym e))
  ids-apart at t (place ∷ places) long few h (suc i) (suc j) k l e =
      let room = has-room place t few h.0.starts in
      ap suc (ids-apart (place + length_at s place) (plus t (row_at s place)) places (simp length-set long) (omega arith) h.1 i j (omega arith) (omega arith) e)

  abbrev places : List ℕ
  places = kept_places s

  abbrev records : List (List ℕ)
  records = map (record_at s) places

  -- each record kept is whole inside the input
  pub kept_there : All (λ place. place + length_at s place ≤ length s) places
  kept_there = each (λ place. place + length_at s place ≤ length s) (λ place t e. (acceptable-says s place t e).chain.there) 0 empty places (kept_walks s)

  pub kept-most : length places ≤ max_chains
  kept-most = omega (arith, kept-few s (length s) 0 empty (omega arith))

  there-at : (i : ℕ) → i < length places → get_or places i 0 + length_at s (get_or places i 0) ≤ length s
  there-at i h = all-at (λ place. place + length_at s place ≤ length s) places i 0 kept_there h

  -- all have the first one's form
  forms-first : (l : List ℕ) → Walks s 0 empty l → (i : ℕ) → i < length l → form_at s (get_or l i 0) ≡ form_at s (get_or l 0 0)
  unfolding Walks row_at
  forms-first [] h i k = absurd (omega arith)
  forms-first (place ∷ l) h zero k = refl
  forms-first (place ∷ l) h (suc i) k =
      all-at (λ p. form_at s p ≡ (row_of (plus empty (row_at s place)) 0).form) l i 0
      (forms-beside (place + length_at s place) (plus empty (row_at s place)) l (λ e. omega (arith, e)) h.1) (omega arith)

  all-tasks : (l : List ℕ) → All (λ place. place + length_at s place ≤ length s) l → tasks_in (map (record_at s) l) ≡ sum_of (tasks_at s) l
  unfolding sum_of
  all-tasks [] h = refl
  all-tasks (place ∷ l) h = rw (cut-tasks s place h.0, all-tasks l h.1)

  all-rows : (l : List ℕ) → All (λ place. place + length_at s place ≤ length s) l → map row_in (map (record_at s) l) ≡ map (row_at s) l
  all-rows [] h = refl
  all-rows (place ∷ l) h = rw (cut-row s place h.0, all-rows l h.1)

  module _ (bytes : Bytes s) where
    -- the table kept is made of bytes
    pub kept-bytes : Bytes (table_kept s)
    kept-bytes =
        bytes_append (flatten records) (end_record (length places))
        (bytes-flatten records (all_after Bytes (record_at s) places (all_of (λ place. Bytes (record_at s place)) 0 places (λ i h. let place = get_or places i 0 in bytes_take (length_at s place) (drop place s) (bytes_drop place s bytes)))))
        (bytes_append (bytes_of 2 end_mark) (bytes_of 2 (length places)) (bytes-of 2 end_mark) (bytes-of 2 (length places)))

    module _ (some : 1 ≤ length places) where
      count : length records ≡ length places
      count = length-map places (record_at s)

      together : Together records
      together = record {
        sound = all_after Sound (record_at s) places (each (λ place. Sound (record_at s place)) (λ place t e. acceptable-sound s place t bytes e) 0 empty places (kept_walks s));
        some = omega (arith, count);
        few = omega (arith, count, kept-most);
        forms = λ i h.
            let k : i < length places = omega (arith, count) in
            rw (map_at (record_at s) places i 0 [] k, map_at (record_at s) places 0 0 [] some, cut-form s _ (there-at i k), cut-form s _ (there-at 0 some)) (forms-first places (kept_walks s) i k);
        ids = λ i j h l e.
            let k : i < length places = omega (arith, count) in
            let m : j < length places = omega (arith, count) in
            ids-apart 0 empty places (length-replicate max_chains blank) (omega arith) (kept_walks s) i j k m
            (sym (cut-id s _ (there-at i k)) ∙ (rw (map_at (record_at s) places i 0 [] k, map_at (record_at s) places j 0 [] m) at e) ∙ cut-id s _ (there-at j m));
        tasks = omega (arith, all-tasks places kept_there, tasks-beside 0 empty places (omega arith) (kept_walks s));
      }

      -- it is accepted, and its rows are those of the records kept
      pub kept-accepted : (read_table (table_kept s)).verdict ≡ Ok tt
      kept-accepted = rw (← count) (together-accepted together)

      pub kept-rows : rows (table_of (table_kept s)) ≡ map (row_at s) places
      kept-rows = rw (← count) (together-rows together ∙ all-rows places kept_there)

      -- so it is no longer than a table may be
      pub kept-short : length (table_kept s) ≤ max_bytes
      kept-short = omega (arith, accepted-short (table_kept s) kept-accepted, limit-most (word 2 (table_kept s) 0))

-- and the list is no longer than 16 stretches
pub list-short : (s : List ℕ) → length (list_skipped s) ≤ 128
list-short s = omega (arith, list_long (skipped s), skipped-few max_chains s 0 (kept_places s))
