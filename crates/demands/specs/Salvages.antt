-- Salvage of a damaged table (02, request 8): what is kept stands in the input and is an accepted table, all else is told, and an accepted
-- table loses only its end record.
use Rattle.std.specs.Prelude.{ℕ, ◌+◌, ◌-◌, ◌<◌, ◌≤◌, ◌≡◌, List, [], ◌∷◌, map, false, ◌⊎◌, length, take, drop, Ok, Err}
use Rattle.search.specs.Lists.{All}
use Rattle.table.specs.Limits.{max_chains, max_bytes, max_input}
use Rattle.table.specs.Bytes.{Bytes}
use Rattle.table.specs.Record.{row_at, length_at}
use Rattle.table.specs.Find.{rows}
use Rattle.table.specs.Read.{empty, table_of}
use Rattle.table.specs.declared.refusal.Refusal.TheVariants.{BufferShort, InputTooLong, NothingKept}
use Rattle.salvaging.specs.Kept.{acceptable, kept_places}
use Rattle.salvaging.specs.Skipped.{skipped}
use Rattle.salvaging.specs.Steps.{Walks, kept_before}
use Rattle.salvaging.specs.Cover.{Covers, Apart}
use Rattle.salvaging.specs.Salvage.{record_at, table_kept, list_skipped, salvaged_of, Salvages}
use Rattle.salvaging.specs.declared.Lengths.{Lengths}
use Rattle.demands.specs.Chains.{IsTable}
use Rattle.demands.specs.Figures.{Exactly}

-- bytes, no more than may be given, of which something is kept
pub record Salvageable (s : List ℕ) : Type 0 where
  pub bytes : Bytes s
  pub short : length s ≤ max_input
  pub some : 1 ≤ length (kept_places s)

-- with so much room in the two buffers, it succeeds: the used lengths are those of the two results
abbrev pub Succeeds : ℕ → ℕ → List ℕ → Type 0
Succeeds tableRoom listRoom s = salvaged_of tableRoom listRoom s ≡ Ok (record { table = length (table_kept s); list = length (list_skipped s) })

pub record Salvaging : Type 0 where
  -- kept and skipped stretches, with the rest after a 16th record, cover the input exactly once and in order; no two skipped ones touch, so
  -- each is a longest one
  pub cover : (s : List ℕ) → Covers s
  pub longest : (s : List ℕ) → Apart (skipped s)
  -- each kept record stands in the input, byte for byte and whole
  pub stands : (s : List ℕ) → All (λ place. (place + length_at s place ≤ length s) × (length (record_at s place) ≡ length_at s place)) (kept_places s)
  -- the result is an accepted table, and its chains are those of the kept records, in order
  pub table : {s : List ℕ} → Salvageable s → IsTable (table_kept s)
  pub chains : {s : List ℕ} → Salvageable s → rows (table_of (table_kept s)) ≡ map (row_at s) (kept_places s)
  -- no skipped place starts a record that was acceptable there, beside those kept before it
  pub none_missed : (s : List ℕ) → All (λ x. (i : ℕ) → x.offset ≤ i → i < x.offset + x.size → acceptable s i (kept_before s i) ≡ false) (skipped s)
  -- so the records kept are those of the walk from the first byte, and no others are
  pub walk : (s places : List ℕ) → Exactly (kept_places s ≡ places) (Walks s 0 empty places)
  -- an accepted table comes back byte for byte; skipped is its end record alone, or nothing with 16 chains
  pub back : {s : List ℕ} → IsTable s → Salvageable s × (table_kept s ≡ s)
  pub end_alone : {s : List ℕ} → IsTable s → (table_of s).count < max_chains → skipped s ≡ record { offset = length s - 4; size = 4 } ∷ []
  pub nothing_skipped : {s : List ℕ} → IsTable s → (table_of s).count ≡ max_chains → skipped s ≡ []
  -- 1,748 and 128 bytes of room always suffice
  pub room : {s : List ℕ} → Salvageable s → (tableRoom listRoom : ℕ) → max_bytes ≤ tableRoom → 128 ≤ listRoom → Succeeds tableRoom listRoom s
  -- the buffers then begin with the results, and the rest of them is as it was
  pub written : {s table list tableAfter listAfter : List ℕ} {used : Lengths} → Salvages s table list (Ok used) tableAfter listAfter
      → ((take used.table tableAfter ≡ table_kept s) × (drop used.table tableAfter ≡ drop used.table table)) × ((take used.list listAfter ≡ list_skipped s) × (drop used.list listAfter ≡ drop used.list list))
  -- salvaging the result again gives the same table
  pub again : {s : List ℕ} → Salvageable s → table_kept (table_kept s) ≡ table_kept s
  -- 35 for more than 4,096 bytes; then 36 where nothing is kept; then 24 where either buffer is too small, and only there
  pub too_long : (s : List ℕ) → max_input < length s → (tableRoom listRoom : ℕ) → salvaged_of tableRoom listRoom s ≡ Err InputTooLong
  pub nothing_kept : (s : List ℕ) → length s ≤ max_input → length (kept_places s) ≡ 0 → (tableRoom listRoom : ℕ) → salvaged_of tableRoom listRoom s ≡ Err NothingKept
  pub no_room_holds : {s : List ℕ} → Salvageable s → (tableRoom listRoom : ℕ) → (tableRoom < length (table_kept s)) ⊎ (listRoom < length (list_skipped s)) → salvaged_of tableRoom listRoom s ≡ Err BufferShort
  pub enough : {s : List ℕ} → Salvageable s → (tableRoom listRoom : ℕ) → length (table_kept s) ≤ tableRoom → length (list_skipped s) ≤ listRoom → Succeeds tableRoom listRoom s
