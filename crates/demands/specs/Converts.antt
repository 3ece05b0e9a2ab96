-- Converting a table to the other form (02, request 7): every figure and refusal stays, back gives the old bytes, and it succeeds exactly where
-- said.
use Rattle.std.specs.Prelude.{ℕ, ◌+◌, ◌*◌, ◌<◌, ◌≤◌, ◌≡◌, List, ◌⊎◌, length, get_or, take, drop, Ok, Err}
use Rattle.search.specs.Lists.{All}
use Rattle.table.specs.Limits.{max_gap}
use Rattle.table.specs.Record.{gap_form, largest_form, form_at}
use Rattle.table.specs.Find.{rows}
use Rattle.table.specs.Read.{read_table, table_of}
use Rattle.table.specs.declared.Row.{Row}
use Rattle.table.specs.declared.refusal.Refusal.{Refusal}
use Rattle.table.specs.declared.refusal.Refusal.TheVariants.{BufferShort, NoSuchForm}
use Rattle.misses.specs.Sieve.{at_most_of}
use Rattle.merging.specs.Versions.{three}
use Rattle.writing.specs.Rows.{table_bytes}
use Rattle.converting.specs.Forms.{in_form, with_largest, with_gap, form_of, converted}
use Rattle.converting.specs.Convert.{rows_in, converted_of, Converts}
use Rattle.converting.specs.declared.To.{To}
use Rattle.converting.specs.declared.To.TheVariants.{Largest, Gap}
use Rattle.demands.specs.Chains.{IsTable}
use Rattle.demands.specs.Figures.{Exactly}
use Rattle.demands.specs.Others.{Unmoved}
use Rattle.demands.specs.Merges.{Gives}

-- the bytes of the converted table
abbrev pub table_in : To → List ℕ → List ℕ
table_in to s = table_bytes (rows_in to s)

-- an accepted table of either form, and one that was converted into a buffer with so much room: n bytes
pub record TableOf (form : ℕ) (s : List ℕ) : Type 0 where
  pub table : IsTable s
  pub has : form_at s 0 ≡ form

pub record ConvertedInto (to : To) (room : ℕ) (s : List ℕ) (n : ℕ) : Type 0 where
  pub table : IsTable s
  pub answered : converted_of to room s ≡ Ok n

-- a chain's largest distances are the multiples of g: (n − 1) times it for n activations
abbrev pub Multiples : ℕ → Row → Type 0
Multiples g r = (j : ℕ) → j < r.listed → get_or r.largest j 0 ≡ g * (j + 1)

-- they are those of a gap of at most 10,000,000
pub record OfGap (r : Row) : Type 0 where
  pub gap : ℕ
  pub near : gap ≤ max_gap
  pub each : Multiples gap r

pub record Conversions : Type 0 where
  -- what is converted is an accepted table of the form asked, as long as is answered, which fits
  pub table : {to : To} {s : List ℕ} {room n : ℕ} → ConvertedInto to room s n → TableOf (form_of to) (table_in to s) × (n ≡ length (table_in to s)) × (n ≤ room)
  -- the buffer then begins with it, and the rest of it is as it was
  pub written : {to : To} {s buffer after : List ℕ} {n : ℕ} → Converts to s buffer (Ok n) after → (take n after ≡ table_in to s) × (drop n after ≡ drop n buffer)
  -- each chain is converted, in its place; its form, flag, gap and largest distances apart, all of it stays
  pub chains : {to : To} {s : List ℕ} {room n : ℕ} → ConvertedInto to room s n → rows (table_of (table_in to s)) ≡ rows_in to s
  pub stays : (to : To) (r : Row) → converted to r ≡ in_form r (form_of to) (converted to r).flag (converted to r).gap (converted to r).largest
  -- a gap above 0 becomes flag 1 and its multiples, gap 0 becomes flag 0
  pub gap_becomes : (r : Row) → 0 < r.gap → ((with_largest r).flag ≡ 1) × Multiples r.gap (with_largest r)
  pub zero_becomes : (r : Row) → r.gap ≡ 0 → (with_largest r).flag ≡ 0
  -- the other way, a gap's multiples become the gap, and flag 0 becomes gap 0
  pub list_becomes : (r : Row) → 0 < r.listed → (g : ℕ) → Multiples g r → (with_gap r).gap ≡ g
  pub none_becomes : {s : List ℕ} → TableOf largest_form s → All (λ r. r.flag ≡ 0 → (with_gap r).gap ≡ 0) (rows (table_of s))
  -- it keeps every figure and refusal, for every id and k: latency, misses, and the sieve's number
  pub figures : {to : To} {s : List ℕ} {room n : ℕ} → ConvertedInto to room s n → (id : ℕ) → Unmoved s (table_in to s) id
  pub at_most : {to : To} {s : List ℕ} {room n : ℕ} → ConvertedInto to room s n → (id k : ℕ) → at_most_of s id k ≡ at_most_of (table_in to s) id k
  -- a table with gaps converts wherever there is room, one with largest distances exactly where each flag is 0 or its list is of that shape
  pub to_largest : {s : List ℕ} → TableOf gap_form s → (room : ℕ) → length (table_in Largest s) ≤ room → converted_of Largest room s ≡ Ok (length (table_in Largest s))
  pub to_gap : {s : List ℕ} → TableOf largest_form s → (room : ℕ) → length (table_in Gap s) ≤ room
      → Exactly (converted_of Gap room s ≡ Ok (length (table_in Gap s))) (All (λ r. (r.flag ≡ 0) ⊎ OfGap r) (rows (table_of s)))
  -- a refused table keeps its number; then 34 for any other, and for a table that has the form already; 24 last
  pub refused : (to : To) (s : List ℕ) {n : Refusal} {place : ℕ} → (read_table s).verdict ≡ Err (n, place) → (room : ℕ) → converted_of to room s ≡ Err n
  pub no_gap : {s : List ℕ} → TableOf largest_form s → (All (λ r. (r.flag ≡ 0) ⊎ OfGap r) (rows (table_of s)) → ⊥) → (room : ℕ) → converted_of Gap room s ≡ Err NoSuchForm
  pub already : (to : To) {s : List ℕ} → TableOf (form_of to) s → (room : ℕ) → converted_of to room s ≡ Err NoSuchForm
  pub no_room_holds : {to : To} {s : List ℕ} {room n : ℕ} → ConvertedInto to room s n → (less : ℕ) → less < n → converted_of to less s ≡ Err BufferShort
  -- back gives the old bytes, both ways
  pub back : {s : List ℕ} → TableOf gap_form s → (table_in Gap (table_in Largest s) ≡ s) × ((room : ℕ) → length s ≤ room → converted_of Gap room (table_in Largest s) ≡ Ok (length s))
  pub again : {s : List ℕ} {room n : ℕ} → ConvertedInto Gap room s n → table_in Largest (table_in Gap s) ≡ s
  -- one copy converted and the other untouched, a merge gives the converted table
  pub merged : {to : To} {s : List ℕ} {room n : ℕ} → ConvertedInto to room s n → Gives room (three s (table_in to s) s) (table_in to s) × Gives room (three s s (table_in to s)) (table_in to s)
