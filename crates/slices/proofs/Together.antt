-- Sound records of one form, no two with one id and no more than a table may have, make an accepted table. Assumes nothing.
use Prim.Native.Nat.{ℕ, ◌+◌, ◌*◌, ◌<◌, ◌≤◌}
use native.Mathlib.Omega.{arith}
use mathlib.Core.Path.{◌≡◌, refl, ap, sym, ◌∙◌}
use mathlib.Core.List.{List, [], ◌∷◌, ◌++◌, map, flatten}
use mathlib.Core.Logic.{⊎_elim}
use lib.ListN.{length, get_or, length-append}
use Rattle.search.specs.Choice.{◌when◌else◌}
use Rattle.search.specs.Lists.{sum_of, All}
use Rattle.search.proofs.Lists.{all_map, all_of}
use Rattle.table.specs.Limits.{max_chains, max_distances, max_all_tasks}
use Rattle.table.specs.Record.{largest_form, form_at, id_at, flag_at, listed_at, tasks_at, row_at, end_record}
use Rattle.table.specs.Find.{rows}
use Rattle.table.specs.Fault.{mark_of}
use Rattle.table.specs.Read.{read_table, table_of, limit_of}
use Rattle.table.specs.Refusal.{Verdict}
use Rattle.std.specs.declared.result.Result.TheVariants.{Ok, Err}
use Rattle.table.proofs.Words.{end-length, end-mark-word, end-count}
use Rattle.table.proofs.Widths.{limit-largest, limit-least}
use Rattle.slices.specs.Stored.{form_in}
use Rattle.slices.proofs.Lengths.{form_or, gap_record, any_record}
use Rattle.slices.proofs.Parts.{Whole, Parts, row_in}
use Rattle.slices.proofs.Parsed.{parts-rows}
use Rattle.slices.proofs.Stored.{accepted-read}
use Rattle.slices.proofs.Sound.{Sound, NoTable, tasks_in, tasks-first, no_table}

-- records that a table can have
pub record Together (rs : List (List ℕ)) : Type 0 where
  pub sound : All Sound rs
  pub some : 1 ≤ length rs
  pub few : length rs ≤ max_chains
  pub forms : (i : ℕ) → i < length rs → form_in rs i ≡ form_in rs 0
  pub ids : (i j : ℕ) → i < length rs → j < length rs → id_at (get_or rs i []) 0 ≡ id_at (get_or rs j []) 0 → i ≡ j
  pub tasks : tasks_in rs ≤ max_all_tasks

-- a sound record lists no more distances than may be, so it is no longer than its form allows
module _ {r : List ℕ} (sound : Sound r) where
  listed-few : listed_at r 0 ≤ max_distances
  unfolding row_at
  listed-few = omega (arith, sound.good.listed, sound.good.list.few)

  any_long : length r ≤ 77 + 8 * tasks_at r 0
  any_long = omega (arith, sound.whole.long, any_record (form_at r 0) (flag_at r 0) (listed_at r 0) (tasks_at r 0) listed-few)

  gap-long : (form_at r 0 ≡ largest_form → ⊥) → length r ≤ 48 + 8 * tasks_at r 0
  gap-long h = omega (arith, sound.whole.long, gap_record (form_at r 0) (flag_at r 0) (listed_at r 0) (tasks_at r 0) listed-few h)

-- records of at most so many bytes beside their tasks
all-long : (most : ℕ) (rs : List (List ℕ)) → All (λ r. length r ≤ most + 8 * tasks_at r 0) rs → length (flatten rs) ≤ most * length rs + 8 * tasks_in rs
unfolding sum_of flatten
all-long most [] h = omega arith
all-long most (r ∷ rs) h = omega (arith, length-append r (flatten rs), h.0, all-long most rs h.1)

module _ {rs : List (List ℕ)} (t : Together rs) where
  abbrev table : List ℕ
  table = flatten rs ++ end_record (length rs)

  parts : Parts table rs (end_record (length rs))
  parts = record { bytes = refl; whole = all_map {P = Sound} {Q = Whole} (λ r s. s.whole) rs t.sound; last = end-length (length rs) }

  -- within the limit of their form
  within : limit_of (form_in rs 0) < length (flatten rs) + 4 → ⊥
  within l = ⊎_elim
      (λ e. omega (arith, l, limit-largest (form_in rs 0) e, all-long 77 rs (all_map {P = Sound} (λ r s. any_long s) rs t.sound), t.few, t.tasks))
      (λ h. let none : All (λ r. form_at r 0 ≡ largest_form → ⊥) rs = all_of (λ r. form_at r 0 ≡ largest_form → ⊥) [] rs (λ i k e. h (sym (t.forms i k) ∙ e)) in
      omega (arith, l, limit-least (form_in rs 0), all-long 48 rs (short rs t.sound none), t.few, t.tasks))
      (form_or (form_in rs 0))
    where
      short : (l : List (List ℕ)) → All Sound l → All (λ r. form_at r 0 ≡ largest_form → ⊥) l → All (λ r. length r ≤ 48 + 8 * tasks_at r 0) l
      short [] s h = tt
      short (r ∷ l) s h = (gap-long s.0 h.0, short l s.1 h.1)

  none-wrong : {n : ℕ} → NoTable rs n → ⊥
  none-wrong (NoTable.bytes f h) = within h
  none-wrong (NoTable.forms f i m) = m.other (t.forms i m.one)
  none-wrong (NoTable.tasks f i o h) = omega (arith, h, tasks-first i rs, t.tasks)
  none-wrong (NoTable.chains f o h) = omega (arith, h, t.few)
  none-wrong (NoTable.none f h) = omega (arith, h, t.some)

  pub together-accepted : (read_table (flatten rs ++ end_record (length rs))).verdict ≡ Ok tt
  unfolding mark_of ◌when◌else◌
  together-accepted = by (read_table table).verdict refl
    where
      by : (v : Verdict) → (read_table table).verdict ≡ v → v ≡ Ok tt
      by (Ok u) e = refl
      by (Err f) e =
          absurd (none-wrong (no_table rs (end_record (length rs)) table parts t.sound t.ids
          (ap mark_of (end-mark-word (length rs))) (end-count (length rs) (omega (arith, t.few))) e))

  -- and its rows are theirs
  pub together-rows : rows (table_of (flatten rs ++ end_record (length rs))) ≡ map row_in rs
  together-rows = parts-rows table (table_of table) (accepted-read table together-accepted) rs (end_record (length rs)) parts
