-- The numbers that a table and a save are refused with are those of documents 01 and 02. Assumes nothing.
use Prim.Native.Nat.{ℕ, ◌≤◌}
use mathlib.Core.Path.{◌≡◌, refl}
use mathlib.Core.List.{List}
use mathlib.Core.Logic.{inl, inr}
use lib.Dec.{lit≤}
use Rattle.std.specs.Prelude.{⊤}
use Rattle.std.specs.declared.result.Result.{Result}
use Rattle.std.specs.declared.result.Result.TheVariants.{Ok, Err}
use Rattle.search.proofs.Choice.{when_cases}
use Rattle.table.specs.Refusal.{Verdict, numbered}
use Rattle.table.specs.Read.{by_verdict, read_table, refused_by}
use Rattle.table.specs.declared.refusal.Refusal.{Refusal}
use Rattle.table.proofs.Fields.{refused-placed, some_number}
use Rattle.saving.specs.Save.{read_fault, result_fault, replace_fault, change_fault, save_fault}
use Rattle.demands.specs.Entries.{SaveRefusal}

-- no refusal, or one that has such a number, which is not 0
abbrev pub Known : (ℕ → Type 0) → Result ⊤ Refusal → Type 0
Known Allowed (Ok u) = Unit {0}
Known Allowed (Err n) = (1 ≤ numbered n) × Allowed (numbered n)

-- a table: one of its numbers, and a save: a table's, or 22 to 24
abbrev Saves : Result ⊤ Refusal → Type 0
Saves r = Known SaveRefusal r

read-saves : (s : List ℕ) → Saves (read_fault s)
read-saves s = by (read_table s).verdict refl
  where
    by : (v : Verdict) → (read_table s).verdict ≡ v → Saves (refused_by v)
    by (Ok u) e = tt
    by (Err f) e = (some_number s {n = f.0} {place = f.1} e, inl (refused-placed s {n = f.0} {place = f.1} e).number)

replace_saves : (room : ℕ) (s old new : List ℕ) → Saves (replace_fault room s old new)
unfolding replace_fault result_fault
replace_saves room s old new =
    when_cases Saves _ (λ e. (lit≤ tt, inr (lit≤ tt, lit≤ tt))) (λ e.
    when_cases Saves _ (λ e. (lit≤ tt, inr (lit≤ tt, lit≤ tt))) (λ e.
    when_cases Saves _ (λ e. (lit≤ tt, inr (lit≤ tt, lit≤ tt))) (λ e. read-saves _)))

change_saves : (room : ℕ) (s old new : List ℕ) → Saves (change_fault room s old new)
unfolding change_fault
change_saves room s old new = by (read_table s).verdict refl
  where
    by : (v : Verdict) → (read_table s).verdict ≡ v → Saves (by_verdict Err v (replace_fault room s old new))
    by (Ok u) e = replace_saves room s old new
    by (Err f) e = (some_number s {n = f.0} {place = f.1} e, inl (refused-placed s {n = f.0} {place = f.1} e).number)

pub save-number : (buffer : List ℕ) (used : ℕ) (old new : List ℕ) → Saves (save_fault buffer used old new)
unfolding save_fault
save-number buffer used old new = when_cases Saves _ (λ e. (lit≤ tt, inl (inl (lit≤ tt, lit≤ tt)))) (λ e. change_saves _ _ old new)
