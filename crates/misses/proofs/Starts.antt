-- Whether an overload chain may start more than once, row by row. Assumes nothing.
use Prim.Native.Nat.{ℕ, suc, ◌+◌, ◌≤◌, ◌<◌, min}
use mathlib.Core.Path.{◌≡◌, ap, sym, ◌∙◌}
use mathlib.Core.Bool.{Bool, true, false, ◌||◌}
use mathlib.Core.List.{[], ◌∷◌, ◌++◌}
use mathlib.Core.Logic.{⊎_elim}
use native.Mathlib.Omega.{arith}
use native.Mathlib.Numerals.{add-one}
use lib.Dec.{ltb}
use lib.ListN.{length, drop}
use lib.Seq.{drop-cons, get_or-take, length-take-le}
use borrow.Author.Tests.{lt-ltb, le-ltb, eq-eqb, ne_eqb}
use Rattle.search.proofs.Choice.{when_yes, when_no, lt_or_le}
use Rattle.table.specs.Record.{blank}
use Rattle.table.specs.Find.{row_of, rows}
use Rattle.table.specs.Code.Good.{GoodTable}
use Rattle.table.specs.declared.Row.{Row}
use Rattle.table.specs.declared.Table.{Table}
use Rattle.arrivals.specs.Arrivals.{Rule, δ, count_by, η}
use Rattle.table.specs.Record.{distances}
use Rattle.search.specs.Lists.{some}
use Rattle.misses.specs.Overloads.{Overload, overload, overloads}
use Rattle.misses.proofs.Bools.{drop_past, some_append, some_end, some-single}
use Rattle.misses.proofs.Gathers.{overloads_append}

-- it may start more than once in t, by a rule for distances and by δ
abbrev pub starts_by : Rule → ℕ → Overload → Bool
starts_by rule t o = ltb 1 (count_by rule o.list t)

abbrev pub starts : ℕ → Overload → Bool
starts = starts_by δ

-- a count that stops at 2 tells
pub above-one : (n m : ℕ) → n ≡ min m 2 → ltb 1 n ≡ ltb 1 m
above-one n m e = ⊎_elim
    (λ l. lt-ltb 1 n (omega arith) ∙ sym (lt-ltb 1 m l)) (λ l. le-ltb 1 n (omega arith) ∙ sym (le-ltb 1 m l)) (lt_or_le 1 m)

-- one row
module _ (b a : Row) (t : ℕ) where
  pub again-none : a.overload ≡ 0 → some (starts t) (overloads b (a ∷ [])) ≡ false
  unfolding overloads
  again-none e = ap (some (starts t)) (when_yes _ _ (eq-eqb _ _ e)) ∙ some_end (starts t)

  pub again-one : (a.overload ≡ 0 → ⊥) → some (starts t) (overloads b (a ∷ [])) ≡ ltb 1 (η (distances a) t)
  unfolding overloads
  again-one e = ap (some (starts t)) (when_no _ _ (ne_eqb _ _ e)) ∙ some-single (starts t) (overload a b)

-- the rows of a table from j on
module _ (b : Row) (table : Table) (good : GoodTable table) (t j : ℕ) where
  rows-size : length (rows table) ≡ table.count
  rows-size = length-take-le table.count table.row (omega (arith, good.few, good.size))

  here : j < table.count → some (starts t) (overloads b (drop j (rows table)))
      ≡ some (starts t) (overloads b (row_of table j ∷ [])) || some (starts t) (overloads b (drop (j + 1) (rows table)))
  here h =
      ap (λ l. some (starts t) (overloads b l))
      (drop-cons (rows table) j blank (omega (arith, rows-size)) ∙ ap (λ r. r ∷ drop (suc j) (rows table)) (get_or-take table.count table.row j blank h)
      ∙ ap (λ k. (row_of table j ∷ []) ++ drop k (rows table)) (sym (add-one j)))
      ∙ ap (some (starts t)) (overloads_append b (row_of table j ∷ []) (drop (j + 1) (rows table)))
      ∙ some_append (starts t) (overloads b (row_of table j ∷ [])) (overloads b (drop (j + 1) (rows table)))

  pub again-here : j < table.count → some (starts t) (overloads b (row_of table j ∷ [])) ≡ true → some (starts t) (overloads b (drop j (rows table))) ≡ true
  again-here h e = here h ∙ ap (λ x. x || some (starts t) (overloads b (drop (j + 1) (rows table)))) e

  pub again-later : j < table.count → some (starts t) (overloads b (row_of table j ∷ [])) ≡ false
      → some (starts t) (overloads b (drop j (rows table))) ≡ some (starts t) (overloads b (drop (j + 1) (rows table)))
  again-later h e = here h ∙ ap (λ x. x || some (starts t) (overloads b (drop (j + 1) (rows table)))) e

  pub again-past : table.count ≤ j → some (starts t) (overloads b (drop j (rows table))) ≡ false
  unfolding overloads some
  again-past h = ap (λ l. some (starts t) (overloads b l)) (drop_past (rows table) j (omega (arith, rows-size)))
