-- What a salvage answers, in the order of its refusals, and what it leaves. Assumes nothing.
use Prim.Native.Nat.{ℕ, ◌<◌, ◌≤◌}
use native.Mathlib.Omega.{arith}
use mathlib.Core.Path.{◌≡◌, refl, ap, sym, subst, ◌∙◌}
use mathlib.Core.List.{List}
use mathlib.Core.Bool.{◌||◌}
use mathlib.Core.Logic.{◌⊎◌, ⊎_elim}
use lib.ListN.{length, take, drop}
use lib.Seq.{take_at, drop_at}
use lib.Dec.{eqb, ltb}
use borrow.Author.Tests.{lt-ltb, le-ltb, eq-eqb, ne_eqb, eqb-false}
use Rattle.search.proofs.Choice.{when_yes, when_no, when_cases}
use Rattle.table.specs.Limits.{max_input}
use Rattle.table.specs.declared.refusal.Refusal.TheVariants.{BufferShort, InputTooLong, NothingKept}
use Rattle.table.proofs.Firsts.{or_left, or_right, or_none}
use Rattle.salvaging.specs.Kept.{kept_places}
use Rattle.salvaging.specs.Salvage.{Answer, table_kept, list_skipped, fitted, salvaged_of, buffer_after, Salvages}
use Rattle.std.specs.declared.result.Result.TheVariants.{Ok, Err}
use Rattle.salvaging.specs.declared.Lengths.{Lengths}

module _ (tableRoom listRoom : ℕ) (s : List ℕ) where
  pub too_long : max_input < length s → salvaged_of tableRoom listRoom s ≡ Err InputTooLong
  unfolding salvaged_of
  too_long l = when_yes _ _ (lt-ltb max_input (length s) l)

  module _ (short : length s ≤ max_input) where
    pub nothing_kept : length (kept_places s) ≡ 0 → salvaged_of tableRoom listRoom s ≡ Err NothingKept
    unfolding salvaged_of
    nothing_kept e = when_no _ _ (le-ltb max_input (length s) short) ∙ when_yes _ _ (eq-eqb _ _ e)

    module _ (some : 1 ≤ length (kept_places s)) where
      pub is-fitted : salvaged_of tableRoom listRoom s ≡ fitted tableRoom listRoom (table_kept s) (list_skipped s)
      unfolding salvaged_of
      is-fitted = when_no _ _ (le-ltb max_input (length s) short) ∙ when_no _ _ (ne_eqb (length (kept_places s)) 0 (λ e. omega (arith, e)))

      pub no_room_holds : (tableRoom < length (table_kept s)) ⊎ (listRoom < length (list_skipped s)) → salvaged_of tableRoom listRoom s ≡ Err BufferShort
      no_room_holds h = is-fitted ∙ when_yes _ _ (⊎_elim (λ l. or_left _ _ (lt-ltb _ _ l)) (λ l. or_right (ltb tableRoom (length (table_kept s))) _ (lt-ltb _ _ l)) h)

      pub has-room : length (table_kept s) ≤ tableRoom → length (list_skipped s) ≤ listRoom → salvaged_of tableRoom listRoom s ≡ Ok (record { table = length (table_kept s); list = length (list_skipped s) })
      has-room l m = is-fitted ∙ when_no _ _ (or_none _ _ (le-ltb tableRoom (length (table_kept s)) l) (le-ltb listRoom (length (list_skipped s)) m))

-- what an answer with lengths says: they are those of the two results, and a record was kept
pub record Made (s : List ℕ) (used : Lengths) : Type 0 where
  pub table_long : used.table ≡ length (table_kept s)
  pub list_long : used.list ≡ length (list_skipped s)
  pub some : 1 ≤ length (kept_places s)

abbrev Makes : List ℕ → Answer → Type 0
Makes s (Ok used) = Made s used
Makes s (Err n) = Unit

makes : (tableRoom listRoom : ℕ) (s : List ℕ) → Makes s (salvaged_of tableRoom listRoom s)
unfolding salvaged_of
makes tableRoom listRoom s =
    when_cases (Makes s) (ltb max_input (length s)) (λ e. tt)
    (λ e. when_cases (Makes s) (eqb (length (kept_places s)) 0) (λ f. tt)
    (λ f. when_cases (Makes s) (ltb tableRoom (length (table_kept s)) || ltb listRoom (length (list_skipped s))) (λ g. tt)
    (λ g. record { table_long = refl; list_long = refl; some = some (eqb-false _ _ f) })))
  where
    some : (length (kept_places s) ≡ 0 → ⊥) → 1 ≤ length (kept_places s)
    some none = omega (arith, none)

pub made : {s table list tableAfter listAfter : List ℕ} {answer : Answer} → Salvages s table list answer tableAfter listAfter → {used : Lengths} → answer ≡ Ok used → Made s used
made {s} {table} {list} c e = subst (Makes s) (sym c.answers ∙ e) (makes (length table) (length list) s)

-- a buffer after it begins with its result, and the rest of it stays
left_in : (result buffer after : List ℕ) (used : Lengths) (k : ℕ) → after ≡ buffer_after (Ok used) result buffer → k ≡ length result → (take k after ≡ result) × (drop k after ≡ drop k buffer)
left_in result buffer after used k e f =
    let g = e ∙ when_yes _ _ refl in
    (rw g (take_at result (drop (length result) buffer) k (sym f)), rw g (drop_at result (drop (length result) buffer) k (sym f) ∙ ap (λ i. drop i buffer) (sym f)))

pub leaves : {s table list tableAfter listAfter : List ℕ} {used : Lengths} → Salvages s table list (Ok used) tableAfter listAfter
    → ((take used.table tableAfter ≡ table_kept s) × (drop used.table tableAfter ≡ drop used.table table)) × ((take used.list listAfter ≡ list_skipped s) × (drop used.list listAfter ≡ drop used.list list))
leaves {s} {table} {list} {tableAfter} {listAfter} {used} c =
    let u = made c refl in
    (left_in (table_kept s) table tableAfter used used.table c.leaves_table u.table_long, left_in (list_skipped s) list listAfter used used.list c.leaves_list u.list_long)
