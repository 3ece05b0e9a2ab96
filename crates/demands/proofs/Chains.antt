-- The chain that an id names in an accepted table: its row, the other rows, and the answers as functions of them. Assumes nothing.
use Prim.Native.Nat.{ℕ, ◌<◌}
use mathlib.Core.Path.{◌≡◌, ap, sym, ◌∙◌}
use mathlib.Core.Bool.{Bool, true, false, not}
use mathlib.Core.List.{List, [], ◌∷◌, map}
use mathlib.Core.Logic.{◌⊎◌}
use native.Mathlib.Omega.{arith}
use native.Mathlib.Nat.{eq-or-lt_of_le}
use lib.Dec.{eqb}
use lib.ListN.{length, get_or}
use lib.Seq.{get_or-take, length-take-le}
use borrow.Author.Tests.{ne_eqb, eqb-true}
use Rattle.search.specs.Lists.{keep}
use Rattle.search.proofs.Find.{first_le, first_hit, first_miss}
use Rattle.search.proofs.Keeping.{keep-none, keep_one, keep-rest}
use Rattle.table.specs.Record.{blank}
use Rattle.table.specs.Find.{row_of, rows, find_of}
use Rattle.table.specs.Code.Good.{GoodTable}
use Rattle.table.specs.Read.{accepted, read_table, refused_by, table_of}
use Rattle.table.specs.declared.Row.{Row}
use Rattle.table.specs.declared.Table.{Table}
use Rattle.table.proofs.Accepted.{taken}
use Rattle.arrivals.specs.Arrivals.{Rule}
use Rattle.segments.specs.View.{view_of}
use Rattle.windows.specs.Demand.{views_of}
use Rattle.windows.specs.Latency.{figures_of, bound_of, latency_by}
use Rattle.windows.proofs.Answers as latency
use Rattle.misses.specs.Overloads.{overloads}
use Rattle.misses.specs.Bad.{Test}
use Rattle.misses.specs.Misses.{tested_beside, tested_at, tested_of}
use Rattle.std.specs.declared.result.Result.TheVariants.{Err}
use Rattle.table.specs.declared.refusal.Refusal.TheVariants.{NoChain}
use Rattle.misses.proofs.Answers as misses
use Rattle.saving.proofs.Verdicts.{read-accepted}
use Rattle.slices.proofs.Parts.{row_in}
use Rattle.slices.proofs.Records.{record_row}
use Rattle.demands.specs.Chains.{IsTable, Has, chain_number, chain_of, record_bytes}
use Rattle.demands.specs.Chains as chains

-- an accepted table is good, and reads back
pub table-good : {s : List ℕ} → IsTable s → GoodTable (table_of s)
table-good {s} h = (taken s h.bytes h.accepted).good

pub table-read : {s : List ℕ} → IsTable s → read_table s ≡ accepted (table_of s)
table-read {s} h = read-accepted s (ap refused_by h.accepted)

-- the row is what the record's bytes make
pub own_row : {s : List ℕ} {id : ℕ} → Has s id → row_in (record_bytes s id) ≡ chain_of s id
own_row {s} {id} h = record_row s (table_of s) (table-read h.table) h.table.bytes (chain_number s id) h.there

-- the answers go by the row and the rows of the others
module _ {s : List ℕ} {id : ℕ} (h : Has s id) where
  found : chain_number s id ≡ (table_of s).count → ⊥
  found e = omega (arith, e, h.there)

  pub latency-is : (rule : Rule) → latency_by rule s id ≡ figures_of (bound_of rule (chain_of s id) (map (λ a. view_of a (chain_of s id)) (chains.others_of s id)))
  unfolding views_of
  latency-is rule = latency.latency-accepted rule s id h.table.accepted ∙ latency.chain-found rule (table_of s) id found

  pub tested-are : (rule : Rule) (test : Test) (k : ℕ) → tested_of rule test s id k
      ≡ tested_beside rule test (chain_of s id) (map (λ a. view_of a (chain_of s id)) (chains.others_of s id)) (overloads (chain_of s id) (chains.others_of s id)) k
  unfolding views_of tested_at
  tested-are rule test k = misses.tested-accepted rule test s id k h.table.accepted ∙ misses.chain-found rule test (table_of s) id k found

-- no chain has the id: 12
module _ {s : List ℕ} (h : IsTable s) (id : ℕ) (none : chain_number s id ≡ (table_of s).count) where
  pub latency-absent : (rule : Rule) → latency_by rule s id ≡ Err NoChain
  latency-absent rule = latency.latency-accepted rule s id h.accepted ∙ latency.chain-none rule (table_of s) id none

  pub tested-absent : (rule : Rule) (test : Test) (k : ℕ) → tested_of rule test s id k ≡ Err NoChain
  tested-absent rule test k = misses.tested-accepted rule test s id k h.accepted ∙ misses.chain-none rule test (table_of s) id k none

-- so does one chain of a table bear the id, and the others do not
abbrev pub bears : ℕ → Row → Bool
bears id a = eqb a.id id

module _ {s : List ℕ} (h : IsTable s) (id : ℕ) where
  abbrev t : Table
  t = table_of s

  count : length (rows t) ≡ t.count
  count = let g = table-good h in length-take-le t.count t.row (omega (arith, g.few, g.size))

  row-at : (j : ℕ) → j < length (rows t) → get_or (rows t) j blank ≡ row_of t j
  row-at j l = get_or-take t.count t.row j blank (omega (arith, count))

  pub absent_or_there : (chain_number s id ≡ t.count) ⊎ (chain_number s id < t.count)
  unfolding find_of
  absent_or_there = eq-or-lt_of_le (omega (arith, first_le (λ chain. bears id (row_of t chain)) 0 t.count))

  pub none-bears : chain_number s id ≡ t.count → keep (bears id) (rows t) ≡ []
  unfolding find_of
  none-bears e =
      keep-none blank (bears id) (rows t)
      (λ j l. ap (bears id) (row-at j l) ∙ first_miss (λ chain. bears id (row_of t chain)) 0 t.count j (omega arith) (omega (arith, e, count)))

  module _ (there : chain_number s id < t.count) where
    pub own-bears : bears id (row_of t (chain_number s id)) ≡ true
    unfolding find_of
    own-bears = first_hit (λ chain. bears id (row_of t chain)) 0 t.count (omega (arith, there))

    other : (j : ℕ) → j < length (rows t) → (j ≡ chain_number s id → ⊥) → bears id (get_or (rows t) j blank) ≡ false
    other j l n =
        ne_eqb _ _ (λ e. n ((table-good h).ids j (chain_number s id) (omega (arith, count)) there
        (ap (λ (a : Row). a.id) (sym (row-at j l)) ∙ e ∙ sym (eqb-true _ _ own-bears))))

    pub one-bears : keep (bears id) (rows t) ≡ chain_of s id ∷ []
    one-bears =
        let l : chain_number s id < length (rows t) = omega (arith, count) in
        keep_one blank (bears id) (rows t) (chain_number s id) l (ap (bears id) (row-at (chain_number s id) l) ∙ own-bears) other ∙ ap (λ a. a ∷ []) (row-at (chain_number s id) l)

    pub others-bear : keep (λ a. not (bears id a)) (rows t) ≡ chains.others_of s id
    others-bear =
        let l : chain_number s id < length (rows t) = omega (arith, count) in
        keep-rest blank (λ a. not (bears id a)) (rows t) (chain_number s id) l (ap not (ap (bears id) (row-at (chain_number s id) l) ∙ own-bears)) (λ j m n. ap not (other j m n))
