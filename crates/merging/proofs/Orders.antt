-- The ids of a table, in its order, and how they are joined to others. Assumes nothing.
use Prim.Native.Nat.{ℕ, ◌+◌, ◌<◌}
use native.Mathlib.Omega.{arith}
use mathlib.Core.Path.{◌≡◌, refl, ap, ◌∙◌}
use mathlib.Core.List.{List, [], ◌∷◌}
use mathlib.Core.Bool.{Bool, ◌||◌}
use lib.Dec.{eqb}
use Rattle.std.specs.List.{list_any}
use lib.ListN.{length, drop, get_or, length-take, length-map, get_or-map}
use lib.Seq.{get_or-take}
use Rattle.search.specs.Choice.{◌when◌else◌}
use Rattle.search.specs.Lists.{some, keep}
use Rattle.search.proofs.Rest.{rest}
use Rattle.table.specs.Record.{blank}
use Rattle.table.specs.Find.{row_of, rows}
use Rattle.table.specs.Read.{table_of}
use Rattle.table.specs.Code.Taken.{Taken}
use Rattle.table.specs.declared.Row.{Row}
use Rattle.merging.specs.Versions.{ids_of}
use Rattle.merging.specs.Rule.{among, joined}

-- what the slice's own test tells
pub among-is : (l : List ℕ) (n : ℕ) → list_any (λ m. eqb m n) l ≡ among l n
unfolding some
among-is [] n = refl
among-is (m ∷ l) n = ap (λ (t : Bool). eqb m n || t) (among-is l n)

-- joined to none, they are all
pub joined-none : (l : List ℕ) → joined [] l ≡ l
unfolding keep some ◌when◌else◌
joined-none [] = refl
joined-none (n ∷ l) = ap (λ (r : List ℕ). n ∷ r) (joined-none l)

module _ {s : List ℕ} (t : Taken s) where
  pub ids-length : length (ids_of s) ≡ (table_of s).count
  ids-length = length-map (rows (table_of s)) (λ (r : Row). r.id) ∙ length-take (table_of s).count (table_of s).row ∙ omega (arith, t.good.few, t.good.size)

  module _ (chain : ℕ) (h : chain < (table_of s).count) where
    pub ids_at : get_or (ids_of s) chain 0 ≡ (row_of (table_of s) chain).id
    ids_at = get_or-map (λ (r : Row). r.id) (rows (table_of s)) chain blank ∙ ap (λ (r : Row). r.id) (get_or-take (table_of s).count (table_of s).row chain blank h)

    pub ids-rest : drop chain (ids_of s) ≡ (row_of (table_of s) chain).id ∷ drop (chain + 1) (ids_of s)
    ids-rest = rest (ids_of s) chain 0 (omega (arith, ids-length)) ∙ ap (λ n. n ∷ drop (chain + 1) (ids_of s)) ids_at
