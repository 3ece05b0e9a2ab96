-- Whether a chain can be said with a gap: by its flag, its first largest distance and the others, in the code's shape. Assumes nothing.
use Prim.Native.Nat.{ℕ, ◌+◌, ◌*◌, ◌<◌, ◌≤◌}
use native.Mathlib.Omega.{arith}
use mathlib.Core.Path.{◌≡◌, ap, sym, ◌∙◌}
use mathlib.Core.Bool.{true, false}
use mathlib.Core.List.{List}
use lib.ListN.{get_or}
use lib.Seq.{ext_get_or}
use borrow.Author.Tests.{eq-eqb, ne_eqb, lt-ltb, le-ltb}
use Rattle.table.specs.Limits.{max_distances, max_gap}
use Rattle.table.specs.Record.{flag_at, listed_at, known_at, row_at, largests}
use Rattle.table.specs.Code.Good.{GoodRow}
use Rattle.table.specs.Code.Taken.{Stands}
use Rattle.table.specs.declared.Row.{Row}
use Rattle.table.proofs.Forms.{known-yes}
use Rattle.table.proofs.Largests.{largests-long, largests-at}
use Rattle.slices.specs.Slices.{same}
use Rattle.converting.specs.Forms.{multiples, first_largest, fits_gap}
use Rattle.converting.proofs.Multiples.{multiples-long, multiple-at}

module _ (r : Row) where
  pub fits-unknown : r.flag ≡ 0 → fits_gap r ≡ true
  unfolding fits_gap
  fits-unknown e = rw (eq-eqb _ _ e)

  module _ (known : r.flag ≡ 0 → ⊥) where
    pub fits-wide : max_gap < first_largest r → fits_gap r ≡ false
    unfolding fits_gap
    fits-wide h = rw (ne_eqb _ _ known, lt-ltb _ _ h)

    pub fits-multiples : first_largest r ≤ max_gap → fits_gap r ≡ same (largests r) (multiples (first_largest r) r.listed)
    unfolding fits_gap
    fits-multiples h = rw (ne_eqb _ _ known, le-ltb _ _ h)

-- a row's largest distances are multiples exactly where each is
module _ {r : Row} (good : GoodRow r) (known : r.flag ≡ 1) where
  pub multiples-yes : ((j : ℕ) → j < r.listed → get_or r.largest j 0 ≡ first_largest r * (j + 1)) → largests r ≡ multiples (first_largest r) r.listed
  multiples-yes each =
      let n = largests-long good known in
      ext_get_or 0 (largests r) (multiples (first_largest r) r.listed) (n ∙ sym (multiples-long (first_largest r) r.listed))
      (λ j h. let l : j < r.listed = omega (arith, h, n) in largests-at good j ∙ each j l ∙ sym (multiple-at (first_largest r) r.listed j l))

  pub multiples-each : largests r ≡ multiples (first_largest r) r.listed → (j : ℕ) → j < r.listed → get_or r.largest j 0 ≡ first_largest r * (j + 1)
  multiples-each e j h = sym (largests-at good j) ∙ ap (λ l. get_or l j 0) e ∙ multiple-at (first_largest r) r.listed j h

-- a record that stands with flag 1 has as many largest distances as smallest, and one at least
pub known-there : {s : List ℕ} {at : ℕ} → Stands s at → flag_at s at ≡ 1 → (known_at s at ≡ listed_at s at) × (0 < listed_at s at) × (listed_at s at ≤ max_distances)
unfolding row_at
known-there {s} {at} there e = (known-yes s at e, omega (arith, there.good.listed, there.good.list.some), omega (arith, there.good.listed, there.good.list.few))
