-- What a good row gives of its largest distances. Assumes nothing.
use Prim.Native.Nat.{ℕ}
use native.Mathlib.Omega.{arith}
use mathlib.Core.Path.{◌≡◌, sym, ◌∙◌}
use mathlib.Core.Logic.{⊎_elim}
use lib.ListN.{length, get_or, get_or-eq_default}
use lib.Seq.{get_or-take}
use borrow.Author.Tests.{eq-eqb}
use Rattle.search.proofs.Choice.{when_yes, lt_or_le}
use Rattle.table.specs.Record.{largest_form, known, known_of, largests}
use Rattle.table.specs.Code.Good.{GoodRow}
use Rattle.table.specs.declared.Row.{Row}

-- with flag 1 it lists as many as smallest
pub known-listed : {r : Row} → GoodRow r → r.flag ≡ 1 → known_of r ≡ r.listed
unfolding known
known-listed {r} good e =
    ⊎_elim (λ f. absurd (omega (arith, e, good.flag_form f))) (λ f. when_yes _ _ (rw (eq-eqb r.form largest_form f, eq-eqb r.flag 1 e))) good.form

pub largests-long : {r : Row} → GoodRow r → r.flag ≡ 1 → length (largests r) ≡ r.listed
largests-long good e = good.largest_listed ∙ known-listed good e

-- places past them are 0 in the row too
pub largests-at : {r : Row} → GoodRow r → (j : ℕ) → get_or (largests r) j 0 ≡ get_or r.largest j 0
largests-at {r} good j =
    ⊎_elim (get_or-take (known_of r) r.largest j 0)
    (λ h. get_or-eq_default (largests r) 0 (rw good.largest_listed h) ∙ sym (good.largest_past j h)) (lt_or_le j (known_of r))
