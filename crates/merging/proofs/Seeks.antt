-- A search for the record of an id, from some record on. Assumes nothing.
use Prim.Native.Nat.{ℕ, zero, suc, ◌+◌, ◌<◌, ◌≤◌}
use native.Mathlib.Omega.{arith}
use native.Mathlib.Nat.{eq-or-lt_of_le}
use mathlib.Core.Path.{◌≡◌, ap, sym, ◌∙◌}
use mathlib.Core.List.{List}
use mathlib.Core.Logic.{⊎_elim}
use borrow.Author.Count.{below_more}
use borrow.Author.Tests.{eqb-true}
use Rattle.table.specs.Record.{length_at}
use Rattle.table.specs.Find.{row_of, find_of}
use Rattle.table.specs.Place.{place_of}
use Rattle.table.specs.Read.{table_of}
use Rattle.table.specs.Code.Taken.{Taken, Stands}
use Rattle.table.proofs.Standing.{place_none, place-on}
use Rattle.table.proofs.Stands.{stands, place-next}
use Rattle.table.proofs.Finds.{find_is}
use Rattle.merging.specs.Code.Seeks.{RecordAt, Passed, Seeks}
use Rattle.merging.proofs.Lookup.{find_missing}

-- the first record
pub first_record : (s : List ℕ) → RecordAt s 0
first_record s = record { chain = 0; few = omega arith; place = place_none (table_of s) }

module _ {s : List ℕ} (t : Taken s) {at : ℕ} (here : RecordAt s at) where
  -- before the end record it is a chain's
  pub chain-there : at < place_of (table_of s) (table_of s).count → here.chain < (table_of s).count
  chain-there h = ⊎_elim (λ e. absurd (omega (arith, h, here.place, ap (place_of (table_of s)) e))) (λ l. l) (eq-or-lt_of_le here.few)

  -- else the end record itself
  pub end-there : place_of (table_of s) (table_of s).count ≤ at → here.chain ≡ (table_of s).count
  end-there h = ⊎_elim (λ e. e)
      (λ l. absurd (omega (arith, h, here.place, t.holds.inside here.chain l, t.holds.ends)))
      (eq-or-lt_of_le here.few)

  module _ (h : here.chain < (table_of s).count) where
    pub record_stands : Stands s at
    record_stands = stands t here.place h

    pub next_record : RecordAt s (at + length_at s at)
    next_record = record { chain = here.chain + 1; few = omega (arith, h); place = place-next t here.place h }

-- the record of the first chain starts at 0, and no other one's
alone-first : {s : List ℕ} → Taken s → (chain : ℕ) → chain ≤ (table_of s).count → place_of (table_of s) chain ≡ 0 → chain ≡ 0
alone-first t zero h e = omega arith
alone-first {s} t (suc chain) h e =
    let next : chain + 1 ≡ suc chain = omega arith in
    absurd (omega (arith, ap (place_of (table_of s)) next ∙ e, place-on (table_of s) chain (omega (arith, h, t.good.few, t.good.size))))

module _ {s : List ℕ} (t : Taken s) (id from : ℕ) where
  pub passed_start : RecordAt s from → Passed s id from from
  passed_start here =
      record { there = here; before = λ z j h. absurd (omega (arith, h, alone-first t here.chain here.few (sym here.place ∙ z))) }

  -- past a record that does not bear the id
  pub passed_on : {at : ℕ} (p : Passed s id from at) (h : p.there.chain < (table_of s).count) → ((row_of (table_of s) p.there.chain).id ≡ id → ⊥)
      → Passed s id from (at + length_at s at)
  unfolding next_record
  passed_on p h other = record { there = next_record t p.there h; before = λ z. below_more _ _ (p.before z) (λ e. other (eqb-true _ _ e)) }

module _ {s : List ℕ} (t : Taken s) (id : ℕ) {from r : ℕ} (found : Seeks s id from r) where
  -- by the number of the chain
  numbered : find_of (table_of s) id ≡ found.passed.there.chain → r ≡ place_of (table_of s) (find_of (table_of s) id)
  numbered e = found.passed.there.place ∙ ap (place_of (table_of s)) (sym e)

  -- a chain that bears the id: no other one does
  pub found-near : r < place_of (table_of s) (table_of s).count → r ≡ place_of (table_of s) (find_of (table_of s) id)
  found-near h =
      let l = chain-there t found.passed.there h in
      numbered (ap (find_of (table_of s)) (sym (found.bears l)) ∙ find_is (table_of s) t.good found.passed.there.chain l)

  -- from the first record on all are looked at
  pub found_all : from ≡ 0 → r ≡ place_of (table_of s) (find_of (table_of s) id)
  found_all z = ⊎_elim
      (λ e. numbered (find_missing s id (λ j l. found.passed.before z j (omega (arith, l, e))) ∙ sym e))
      (λ l. numbered (ap (find_of (table_of s)) (sym (found.bears l)) ∙ find_is (table_of s) t.good found.passed.there.chain l))
      (eq-or-lt_of_le found.passed.there.few)
