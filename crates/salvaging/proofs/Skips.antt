-- No skipped place starts a record that was acceptable there, beside those kept before it. Assumes nothing.
use Prim.Native.Nat.{ℕ, zero, suc, ◌+◌, ◌<◌, ◌≤◌}
use native.Mathlib.Omega.{arith}
use mathlib.Core.Path.{◌≡◌, refl, ap, ◌∙◌}
use mathlib.Core.List.{List, [], ◌∷◌}
use mathlib.Core.Bool.{false}
use lib.ListN.{length}
use lib.Dec.{ltb}
use borrow.Author.Tests.{lt-ltb, le-ltb}
use Rattle.search.specs.Lists.{All, keep}
use Rattle.search.proofs.Choice.{when_yes, when_no}
use Rattle.search.proofs.Lists.{all_map, all_append}
use Rattle.table.specs.Limits.{max_chains}
use Rattle.table.specs.Record.{length_at, row_at}
use Rattle.table.specs.Read.{empty, plus}
use Rattle.table.specs.declared.Table.{Table}
use Rattle.salvaging.specs.Kept.{acceptable, kept_places}
use Rattle.salvaging.specs.Skipped.{Stretch, between, skipped_from, skipped}
use Rattle.salvaging.specs.Steps.{Walks, adding, kept_before}
use Rattle.salvaging.proofs.Stepping.{kept_walks}
use Rattle.salvaging.proofs.Covers.{all-between}

module _ (s : List ℕ) where
  -- the rows of t and those kept before i, of the records at these places
  abbrev beside : Table → List ℕ → ℕ → Table
  beside t places i = adding s t (keep (λ place. ltb place i) places)

  module _ (place : ℕ) (places : List ℕ) (t : Table) (i : ℕ) where
    beside-on : place < i → beside t (place ∷ places) i ≡ beside (plus t (row_at s place)) places i
    unfolding keep adding
    beside-on l = ap (adding s t) (when_yes _ _ (lt-ltb place i l))

    beside_off : i ≤ place → beside t (place ∷ places) i ≡ beside t places i
    unfolding keep
    beside_off l = ap (adding s t) (when_no _ _ (le-ltb place i l))

  -- none of those kept from a place on stands before it
  beside_none : (at : ℕ) (w t : Table) (places : List ℕ) → Walks s at w places → (i : ℕ) → i ≤ at → beside t places i ≡ t
  unfolding Walks keep adding
  beside_none at w t [] h i l = refl
  beside_none at w t (place ∷ places) h i l =
      beside_off place places t i (omega (arith, h.0.on)) ∙ beside_none (place + length_at s place) (plus w (row_at s place)) t places h.1 i (omega (arith, h.0.on))

  -- a stretch that starts at a place or later, and at none of its places is a record acceptable
  record NoneIn (at : ℕ) (t : Table) (places : List ℕ) (x : Stretch) : Type 0 where
    starts : at ≤ x.offset
    none : (i : ℕ) → x.offset ≤ i → i < x.offset + x.size → acceptable s i (beside t places i) ≡ false

  none-skipped : (left at : ℕ) (t : Table) (places : List ℕ) → Walks s at t places → All (NoneIn at t places) (skipped_from left s at places)
  unfolding skipped_from Walks keep adding
  none-skipped zero at t places h = tt
  none-skipped (suc left) at t [] h = all-between (NoneIn at t []) at (length s) (λ l. record { starts = omega arith; none = λ i k m. h i k })
  none-skipped (suc left) at t (place ∷ places) h =
      let next = place + length_at s place in
      let more = plus t (row_at s place) in
      all_append (NoneIn at t (place ∷ places)) (between at place) (skipped_from left s next places)
      (all-between (NoneIn at t (place ∷ places)) at place (λ l. record {
        starts = omega arith;
        none = λ i k m.
            let before : i < place = omega (arith, l, m) in
            ap (acceptable s i) (beside_off place places t i (omega arith) ∙ beside_none next more t places h.1 i (omega arith)) ∙ h.0.none i k before;
      }))
      (all_map {P = NoneIn next more places} {Q = NoneIn at t (place ∷ places)} (λ x f. record {
        starts = omega (arith, f.starts, h.0.on);
        none = λ i k m. ap (acceptable s i) (beside-on place places t i (omega (arith, f.starts, k))) ∙ f.none i k m;
      }) (skipped_from left s next places) (none-skipped left next more places h.1))

  pub none_missed : All (λ x. (i : ℕ) → x.offset ≤ i → i < x.offset + x.size → acceptable s i (kept_before s i) ≡ false) (skipped s)
  none_missed = all_map {P = NoneIn 0 empty (kept_places s)} {Q = λ (x : Stretch). (i : ℕ) → x.offset ≤ i → i < x.offset + x.size → acceptable s i (kept_before s i) ≡ false}
      (λ x f. f.none) (skipped s) (none-skipped max_chains 0 empty (kept_places s) (kept_walks s))
