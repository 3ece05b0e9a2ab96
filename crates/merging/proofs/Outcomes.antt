-- What the merge of three accepted tables answers, and when. Assumes nothing.
use Prim.Native.Nat.{ℕ, zero, suc, ◌<◌, ◌≤◌}
use native.Mathlib.Omega.{arith}
use mathlib.Core.Path.{◌≡◌, refl, ap, sym, ◌∙◌}
use lib.Dec.{ltb}
use lib.ListN.{length}
use borrow.Author.Tests.{lt-ltb, le-ltb, ltb-true, ltb-false}
use mathlib.Core.Bool.{Bool, true, false}
use Rattle.search.specs.Choice.{◌when◌else◌, by_number}
use Rattle.table.specs.Read.{unless, read_table}
use Rattle.table.specs.Refusal.{Verdict}
use Rattle.table.specs.declared.refusal.Fault.{Fault}
use Rattle.std.specs.declared.result.Result.TheVariants.{Ok, Err}
use Rattle.merging.specs.Versions.{Versions}
use Rattle.merging.specs.Rule.{conflict_above}
use Rattle.merging.specs.Merge.{Answer, of_merged, result_of, fitted, merged_of}
use Rattle.merging.specs.declared.Unmerged.TheVariants.{Ancestor, First, Second, Conflict, NoRoom, Merged}
use Rattle.merging.specs.Code.Judged.{AllAccepted}
use Rattle.merging.proofs.Judgements.{merge-asked}

-- answers are told apart by their kinds, and by what they say
kind : Answer → ℕ
kind (Ok n) = 0
kind (Err (Ancestor f)) = 1
kind (Err (First f)) = 2
kind (Err (Second f)) = 3
kind (Err (Conflict id)) = 4
kind (Err NoRoom) = 5
kind (Err (Merged f)) = 6

told : Answer → ℕ
told (Ok n) = n
told (Err (Ancestor f)) = 0
told (Err (First f)) = 0
told (Err (Second f)) = 0
told (Err (Conflict id)) = id
told (Err NoRoom) = 0
told (Err (Merged f)) = 0

told_verdict : Answer → Verdict
told_verdict (Ok n) = Ok tt
told_verdict (Err (Ancestor f)) = Err f
told_verdict (Err (First f)) = Err f
told_verdict (Err (Second f)) = Err f
told_verdict (Err (Conflict id)) = Ok tt
told_verdict (Err NoRoom) = Ok tt
told_verdict (Err (Merged f)) = Err f

-- the first test that decides
pub data Outcome (room : ℕ) (v : Versions) (m : Answer) : Type 0 where
  conflict : (id : ℕ) → conflict_above v 0 ≡ id → 0 < id → m ≡ Err (Conflict id) → Outcome room v m
  no_room : conflict_above v 0 ≡ 0 → room < length (result_of v) → m ≡ Err NoRoom → Outcome room v m
  refused : conflict_above v 0 ≡ 0 → length (result_of v) ≤ room → (f : Fault) → (read_table (result_of v)).verdict ≡ Err f → m ≡ Err (Merged f) → Outcome room v m
  used : conflict_above v 0 ≡ 0 → length (result_of v) ≤ room → (read_table (result_of v)).verdict ≡ Ok tt → m ≡ Ok (length (result_of v)) → Outcome room v m

module _ (room : ℕ) (v : Versions) (a : AllAccepted v) where
  asked : merged_of room v ≡ by_number (λ id. Err (Conflict id)) (conflict_above v 0) (fitted room (result_of v))
  asked = merge-asked v room a

  pub outcome : Outcome room v (merged_of room v)
  unfolding by_number fitted ◌when◌else◌ unless
  outcome = by (conflict_above v 0) refl asked
    where
      read : conflict_above v 0 ≡ 0 → length (result_of v) ≤ room → (w : Verdict) → (read_table (result_of v)).verdict ≡ w
          → merged_of room v ≡ unless of_merged w (Ok (length (result_of v))) → Outcome room v (merged_of room v)
      read c h (Ok u) w e = Outcome.used c h w e
      read c h (Err f) w e = Outcome.refused c h f w e

      fit : conflict_above v 0 ≡ 0 → (t : Bool) → ltb room (length (result_of v)) ≡ t
          → merged_of room v ≡ (Err NoRoom when t else unless of_merged (read_table (result_of v)).verdict (Ok (length (result_of v)))) → Outcome room v (merged_of room v)
      fit c true h e = Outcome.no_room c (ltb-true _ _ h) e
      fit c false h e = read c (ltb-false _ _ h) (read_table (result_of v)).verdict refl e

      by : (id : ℕ) → conflict_above v 0 ≡ id → merged_of room v ≡ by_number (λ id. Err (Conflict id)) id (fitted room (result_of v)) → Outcome room v (merged_of room v)
      by zero c e = fit c (ltb room (length (result_of v))) refl e
      by (suc id) c e = Outcome.conflict (suc id) c (omega arith) e

  -- the other way round: what each answer says
  pub used-says : {n : ℕ} → merged_of room v ≡ Ok n → (conflict_above v 0 ≡ 0) × (length (result_of v) ≤ room) × ((read_table (result_of v)).verdict ≡ Ok tt) × (n ≡ length (result_of v))
  unfolding kind told
  used-says {n} e = by outcome
    where
      by : Outcome room v (merged_of room v) → (conflict_above v 0 ≡ 0) × (length (result_of v) ≤ room) × ((read_table (result_of v)).verdict ≡ Ok tt) × (n ≡ length (result_of v))
      by (Outcome.conflict id c h f) = absurd (omega (arith, ap kind (sym e ∙ f)))
      by (Outcome.no_room c h f) = absurd (omega (arith, ap kind (sym e ∙ f)))
      by (Outcome.refused c h g w f) = absurd (omega (arith, ap kind (sym e ∙ f)))
      by (Outcome.used c h w f) = (c, h, w, ap told (sym e ∙ f))

  pub conflict-says : {id : ℕ} → merged_of room v ≡ Err (Conflict id) → (conflict_above v 0 ≡ id) × (0 < id)
  unfolding kind told
  conflict-says {id} e = by outcome
    where
      by : Outcome room v (merged_of room v) → (conflict_above v 0 ≡ id) × (0 < id)
      by (Outcome.conflict other c h f) = let g = ap told (sym e ∙ f) in (c ∙ sym g, omega (arith, h, g))
      by (Outcome.no_room c h f) = absurd (omega (arith, ap kind (sym e ∙ f)))
      by (Outcome.refused c h g w f) = absurd (omega (arith, ap kind (sym e ∙ f)))
      by (Outcome.used c h w f) = absurd (omega (arith, ap kind (sym e ∙ f)))

  pub room_says : merged_of room v ≡ Err NoRoom → (conflict_above v 0 ≡ 0) × (room < length (result_of v))
  unfolding kind
  room_says e = by outcome
    where
      by : Outcome room v (merged_of room v) → (conflict_above v 0 ≡ 0) × (room < length (result_of v))
      by (Outcome.conflict id c h f) = absurd (omega (arith, ap kind (sym e ∙ f)))
      by (Outcome.no_room c h f) = (c, h)
      by (Outcome.refused c h g w f) = absurd (omega (arith, ap kind (sym e ∙ f)))
      by (Outcome.used c h w f) = absurd (omega (arith, ap kind (sym e ∙ f)))

  pub result_says : {f : Fault} → merged_of room v ≡ Err (Merged f) → (conflict_above v 0 ≡ 0) × (length (result_of v) ≤ room) × ((read_table (result_of v)).verdict ≡ Err f)
  unfolding kind told_verdict
  result_says {f = fault} e = by outcome
    where
      by : Outcome room v (merged_of room v) → (conflict_above v 0 ≡ 0) × (length (result_of v) ≤ room) × ((read_table (result_of v)).verdict ≡ Err fault)
      by (Outcome.conflict id c h f) = absurd (omega (arith, ap kind (sym e ∙ f)))
      by (Outcome.no_room c h f) = absurd (omega (arith, ap kind (sym e ∙ f)))
      by (Outcome.refused c h g w f) = (c, h, w ∙ sym (ap told_verdict (sym e ∙ f)))
      by (Outcome.used c h w f) = absurd (omega (arith, ap kind (sym e ∙ f)))

  -- and when each is given
  pub used-given : conflict_above v 0 ≡ 0 → length (result_of v) ≤ room → (read_table (result_of v)).verdict ≡ Ok tt → merged_of room v ≡ Ok (length (result_of v))
  unfolding by_number fitted ◌when◌else◌ unless
  used-given c h w = asked ∙ rw (c, le-ltb _ _ h, w)

  pub conflict-given : (id : ℕ) → conflict_above v 0 ≡ id → 0 < id → merged_of room v ≡ Err (Conflict id)
  unfolding by_number
  conflict-given zero c h = absurd (omega arith)
  conflict-given (suc id) c h = asked ∙ rw c

  pub room-given : conflict_above v 0 ≡ 0 → room < length (result_of v) → merged_of room v ≡ Err NoRoom
  unfolding by_number fitted ◌when◌else◌
  room-given c h = asked ∙ rw (c, lt-ltb _ _ h)

  pub result-given : {f : Fault} → conflict_above v 0 ≡ 0 → length (result_of v) ≤ room → (read_table (result_of v)).verdict ≡ Err f → merged_of room v ≡ Err (Merged f)
  unfolding by_number fitted ◌when◌else◌ unless
  result-given c h w = asked ∙ rw (c, le-ltb _ _ h, w)
