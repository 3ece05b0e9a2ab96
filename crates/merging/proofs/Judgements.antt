-- What the judgement of the three tables says, and what is answered for it. Assumes nothing.
use Prim.Native.Nat.{ℕ}
use mathlib.Core.Path.{◌≡◌, refl, ap, sym, ◌∙◌}
use mathlib.Core.List.{List}
use lib.ListN.{length}
use native.Mathlib.Omega.{arith}
use Rattle.search.specs.Choice.{by_number}
use Rattle.search.proofs.Choice.{when_no}
use Rattle.std.specs.Prelude.{⊤, MatchResult, IsErrAnd}
use Rattle.std.specs.declared.result.Result.{Result}
use Rattle.std.specs.declared.result.Result.TheVariants.{Ok, Err}
use Rattle.table.specs.Bytes.{Bytes}
use Rattle.table.specs.Refusal.{Verdict}
use Rattle.table.specs.Read.{unless, by_verdict, read_table}
use Rattle.table.specs.declared.refusal.Refusal.{Refusal}
use Rattle.table.specs.declared.refusal.Fault.{Fault}
use Rattle.table.proofs.Accepted.{taken}
use Rattle.merging.specs.Versions.{Versions, three, by_versions}
use Rattle.merging.specs.Rule.{conflict_above}
use Rattle.merging.specs.Merge.{Answer, refusal_of, of_ancestor, of_first, of_second, result_of, fitted, merged_of, Merges}
use Rattle.merging.specs.declared.Unmerged.{Unmerged}
use Rattle.merging.specs.declared.Unmerged.TheVariants.{Conflict, NoRoom}
use Rattle.merging.specs.Code.Parts.{AllTaken}
use Rattle.merging.specs.Code.Judged.{judged_of, AllAccepted}

-- accepted tables of bytes
pub all-taken : {ancestor first second : List ℕ} → AllAccepted (three ancestor first second) → Bytes ancestor → Bytes first → Bytes second → AllTaken ancestor first second
all-taken {ancestor} {first} {second} a b c d =
    record { of_ancestor = taken ancestor b a.ancestor; of_first = taken first c a.first; of_second = taken second d a.second }

-- no table is refused
abbrev accepts : Result ⊤ Unmerged
accepts = Ok tt

apart : {e : Unmerged} → Err e ≡ accepts → ⊥
apart e = let z : ◌≡◌ {A = ℕ} 0 1 = cc in omega arith

-- a fault as that of one of the tables: what is made of a verdict by such a V
abbrev Mapped : (Fault → Unmerged) → Verdict → Result ⊤ Unmerged → Type 0
Mapped V r q = MatchResult r (λ u. q ≡ Ok u) (λ f. IsErrAnd q (λ e. e ≡ V f))

abbrev made : (Fault → Unmerged) → Verdict → Result ⊤ Unmerged
made V r = unless (λ n place. Err (V (n, place))) r accepts

pub mapped : (V : Fault → Unmerged) (r : Verdict) (q : Result ⊤ Unmerged) → Mapped V r q → q ≡ made V r
unfolding unless
mapped V (Ok u) q m = m
mapped V (Err f) (Ok u) m = absurd m
mapped V (Err f) (Err e) m = ap Err m

pub mapped-ok : (V : Fault → Unmerged) (r : Verdict) (q : Result ⊤ Unmerged) → Mapped V r q → q ≡ accepts → r ≡ Ok tt
unfolding unless
mapped-ok V r q m h = by r (sym (mapped V r q m) ∙ h)
  where
    by : (r : Verdict) → made V r ≡ accepts → r ≡ Ok tt
    by (Ok u) z = refl
    by (Err f) z = absurd (apart z)

reason : Result ⊤ Unmerged → Unmerged
reason (Ok u) = NoRoom
reason (Err e) = e

pub mapped-err : (V : Fault → Unmerged) (r : Verdict) (q : Result ⊤ Unmerged) {e : Unmerged} → Mapped V r q → q ≡ Err e → (f : Fault) × (r ≡ Err f) × (e ≡ V f)
unfolding unless reason
mapped-err V r q {e} m h = by r (sym (mapped V r q m) ∙ h)
  where
    by : (r : Verdict) → made V r ≡ Err e → (f : Fault) × (r ≡ Err f) × (e ≡ V f)
    by (Ok u) z = absurd (apart (sym z))
    by (Err f) z = (f, refl, sym (ap reason z))

-- so nothing after it is asked
pub mapped-stops : (V : Fault → Unmerged) (r : Verdict) (q : Result ⊤ Unmerged) {e : Unmerged} → Mapped V r q → q ≡ Err e
    → (rest : Result ⊤ Unmerged) → unless (λ n place. Err (V (n, place))) r rest ≡ Err e
unfolding unless
mapped-stops V r q {e} m h rest = by r (sym (mapped V r q m) ∙ h)
  where
    by : (r : Verdict) → made V r ≡ Err e → unless (λ n place. Err (V (n, place))) r rest ≡ Err e
    by (Ok u) z = absurd (apart (sym z))
    by (Err f) z = z

-- an answer after the judgement, where a refusal is answered in its own way
abbrev after : {A : Type 0} → (Unmerged → A) → Result ⊤ Unmerged → A → A
after refuse (Ok u) answer = answer
after refuse (Err e) answer = refuse e

module _ (v : Versions) where
  -- none is refused
  pub says-accepted : judged_of v ≡ Ok tt → AllAccepted v
  unfolding judged_of unless
  says-accepted = by (read_table v.ancestor).verdict (read_table v.first).verdict (read_table v.second).verdict refl refl refl
    where
      by : (a b c : Verdict) → (read_table v.ancestor).verdict ≡ a → (read_table v.first).verdict ≡ b → (read_table v.second).verdict ≡ c
          → unless of_ancestor a (unless of_first b (unless of_second c accepts)) ≡ accepts → AllAccepted v
      by (Err x) b c e f g h = absurd (apart h)
      by (Ok u) (Err x) c e f g h = absurd (apart h)
      by (Ok u) (Ok w) (Err x) e f g h = absurd (apart h)
      by (Ok u) (Ok w) (Ok x) e f g h = record { ancestor = e; first = f; second = g }

  -- three accepted tables are asked
  pub asked : {A : Type 0} (refuse : Refusal → A) (answer : A) → AllAccepted v → by_versions refuse v answer ≡ answer
  asked refuse answer a = rw (a.ancestor, a.first, a.second)

  -- a refused one refuses
  module _ {e : Unmerged} (is : judged_of v ≡ Err e) where
    pub refused : {A : Type 0} (refuse : Refusal → A) (answer : A) → by_versions refuse v answer ≡ refuse (refusal_of e)
    unfolding judged_of unless
    refused {A} refuse answer =
        by (read_table v.ancestor).verdict (read_table v.first).verdict (read_table v.second).verdict ∙ ap (λ (r : Result ⊤ Unmerged). told r) is
      where
        told : Result ⊤ Unmerged → A
        told r = after (λ e. refuse (refusal_of e)) r answer

        by : (a b c : Verdict) → by_verdict refuse a (by_verdict refuse b (by_verdict refuse c answer)) ≡ told (unless of_ancestor a (unless of_first b (unless of_second c accepts)))
        by (Err f) b c = refl
        by (Ok u) (Err f) c = refl
        by (Ok u) (Ok w) (Err f) = refl
        by (Ok u) (Ok w) (Ok x) = refl

    merged-refused : (room : ℕ) → merged_of room v ≡ Err e
    unfolding judged_of merged_of unless
    merged-refused room =
        by (read_table v.ancestor).verdict (read_table v.first).verdict (read_table v.second).verdict (by_number (λ id. Err (Conflict id)) (conflict_above v 0) (fitted room (result_of v)))
        ∙ ap (λ (r : Result ⊤ Unmerged). after Err r (by_number (λ id. Err (Conflict id)) (conflict_above v 0) (fitted room (result_of v)))) is
      where
        by : (a b c : Verdict) (rest : Answer) → unless of_ancestor a (unless of_first b (unless of_second c rest)) ≡ after Err (unless of_ancestor a (unless of_first b (unless of_second c accepts))) rest
        by (Err f) b c rest = refl
        by (Ok u) (Err f) c rest = refl
        by (Ok u) (Ok w) (Err f) rest = refl
        by (Ok u) (Ok w) (Ok x) rest = refl

    -- and a merge leaves the buffer
    pub merge-refused : (buffer : List ℕ) → Merges v buffer (Err e) buffer
    merge-refused buffer = record { answers = sym (merged-refused (length buffer)); leaves = sym (when_no _ _ refl) }

-- of three accepted tables: 32, and then what follows
pub merge-asked : (v : Versions) (room : ℕ) → AllAccepted v → merged_of room v ≡ by_number (λ id. Err (Conflict id)) (conflict_above v 0) (fitted room (result_of v))
unfolding merged_of unless
merge-asked v room a = rw (a.ancestor, a.first, a.second)
