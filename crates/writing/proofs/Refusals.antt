-- Which numbers rows can be refused with. Assumes nothing.
use Prim.Native.Nat.{ℕ, ◌+◌, ◌≤◌}
use native.Mathlib.Omega.{arith}
use mathlib.Core.Path.{◌≡◌, refl, sym, subst}
use mathlib.Core.List.{List, [], ◌∷◌}
use mathlib.Core.Bool.{Bool}
use Rattle.std.specs.Prelude.{⊤}
use mathlib.Core.Logic.{inl, inr}
use Rattle.search.specs.Choice.{◌when◌else◌}
use Rattle.search.proofs.Choice.{when_cases}
use Rattle.table.specs.Record.{distances, largests}
use Rattle.table.specs.Fault.{◌then◌, fall_fault, last_fault, gap_fault, distances_fault, short_fault}
use Rattle.table.specs.Read.{refused_by}
use Rattle.table.specs.declared.Row.{Row}
use Rattle.std.specs.declared.result.Result.{Result}
use Rattle.std.specs.declared.result.Result.TheVariants.{Ok, Err}
use Rattle.table.specs.Refusal.{Verdict, numbered, answering}
use Rattle.table.specs.declared.refusal.Refusal.{Refusal}
use Rattle.table.specs.declared.refusal.Refusal.TheVariants.{BadDistance, LastIsZero, GapTooSmall, BadLargest}
use Rattle.writing.specs.Write.{verdict_on, RowsRefusal}
use Rattle.writing.specs.Code.Tally.{identity_refusal, times_refusal, counts_refusal, list_refusal, largest_refusal, tasks_refusal, first_refusal, lists_refusal, row_refusal, unjudged, Refused, Judgement, judged_with, judged_all, refusal_of, JudgedRows}
use Rattle.writing.specs.declared.judged.Tally.{Tally}
use Rattle.writing.proofs.Verdicts.{Says, says-refused}
use Rattle.writing.proofs.Judging.{rows_verdict}

-- no fault, or one of these
abbrev Known : {A : Type 0} → Result A Refusal → Type 0
Known (Ok a) = ⊤
Known (Err n) = RowsRefusal (numbered n)

-- the first group, the second, the third, 33
of_fields : (n : ℕ) → 3 ≤ n → n ≤ 7 → RowsRefusal n
of_fields n l h = inl (l, h)

of_tasks : (n : ℕ) → 9 ≤ n → n ≤ 11 → RowsRefusal n
of_tasks n l h = inr (inl (l, h))

of-lists : (n : ℕ) → 28 ≤ n → n ≤ 31 → RowsRefusal n
of-lists n l h = inr (inr (inl (l, h)))

of-largest : RowsRefusal 33
of-largest = inr (inr (inr refl))

known_when : {A : Type 0} (n : Refusal) (m : Result A Refusal) (t : Bool) → RowsRefusal (numbered n) → Known m → Known (Err n when t else m)
known_when n m t k l = when_cases Known t (λ e. k) (λ e. l)

known-first : {A : Type 0} (n : Refused) (m : Result A Refusal) → Known n → Known m → Known (first_refusal n m)
known-first (Ok u) m k l = l
known-first (Err n) m k l = k

known_then : (a b : Verdict) → Known (refused_by a) → Known (refused_by b) → Known (refused_by (a then b))
unfolding ◌then◌
known_then (Ok u) b k l = l
known_then (Err f) b k l = k

known-fault : (n : Refusal) (place : ℕ) (t : Bool) → RowsRefusal (numbered n) → (v : Verdict) → Known (refused_by v) → Known (refused_by (Err (n, place) when t else v))
known-fault n place t k v l = when_cases (λ (w : Verdict). Known (refused_by w)) t (λ e. k) (λ e. l)

-- a row's fault

known_fall : (before : ℕ) (ds : List ℕ) (at : ℕ) → Known (refused_by (fall_fault before ds at))
unfolding fall_fault
known_fall before [] at = tt
known_fall before (d ∷ ds) at = known-fault BadDistance at _ (of-lists 29 (omega arith) (omega arith)) (fall_fault d ds (at + 4)) (known_fall d ds (at + 4))

known-list : (gap : ℕ) (ds : List ℕ) → Known (list_refusal gap ds)
unfolding list_refusal distances_fault last_fault gap_fault
known-list gap ds =
    known_then (fall_fault 0 ds 0) _ (known_fall 0 ds 0)
    (known_then (last_fault ds 0) (gap_fault gap ds 0) (known-fault LastIsZero _ _ (of-lists 30 (omega arith) (omega arith)) (Ok tt) tt)
    (known-fault GapTooSmall _ _ (of-lists 31 (omega arith) (omega arith)) (Ok tt) tt))

known-short : (before : ℕ) (ds ls : List ℕ) (at : ℕ) → Known (refused_by (short_fault before ds ls at))
unfolding short_fault
known-short before ds [] at = tt
known-short before [] (l ∷ ls) at = tt
known-short before (d ∷ ds) (l ∷ ls) at = known-fault BadLargest at _ of-largest (short_fault l ds ls (at + 4)) (known-short l ds ls (at + 4))

known-largest : (r : Row) → Known (largest_refusal r)
unfolding largest_refusal
known-largest r = known_when _ _ _ of-largest (known-short 0 (distances r) (largests r) 0)

known-row : (j : Tally) (r : Row) → Known (row_refusal j r)
unfolding row_refusal lists_refusal identity_refusal times_refusal counts_refusal tasks_refusal
known-row j r =
    known-first _ _ (known_when _ _ _ (of_fields 4 (omega arith) (omega arith)) (known_when _ _ _ (of_fields 5 (omega arith) (omega arith)) (known_when _ _ _ (of_fields 5 (omega arith) (omega arith)) tt)))
    (known-first _ _ (known_when _ _ _ (of_fields 6 (omega arith) (omega arith)) (known_when _ _ _ (of_fields 7 (omega arith) (omega arith)) tt))
    (known-first _ _ (known_when _ _ _ (of-lists 28 (omega arith) (omega arith)) (known_when _ _ _ (of_tasks 9 (omega arith) (omega arith)) tt))
    (known-first _ _ (known-list _ _) (known-first _ _ (known-largest r) (known_when _ _ _ (of_tasks 10 (omega arith) (omega arith)) tt)))))

-- and that of rows one after the other
known-answering : (n : Refused) (j : Tally) → Known n → Known (answering n j)
known-answering (Ok u) j k = tt
known-answering (Err n) j k = k

known-with : (j : Tally) (r : Row) → Known (judged_with j r)
unfolding judged_with
known-with j r = known_when _ _ _ (of_fields 3 (omega arith) (omega arith)) (known_when _ _ _ (of_tasks 11 (omega arith) (omega arith)) (known-answering (row_refusal j r) _ (known-row j r)))

known-all : (rs : List Row) (v : Judgement) → Known v → Known (judged_all v rs)
unfolding judged_all
known-all rs (Err n) k = k
known-all [] (Ok j) k = tt
known-all (r ∷ rs) (Ok j) k = known-all rs (judged_with j r) (known-with j r)

known-of : (v : Judgement) → Known v → Known (refusal_of v)
known-of (Ok j) k = known_when _ _ _ (of_tasks 11 (omega arith) (omega arith)) tt
known-of (Err n) k = k

-- so a refusal of rows has one of these numbers
pub rows-refusal : (rs : List Row) (v : Judgement) → JudgedRows rs v → {n : Refusal} {place : ℕ} → verdict_on rs ≡ Err (n, place) → RowsRefusal (numbered n)
rows-refusal rs v h {n} {place} e =
    let k = known-of v (subst Known (sym h.is) (known-all _ (Ok unjudged) tt)) in
    let s : Says (Err (n, place)) (refusal_of v) = subst (λ (w : Verdict). Says w (refusal_of v)) e (rows_verdict rs v h) in
    subst Known (sym (says-refused s)) k
