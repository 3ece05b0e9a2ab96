-- The segment query: an active segment out of the arrays, and where its task records stand. Assumes nothing.
use Prim.Native.Nat.{ℕ, ◌+◌, ◌*◌, ◌-◌, ◌<◌, ◌≤◌}
use native.Mathlib.Omega.{arith}
use mathlib.Core.Path.{◌≡◌, ap, ap₂, sym, ◌∙◌}
use mathlib.Core.Bool.{Bool, true, false, not}
use mathlib.Core.Logic.{◌⊎◌, ⊎_elim}
use borrow.Author.Tests.{le-ltb, lt-ltb, ltb-false}
use lib.Dec.{ltb}
use lib.ListN.{length, get_or}
use Rattle.search.proofs.Choice.{when_yes, when_no}
use Rattle.table.specs.Find.{row_of, find_of, used}
use Rattle.table.specs.Place.{tasks_start, place_of}
use Rattle.table.specs.declared.Row.{Row}
use Rattle.table.specs.declared.Table.{Table}
use Rattle.table.specs.declared.refusal.Refusal.TheVariants.{NoSuchSegment}
use Rattle.std.specs.declared.result.Result.TheVariants.{Ok, Err}
use Rattle.table.proofs.Firsts.{or_left, or_right, or_none}
use Rattle.segments.specs.Tasks.{tasks_of, floor_of, tail_of}
use Rattle.segments.specs.Actives.{nothing, actives, actives_of}
use Rattle.segments.specs.Code.Held.{arrays_of}
use Rattle.segments.specs.Query.{Answer, actives_in, nth_of}
use Rattle.segments.specs.declared.Actives.{Actives}
use Rattle.segments.proofs.Bounds.{actives-tasks}
use Rattle.segments.proofs.Standing.{active_contiguous, active-start, active-length, array_at}

-- an id is in the table where a chain of it was found, and is not where the count of chains was
module _ (t : Table) (id : ℕ) where
  pub unknown : find_of t id ≡ t.count → not (used t id) ≡ true
  unknown e = ap not (le-ltb (find_of t id) t.count (omega arith))

  pub known : {chain : ℕ} → (chain ≡ find_of t id) × (chain < t.count) → not (used t id) ≡ false
  known h = ap not (lt-ltb (find_of t id) t.count (omega (arith, h)))

-- what `active_segments` finds of a at b's floor and tail
pub found-is : (a b : Row) (floor tail : ℕ) (l : Actives) → floor ≡ floor_of b → tail ≡ tail_of b → l ≡ arrays_of (actives floor tail (tasks_of a))
    → l ≡ arrays_of (actives_of a b)
found-is a b floor tail l f t e = e ∙ ap₂ (λ x y. arrays_of (actives x y (tasks_of a))) f t

-- the active segment n, counted from 1, out of the arrays: it lies inside its chain
pub record Fetched (a b : Row) (l : Actives) (n : ℕ) : Type 0 where
  pub start : get_or l.start (n - 1) 0 ≡ (get_or (actives_of a b) (n - 1) nothing).start
  pub len : get_or l.len (n - 1) 0 ≡ (get_or (actives_of a b) (n - 1) nothing).len
  pub few : n ≤ a.tasks
  pub inside : (get_or (actives_of a b) (n - 1) nothing).start + (get_or (actives_of a b) (n - 1) nothing).len ≤ a.tasks

pub fetched : (a b : Row) (l : Actives) (n : ℕ) → l ≡ arrays_of (actives_of a b) → (n ≡ 0 → ⊥) → n ≤ l.count → Fetched a b l n
fetched a b l n e some few =
    let h : n - 1 < length (actives_of a b) = omega (arith, ap (λ o. o.count) e) in
    record {
      start = rw e (array_at (λ s. s.start) (actives_of a b) (n - 1) h);
      len = rw e (array_at (λ s. s.len) (actives_of a b) (n - 1) h);
      few = omega (arith, actives-tasks a (floor_of b) (tail_of b));
      inside = omega (arith, active-start a b (n - 1), active-length a b (n - 1), (active_contiguous a b (n - 1)).inside);
    }

module _ (t : Table) (chain other n : ℕ) (l : Actives) (e : l ≡ arrays_of (actives_in t chain other)) where
  count-is : (b : Bool) → ltb l.count n ≡ b → ltb (length (actives_in t chain other)) n ≡ b
  count-is b h = ap (λ o. ltb o.count n) (sym e) ∙ h

  -- no active segment has the number
  pub nth-none : (n ≡ 0) ⊎ (ltb l.count n ≡ true) → ◌≡◌ {A = Answer} (Err NoSuchSegment) (nth_of t chain other n)
  unfolding nth_of
  nth-none h = sym (when_yes _ _ (⊎_elim (λ z. or_left _ _ (lt-ltb n 1 (omega arith))) (λ z. or_right (ltb n 1) _ (count-is true z)) h))

  -- the task records of the one that has it, where those of its chain start at `first`
  pub nth-records : (first : ℕ) → first ≡ place_of t chain + tasks_start (row_of t chain) → (n ≡ 0 → ⊥) → ltb l.count n ≡ false
      → ◌≡◌ {A = Answer} (Ok (record { offset = first + 8 * get_or l.start (n - 1) 0; length = 8 * get_or l.len (n - 1) 0 })) (nth_of t chain other n)
  unfolding nth_of
  nth-records first p some few =
      let f = fetched (row_of t chain) (row_of t other) l n e some (ltb-false l.count n few) in
      rw (p, f.start, f.len) (sym (when_no _ _ (or_none _ _ (le-ltb n 1 (omega arith)) (count-is false few))))
