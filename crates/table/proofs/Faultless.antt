-- What the absence of a fault says of a record. Assumes nothing.
use Prim.Native.Nat.{ℕ, zero, suc, ◌+◌, ◌*◌, ◌-◌, ◌<◌, ◌≤◌}
use native.Mathlib.Omega.{arith}
use mathlib.Core.Path.{◌≡◌, refl, ap, ◌∙◌}
use mathlib.Core.List.{List}
use mathlib.Core.Bool.{false, not}
use lib.ListN.{length}
use lib.Dec.{eqb}
use borrow.Author.Tests.{ltb-false, eqb-true, eqb-false, eq-eqb, ne_eqb, not-false}
use Rattle.search.proofs.Choice.{when_yes, when_no}
use Rattle.table.specs.Limits.{max_chains, max_deadline, max_gap, max_distances, max_tasks, max_all_tasks, max_cost}
use Rattle.table.specs.Bytes.{word}
use Rattle.table.specs.Record.{form_at, id_at, kind_at, overload_at, deadline_at, gap_place, gap_at, flag_at, head_length, listed_at, tasks_at, list_place, largest_place, first_task, length_at, priority_at, cost_at, distances_at, largests_at}
use Rattle.table.specs.Find.{used}
use Rattle.table.specs.Fault.{outside, mark_of, no_task, identity_fault, times_fault, counts_fault, head_fault, fall_fault, last_fault, gap_fault, distances_fault, list_fault, short_fault, largest_fault, task_mark_fault, values_fault, task_rest_fault, task_fault, tasks_fault, chain_fault, beside_fault}
use Rattle.table.specs.declared.Table.{Table}
use Rattle.table.specs.declared.Mark.{Mark}
use Rattle.table.specs.declared.Mark.TheVariants.{Chain, Task, End, Unknown}
use Rattle.std.specs.declared.result.Result.TheVariants.{Ok, Err}
use Rattle.table.specs.declared.refusal.Refusal.TheVariants.{BadMark, BadChainCount}
use Rattle.table.proofs.Firsts.{none_or, not-accepted, when_none, then_none}

pub inside : (low high x : ℕ) → outside low high x ≡ false → (low ≤ x) × (x ≤ high)
inside low high x e =
    let f = none_or _ _ e in
    (ltb-false _ _ f.0, ltb-false _ _ f.1)

pub not-zero : (n : ℕ) → eqb n 0 ≡ false → 1 ≤ n
not-zero n e = let h : n ≡ 0 → ⊥ = eqb-false _ _ e in omega arith

pub record HeadRight (s : List ℕ) (at : ℕ) (t : Table) : Type 0 where
  pub there : at + head_length (form_at s at) ≤ length s
  pub id : 1 ≤ id_at s at
  pub fresh : used t (id_at s at) ≡ false
  pub kind : kind_at s at ≤ 1
  pub overload : overload_at s at ≤ 1
  pub deadline : (1 ≤ deadline_at s at) × (deadline_at s at ≤ max_deadline)
  pub gap : gap_at s at ≤ max_gap
  pub listed : (1 ≤ listed_at s at) × (listed_at s at ≤ max_distances)
  pub tasks : (1 ≤ tasks_at s at) × (tasks_at s at ≤ max_tasks)
  pub all : t.tasks + tasks_at s at ≤ max_all_tasks

pub head-right : (s : List ℕ) (at : ℕ) (t : Table) → head_fault s at t ≡ Ok tt → HeadRight s at t
unfolding head_fault identity_fault times_fault counts_fault
head-right s at t e =
    let there = when_none _ _ _ _ e in
    let identity = then_none _ _ there.1 in
    let times = then_none _ _ identity.1 in
    let e4 = when_none _ _ _ _ identity.0 in
    let kind = when_none _ _ _ _ e4.1 in
    let overload = when_none _ _ _ _ kind.1 in
    let e6 = when_none _ _ _ _ times.0 in
    let e7 = when_none _ _ _ _ e6.1 in
    let e28 = when_none _ _ _ _ times.1 in
    let e9 = when_none _ _ _ _ e28.1 in
    let id = none_or _ _ e4.0 in
    let tasks = none_or (outside 1 max_tasks (tasks_at s at)) _ e9.0 in
    record {
      there = ltb-false _ _ there.0;
      id = not-zero _ id.0;
      fresh = id.1;
      kind = ltb-false _ _ kind.0;
      overload = ltb-false _ _ overload.0;
      deadline = inside 1 max_deadline (deadline_at s at) e6.0;
      gap = ltb-false _ _ e7.0;
      listed = inside 1 max_distances (listed_at s at) e28.0;
      tasks = inside 1 max_tasks (tasks_at s at) tasks.0;
      all = ltb-false _ _ tasks.1;
    }

pub record ListRight (s : List ℕ) (at : ℕ) : Type 0 where
  pub there : largest_place s at ≤ length s
  pub rises : fall_fault 0 (distances_at s at) (list_place s at) ≡ Ok tt
  pub ends : last_fault (distances_at s at) (list_place s at) ≡ Ok tt
  pub gap : gap_fault (gap_at s at) (distances_at s at) (gap_place at) ≡ Ok tt

pub list_right : (s : List ℕ) (at : ℕ) → list_fault s at ≡ Ok tt → ListRight s at
unfolding list_fault distances_fault
list_right s at e =
    let there = when_none _ _ _ _ e in
    let rises = then_none _ _ there.1 in
    let ends = then_none _ _ rises.1 in
    record { there = ltb-false _ _ there.0; rises = rises.0; ends = ends.0; gap = ends.1 }

pub record LargestRight (s : List ℕ) (at : ℕ) : Type 0 where
  pub flag : flag_at s at ≤ 1
  pub there : first_task s at ≤ length s
  pub long : short_fault 0 (distances_at s at) (largests_at s at) (largest_place s at) ≡ Ok tt

pub largest-right : (s : List ℕ) (at : ℕ) → largest_fault s at ≡ Ok tt → LargestRight s at
unfolding largest_fault
largest-right s at e =
    let flag = when_none _ _ _ _ e in
    let there = when_none _ _ _ _ flag.1 in
    record { flag = ltb-false _ _ flag.0; there = ltb-false _ _ there.0; long = there.1 }

-- a mark that is refused nowhere a task stands is a task's
mark-task : (m : Mark) (at : ℕ) → no_task m at ≡ Ok tt → m ≡ Task
mark-task Task at e = refl
mark-task Chain at e = absurd (not-accepted e)
mark-task End at e = absurd (not-accepted e)
mark-task Unknown at e = absurd (not-accepted e)

pub record TaskRight (s : List ℕ) (at : ℕ) : Type 0 where
  pub there : at + 8 ≤ length s
  pub mark : mark_of (word 2 s at) ≡ Task
  pub priority : 1 ≤ priority_at s at
  pub cost : (1 ≤ cost_at s at) × (cost_at s at ≤ max_cost)

pub task-right : (s : List ℕ) (at : ℕ) → task_fault s at ≡ Ok tt → TaskRight s at
unfolding task_fault task_mark_fault task_rest_fault values_fault
task-right s at e =
    let mark = when_none _ _ _ _ (then_none _ _ e).0 in
    let there = when_none _ _ _ _ (then_none _ _ e).1 in
    let priority = when_none _ _ _ _ there.1 in
    let cost = when_none _ _ _ _ priority.1 in
    record {
      there = ltb-false _ _ there.0;
      mark = mark-task (mark_of (word 2 s at)) at mark.1;
      priority = not-zero _ priority.0;
      cost = inside 1 max_cost (cost_at s at) cost.0;
    }

pub tasks-right : (s : List ℕ) (n at : ℕ) → tasks_fault s n at ≡ Ok tt → (i : ℕ) → i < n → TaskRight s (at + 8 * i)
unfolding tasks_fault
tasks-right s zero at e i h = absurd (omega arith)
tasks-right s (suc n) at e zero h =
    let f : at + 8 * 0 ≡ at = omega arith in
    rw f (task-right s at (then_none _ _ e).0)
tasks-right s (suc n) at e (suc i) h =
    let f : at + 8 + 8 * i ≡ at + 8 * suc i = omega arith in
    rw (← f) (tasks-right s n (at + 8) (then_none _ _ e).1 i (omega arith))

pub record ChainRight (s : List ℕ) (at : ℕ) (t : Table) : Type 0 where
  pub head : HeadRight s at t
  pub list : ListRight s at
  pub largest : LargestRight s at
  pub tasks : (i : ℕ) → i < tasks_at s at → TaskRight s (first_task s at + 8 * i)
  pub there : at + length_at s at ≤ length s

pub chain-right : (s : List ℕ) (at : ℕ) (t : Table) → chain_fault s at t ≡ Ok tt → ChainRight s at t
unfolding chain_fault
chain-right s at t e =
    let e1 = then_none _ _ e in
    let e2 = then_none _ _ e1.1 in
    let e3 = then_none _ _ e2.1 in
    let head = head-right s at t e1.0 in
    let tasks = tasks-right s (tasks_at s at) (first_task s at) e3.1 in
    let last = tasks (tasks_at s at - 1) (omega (arith, head.tasks.0)) in
    record { head = head; list = list_right s at e2.0; largest = largest-right s at e3.0; tasks = tasks; there = omega (arith, last.there, head.tasks.0) }

pub record BesideRight (s : List ℕ) (at f : ℕ) (t : Table) : Type 0 where
  pub form : form_at s at ≡ f
  pub room : t.count ≡ max_chains → ⊥
  pub chain : chain_fault s at t ≡ Ok tt

pub beside-right : (s : List ℕ) (at f : ℕ) (t : Table) → beside_fault s at f t ≡ Ok tt → BesideRight s at f t
unfolding beside_fault
beside-right s at f t e =
    let form = when_none _ _ _ _ e in
    let room = when_none _ _ _ _ form.1 in
    record { form = eqb-true _ _ (not-false _ form.0); room = eqb-false _ _ room.0; chain = room.1 }

-- a fault of its form, one too many, and what is judged where there is neither
module _ (s : List ℕ) (at f : ℕ) (t : Table) where
  pub beside-other : (form_at s at ≡ f → ⊥) → beside_fault s at f t ≡ Err (BadMark, at)
  unfolding beside_fault
  beside-other h = when_yes _ _ (ap not (ne_eqb _ _ h))

  pub beside-full : form_at s at ≡ f → t.count ≡ max_chains → beside_fault s at f t ≡ Err (BadChainCount, at)
  unfolding beside_fault
  beside-full e n = when_no _ _ (ap not (eq-eqb _ _ e)) ∙ when_yes _ _ (eq-eqb _ _ n)

  pub beside-is : form_at s at ≡ f → (t.count ≡ max_chains → ⊥) → beside_fault s at f t ≡ chain_fault s at t
  unfolding beside_fault
  beside-is e h = when_no _ _ (ap not (eq-eqb _ _ e)) ∙ when_no _ _ (ne_eqb _ _ h)
