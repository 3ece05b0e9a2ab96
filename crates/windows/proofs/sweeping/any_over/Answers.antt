-- `any_over` meets its contract. The loop's invariant (`Swept`): the windows taken so far are not over the deadline, and the next is
-- not under its start.
use Prim.Native.Nat.{ℕ, ◌+◌, ◌≤◌}
use mathlib.Core.Path.{◌≡◌, ap, sym, ◌∙◌}
use mathlib.Core.Bool.{Bool}
use native.Mathlib.Omega.{arith}
use Rattle.table.specs.Limits.{max_deadline}
use Rattle.table.specs.Record.{row_at}
use Rattle.arrivals.specs.Arrivals.{δ}
use Rattle.arrivals.proofs.Distances.{δ-near}
use Rattle.windows.specs.Window.{window_of}
use Rattle.windows.specs.Latency.{any_over}
use Rattle.windows.specs.Code.Load.{Load, load_of, own_of, demand_in}
use Rattle.std.specs.declared.option.Option.TheVariants.{Some}
use Rattle.windows.proofs.Growth.{load-growing}
use Rattle.windows.proofs.Counting.{own-list, own-lists, counted_none}
use Rattle.windows.proofs.Sweeps.{swept_start, swept_none, swept_past, swept_on}
use Rattle.windows.proofs.sweeping.any_over.Goals as goal
use Rattle.windows.proofs.sweeping.any_over.Goals.{After-deadline_at-deadline, After-delta, At-loop-done, In-Some, Start}

-- the load, and its demand
abbrev load : (c : Start) → Load
load c = load_of c.args.s.now c.args.own c.args.held.now

abbrev demand : (c : Start) → ℕ → ℕ → ℕ
demand c = demand_in (load c)

-- the deadline is the chain's
deadline-is : (c : After-deadline_at-deadline) → c.deadline_at-deadline.result ≡ (row_at c.args.s.now c.args.own.at).deadline
unfolding row_at
deadline-is c = c.deadline_at-deadline.ensures

deadline-le : (c : After-deadline_at-deadline) → c.deadline_at-deadline.result ≤ max_deadline
deadline-le c = omega (arith, deadline-is c, c.requires.0.stands.good.deadline_max)

-- what is said of it is said of the load
abbrev over_by : (c : At-loop-done) → ℕ → Bool
over_by c d = any_over ((demand_in ((load_of c.args.s.now c.args.own c.args.held.now)))) (δ (own_of ((load_of c.args.s.now c.args.own c.args.held.now)))) d c.args.close

told : (c : At-loop-done) → over_by c c.deadline_at-deadline.result ≡ over_by c (row_at c.args.s.now c.args.own.at).deadline
unfolding row_at
told c = ap (over_by c) (c.deadline_at-deadline.ensures)

-- the window that was found
at : (c : In-Some) → window_of ((demand_in ((load_of c.args.s.now c.args.own c.args.held.now))) (c.loop-done.done + 1)) ≡ Some c.in-Some.t
at c = sym c.climb.ensures.window ∙ c.in-Some.is

pub deadline_at-deadline-requires : goal.deadline_at-deadline-requires
deadline_at-deadline-requires c = omega (arith, c.requires.0.stands.there)

pub loop-done-init : goal.loop-done-init
loop-done-init c = (omega arith, swept_start _ _ _, counted_none (load (goal.at.loop-done-init c).Start) 1 c.requires.0)

pub overflow_add-q : goal.overflow_add-q
overflow_add-q c = omega (arith, c.requires.1)

pub climb-requires : goal.climb-requires
climb-requires c = record { sound = c.requires.0; some = omega arith; few = omega (arith, c.requires.1); under = c.loop-done.invariant.1.under; counted = c.loop-done.invariant.2 }

pub returns-in_default : goal.returns-in_default
returns-in_default c = sym (swept_none (demand (goal.at.returns-in_default c).Start) (δ (own_of (load (goal.at.returns-in_default c).Start))) c.deadline_at-deadline.result c.args.close c.loop-done.done c.loop-done-test.true
    (sym c.climb.ensures.window ∙ c.in_default.is)) ∙ told (goal.at.returns-in_default c).At-loop-done

pub delta-requires : goal.delta-requires
delta-requires c = (own-lists (load (goal.at.delta-requires c).Start) c.requires.0, omega arith, omega (arith, c.requires.1))

-- when the activation starts, by the chain's own list
starts : (c : After-delta) → c.delta.result ≡ δ (own_of ((load_of c.args.s.now c.args.own c.args.held.now))) (c.loop-done.done + 1)
starts c = c.delta.ensures ∙ ap (λ ds. δ ds (c.loop-done.done + 1)) (sym (own-list ((load_of c.args.s.now c.args.own c.args.held.now)) c.requires.0))

pub overflow_add-delta : goal.overflow_add-delta
overflow_add-delta c = omega (arith, starts c, δ-near c.requires.0.stands.good.list (c.loop-done.done + 1), deadline-le (goal.at.overflow_add-delta c).After-deadline_at-deadline, c.requires.1)

pub returns-then-delta-deadline : goal.returns-then-delta-deadline
returns-then-delta-deadline c = sym (swept_past (demand (goal.at.returns-then-delta-deadline c).Start) (δ (own_of (load (goal.at.returns-then-delta-deadline c).Start))) c.deadline_at-deadline.result c.args.close c.loop-done.done c.loop-done-test.true _ (at (goal.at.returns-then-delta-deadline c).In-Some)
    (omega (arith, starts (goal.at.returns-then-delta-deadline c).After-delta, c.if-delta-deadline.true))) ∙ told (goal.at.returns-then-delta-deadline c).At-loop-done

pub loop-done-preserved : goal.loop-done-preserved
loop-done-preserved c = (
  omega (arith, c.loop-done-test.true),
  swept_on (demand (goal.at.loop-done-preserved c).Start) (δ (own_of (load (goal.at.loop-done-preserved c).Start))) c.deadline_at-deadline.result c.args.close c.loop-done.done c.loop-done-test.true _ (at (goal.at.loop-done-preserved c).In-Some)
      (load-growing (load (goal.at.loop-done-preserved c).Start) c.requires.0) c.loop-done.start c.loop-done.invariant.1 (omega (arith, starts (goal.at.loop-done-preserved c).After-delta, c.if-delta-deadline.false)),
  c.climb.ensures.counted _ c.in-Some.is,
)

pub returns : goal.returns
returns c = let e : c.loop-done.done ≡ c.args.close = omega arith in
    sym c.loop-done.invariant.1.none ∙ ap (any_over (demand (goal.at.returns c).Start) (δ (own_of (load (goal.at.returns c).Start))) c.deadline_at-deadline.result) e ∙ told (goal.at.returns c).At-loop-done
