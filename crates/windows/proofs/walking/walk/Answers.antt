-- `walk` meets its contract. The loop's invariant is where the walk stands (`Walk`) and what is counted.
use Prim.Native.Nat.{ℕ, ◌+◌, ◌≤◌, ◌<◌}
use mathlib.Core.Path.{◌≡◌, ap, sym, ◌∙◌}
use native.Mathlib.Omega.{arith}
use mir.Val.{to_z, of_z}
use mir.Syntax.{w32}
use mir.Facts.{to_z-of_z}
use Rattle.table.specs.Limits.{horizon, max_activations, max_deadline}
use Rattle.table.specs.Record.{row_at}
use Rattle.arrivals.specs.Arrivals.{δ}
use Rattle.arrivals.proofs.Distances.{δ-one}
use Rattle.windows.specs.Window.{window_of}
use Rattle.windows.specs.Latency.{margin_of, figures, windows_of}
use Rattle.windows.specs.Code.Load.{Load, load_of, own_of, demand_in}
use Rattle.std.specs.declared.option.Option.TheVariants.{Some}
use Rattle.std.specs.declared.result.Result.TheVariants.{Ok, Err}
use Rattle.table.proofs.Firsts.{handed_on}
use Rattle.windows.proofs.Growth.{Growing, load-growing}
use Rattle.windows.proofs.Counting.{own-list, own-lists, counted_none}
use Rattle.windows.proofs.Margins.{margin-fits}
use Rattle.windows.proofs.Walks.{window-known, window-unknown, walk_start, walk_open, walk_none, walk-ahead, walk-near, walk-few, walk-close, walk-on}
use Rattle.windows.proofs.walking.walk.Goals as goal
use Rattle.windows.proofs.walking.walk.Goals.{After-deadline_at-deadline, After-delta-next, After-over-late, In_ok-t, Start}

-- the load, its demand and its distances
abbrev load : (c : Start) → Load
load c = load_of c.args.s.now c.args.own c.args.held.now

abbrev demand : (c : Start) → ℕ → ℕ → ℕ
demand c = demand_in (load c)

abbrev own : (c : Start) → ℕ → ℕ
own c = δ (own_of (load c))

growing : (c : Start) → Growing (demand c)
growing c = load-growing (load c) c.requires

abbrev size : (c : In_ok-t) → ℕ
size c = c.in_ok-t.t

-- an activation is taken
turn : (c : In_ok-t) → c.loop-done.done < max_activations
turn c = omega (arith, c.loop-done-test.true)

-- the deadline is the chain's
deadline-is : (c : After-deadline_at-deadline) → c.deadline_at-deadline.result ≡ (row_at c.args.s.now c.args.own.at).deadline
unfolding row_at
deadline-is c = c.deadline_at-deadline.ensures

deadline-le : (c : After-deadline_at-deadline) → c.deadline_at-deadline.result ≤ max_deadline
deadline-le c = omega (arith, deadline-is c, c.requires.stands.good.deadline_max)

-- the window that was found
was : (c : In_ok-t) → c.climb.result ≡ Some (size c)
was c = window-known _ (sym c.ok_or.ensures.value ∙ c.in_ok-t.was)

at : (c : In_ok-t) → window_of ((demand_in ((load_of c.args.s.now c.args.own c.args.held.now))) (c.loop-done.done + 1)) ≡ Some (size c)
at c = sym c.climb.ensures.window ∙ was c

pub deadline_at-deadline-requires : goal.deadline_at-deadline-requires
deadline_at-deadline-requires c = omega (arith, c.requires.stands.there)

pub loop-done-init : goal.loop-done-init
loop-done-init c = (walk_start (demand (goal.at.loop-done-init c).Start) (own (goal.at.loop-done-init c).Start) c.deadline_at-deadline.result (δ-one c.requires.stands.good.list), counted_none (load (goal.at.loop-done-init c).Start) 1 c.requires)

pub climb-requires : goal.climb-requires
climb-requires c = record { sound = c.requires; some = omega arith; few = omega arith; under = c.loop-done.invariant.0.under; counted = c.loop-done.invariant.1 }

pub returns-in_err-t : goal.returns-in_err-t
returns-in_err-t c = let s = (goal.at.returns-in_err-t c).Start in
    let none = window-unknown _ (sym c.ok_or.ensures.value ∙ c.in_err-t.was) in
    handed_on _ c.from_residual.ensures.1 ∙ ap (λ r. Err r) none.1
    ∙ walk_none (demand s) (own s) c.deadline_at-deadline.result (growing s) c.loop-done.invariant.0 (omega (arith, c.loop-done-test.true)) (sym c.climb.ensures.window ∙ none.0)
    ∙ ap (windows_of (demand s) (own s)) (deadline-is (goal.at.returns-in_err-t c).After-deadline_at-deadline)

pub overflow_sub-span : goal.overflow_sub-span
overflow_sub-span c = walk-ahead (demand (goal.at.overflow_sub-span c).Start) (own (goal.at.overflow_sub-span c).Start) c.deadline_at-deadline.result (growing (goal.at.overflow_sub-span c).Start) c.loop-done.invariant.0 (turn c) (at c)

pub delta-next-requires : goal.delta-next-requires
delta-next-requires c = (own-lists (load (goal.at.delta-next-requires c).Start) c.requires, omega arith, omega arith)

-- when the next activation starts, by the chain's own list
starts : (c : After-delta-next) → c.delta-next.result ≡ (δ (own_of ((load_of c.args.s.now c.args.own c.args.held.now)))) (c.loop-done.done + 1 + 1)
starts c = c.delta-next.ensures ∙ ap (λ ds. δ ds (c.loop-done.done + 1 + 1)) (sym (own-list ((load_of c.args.s.now c.args.own c.args.held.now)) c.requires))

-- the latency so far is within the horizon
near : (c : After-over-late) → c.max-latency.result ≤ horizon
near c = walk-near _ _ c.deadline_at-deadline.result (load-growing (load_of c.args.s.now c.args.own c.args.held.now) c.requires) c.loop-done.invariant.0 (omega (arith, c.loop-done-test.true))
    (sym c.climb.ensures.window ∙ window-known _ (sym c.ok_or.ensures.value ∙ c.in_ok-t.was)) c.max-latency.ensures c.over-late.ensures

pub overflow_add-late : goal.overflow_add-late
overflow_add-late c = omega (
  arith,
  c.loop-done.invariant.0.some,
  walk-few (demand (goal.at.overflow_add-late c).Start) (own (goal.at.overflow_add-late c).Start) c.deadline_at-deadline.result (growing (goal.at.overflow_add-late c).Start) c.loop-done.invariant.0 (turn (goal.at.overflow_add-late c).In_ok-t) (at (goal.at.overflow_add-late c).In_ok-t) c.max-latency.ensures c.over-late.ensures,
)

pub overflow_cast-greatest : goal.overflow_cast-greatest
overflow_cast-greatest c = omega (arith, near (goal.at.overflow_cast-greatest c).After-over-late)

pub margin-requires : goal.margin-requires
margin-requires c = (deadline-le (goal.at.margin-requires c).After-deadline_at-deadline, near (goal.at.margin-requires c).After-over-late)

pub returns-then-t-next : goal.returns-then-t-next
returns-then-t-next c = let l = c.loop-done in
    let deadline = c.deadline_at-deadline.result in
    let best = c.max-latency.result in
    let m : to_z w32 (of_z w32 c.margin.result) ≡ margin_of deadline best =
    ap (λ z. to_z w32 (of_z w32 z)) c.margin.ensures ∙ to_z-of_z (margin-fits deadline best (deadline-le (goal.at.returns-then-t-next c).After-deadline_at-deadline) (near (goal.at.returns-then-t-next c).After-over-late)) in
    ap (λ z. Ok (record { figures = figures (l.done + 1) best (l.late + c.over-late.result) z; last = size (goal.at.returns-then-t-next c).In_ok-t })) m
    ∙ walk-close (demand (goal.at.returns-then-t-next c).Start) (own (goal.at.returns-then-t-next c).Start) deadline (growing (goal.at.returns-then-t-next c).Start) l.invariant.0 (turn (goal.at.returns-then-t-next c).In_ok-t) (at (goal.at.returns-then-t-next c).In_ok-t) c.max-latency.ensures c.over-late.ensures
    (starts (goal.at.returns-then-t-next c).After-delta-next) c.if-t-next.true
    ∙ ap (windows_of (demand (goal.at.returns-then-t-next c).Start) (own (goal.at.returns-then-t-next c).Start)) (deadline-is (goal.at.returns-then-t-next c).After-deadline_at-deadline)

pub loop-done-preserved : goal.loop-done-preserved
loop-done-preserved c = (
  walk-on (demand (goal.at.loop-done-preserved c).Start) (own (goal.at.loop-done-preserved c).Start) c.deadline_at-deadline.result (growing (goal.at.loop-done-preserved c).Start) c.loop-done.invariant.0 (turn (goal.at.loop-done-preserved c).In_ok-t) (at (goal.at.loop-done-preserved c).In_ok-t) c.max-latency.ensures c.over-late.ensures
      (starts (goal.at.loop-done-preserved c).After-delta-next) c.if-t-next.false,
  c.climb.ensures.counted (size (goal.at.loop-done-preserved c).In_ok-t) (was (goal.at.loop-done-preserved c).In_ok-t),
)

pub returns : goal.returns
returns c = walk_open (demand (goal.at.returns c).Start) (own (goal.at.returns c).Start) c.deadline_at-deadline.result (growing (goal.at.returns c).Start) c.loop-done.invariant.0 c.loop-done-test.false
    ∙ ap (windows_of (demand (goal.at.returns c).Start) (own (goal.at.returns c).Start)) (deadline-is (goal.at.returns c).After-deadline_at-deadline)
