-- `least_called` meets its contract. The loop's invariant: the costs called bad by the activations looked at so far are those from `least`
-- on.
use Prim.Native.Nat.{ℕ, ◌+◌, ◌≤◌}
use mathlib.Core.Path.{◌≡◌, ap, ap₂, sym, subst, ◌∙◌}
use native.Mathlib.Omega.{arith}
use Rattle.table.specs.Record.{row_at}
use Rattle.arrivals.specs.Arrivals.{δ}
use Rattle.windows.specs.Code.Load.{latest, Load, load_of, row_in, own_of}
use Rattle.windows.specs.Code.Called.{CalledFrom}
use Rattle.windows.specs.Sieve.{due}
use Rattle.windows.proofs.Counting.{own-list, own-lists}
use Rattle.windows.proofs.Sieves.{called-none, called_on}
use Rattle.windows.proofs.sieving.least_called.Goals as goal
use Rattle.windows.proofs.sieving.least_called.Goals.{After-delta-start, Start}

abbrev load : (c : Start) → Load
load c = load_of c.args.s.now c.args.own c.args.held.now

abbrev t : (c : After-delta-start) → ℕ
t c = c.delta-start.result + c.deadline_at-deadline.result

due-is : (c : After-delta-start) → (t c) ≡ due (δ (own_of ((load_of c.args.s.now c.args.own c.args.held.now)))) (row_in ((load_of c.args.s.now c.args.own c.args.held.now))).deadline (c.loop-done.done + 1)
unfolding row_at
due-is c = ap₂ ◌+◌
    (c.delta-start.ensures ∙ ap (λ ds. δ ds (c.loop-done.done + 1)) (sym (own-list ((load_of c.args.s.now c.args.own c.args.held.now)) c.requires.sound)))
    c.deadline_at-deadline.ensures

near : (c : After-delta-start) → (t c) ≤ latest
near c = omega (
  arith,
  (due-is c),
  c.requires.near (c.loop-done.done + 1) (omega arith) (omega (arith, c.loop-done-test.true)),
  c.requires.sound.stands.good.deadline_max,
)

pub deadline_at-deadline-requires : goal.deadline_at-deadline-requires
deadline_at-deadline-requires c = omega (arith, c.requires.sound.stands.there)

pub loop-done-init : goal.loop-done-init
loop-done-init c = (omega arith, called-none (load (goal.at.loop-done-init c).Start) c.args.most)

pub overflow_add-q : goal.overflow_add-q
overflow_add-q c = omega (arith, c.requires.few)

pub delta-start-requires : goal.delta-start-requires
delta-start-requires c = (own-lists (load (goal.at.delta-start-requires c).Start) c.requires.sound, omega arith, omega (arith, c.requires.few, c.loop-done-test.true))

pub overflow_add-t : goal.overflow_add-t
overflow_add-t c = omega (arith, near c)

pub overflow_add-t-in-loop-done : goal.overflow_add-t-in-loop-done
overflow_add-t-in-loop-done c = omega (arith, near c)

pub demand-requires : goal.demand-requires
demand-requires c = (c.requires.sound, omega (arith, c.requires.few, c.loop-done-test.true), omega (arith, near c))

pub loop-done-preserved : goal.loop-done-preserved
loop-done-preserved c = (
  omega (arith, c.loop-done-test.true),
  subst (CalledFrom (load (goal.at.loop-done-preserved c).Start) (c.loop-done.done + 1) c.args.most) (sym c.min-least.ensures)
      (called_on (load (goal.at.loop-done-preserved c).Start) c.args.most c.loop-done.invariant.1 (t (goal.at.loop-done-preserved c).After-delta-start) c.saturating_sub.result (due-is (goal.at.loop-done-preserved c).After-delta-start)
      (omega (arith, c.saturating_sub.ensures, c.demand.ensures))),
)

pub returns : goal.returns
returns c = let e : c.loop-done.done ≡ c.args.close = omega (arith, c.loop-done-test.false, c.loop-done.invariant.0) in
    subst (λ n. CalledFrom (load (goal.at.returns c).Start) n c.args.most c.loop-done.least) e c.loop-done.invariant.1
