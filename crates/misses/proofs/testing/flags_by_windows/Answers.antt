-- The loop's invariant: the sets below m have their flags.
use Prim.Native.Nat.{ℕ, ◌<◌}
use mathlib.Core.Path.{ap, sym, ◌∙◌}
use mathlib.Core.Logic.{⊎_elim}
use mathlib.Core.Bool.{Bool}
use native.Mathlib.Omega.{arith}
use Rattle.search.specs.Choice.{◌when◌else◌}
use Rattle.search.proofs.Choice.{when_no, lt_or_le}
use Rattle.windows.specs.Code.Load.{load_of}
use Rattle.windows.proofs.Flags.{byte_when}
use Rattle.misses.specs.Code.Settling.{over_with}
use Rattle.misses.proofs.Fills.{filled_none, filled_on}
use Rattle.misses.proofs.testing.flags_by_windows.Goals as goal
use Rattle.misses.proofs.testing.flags_by_windows.Goals.{In-loop-m}

pub loop-m-init : goal.loop-m-init
loop-m-init c = (omega arith, filled_none _ 64)

-- the set is one of all
there : (c : In-loop-m) → c.loop-m.m < 64
there c = omega (arith, c.requires.2.few, c.loop-m-test.true)

pub offset_bounds-costs-m : goal.offset_bounds-costs-m
offset_bounds-costs-m c = omega (arith, there c)

pub bounds-costs-m : goal.bounds-costs-m
bounds-costs-m c = omega (arith, there (goal.at.bounds-costs-m c).In-loop-m)

pub over-requires : goal.over-requires
over-requires c = (c.requires.0, c.requires.2.within c.loop-m.m (there (goal.at.over-requires c).In-loop-m))

pub bounds-out-m : goal.bounds-out-m
bounds-out-m c = omega (arith, there (goal.at.bounds-out-m c).In-loop-m)

pub loop-m-preserved : goal.loop-m-preserved
loop-m-preserved c = let l = c.loop-m in (
  omega (arith, c.loop-m-test.true),
  filled_on _ _ l.out l.m c.from.result l.invariant.1 (there (goal.at.loop-m-preserved c).In-loop-m)
      (c.from.ensures ∙ byte_when _ ∙ ap (λ (t : Bool). 1 when t else 0) c.over.ensures),
)

pub returns : goal.returns
returns c m h = let l = c.loop-m in
    ⊎_elim
    (λ k. l.invariant.1.each m (omega (arith, l.invariant.0, c.loop-m-test.false)))
    (λ k. l.invariant.1.rest m (omega (arith, l.invariant.0)) h ∙ sym (when_no {A = ℕ} 1 0 (ap (over_with (load_of c.args.s.now c.args.own c.args.held.now) c.args.close) (c.requires.2.past m k h) ∙ c.requires.1)))
    (lt_or_le m c.args.sets)
