-- Costs only get worse, so the cost tried settles those on one side of it.
use Prim.Native.Nat.{ℕ}
use mathlib.Core.Path.{sym, ◌∙◌}
use mathlib.Core.Bool.{Bool}
use native.Mathlib.Omega.{arith}
use Rattle.windows.specs.Code.Load.{Load, load_of}
use Rattle.misses.specs.Code.Settling.{over_with}
use Rattle.misses.proofs.Worsening.{load_worsens}
use Rattle.misses.proofs.Settles.{settles_bad, settles_good}
use Rattle.misses.proofs.settling.round.Goals as goal
use Rattle.misses.proofs.settling.round.Goals.{Start}

abbrev load : (c : Start) → Load
load c = load_of c.args.s.now c.args.own c.args.held.now

abbrev test : (c : Start) → ℕ → Bool
test c = over_with (load c) c.args.close

pub over-requires : goal.over-requires
over-requires c = let p = c.requires in (p.0, omega (arith, p.1.inside, p.2.high))

pub returns-then-over : goal.returns-then-over
returns-then-over c = (
  settles_bad (test (goal.at.returns-then-over c).Start) (load_worsens (load (goal.at.returns-then-over c).Start) c.requires.0.sound c.args.close) c.args.ends c.args.c c.requires.1 c.requires.2
      (sym c.over.ensures ∙ c.if-over.true),
  omega (arith, c.requires.2.low, c.requires.2.high),
)

pub returns-else-over : goal.returns-else-over
returns-else-over c = (
  settles_good (test (goal.at.returns-else-over c).Start) (load_worsens (load (goal.at.returns-else-over c).Start) c.requires.0.sound c.args.close) c.args.ends c.args.c c.requires.1 c.requires.2
      (sym c.over.ensures ∙ c.if-over.false),
  omega (arith, c.requires.2.low, c.requires.2.high),
)
