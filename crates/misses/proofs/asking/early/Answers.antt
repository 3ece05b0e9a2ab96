-- The definition by its tests.
use mathlib.Core.Path.{◌≡◌, sym, ◌∙◌}
use mathlib.Core.Bool.{true, false}
use mathlib.Core.Logic.{⊎_elim}
use native.Mathlib.Omega.{arith}
use borrow.Author.Tests.{lt-ltb, le-ltb}
use lib.Dec.{ltb}
use Rattle.table.specs.Limits.{max_run}
use Rattle.table.specs.Fault.{outside}
use Rattle.table.specs.declared.Row.{Row}
use Rattle.table.specs.Record.{row_at}
use Rattle.table.proofs.Firsts.{or_left, or_right, or_none}
use Rattle.misses.proofs.Answers.{early-run, early-overload, early-unknown, early-none}
use Rattle.misses.proofs.asking.early.Goals as goal
use Rattle.misses.proofs.asking.early.Goals.{Else-k-gt-RUN, Joined-then-k-eq0, Start}

-- the chain asked of
abbrev b : (c : Start) → Row
b c = row_at c.args.s.now c.args.b

-- k is outside its range, or it is not
out : (c : Joined-then-k-eq0) → outside 1 max_run c.args.k ≡ true
out c = let k = c.args.k in
    ⊎_elim (λ e. or_left _ _ (lt-ltb k 1 (omega (arith, e)))) (λ w. or_right (ltb k 1) _ (lt-ltb max_run k w.1)) c.then-k-eq0.either

inside : (c : Else-k-gt-RUN) → outside 1 max_run c.args.k ≡ false
inside c = let k = c.args.k in or_none _ _ (le-ltb k 1 (omega (arith, c.if-k-eq0.false))) (le-ltb max_run k c.if-k-gt-RUN.false)

pub returns-then-k-eq0 : goal.returns-then-k-eq0
returns-then-k-eq0 c = sym (early-run (b (goal.at.returns-then-k-eq0 c).Start) c.args.k (out c))

pub returns-then-overload_at-ne0 : goal.returns-then-overload_at-ne0
unfolding row_at
returns-then-overload_at-ne0 c = sym (early-overload (b (goal.at.returns-then-overload_at-ne0 c).Start) c.args.k (inside (goal.at.returns-then-overload_at-ne0 c).Else-k-gt-RUN) (λ e. c.if-overload_at-ne0.true (c.overload_at.ensures ∙ e)))

pub returns-then-unknown : goal.returns-then-unknown
unfolding row_at
returns-then-unknown c = sym (early-unknown (b (goal.at.returns-then-unknown c).Start) c.args.k (inside (goal.at.returns-then-unknown c).Else-k-gt-RUN) (sym c.overload_at.ensures ∙ c.if-overload_at-ne0.false) (sym c.unknown.ensures ∙ c.if-unknown.true))

pub returns : goal.returns
unfolding row_at
returns c = sym (early-none (b (goal.at.returns c).Start) c.args.k (inside (goal.at.returns c).Else-k-gt-RUN) (sym c.overload_at.ensures ∙ c.if-overload_at-ne0.false) (sym c.unknown.ensures ∙ c.if-unknown.false))
