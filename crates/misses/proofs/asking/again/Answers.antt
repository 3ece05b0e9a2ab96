-- η is counted up to 2, which tells whether it is above 1.
use Prim.Native.Nat.{min}
use native.Mathlib.Omega.{arith}
use mathlib.Core.Path.{ap, sym, ◌∙◌}
use Rattle.table.specs.Record.{row_at}
use Rattle.table.proofs.Stands.{distances-from, lists}
use Rattle.arrivals.specs.Arrivals.{η}
use Rattle.misses.proofs.Starts.{above-one, again-none, again-one}
use Rattle.misses.proofs.asking.again.Goals as goal

pub returns-then-overload_at-eq0 : goal.returns-then-overload_at-eq0
unfolding row_at
returns-then-overload_at-eq0 c b = let a = c.args in
    sym (again-none b (row_at a.s.now a.a) a.t (sym c.overload_at.ensures ∙ c.if-overload_at-eq0.true))

pub eta_up_to-requires : goal.eta_up_to-requires
eta_up_to-requires c = (lists c.args.s.now c.args.a c.list_place.ensures c.requires.0, omega (arith, c.requires.1))

pub returns : goal.returns
unfolding row_at
returns c b = let a = c.args in
    above-one _ _ (c.eta_up_to.ensures ∙ ap (λ ds. min (η ds a.t) 2) (sym (distances-from a.s.now a.a c.list_place.ensures)))
    ∙ sym (again-one b (row_at a.s.now a.a) a.t (λ e. c.if-overload_at-eq0.false (c.overload_at.ensures ∙ e)))
