-- η is not counted past the limit, and one more than it is the capacity.
use Prim.Native.Nat.{min}
use native.Mathlib.Omega.{arith}
use mathlib.Core.Path.{◌≡◌, ap, sym, ◌∙◌}
use Rattle.table.specs.Limits.{max_capacity}
use Rattle.table.specs.Record.{row_at, distances}
use Rattle.table.proofs.Stands.{distances-from, lists}
use Rattle.arrivals.specs.Arrivals.{η}
use Rattle.misses.proofs.gathering.capacity.Goals as goal
use Rattle.misses.proofs.gathering.capacity.Goals.{After-eta_up_to}

pub eta_up_to-requires : goal.eta_up_to-requires
eta_up_to-requires c = (lists c.args.s.now c.args.a c.list_place.ensures c.requires.0, c.requires.1)

-- by the chain's own list
counts : (c : After-eta_up_to) → c.eta_up_to.result ≡ min (η (distances (row_at c.args.s.now c.args.a)) c.args.t) max_capacity
counts c = c.eta_up_to.ensures ∙ ap (λ ds. min (η ds c.args.t) max_capacity) (sym (distances-from c.args.s.now c.args.a c.list_place.ensures))

pub overflow_add-result : goal.overflow_add-result
overflow_add-result c = omega (arith, counts c)

pub overflow_cast-result : goal.overflow_cast-result
overflow_cast-result c = omega (arith, counts c)

pub returns : goal.returns
returns c = omega (arith, counts c)
