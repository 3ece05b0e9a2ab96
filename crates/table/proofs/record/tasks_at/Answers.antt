-- The byte after that of the list's length.
use Prim.Native.Nat.{◌+◌}
use native.Mathlib.Omega.{arith}
use mathlib.Core.Path.{◌≡◌, ap, ◌∙◌}
use lib.ListN.{get_or}
use Rattle.table.specs.Record.{tasks_place}
use Rattle.table.proofs.record.tasks_at.Goals as goal

pub returns : goal.returns
returns c = let a = c.args in
    let e : c.listed_place.result + 1 ≡ tasks_place a.s.now a.at = omega (arith, c.listed_place.ensures) in
    (c.count_at.ensures.0 ∙ ap (λ i. get_or a.s.now i 0) e, c.count_at.ensures.1)
