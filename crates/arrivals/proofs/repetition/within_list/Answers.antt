-- `within_list` meets its contract. The loop's invariant: n of the first j activations lie within x.
use Prim.Native.Nat.{ℕ, ◌+◌, ◌<◌}
use mathlib.Core.Path.{◌≡◌, ap, ap₂, sym, ◌∙◌}
use mathlib.Core.List.{List}
use native.Mathlib.Omega.{arith}
use lib.ListN.{length}
use lib.Dec.{ltb}
use Rattle.search.specs.Choice.{◌when◌else◌}
use Rattle.table.specs.Code.Listed.{listed_from, distances_from}
use Rattle.arrivals.specs.Code.WithinList.{within_list}
use Rattle.arrivals.proofs.Remainders.{within_le, within_first, within_on}
use Rattle.arrivals.proofs.Rows.{lists_length, lists-inside}
use Rattle.arrivals.proofs.repetition.within_list.Goals as goal
use Rattle.arrivals.proofs.repetition.within_list.Goals.{After-below-n, Start}

-- the chain's distances
abbrev ds : (c : Start) → List ℕ
ds c = distances_from c.args.s.now c.args.list

pub listed_from-listed-requires : goal.listed_from-listed-requires
listed_from-listed-requires c = lists-inside c.requires.0

pub loop-j-init : goal.loop-j-init
loop-j-init c = (omega (arith, within_first c.requires.0.good c.requires.1), omega arith, omega (arith, lists_length c.requires.0, c.requires.0.good.some))

ahead : (c : After-below-n) → c.loop-j.j < length ((distances_from c.args.s.now c.args.list))
ahead c = omega (arith, c.listed_from-listed.ensures.0, lists_length c.requires.0)

more : (c : After-below-n) → c.loop-j.n + c.below-n.result ≡ within_list ((distances_from c.args.s.now c.args.list)) c.args.x (c.loop-j.j + 1)
more c = let l = c.loop-j in
    ap₂ (λ n one. n + one) l.invariant.0 (c.below-n.ensures ∙ ap (λ d. 1 when ltb d c.args.x else 0) c.as_listed.ensures)
    ∙ sym (within_on c.requires.0.good c.requires.1 l.j (omega (arith, l.invariant.1)) (ahead c))

pub as_listed-requires : goal.as_listed-requires
as_listed-requires c = (c.requires.0, c.loop-j.invariant.2)

pub overflow_add-n : goal.overflow_add-n
overflow_add-n c = omega (arith, more c, ahead c, within_le (ds (goal.at.overflow_add-n c).Start) c.args.x (c.loop-j.j + 1), c.requires.0.good.few)

pub loop-j-preserved : goal.loop-j-preserved
loop-j-preserved c = (more c, omega arith, omega (arith, ahead c, lists_length c.requires.0))

pub returns : goal.returns
returns c = let l = c.loop-j in
    let e : l.j ≡ listed_from c.args.s.now c.args.list = omega (arith, l.invariant.2, c.listed_from-listed.ensures.0) in
    l.invariant.0 ∙ ap (within_list (ds (goal.at.returns c).Start) c.args.x) e
