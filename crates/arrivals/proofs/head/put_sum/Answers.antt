-- `put_sum` meets its contract: the greatest over all last steps is δ.
use Prim.Native.Nat.{min, ◌+◌}
use mathlib.Core.Path.{◌≡◌, ap, sym, ◌∙◌}
use lib.ListN.{length}
use Rattle.table.specs.Code.Listed.{distances_from}
use Rattle.arrivals.proofs.Heads.{last-all, sums_next}
use Rattle.arrivals.proofs.Rows.{lists_length}
use Rattle.arrivals.proofs.head.put_sum.Goals as goal

pub returns : goal.returns
returns c = let ds = distances_from c.args.s.now c.args.list in
    let most : c.min-most.result ≡ min (length ds) c.args.m =
    c.min-most.ensures ∙ ap (λ n. min n c.args.m) (c.listed_from.ensures.0 ∙ sym (lists_length c.requires.0)) in
    sums_next ds c.args.m c.greatest_to.result c.args.sums.now c.requires.1 c.requires.3
    (last-all ds c.args.m _ c.greatest_to.result c.requires.0.good.some c.requires.1 (ap (λ n. n + 1) most) c.greatest_to.ensures)
