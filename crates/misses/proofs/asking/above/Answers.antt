-- The library's test of a list, by the limit.
use mathlib.Core.Path.{sym, ◌∙◌}
use borrow.Author.Tests.{tests}
use lib.Dec.{ltb}
use Rattle.std.proofs.Common.{rules}
use Rattle.std.proofs.lemmas.Iterator.{YieldsList-from_slice}
use Rattle.std.proofs.lemmas.Iterator.Search.{any_from_yields_List}
use Rattle.table.specs.Limits.{max_capacity}
use Rattle.misses.proofs.Bools.{some-any}
use Rattle.misses.proofs.asking.above.Goals as goal

pub returns : goal.returns
returns c = any_from_yields_List (ltb max_capacity) _ _ _ c.any.ensures.ran (YieldsList-from_slice c.args.capacity.now cc) (λ x b q k. search (rules, tests))
    ∙ sym (some-any (ltb max_capacity) c.args.capacity.now)
