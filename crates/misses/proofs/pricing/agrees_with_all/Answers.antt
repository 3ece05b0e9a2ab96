-- The library's test of a list, over those after i.
use Prim.Native.Nat.{◌+◌, ◌-◌}
use mathlib.Core.Path.{refl, ◌∙◌}
use native.Mathlib.Omega.{arith}
use Rattle.std.proofs.Common.{rules}
use Rattle.std.proofs.lemmas.Iterator.{YieldsList-from_range}
use Rattle.std.proofs.lemmas.Iterator.Search.{all_from_yields_List}
use Rattle.misses.specs.Code.Held.{agrees_at}
use Rattle.misses.proofs.Masks.{agree-all}
use Rattle.misses.proofs.pricing.agrees_with_all.Goals as goal

pub returns : goal.returns
returns c costs = let a = c.args in
    all_from_yields_List (agrees_at a.chain.now a.segment.now a.m a.i) _ _ _ c.all.ensures.ran (YieldsList-from_range (a.i + 1) a.n (a.n - (a.i + 1)) refl refl) (λ x b q k. search rules)
    ∙ agree-all a.chain.now a.segment.now costs a.n a.m a.i (a.n - (a.i + 1)) (a.i + 1) (omega arith)
