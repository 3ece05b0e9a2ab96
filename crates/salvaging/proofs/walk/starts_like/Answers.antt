-- Test by test.
use mathlib.Core.Path.{◌≡◌, ap, sym, ◌∙◌}
use borrow.Author.Tests.{le-leb}
use Rattle.table.specs.Bytes.{word}
use Rattle.table.specs.Fault.{mark_of, is_chain}
use Rattle.salvaging.specs.Code.Walk.{starts_like}
use Rattle.salvaging.proofs.walk.starts_like.Goals as goal
use Rattle.salvaging.proofs.walk.starts_like.Goals.{After-is_chain}

-- the mark that was looked at
marked : (c : After-is_chain) → is_chain (mark_of (word 2 c.args.s.now c.args.at)) ≡ c.is_chain.result
marked c = ap (λ w. is_chain (mark_of w)) (sym c.u16_at.ensures) ∙ sym c.is_chain.ensures

pub returns : goal.returns
unfolding starts_like
returns c = rw (le-leb _ _ c.requires, marked c)
