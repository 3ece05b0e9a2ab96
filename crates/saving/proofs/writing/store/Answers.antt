-- The result is written first; where it is shorter, the rest of the former table is filled with 0.
use mathlib.Core.Path.{◌∙◌}
use Rattle.saving.proofs.Written.{written-longer, written-shorter}
use Rattle.saving.proofs.writing.store.Goals as goal

pub returns-then-n-used : goal.returns-then-n-used
returns-then-n-used c = let a = c.args in
    written-shorter a.buffer.now a.used a.res.now c.put.new.to c.fill.new.self
    c.if-n-used.true c.requires.0 c.put.ensures (c.fill.ensures.after (λ y e. e))

pub returns-else-n-used : goal.returns-else-n-used
returns-else-n-used c = let a = c.args in
    c.put.ensures ∙ written-longer a.buffer.now a.used a.res.now c.if-n-used.false
