-- The largest distance listed there.
use Prim.Native.Nat.{◌+◌, ◌*◌}
use mathlib.Core.Path.{ap, sym, ◌∙◌}
use Rattle.table.specs.Bytes.{word}
use Rattle.table.proofs.Stands.{largest-at}
use Rattle.table.proofs.record.largest_at.Goals as goal

pub returns : goal.returns
returns c = c.u32_at.ensures ∙ ap (λ n. word 4 c.args.s.now (n + 4 * c.args.j)) c.largest_place.ensures ∙ sym (largest-at c.args.s.now c.args.at c.args.j c.requires.1)
