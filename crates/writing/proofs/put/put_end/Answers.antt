-- The end record is one number of four bytes.
use Prim.Native.Nat.{◌+◌}
use mathlib.Core.Path.{ap, ◌∙◌}
use mathlib.Core.List.{◌++◌}
use lib.ListN.{take, drop}
use Rattle.table.proofs.Words.{end-bytes}
use Rattle.writing.proofs.put.put_end.Goals as goal

pub returns : goal.returns
returns c = let a = c.args in
    c.put_u32.ensures ∙ ap (λ l. take a.at a.out.now ++ l ++ drop (a.at + 4) a.out.now) (end-bytes a.count)
