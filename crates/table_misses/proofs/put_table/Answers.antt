-- An accepted table has its chains.
use Rattle.std.proofs.Common.{sym, ◌∙◌}
use Rattle.table.proofs.Accepted.{taken}
use Rattle.table_misses.proofs.put_table.Goals as goal

pub put_lines-requires : goal.put_lines-requires
put_lines-requires g c = taken c.args.s.now (λ k. (c.type_inv.s k).fits) (sym c.judge.ensures ∙ c.in-Ok.is)
