-- An accepted table has its count.
use Rattle.std.proofs.Common.{sym, ◌∙◌}
use Rattle.table.proofs.Accepted.{taken}
use Rattle.table_check.proofs.put_verdict.Goals as goal

pub count-requires : goal.count-requires
count-requires g c = taken c.args.s.now (λ k. (c.type_inv.s k).fits) (sym c.judge.ensures ∙ c.in-Ok.is)
