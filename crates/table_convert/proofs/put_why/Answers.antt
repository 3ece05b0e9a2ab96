-- An accepted table has its chains.
use Rattle.std.proofs.Common.{sym, ◌∙◌}
use Rattle.table.proofs.Accepted.{taken}
use Rattle.table_convert.proofs.put_why.Goals as goal

pub put_no_form-requires : goal.put_no_form-requires
put_no_form-requires g c = taken c.args.s.now (λ k. (c.type_inv.s k).fits) (sym c.judge.ensures ∙ c.in-Ok.is)
