-- The first of the two that is refused, or the length.
use Prim.Native.Nat.{ℕ, ◌+◌}
use mathlib.Core.Bool.{Bool, true, false}
use mathlib.Core.Path.{◌≡◌, refl, sym, ap₂, ◌∙◌}
use Rattle.std.specs.Prelude.{eqb, ltb}
use Rattle.std.specs.Result.{result_and}
use Rattle.std.specs.declared.result.Result.TheVariants.{Ok, Err}
use Rattle.search.specs.Choice.{◌when◌else◌}
use Rattle.table.specs.Refusal.{answering}
use Rattle.table.specs.declared.refusal.Refusal.TheVariants.{BadChainCount, BufferShort}
use Rattle.table.proofs.Firsts.{handed_on}
use Rattle.writing.specs.Code.Put.{fitted}
use Rattle.writing.proofs.put.fitted.Goals as goal
use Rattle.writing.proofs.put.fitted.Goals.{After-and}

-- both asked for, then the length, is one after the other
in_turn : (none short : Bool) (n : ℕ) → (Err BadChainCount when none else Err BufferShort when short else Ok n) ≡ answering (result_and (Err BadChainCount when none else Ok (tt {0})) (Err BufferShort when short else Ok (tt {0}))) n
unfolding ◌when◌else◌
in_turn true short n = refl
in_turn false true n = refl
in_turn false false n = refl

both : (c : After-and) → result_and (Err BadChainCount when eqb c.args.judged.count 0 else Ok (tt {0})) (Err BufferShort when ltb c.args.room (c.args.judged.bytes + 4) else Ok (tt {0})) ≡ c.and.result
both c = sym (c.and.ensures ∙ ap₂ result_and c.refused_if-rules.ensures c.refused_if-short.ensures)

pub returns-in_err-and : goal.returns-in_err-and
unfolding fitted
returns-in_err-and c = rw (handed_on _ c.from_residual.ensures.1, in_turn, both (goal.at.returns-in_err-and c).After-and, c.in_err-and.was)

pub returns : goal.returns
unfolding fitted
returns c = rw (in_turn, both (goal.at.returns c).After-and, c.in_ok-and.was)
