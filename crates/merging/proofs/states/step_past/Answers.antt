-- A chain's record, and the next one starts where it ends.
use Prim.Native.Nat.{◌+◌, ◌<◌}
use mathlib.Core.Path.{sym, subst}
use native.Mathlib.Omega.{arith}
use Rattle.table.specs.Read.{table_of}
use Rattle.table.specs.Code.Taken.{Stands}
use Rattle.merging.specs.Code.Seeks.{RecordAt}
use Rattle.merging.proofs.Seeks.{chain-there, record_stands, next_record}
use Rattle.merging.proofs.states.step_past.Goals as goal
use Rattle.merging.proofs.states.step_past.Goals.{Else-end_place-from}

within : (c : Else-end_place-from) → c.requires.1.chain < (table_of c.args.s.now).count
within c = chain-there c.requires.0 c.requires.1 (omega (arith, c.end_place.ensures, c.if-end_place-from.false))

there : (c : Else-end_place-from) → Stands c.args.s.now c.args.from
there c = record_stands c.requires.0 c.requires.1 (within c)

pub returns-then-end_place-from : goal.returns-then-end_place-from
returns-then-end_place-from c = c.requires.1

pub id_at-requires : goal.id_at-requires
id_at-requires c = omega (arith, (there c).there)

pub returns-then-from-id : goal.returns-then-from-id
returns-then-from-id c = c.requires.1

pub record_length-requires : goal.record_length-requires
record_length-requires c = omega (arith, (there (goal.at.record_length-requires c).Else-end_place-from).there)

pub overflow_add-result : goal.overflow_add-result
overflow_add-result c = omega (arith, c.record_length.ensures, (there (goal.at.overflow_add-result c).Else-end_place-from).there)

pub returns : goal.returns
returns c = subst (λ n. RecordAt c.args.s.now (c.args.from + n)) (sym c.record_length.ensures) (next_record c.requires.0 c.requires.1 (within (goal.at.returns c).Else-end_place-from))
