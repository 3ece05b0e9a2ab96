-- Each way the entry ends, by its law.
use mathlib.Core.Path.{subst}
use Rattle.std.specs.declared.result.Result.{Result}
use Rattle.table.specs.Refusal.{number_of, part_values}
use Rattle.table.specs.declared.refusal.Refusal.{Refusal}
use Rattle.table.specs.declared.Part.{Part}
use Rattle.segments.specs.Query.{segment_of}
use Rattle.editor.specs.Entry.{Answered}
use Rattle.editor.proofs.Writing.{answered-short}
use Rattle.editor.proofs.mishtodran_segment.Goals as goal

pub returns-then-answer-lt8 : goal.returns-then-answer-lt8
returns-then-answer-lt8 c = let a = c.args in
    let answer = segment_of a.table.now a.id a.against a.number in
    record { answers = answered-short 2 (number_of answer) (part_values answer) a.answer.now c.if-answer-lt8.true c.number.ensures }

pub returns : goal.returns
returns c = let a = c.args in
    record { answers = subst (λ (x : Result Part Refusal). Answered 2 (number_of x) (part_values x) a.answer.now c.put_part.new.answer c.put_part.result) c.segment.ensures c.put_part.ensures }
