-- The task records that `segment` answers lie in the table's bytes.
use Prim.Native.Nat.{◌+◌, ◌-◌}
use native.Mathlib.Omega.{arith}
use mathlib.Core.Path.{◌≡◌, ap, sym, ◌∙◌}
use lib.ListN.{take, drop}
use Rattle.table.specs.Bytes.{Bytes}
use Rattle.segments.specs.Query.{part_of, offset_of}
use Rattle.segments.proofs.Answers.{answer-inside}
use Rattle.segments.proofs.query.segment_part.Goals as goal

pub slice_bounds-result-end : goal.slice_bounds-result-end
slice_bounds-result-end c =
    let a = c.in-Ok in
    let bytes : Bytes c.args.table.now = λ i. omega (arith, c.type_inv.table i) in
    let is = sym c.segment.ensures ∙ a.is in
    omega (arith, answer-inside c.args.table.now bytes c.args.id c.args.against c.args.number a.part is)

pub returns-in-Ok : goal.returns-in-Ok
returns-in-Ok c =
    let a = c.in-Ok in
    let e : a.part.offset + a.part.length - a.part.offset ≡ a.part.length = omega arith in
    let is = sym a.is ∙ c.segment.ensures in
    record {
      bytes = ap (λ k. take k (drop a.part.offset c.args.table.now)) e ∙ ap (part_of c.args.table.now) is;
      place = ap (λ r. (c.args.table.ref_ptr.0, offset_of r + c.args.table.ref_ptr.1)) is;
    }

pub returns-in-Err : goal.returns-in-Err
returns-in-Err c = let is = sym c.in-Err.is ∙ c.segment.ensures in
    record {
      bytes = ap (part_of c.args.table.now) is;
      place = ap (λ r. (c.args.table.ref_ptr.0, offset_of r + c.args.table.ref_ptr.1)) is;
    }
