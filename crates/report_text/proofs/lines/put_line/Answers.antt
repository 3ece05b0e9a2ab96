-- The id, the two answers and the line feed; the windows are those of both queries.
use native.Mathlib.Omega.{arith}
use mathlib.Core.Path.{◌≡◌, ap, ap₂, subst, ◌∙◌}
use Rattle.table.specs.Find.{row_of}
use Rattle.table.specs.Record.{row_at}
use Rattle.table.specs.Read.{table_of}
use Rattle.table.specs.declared.Row.{Row}
use Rattle.table.proofs.Stands.{row-there, stands}
use Rattle.arrivals.specs.Arrivals.{δ}
use Rattle.windows.specs.Latency.{bound_at, figures_of}
use Rattle.report_text.specs.Report.{line_text}
use Rattle.report_text.specs.Code.Writing.{line_in}
use Rattle.slices.specs.Code.Wrote.{Wrote}
use Rattle.report_text.proofs.Decimals.{decimal-fits}
use Rattle.slices.proofs.Writes.{wrote_on}
use Rattle.report_text.proofs.lines.put_line.Goals as goal
use Rattle.report_text.proofs.lines.put_line.Goals.{After-from}

-- the id that was read is the chain's
id-is : (c : After-from) → c.from.result ≡ (row_of (table_of c.args.s.now) c.args.chain).id
unfolding row_at
id-is c = c.from.ensures ∙ c.id_at-id.ensures
    ∙ ap (λ (r : Row). r.id) (row-there c.requires.1 c.place.ensures c.requires.2)

pub id_at-id-requires : goal.id_at-id-requires
id_at-id-requires c = omega (arith, (stands c.requires.1 c.place.ensures c.requires.2).there)

pub put_decimal-after_id-requires : goal.put_decimal-after_id-requires
put_decimal-after_id-requires c = omega (arith, c.requires.0, decimal-fits c.from.result (omega (arith, c.from.type_inv)))

pub put_answers-end-requires : goal.put_answers-end-requires
put_answers-end-requires c = let w = c.put_decimal-after_id.ensures in
    let id = c.from in
    omega (arith, c.requires.0, w.ends, w.long, decimal-fits id.result (omega (arith, id.type_inv)))

pub put_byte-requires : goal.put_byte-requires
put_byte-requires c = let w = c.put_decimal-after_id.ensures in
    let a = c.put_answers-end.ensures in
    let id = c.from in
    omega (arith, c.requires.0, w.ends, w.long, a.0.long, a.1, decimal-fits id.result (omega (arith, id.type_inv)))

pub returns : goal.returns
returns c = let t = table_of c.args.s.now in
    let chain = c.args.chain in
    let id = c.from in
    let x = c.bound-windows in
    let m = c.misses_with-missed in
    let w = c.put_decimal-after_id.ensures in
    let a = c.put_answers-end.ensures in
    let e : line_text id.result (figures_of x.result) m.result ≡ line_in t chain =
    ap₂ (λ k r. line_text k (figures_of r) m.result) (id-is (goal.at.returns c).After-from) x.ensures ∙ ap (line_text (row_of t chain).id (figures_of (bound_at δ t chain))) m.ensures in (
      subst (λ l. Wrote c.args.out.now c.args.at l c.put_byte.new.out c.put_byte.result) e (wrote_on (wrote_on w a.0) c.put_byte.ensures),
      omega (arith, w.ends, a.1, c.put_byte.ensures.ends, decimal-fits id.result (omega (arith, id.type_inv))),
    )
