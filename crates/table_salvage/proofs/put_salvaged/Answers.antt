-- Both results are within their buffers, and the table is accepted.
use Rattle.std.proofs.Common.{sym}
use Rattle.std.proofs.lemmas.List.{length-take-le}
use Rattle.table_salvage.proofs.Within.{table-within, list-within, table_taken}
use Rattle.table_salvage.proofs.put_salvaged.Goals as goal

pub slice_bounds-table-end : goal.slice_bounds-table-end
slice_bounds-table-end g c = table-within c.salvage.ensures _ c.in-Ok.is

pub slice_bounds-kept-end : goal.slice_bounds-kept-end
slice_bounds-kept-end g c = sym (length-take-le _ _ (table-within c.salvage.ensures _ c.in-Ok.is))

pub slice_bounds-list-end : goal.slice_bounds-list-end
slice_bounds-list-end g c = list-within c.salvage.ensures _ c.in-Ok.is

pub slice_bounds-skipped-end : goal.slice_bounds-skipped-end
slice_bounds-skipped-end g c = sym (length-take-le _ _ (list-within c.salvage.ensures _ c.in-Ok.is))

pub put_used-requires : goal.put_used-requires
put_used-requires g c = table_taken c.salvage.ensures _ c.in-Ok.is (λ k. (c.type_inv.s k).fits)
