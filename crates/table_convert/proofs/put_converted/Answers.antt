-- The result is within the buffer.
use Rattle.std.proofs.Common.{sym}
use Rattle.std.proofs.lemmas.List.{length-take-le}
use Rattle.table_convert.proofs.Within.{used-within}
use Rattle.table_convert.proofs.put_converted.Goals as goal

pub slice_bounds-res-end : goal.slice_bounds-res-end
slice_bounds-res-end g c = used-within c.convert.ensures c.in-Ok.n c.in-Ok.is

pub slice_bounds-put_result-end : goal.slice_bounds-put_result-end
slice_bounds-put_result-end g c = sym (length-take-le _ _ (used-within c.convert.ensures c.in-Ok.n c.in-Ok.is))
