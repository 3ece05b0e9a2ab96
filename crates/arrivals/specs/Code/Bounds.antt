-- What the functions that count arrivals ask for: times and counts that fit into a number of 64 bits.
use Rattle.std.specs.Prelude.{ℕ, ◌+◌, ◌*◌}
use Rattle.table.specs.Limits.{max_distances, max_largest, max_run, horizon}

-- no t that η is asked for is longer: the largest distance of a run, and a latency
abbrev pub longest_span : ℕ
longest_span = max_run * max_largest + horizon

-- and δ is asked for no more activations than fit into the longest span, and one
abbrev pub farthest : ℕ
farthest = max_distances * longest_span + 1
