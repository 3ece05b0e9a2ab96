-- The loop has found the first i largest distances to be multiples.
use Prim.Native.Nat.{ℕ, ◌+◌, ◌*◌, ◌≤◌, ◌<◌}
use mathlib.Core.Path.{◌≡◌}
use lib.ListN.{get_or}
use Rattle.table.specs.Record.{row_at}
use Rattle.converting.specs.Forms.{first_largest}
use Rattle.converting.proofs.shape.are_multiples.Given as goal

abbrev pub invariant-loop-i : goal.invariant-loop-i
invariant-loop-i l = (l.i ≤ l.listed) × ((j : ℕ) → j < l.i → get_or (row_at l.s l.at).largest j 0 ≡ first_largest (row_at l.s l.at) * (j + 1))
