-- What each extent promises.
use Rattle.std.proofs.Common.{◌≡◌, ℕ, arith}
use Rattle.table_misses.proofs.counting.gone_through.Goals as goal

pub turn-requires : goal.turn-requires
turn-requires g c = record { room = _; gone = c.start.ensures _ }

pub returns-in-First : goal.returns-in-First
returns-in-First g c = (c.turn.ensures.still _ (c.start.ensures _), λ e. absurd (let z : ◌≡◌ {A = ℕ} 0 1 = cc in omega arith))
