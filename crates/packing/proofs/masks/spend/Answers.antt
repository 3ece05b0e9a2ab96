-- The places before i hold the room that is left.
use Prim.Native.Nat.{◌*◌, ◌≤◌}
use Rattle.packing.proofs.Loops.{filled_on}
use borrow.Author.Rules.{rules}
use Rattle.packing.proofs.masks.spend.Goals as goal
use Rattle.packing.proofs.masks.spend.Goals.{After-from-in-loop-i}

-- what is spent is there
spent : (c : After-from-in-loop-i) → c.args.x * c.from-in-loop-i.result ≤ c.from.result
spent c = rw (c.from-in-loop-i.ensures, c.has.ensures, c.from.ensures)
    (c.requires.1 c.loop-i.i (search rules))

pub loop-i-preserved : goal.loop-i-preserved
loop-i-preserved c = filled_on c.loop-i.invariant (search rules)
    (rw (c.from-in-loop-i.ensures, c.has.ensures, c.from.ensures))
