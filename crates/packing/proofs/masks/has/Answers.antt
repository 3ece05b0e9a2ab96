-- (m >> i) & 1 is the bit i of m.
use Prim.Native.Nat.{◌/◌, ◌^◌}
use lib.Bits.{and_mask}
use Rattle.packing.proofs.masks.has.Goals as goal

pub returns : goal.returns
returns c = and_mask (c.args.m / 2 ^ c.args.i) 1
