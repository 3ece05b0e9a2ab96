-- The end record is the last four bytes, and counts the chains.
use Prim.Native.Nat.{◌+◌, ◌-◌}
use native.Mathlib.Omega.{arith}
use mathlib.Core.Path.{◌≡◌, ap, ◌∙◌}
use lib.ListN.{length}
use Rattle.table.specs.Bytes.{word}
use Rattle.table.specs.Place.{place_of}
use Rattle.table.specs.Read.{table_of}
use Rattle.table.proofs.places.count.Goals as goal

pub overflow_sub-s : goal.overflow_sub-s
overflow_sub-s c = omega (arith, c.requires.holds.ends)

pub u16_at-requires : goal.u16_at-requires
u16_at-requires c = omega (arith, c.requires.holds.ends)

pub returns : goal.returns
returns c = let s = c.args.s.now in
    let t = table_of s in
    let h = c.requires.holds in
    let e : length s - 2 ≡ place_of t t.count + 2 = omega (arith, h.ends) in
    c.from.ensures ∙ c.u16_at.ensures ∙ ap (word 2 s) e ∙ h.counts
