-- The loop has come to the chain of that number, whose record starts at `at`.
use Prim.Native.Nat.{◌+◌}
use mathlib.Core.Path.{◌≡◌, ap, ◌∙◌}
use Rattle.table.specs.Place.{place_of}
use Rattle.table.specs.Read.{table_of}
use Rattle.table.proofs.Standing.{place_none}
use Rattle.table.proofs.Stands.{stands, place-next}
use native.Mathlib.Omega.{arith}
use Rattle.table.proofs.places.place.Goals as goal

pub loop-init : goal.loop-init
loop-init c = (omega arith, place_none (table_of c.args.s.now))

pub record_length-at-requires : goal.record_length-at-requires
record_length-at-requires c = omega (arith, (stands c.requires.0 c.loop.invariant.1 (omega (arith, c.requires.1))).there)

pub overflow_add-at : goal.overflow_add-at
overflow_add-at c = omega (arith, c.record_length-at.ensures, (stands c.requires.0 c.loop.invariant.1 (omega (arith, c.requires.1))).there)

pub loop-preserved : goal.loop-preserved
loop-preserved c = (
  omega arith,
  ap (λ n. c.loop.at + n) c.record_length-at.ensures ∙ place-next c.requires.0 c.loop.invariant.1 (omega (arith, c.requires.1)),
)

pub returns : goal.returns
returns c = let e : c.loop.counter ≡ c.args.chain = omega arith in
    c.loop.invariant.1 ∙ ap (place_of (table_of c.args.s.now)) e
