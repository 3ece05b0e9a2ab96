-- So many packings went by, and what held still holds.
use Prim.Native.Nat.{ℕ}
use Rattle.packing.specs.Most.{flagged}
use Rattle.odometer.specs.Code.Gone.{Gone}
use Rattle.odometer.proofs.Ahead.{Since}
use Rattle.odometer.proofs.Odometer.turn.Given as goal

abbrev pub invariant-loop : goal.invariant-loop
invariant-loop l = ((room : ℕ → ℕ) → Gone (flagged l.bad) room l.initial.o → Gone (flagged l.bad) room l.o) × Since l.counter l.initial.o l.o
