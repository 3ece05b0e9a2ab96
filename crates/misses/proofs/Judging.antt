-- The figures judged one after the other, each as the code works it out: every answer is the definition's, whatever the test of costs.
-- Assumes nothing.
use Prim.Native.Nat.{ℕ, ◌+◌, ◌≤◌, ◌<◌}
use mathlib.Core.Path.{◌≡◌, ap, sym, ◌∙◌}
use mathlib.Core.Bool.{Bool, true, false}
use mathlib.Core.List.{List}
use native.Mathlib.Omega.{arith}
use lib.Dec.{ltb}
use lib.ListN.{length}
use Rattle.table.specs.Limits.{max_overloads, max_capacity}
use Rattle.table.specs.Find.{row_of, rows}
use Rattle.table.specs.Code.Good.{GoodTable}
use Rattle.table.specs.declared.Row.{Row}
use Rattle.table.specs.declared.Table.{Table}
use Rattle.arrivals.specs.Arrivals.{δ, largest}
use Rattle.segments.specs.View.{View}
use Rattle.windows.specs.Demand.{views_of}
use Rattle.search.specs.Lists.{some}
use Rattle.misses.specs.Overloads.{Overload, overloads, pieces_of}
use Rattle.misses.specs.Bad.{Test}
use Rattle.misses.specs.Misses.{Answer, room_of, overloads_of}
use Rattle.misses.specs.Code.Held.{gathered, Asked, Admitted, figures_at, missed_at}
use Rattle.windows.specs.declared.Windows.{Windows}
use Rattle.std.specs.declared.result.Result.TheVariants.{Ok, Err}
use Rattle.table.specs.declared.refusal.Refusal.TheVariants.{TooManySegments, StartsAgain, CapacityAbove}
use Rattle.misses.specs.declared.Pieces.{Pieces}
use Rattle.misses.proofs.Held.{beside-others, held-count, held-size, held-above}
use Rattle.misses.proofs.Starts.{starts}
use Rattle.misses.proofs.Answers.{none-late, too_many, starts-again, too_roomy, counts}

module _ {t : Table} (good : GoodTable t) (chain : ℕ) (there : chain < t.count) {k : ℕ} {w : Windows} (asked : Asked (row_of t chain) k w) where
  abbrev close : ℕ
  close = w.figures.close

  abbrev latency : ℕ
  latency = w.figures.latency

  abbrev late : ℕ
  late = w.figures.late

  abbrev last : ℕ
  last = w.last

  abbrev b : Row
  b = row_of t chain

  abbrev views : List View
  views = views_of t chain

  abbrev os : List Overload
  os = overloads_of t chain

  abbrev answer : Test → Answer
  answer test = figures_at test t chain k w

  beside : overloads b (rows t) ≡ os
  beside = beside-others t good chain there asked.typical

  pub judged-late : late ≡ 0 → (test : Test) → Ok 0 ≡ answer test
  judged-late e test = sym (none-late δ test b views os k close latency late last e)

  module _ (some-late : late ≡ 0 → ⊥) {p : Pieces} (gathers : p ≡ gathered (largest b k + latency) (overloads b (rows t))) where
    is : p ≡ gathered (largest b k + latency) os
    is = gathers ∙ ap (gathered (largest b k + latency)) beside

    count : p.count ≡ length (pieces_of os)
    count = held-count (largest b k + latency) os p is

    pub judged-size : length p.capacity ≡ max_overloads
    judged-size = held-size (largest b k + latency) os p is

    pub judged-many : max_overloads < p.count → (test : Test) → Err TooManySegments ≡ answer test
    judged-many h test = sym (too_many δ test b views os k close latency late last some-late (omega (arith, count)))

    module _ (six : p.count ≤ max_overloads) {again : Bool} (starting : again ≡ some (starts last) (overloads b (rows t))) where
      few : length (pieces_of os) ≤ max_overloads
      few = omega (arith, count)

      twice : again ≡ some (starts last) os
      twice = starting ∙ ap (some (starts last)) beside

      pub judged-again : again ≡ true → (test : Test) → Err StartsAgain ≡ answer test
      judged-again e test = sym (starts-again δ test b views os k close latency late last some-late few (sym twice ∙ e))

      module _ (once : again ≡ false) {a : Bool} (found : a ≡ some (ltb max_capacity) p.capacity) where
        above : some (ltb max_capacity) (room_of δ b os k latency) ≡ a
        unfolding room_of
        above = sym (held-above (largest b k + latency) os p is few) ∙ sym found

        pub judged_roomy : a ≡ true → (test : Test) → Err CapacityAbove ≡ answer test
        judged_roomy e test = sym (too_roomy δ test b views os k close latency late last some-late few (sym twice ∙ once) (above ∙ e))

        module _ (within : a ≡ false) where
          pub judged-admitted : Admitted t chain k w p
          judged-admitted = record { late = omega arith; all = is; few = six; within = sym found ∙ within }

          pub judged_missed : (test : Test) → Ok (missed_at test t chain k w) ≡ answer test
          judged_missed test = sym (counts δ test b views os k close latency late last some-late few (sym twice ∙ once) (above ∙ within))
