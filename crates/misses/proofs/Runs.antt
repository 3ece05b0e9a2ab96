-- How the misses go with the run: there are never more than k, and a longer run never has fewer. Assumes nothing.
use Prim.Native.Nat.{ℕ, ◌≤◌}
use mathlib.Core.List.{List, [], ◌∷◌}
use native.Mathlib.Omega.{arith}
use native.Mathlib.Nat.{le_refl}
use Rattle.search.specs.Lists.{All}
use Rattle.search.proofs.Choice.{true-not-false, when_cases}
use Rattle.table.specs.Code.Good.{GoodRow, GoodDistances}
use Rattle.table.specs.declared.Row.{Row}
use Rattle.arrivals.specs.Arrivals.{δ}
use Rattle.arrivals.proofs.Rows.{largest-mono}
use Rattle.segments.specs.View.{View}
use Rattle.windows.specs.Latency.{bound_of}
use Rattle.windows.specs.declared.Windows.{Windows}
use Rattle.std.specs.Prelude.{⊤}
use Rattle.std.specs.declared.result.Result.{Result}
use Rattle.std.specs.declared.result.Result.TheVariants.{Ok, Err}
use Rattle.table.specs.declared.refusal.Refusal.{Refusal}
use Rattle.search.proofs.Matching.{Matched, matched_le}
use Rattle.arrivals.proofs.Rules.{slower_same}
use Rattle.arrivals.proofs.Distances.{δ-good}
use Rattle.misses.specs.Overloads.{Overload, overloads}
use Rattle.misses.specs.Bad.{Test}
use Rattle.misses.specs.Misses.{Answer, early_of, room_of, missed_of, by_figures, by_bound, unless_early, tested_beside}
use Rattle.misses.proofs.Increase.{missed_mono}
use Rattle.misses.proofs.Relief.{rarer_same, capacities_less}

-- the lists of overload chains are those of their rows
pub good-lists : (b : Row) (l : List Row) → All GoodRow l → All (λ o. GoodDistances o.list) (overloads b l)
unfolding overloads
good-lists b [] h = tt
good-lists b (a ∷ l) h = when_cases (All (λ o. GoodDistances o.list)) _ (λ e. good-lists b l h.1) (λ e. (h.0.list, good-lists b l h.1))

-- an answer has no more misses than k
abbrev pub Within : ℕ → Answer → Type 0
Within k (Ok n) = n ≤ k
Within k (Err n) = Unit {0}

-- an answer has no more misses than another, where both have a number of them
abbrev pub NoMore : Answer → Answer → Type 0
NoMore (Ok n) (Ok r) = n ≤ r
NoMore (Ok n) (Err r) = Unit {0}
NoMore (Err n) a = Unit {0}

none_no_more : (a : Answer) → NoMore (Ok 0) a
none_no_more (Ok r) = omega arith
none_no_more (Err r) = tt

no_more-refused : (a : Answer) (n : Refusal) → NoMore a (Err n)
no_more-refused (Ok m) n = tt
no_more-refused (Err m) n = tt

module _ (test : Test) (b : Row) (views : List View) (os : List Overload) where
  missed_within : (k close latency late : ℕ) → missed_of δ test b views os k close latency late ≤ k
  unfolding missed_of
  missed_within k close latency late = when_cases (λ n. n ≤ k) _ (λ e. omega arith) (λ e. omega arith)

  figures-within : (k close latency late last : ℕ) → Within k (by_figures δ test b views os k close latency late last)
  unfolding by_figures
  figures-within k close latency late last =
      when_cases (Within k) _ (λ e. omega arith) (λ e.
      when_cases (Within k) _ (λ f. tt) (λ f.
      when_cases (Within k) _ (λ g. tt) (λ g.
      when_cases (Within k) _ (λ h. tt) (λ h. missed_within k close latency late))))

  bound-within : (k : ℕ) (x : Result Windows Refusal) → Within k (by_bound δ test b views os k x)
  bound-within k (Ok w) = figures-within k w.figures.close w.figures.latency w.figures.late w.last
  bound-within k (Err n) = tt

  early-within : (k : ℕ) (e : Result ⊤ Refusal) → Within k (unless_early δ test b views os k e)
  early-within k (Ok u) = bound-within k (bound_of δ b views)
  early-within k (Err n) = tt

  -- never more than k
  pub beside-within : (k : ℕ) → Within k (tested_beside δ test b views os k)
  unfolding tested_beside
  beside-within k = early-within k (early_of b k)

  module _ (good : GoodRow b) (lists : All (λ o. GoodDistances o.list) os) (k long : ℕ) (longer : k ≤ long) where
    room-grows : (latency : ℕ) → Matched ◌≤◌ (room_of δ b os k latency) (room_of δ b os long latency)
    unfolding room_of
    room-grows latency = capacities_less (rarer_same (slower_same δ-good) os lists) _ _ (omega (arith, largest-mono good k long longer))

    missed_rises : (close latency late : ℕ) → missed_of δ test b views os k close latency late ≤ missed_of δ test b views os long close latency late
    missed_rises close latency late = missed_mono δ δ test test b b views views os os close close latency latency longer (le_refl late) (λ x e. e) (matched_le (room-grows latency))

    figures_rise : (close latency late last : ℕ) → NoMore (by_figures δ test b views os k close latency late last) (by_figures δ test b views os long close latency late last)
    unfolding by_figures
    figures_rise close latency late last =
        let P : Answer → Type 0 = λ a. NoMore a (by_figures δ test b views os long close latency late last) in
        let Q : Answer → Type 0 = NoMore (Ok (missed_of δ test b views os k close latency late)) in
        when_cases P _ (λ e. none_no_more (by_figures δ test b views os long close latency late last)) (λ e.
        when_cases P _ (λ f. tt) (λ f.
        when_cases P _ (λ f. tt) (λ f.
        when_cases P _ (λ f. tt) (λ f.
        when_cases Q _ (λ g. absurd (true-not-false g e)) (λ g.
        when_cases Q _ (λ h. tt) (λ h.
        when_cases Q _ (λ h. tt) (λ h.
        when_cases Q _ (λ h. tt) (λ h. missed_rises close latency late))))))))

    bound-rises : (x : Result Windows Refusal) → NoMore (by_bound δ test b views os k x) (by_bound δ test b views os long x)
    bound-rises (Ok w) = figures_rise w.figures.close w.figures.latency w.figures.late w.last
    bound-rises (Err n) = tt

    early-rises : (d e : Result ⊤ Refusal) → NoMore (unless_early δ test b views os k d) (unless_early δ test b views os long e)
    early-rises (Ok u) (Ok v) = bound-rises (bound_of δ b views)
    early-rises (Ok u) (Err n) = no_more-refused (by_bound δ test b views os k (bound_of δ b views)) n
    early-rises (Err n) e = tt

    -- never fewer in a longer run
    pub beside-rises : NoMore (tested_beside δ test b views os k) (tested_beside δ test b views os long)
    unfolding tested_beside
    beside-rises = early-rises (early_of b k) (early_of b long)
