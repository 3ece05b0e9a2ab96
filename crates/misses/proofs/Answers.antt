-- What the miss query answers by a test, case by case, in the documents' order. Assumes nothing.
use Prim.Native.Nat.{ℕ, ◌≤◌, ◌<◌, min}
use mathlib.Core.Path.{◌≡◌, ap, ◌∙◌}
use mathlib.Core.Bool.{true, false, not}
use mathlib.Core.List.{List}
use lib.Dec.{ltb}
use lib.ListN.{length}
use borrow.Author.Tests.{lt-ltb, le-ltb, eq-eqb, ne_eqb}
use Rattle.search.proofs.Choice.{when_yes, when_no}
use Rattle.table.specs.Limits.{max_run, max_overloads, max_capacity}
use Rattle.table.specs.Fault.{outside}
use Rattle.table.specs.Find.{row_of, find_of}
use Rattle.table.specs.Read.{by_verdict, read_table}
use Rattle.table.specs.declared.Row.{Row}
use Rattle.table.specs.declared.Table.{Table}
use Rattle.std.specs.declared.result.Result.{Result}
use Rattle.std.specs.declared.result.Result.TheVariants.{Ok, Err}
use Rattle.table.specs.declared.refusal.Fault.{Fault}
use Rattle.table.specs.declared.refusal.Refusal.{Refusal}
use Rattle.table.specs.declared.refusal.Refusal.TheVariants.{NoChain, BadRun, OverloadAsked, GapUnknown, TooManySegments, StartsAgain, CapacityAbove}
use Rattle.segments.specs.View.{View}
use Rattle.windows.specs.Demand.{views_of}
use Rattle.windows.specs.Latency.{bound_at}
use Rattle.windows.specs.declared.Windows.{Windows}
use Rattle.search.specs.Lists.{some}
use Rattle.arrivals.specs.Arrivals.{Rule, δ, unknown}
use Rattle.misses.specs.Overloads.{Overload, pieces_of}
use Rattle.misses.specs.Bad.{Test}
use Rattle.misses.specs.Misses.{Answer, early_of, bad_of, room_of, packing_figure, missed_of, by_figures, by_bound, unless_early, tested_beside, overloads_of, tested_at, tested_in, tested_of}
use Rattle.misses.proofs.Starts.{starts_by}

module _ (rule : Rule) (test : Test) (b : Row) (views : List View) (os : List Overload) (k close latency late last : ℕ) where
  abbrev answer : Answer
  answer = by_figures rule test b views os k close latency late last

  pub none-late : late ≡ 0 → answer ≡ Ok 0
  unfolding by_figures
  none-late e = when_yes _ _ (eq-eqb late 0 e)

  module _ (some-late : late ≡ 0 → ⊥) where
    pub too_many : max_overloads < length (pieces_of os) → answer ≡ Err TooManySegments
    unfolding by_figures
    too_many h = when_no _ _ (ne_eqb late 0 some-late) ∙ when_yes _ _ (lt-ltb max_overloads _ h)

    module _ (few : length (pieces_of os) ≤ max_overloads) where
      pub starts-again : some (starts_by rule last) os ≡ true → answer ≡ Err StartsAgain
      unfolding by_figures
      starts-again e = when_no _ _ (ne_eqb late 0 some-late) ∙ when_no _ _ (le-ltb max_overloads _ few) ∙ when_yes _ _ e

      module _ (once : some (starts_by rule last) os ≡ false) where
        pub too_roomy : some (ltb max_capacity) (room_of rule b os k latency) ≡ true → answer ≡ Err CapacityAbove
        unfolding by_figures
        too_roomy e = when_no _ _ (ne_eqb late 0 some-late) ∙ when_no _ _ (le-ltb max_overloads _ few) ∙ when_no _ _ once ∙ when_yes _ _ e

        module _ (within : some (ltb max_capacity) (room_of rule b os k latency) ≡ false) where
          pub counts : answer ≡ Ok (missed_of rule test b views os k close latency late)
          unfolding by_figures
          counts = when_no _ _ (ne_eqb late 0 some-late) ∙ when_no _ _ (le-ltb max_overloads _ few) ∙ when_no _ _ once ∙ when_no _ _ within

-- how many are missed
module _ (test : Test) (b : Row) (views : List View) (os : List Overload) (k close latency late : ℕ) where
  pub missed_all : bad_of test b views os close 0 ≡ true → missed_of δ test b views os k close latency late ≡ k
  unfolding missed_of
  missed_all e = when_yes _ _ e

  pub missed_packed : bad_of test b views os close 0 ≡ false → missed_of δ test b views os k close latency late ≡ min k (packing_figure δ test b views os k close latency late)
  unfolding missed_of
  missed_packed e = when_no _ _ e

-- before any window
module _ (b : Row) (k : ℕ) where
  pub early-run : outside 1 max_run k ≡ true → early_of b k ≡ Err BadRun
  unfolding early_of
  early-run e = when_yes _ _ e

  module _ (run : outside 1 max_run k ≡ false) where
    pub early-overload : (b.overload ≡ 0 → ⊥) → early_of b k ≡ Err OverloadAsked
    unfolding early_of
    early-overload h = when_no _ _ run ∙ when_yes _ _ (ap not (ne_eqb b.overload 0 h))

    module _ (typical : b.overload ≡ 0) where
      pub early-unknown : unknown b ≡ true → early_of b k ≡ Err GapUnknown
      unfolding early_of
      early-unknown e = when_no _ _ run ∙ when_no _ _ (ap not (eq-eqb b.overload 0 typical)) ∙ when_yes _ _ e

      pub early-none : unknown b ≡ false → early_of b k ≡ Ok tt
      unfolding early_of
      early-none e = when_no _ _ run ∙ when_no _ _ (ap not (eq-eqb b.overload 0 typical)) ∙ when_no _ _ e

-- what is refused before any window, what the windows refuse, or what they give
module _ (test : Test) (t : Table) (chain k : ℕ) where
  abbrev given : Result Windows Refusal → Answer
  given w = by_bound δ test (row_of t chain) (views_of t chain) (overloads_of t chain) k w

  pub at-early : {n : Refusal} → early_of (row_of t chain) k ≡ Err n → tested_at δ test t chain k ≡ Err n
  unfolding tested_at tested_beside
  at-early e = ap (unless_early δ test (row_of t chain) (views_of t chain) (overloads_of t chain) k) e

  pub at_bound : early_of (row_of t chain) k ≡ Ok tt → {r : Result Windows Refusal} → bound_at δ t chain ≡ r → tested_at δ test t chain k ≡ given r
  unfolding tested_at tested_beside
  at_bound e f = ap (unless_early δ test (row_of t chain) (views_of t chain) (overloads_of t chain) k) e ∙ ap given f

module _ (rule : Rule) (test : Test) (t : Table) (id k : ℕ) where
  pub chain-none : find_of t id ≡ t.count → tested_in rule test t id k ≡ Err NoChain
  unfolding tested_in
  chain-none e = when_yes _ _ (eq-eqb _ _ e)

  pub chain-found : (find_of t id ≡ t.count → ⊥) → tested_in rule test t id k ≡ tested_at rule test t (find_of t id) k
  unfolding tested_in
  chain-found h = when_no _ _ (ne_eqb _ _ h)

module _ (rule : Rule) (test : Test) (s : List ℕ) (id k : ℕ) where
  pub tested-refused : {f : Fault} → (read_table s).verdict ≡ Err f → tested_of rule test s id k ≡ Err f.0
  unfolding tested_of
  tested-refused e = ap (λ v. by_verdict Err v (tested_in rule test (read_table s).table id k)) e

  pub tested-accepted : (read_table s).verdict ≡ Ok tt → tested_of rule test s id k ≡ tested_in rule test (read_table s).table id k
  unfolding tested_of
  tested-accepted e = ap (λ v. by_verdict Err v (tested_in rule test (read_table s).table id k)) e
