-- The sieve and the windows: what is bad is called bad, so that the sieve's figure is never below the miss count, and both are refused alike.
-- Assumes nothing.
use Prim.Native.Nat.{ℕ, ◌≤◌, ◌<◌}
use mathlib.Core.Path.{◌≡◌, refl, ap, ap₂, sym, ◌∙◌}
use mathlib.Core.Bool.{Bool, true, false, ◌&&◌}
use mathlib.Core.List.{List, map}
use mathlib.Core.Logic.{⊎_elim}
use native.Mathlib.Omega.{arith}
use native.Mathlib.Nat.{le_refl, eq-or-lt_of_le}
use borrow.Author.Tests.{lt-ltb, ltb-true}
use lib.Dec.{ltb, eqb}
use lib.ListN.{length}
use Rattle.search.specs.Choice.{◌when◌else◌}
use Rattle.search.specs.Lists.{All, some}
use Rattle.search.proofs.Choice.{lt_or_le}
use Rattle.table.specs.Limits.{max_overloads, max_capacity}
use Rattle.table.specs.Record.{distances}
use Rattle.table.specs.Code.Good.{GoodRow}
use Rattle.table.specs.declared.Row.{Row}
use Rattle.arrivals.specs.Arrivals.{δ}
use Rattle.segments.specs.View.{View, view_of}
use Rattle.windows.specs.Window.{window_of}
use Rattle.windows.specs.Demand.{demand_of, typical}
use Rattle.windows.specs.Latency.{bound_of, longer, long}
use Rattle.windows.specs.Sieve.{due}
use Rattle.windows.specs.declared.Windows.{Windows}
use Rattle.std.specs.Prelude.{⊤}
use Rattle.std.specs.declared.result.Result.{Result}
use Rattle.std.specs.declared.result.Result.TheVariants.{Ok, Err}
use Rattle.std.specs.declared.option.Option.TheVariants.{Some}
use Rattle.table.specs.declared.refusal.Refusal.{Refusal}
use Rattle.windows.proofs.Least.{Grows, window-at, window-fits}
use Rattle.arrivals.proofs.Distances.{δ-good}
use Rattle.windows.proofs.Comparing.{Paced}
use Rattle.windows.proofs.Growth.{demand-growing}
use Rattle.windows.proofs.Closing.{Closes, answer-closed}
use Rattle.windows.proofs.Sweeps.{some_one, some-found}
use Rattle.misses.specs.Overloads.{Overload, overloads, pieces_of}
use Rattle.misses.specs.Sets.{members, allowed, set_cost}
use Rattle.misses.specs.Bad.{with_cost, over, bad, Test, by_windows}
use Rattle.misses.specs.Misses.{Answer, early_of, bad_of, room_of, missed_of, by_figures, by_bound, unless_early, tested_beside}
use Rattle.misses.specs.Sieve.{called, by_sieve}
use Rattle.misses.proofs.Bools.{and_left, and_right}
use Rattle.misses.proofs.Worsening.{cost-growing}
use Rattle.misses.proofs.Existence.{combination-window}
use Rattle.misses.proofs.Starts.{starts}
use Rattle.misses.proofs.Increase.{missed_mono}

-- a window past t: the demand at t is above t
above_before : (d : ℕ → ℕ) → Grows d → (t end : ℕ) → 1 ≤ t → window_of d ≡ Some end → t < end → t < d t
above_before d grows t end low at past = ⊎_elim
    (λ h. h)
    (λ h. let w = window-fits d grows t low (omega (arith, (window-at d end at).high)) h in
    absurd (omega (arith, ap long (sym at ∙ w.1), w.2)))
    (lt_or_le t (d t))

-- where each B(q) up to `close` is there
module _ (b : Row) (l : List Row) (good : GoodRow b) (rows : All GoodRow l) (paced : Paced (typical (map (λ a. view_of a b) l))) {close : ℕ}
    (windows : (q : ℕ) → 1 ≤ q → q ≤ close → (s : ℕ) × (window_of (demand_of δ b (map (λ a. view_of a b) l) q) ≡ Some s)) where
  abbrev views : List View
  views = map (λ a. view_of a b) l

  abbrev os : List Overload
  os = overloads b l

  abbrev demand : ℕ → ℕ → ℕ → ℕ
  demand m = with_cost (demand_of δ b (typical views)) (set_cost (members (pieces_of os) m))

  -- what is bad is called bad
  pub bad-called : (m : ℕ) → bad_of by_windows b views os close m ≡ true → bad_of by_sieve b views os close m ≡ true
  unfolding bad_of bad over called
  bad-called m e =
      let a = and_left (allowed (pieces_of os) m) _ e in
      let f = some-found (λ q. longer (window_of (demand m q)) (due (δ (distances b)) b.deadline q)) close (and_right (allowed (pieces_of os) m) _ e) in
      let q = f.0 in
      let w = combination-window b l good rows paced q m _ f.1 (windows q f.1 f.2).1 a in
      let t = due (δ (distances b)) b.deadline q in
      let late : t < w.0 = ltb-true _ _ (sym (ap (λ x. longer x t) w.1) ∙ f.3) in
      let grows = (cost-growing (demand_of δ b (typical views)) (demand-growing δ-good b (typical views) good paced) (set_cost (members (pieces_of os) m))).grows q f.1 in
      let above : t < demand m q t = above_before (demand m q) grows t w.0 (omega (arith, good.deadline)) w.1 late in
      ap₂ ◌&&◌ a (some_one (λ q. ltb (due (δ (distances b)) b.deadline q) (demand m q (due (δ (distances b)) b.deadline q))) close q f.1 f.2 (lt-ltb _ _ above))

-- two answers: both refused, for one reason, or the second's number is no less
pub data Bounded : Answer → Answer → Type 0 where
  both : {n r : ℕ} → n ≤ r → Bounded (Ok n) (Ok r)
  alike : {n : Refusal} → Bounded (Err n) (Err n)

pub bounded_when : (x y z w : Answer) (t : Bool) → Bounded x z → Bounded y w → Bounded (x when t else y) (z when t else w)
unfolding ◌when◌else◌
bounded_when x y z w true f g = f
bounded_when x y z w false f g = g

-- a test that calls bad whatever another does
module _ (test wider : Test) (b : Row) (views : List View) (os : List Overload) (k : ℕ) where
  module _ (close latency late : ℕ) (calls : (m : ℕ) → bad_of test b views os close m ≡ true → bad_of wider b views os close m ≡ true) where
    missed_bounded : missed_of δ test b views os k close latency late ≤ missed_of δ wider b views os k close latency late
    missed_bounded = missed_mono δ δ test wider b b views views os os close close latency latency (le_refl k) (le_refl late) calls (λ i. le_refl _)

    figures-bounded : (last : ℕ) → Bounded (by_figures δ test b views os k close latency late last) (by_figures δ wider b views os k close latency late last)
    unfolding by_figures
    figures-bounded last =
        bounded_when _ _ _ _ (eqb late 0) (Bounded.both (le_refl 0))
        (bounded_when _ _ _ _ (ltb max_overloads (length (pieces_of os))) Bounded.alike
        (bounded_when _ _ _ _ (some (starts last) os) Bounded.alike
        (bounded_when _ _ _ _ (some (ltb max_capacity) (room_of δ b os k latency)) Bounded.alike
        (Bounded.both missed_bounded))))

  -- has no smaller figure, and refuses alike
  module _ (calls : (w : Windows) → bound_of δ b views ≡ Ok w → (m : ℕ) → bad_of test b views os w.figures.close m ≡ true → bad_of wider b views os w.figures.close m ≡ true) where
    bound-bounded : (x : Result Windows Refusal) → bound_of δ b views ≡ x → Bounded (by_bound δ test b views os k x) (by_bound δ wider b views os k x)
    bound-bounded (Ok w) e = figures-bounded w.figures.close w.figures.latency w.figures.late (calls w e) w.last
    bound-bounded (Err n) e = Bounded.alike

    early-bounded : (e : Result ⊤ Refusal) → Bounded (unless_early δ test b views os k e) (unless_early δ wider b views os k e)
    early-bounded (Ok u) = bound-bounded (bound_of δ b views) refl
    early-bounded (Err n) = Bounded.alike

    pub beside-bounded : Bounded (tested_beside δ test b views os k) (tested_beside δ wider b views os k)
    unfolding tested_beside
    beside-bounded = early-bounded (early_of b k)

-- the sieve beside the windows, for a chain b beside the others
pub sieve_bounded : (b : Row) (l : List Row) → GoodRow b → All GoodRow l → Paced (typical (map (λ a. view_of a b) l)) → (k : ℕ)
    → Bounded (tested_beside δ by_windows b (map (λ a. view_of a b) l) (overloads b l) k) (tested_beside δ by_sieve b (map (λ a. view_of a b) l) (overloads b l) k)
unfolding bound_of
sieve_bounded b l good rows paced k =
    beside-bounded by_windows by_sieve b (map (λ a. view_of a b) l) (overloads b l) k
    (λ w e. bad-called b l good rows paced (λ q low high. there w.figures.close (answer-closed demand (δ (distances b)) b.deadline e).closes q low high))
  where
    demand : ℕ → ℕ → ℕ
    demand = demand_of δ b (map (λ a. view_of a b) l)

    there : (close : ℕ) {t : ℕ} → Closes demand (δ (distances b)) close t → (q : ℕ) → 1 ≤ q → q ≤ close → (s : ℕ) × (window_of (demand q) ≡ Some s)
    there close {t} c q low high = ⊎_elim
        (λ e. (t, ap (λ q. window_of (demand q)) e ∙ c.last))
        (λ h. let r = c.reach q low h in (r.0, r.1))
        (eq-or-lt_of_le high)
