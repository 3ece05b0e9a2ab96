-- The starred cases of 01, 'Windows': chain 1 of the sample, and both halves of 'At the edge'. A window is found by the laws of the
-- climb, at the few points where it stops. Assumes nothing.
use Prim.Native.Nat.{ℕ, ◌+◌, ◌-◌, max, ◌≤◌, ◌<◌}
use mathlib.Core.Path.{◌≡◌, refl, ap, subst, sym, ◌∙◌}
use mathlib.Core.List.{List}
use native.Mathlib.Omega.{arith}
use native.Mathlib.Nat.{mul-zero}
use lib.Dec.{lit≤}
use lib.IntN.{pos}
use Rattle.search.specs.Choice.{◌when◌else◌}
use Rattle.search.specs.Find.{first, last}
use Rattle.search.specs.Lists.{sum_of, most_of, some}
use Rattle.table.specs.Limits.{horizon}
use Rattle.table.specs.Record.{distances}
use Rattle.table.specs.Find.{row_of, find_of}
use Rattle.table.specs.Code.Good.{GoodTable}
use Rattle.table.specs.declared.Table.{Table}
use Rattle.table.specs.Read.{Reading}
use Rattle.arrivals.specs.Arrivals.{δ, η, count_by, sums_to, greatest}
use Rattle.segments.specs.Tasks.{tasks_from, lowest, before}
use Rattle.segments.specs.Segments.{stretches, onward, around, nonempty, cuts, parts, cut_segments}
use Rattle.segments.specs.View.{view_of}
use Rattle.windows.specs.Demand.{term_of, counted_part, demand_of, views_of}
use Rattle.windows.specs.Window.{window_of}
use Rattle.windows.specs.Latency.{over_of, margin_of, figures, figures_of, bound_of, latency_in, latency_of}
use Rattle.windows.specs.Code.Climb.{Under}
use Rattle.std.specs.declared.option.Option.TheVariants.{Some, None}
use Rattle.std.specs.declared.result.Result.TheVariants.{Ok, Err}
use Rattle.table.specs.declared.refusal.Refusal.TheVariants.{PastHorizon}
use Rattle.arrivals.proofs.Distances.{δ-one, δ-good}
use Rattle.windows.proofs.Least.{under_one, under_next, under-solves, under_none}
use Rattle.windows.proofs.Growth.{Growing, demand-growing}
use Rattle.windows.proofs.Besides.{others-paced}
use Rattle.windows.proofs.Walks.{walk_start, walk-close, walk_none}
use Rattle.windows.proofs.Answers.{chain-found, latency-accepted}
use Rattle.demands.specs.Starred.{edge, past}
use Rattle.demands.proofs.Chains.{table-good}
use Rattle.demands.proofs.Tables.{Reads, read_table_lem, sampled, edge_table, past_table, sample-reads, edge-reads, past-reads}

-- a table that is read is good
read-good : {s : List ℕ} {t : Table} → Reads s t → GoodTable t
read-good a = subst GoodTable (ap (λ (r : Reading). r.table) a.reads) (table-good (read_table_lem a))

abbrev pub demand_at : Table → ℕ → ℕ → ℕ → ℕ
demand_at t chain = demand_of δ (row_of t chain) (views_of t chain)

module _ {s : List ℕ} {t : Table} (a : Reads s t) (id chain : ℕ) (found : find_of t id ≡ chain) (there : chain < t.count) where
  growing : Growing (demand_at t chain)
  growing = demand-growing δ-good (row_of t chain) (views_of t chain) ((read-good a).row chain there) (others-paced t (read-good a) chain)

  -- B(1), where a climb that starts at 1 comes to it
  stop : (x : ℕ) → Under (demand_at t chain 1) x → x ≤ horizon → demand_at t chain 1 x ≡ x → window_of (demand_at t chain 1) ≡ Some x
  stop x u h e = sym (under-solves (demand_at t chain 1) (growing.grows 1 (lit≤ tt)) x u h (sym e))

  step : (x y : ℕ) → Under (demand_at t chain 1) x → demand_at t chain 1 x ≡ y → Under (demand_at t chain 1) y
  step x y u e = subst (Under (demand_at t chain 1)) e (under_next (demand_at t chain 1) (growing.grows 1 (lit≤ tt)) x u)

  answered : latency_of s id ≡ figures_of (bound_of δ (row_of t chain) (views_of t chain))
  answered =
      latency-accepted δ s id (ap (λ (r : Reading). r.verdict) a.reads)
      ∙ ap (λ (r : Reading). latency_in δ r.table id) a.reads
      ∙ chain-found δ t id (λ e. omega (arith, e))
      ∙ ap (λ j. figures_of (bound_of δ (row_of t j) (views_of t j))) found

  -- the figures where the first window closes, and the refusal where there is none
  pub bound-closes : (x : ℕ) → window_of (demand_at t chain 1) ≡ Some x → x ≤ δ (distances (row_of t chain)) 2
      → bound_of δ (row_of t chain) (views_of t chain) ≡ Ok (record { figures = figures 1 x (over_of x (row_of t chain).deadline) (margin_of (row_of t chain).deadline x); last = x })
  unfolding bound_of
  bound-closes x e h =
      let distance = δ (distances (row_of t chain)) in
      let dl = (row_of t chain).deadline in
      let best : x ≡ max 0 (x - 0) = omega arith in
      let whole : x - 0 ≡ x = omega arith in
      let count : 0 + over_of (x - 0) dl ≡ over_of x dl = omega (arith, ap (λ y. over_of y dl) whole) in
      sym (walk-close (demand_at t chain) distance dl growing (walk_start (demand_at t chain) distance dl (δ-one ((read-good a).row chain there).list)) (lit≤ tt) e best refl refl h)
      ∙ ap (λ n. Ok (record { figures = figures 1 x n (margin_of dl x); last = x })) count

  closes : (x : ℕ) → window_of (demand_at t chain 1) ≡ Some x → x ≤ δ (distances (row_of t chain)) 2
      → latency_of s id ≡ Ok (figures 1 x (over_of x (row_of t chain).deadline) (margin_of (row_of t chain).deadline x))
  closes x e h = answered ∙ ap figures_of (bound-closes x e h)

  refuses : window_of (demand_at t chain 1) ≡ None → latency_of s id ≡ Err PastHorizon
  unfolding bound_of
  refuses e =
      let distance = δ (distances (row_of t chain)) in
      let dl = (row_of t chain).deadline in
      answered
      ∙ ap figures_of
      (sym (walk_none (demand_at t chain) distance dl growing (walk_start (demand_at t chain) distance dl (δ-one ((read-good a).row chain there).list)) (lit≤ tt) e))

-- where the ids are found
finds : (find_of sampled 1 ≡ 0) × (find_of edge_table 1 ≡ 0) × (find_of past_table 1 ≡ 0)
unfolding sampled edge_table past_table find_of first ◌when◌else◌
finds = (refl, refl, refl)

-- the demands for one activation at the points where the climb stops
demand_1 : (demand_at sampled 0 1 1 ≡ 59) × (demand_at sampled 0 1 59 ≡ 64) × (demand_at sampled 0 1 64 ≡ 64)
unfolding sampled demand_of views_of term_of counted_part view_of tasks_from lowest some before stretches onward around nonempty cuts parts cut_segments sum_of most_of count_by δ sums_to greatest last ◌when◌else◌
demand_1 = (refl, refl, refl)

-- at the edge the demand is 10,000,000 in any t, and past it more than the horizon already in 1
demand-edge : (t : ℕ) → demand_at edge_table 0 1 t ≡ 10000000
unfolding edge_table demand_of views_of term_of counted_part view_of tasks_from lowest some before stretches onward around nonempty cuts parts cut_segments sum_of most_of ◌when◌else◌
demand-edge t = omega (arith, mul-zero (η (distances (row_of edge_table 0)) t - 1))

demand-past : demand_at past_table 0 1 1 ≡ 10000001
unfolding past_table demand_of views_of term_of counted_part view_of tasks_from lowest some before stretches onward around nonempty cuts parts cut_segments sum_of most_of count_by δ sums_to greatest last ◌when◌else◌
demand-past = refl

-- a window that is found after one turn of the climb, or two
module _ {s : List ℕ} {t : Table} (a : Reads s t) (id chain : ℕ) (found : find_of t id ≡ chain) (there : chain < t.count) where
  one-turn : (x : ℕ) → demand_at t chain 1 1 ≡ x → demand_at t chain 1 x ≡ x → x ≤ horizon → window_of (demand_at t chain 1) ≡ Some x
  one-turn x e f h = stop a id chain found there x (step a id chain found there 1 x (under_one (demand_at t chain 1)) e) h f

  pub two-turns : (x y : ℕ) → demand_at t chain 1 1 ≡ x → demand_at t chain 1 x ≡ y → demand_at t chain 1 y ≡ y → y ≤ horizon → window_of (demand_at t chain 1) ≡ Some y
  two-turns x y e f g h = stop a id chain found there y (step a id chain found there x y (step a id chain found there 1 x (under_one (demand_at t chain 1)) e) f) h g

-- chain 1: B(1) = 64
pub sample-window : window_of (demand_at sampled 0 1) ≡ Some 64
unfolding sampled
sample-window = two-turns sample-reads 1 0 finds.0 (lit≤ tt) 59 64 demand_1.0 demand_1.1 demand_1.2 (lit≤ tt)

-- at the edge: K 1, latency 10,000,000, late 0, margin 0; one tick more gives 16
pub edge-latency : latency_of edge 1 ≡ Ok (figures 1 10000000 0 (pos 0))
unfolding edge_table δ sums_to greatest ◌when◌else◌
edge-latency =
    closes edge-reads 1 0 finds.1 (lit≤ tt) 10000000
    (one-turn edge-reads 1 0 finds.1 (lit≤ tt) 10000000 (demand-edge 1) (demand-edge 10000000) (lit≤ tt)) (lit≤ tt)

pub past-latency : latency_of past 1 ≡ Err PastHorizon
unfolding past_table
past-latency =
    refuses past-reads 1 0 finds.2 (lit≤ tt)
    (sym (under_none (demand_at past_table 0 1) ((growing past-reads 1 0 finds.2 (lit≤ tt)).grows 1 (lit≤ tt)) 10000001
    (step past-reads 1 0 finds.2 (lit≤ tt) 1 10000001 (under_one (demand_at past_table 0 1)) demand-past) (lit≤ tt)))
