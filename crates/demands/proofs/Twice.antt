-- A table on which the sieve and the miss count differ: no combination is late, and the sieve calls even the empty set bad. Assumes nothing.
use Prim.Native.Nat.{ℕ, ◌+◌, ◌*◌, ◌-◌, ◌≤◌, min}
use mathlib.Core.Path.{◌≡◌, refl, ap, ◌∙◌}
use mathlib.Core.Bool.{Bool, true, false, ◌&&◌, ◌||◌}
use mathlib.Core.List.{List, [], ◌∷◌}
use native.Mathlib.Omega.{arith}
use native.Mathlib.Nat.{mul-zero}
use lib.Dec.{ltb, lit≤}
use lib.IntN.{negsuc}
use lib.ListN.{length, get_or}
use Rattle.search.specs.Choice.{◌when◌else◌}
use Rattle.search.specs.Find.{first, last}
use Rattle.search.specs.Lists.{sum_of, most_of, some}
use Rattle.table.specs.Record.{distances}
use Rattle.table.specs.Find.{row_of, find_of}
use Rattle.table.specs.declared.Row.{Row}
use Rattle.table.specs.Code.Good.{GoodDistances}
use Rattle.arrivals.specs.Arrivals.{δ, η, largest, unknown, count_by, sums_to, greatest}
use Rattle.arrivals.proofs.Counts.{η-some, η-stops}
use Rattle.segments.specs.Tasks.{tasks_from, lowest, before}
use Rattle.segments.specs.Segments.{stretches, onward, around, nonempty, cuts, parts, cut_segments}
use Rattle.segments.specs.Actives.{start_of, numbered, in_order, actives}
use Rattle.segments.specs.View.{View, view_of}
use Rattle.windows.specs.Demand.{term_of, counted_part, demand_of, typical, views_of}
use Rattle.windows.specs.Window.{window_of}
use Rattle.windows.specs.Latency.{up_to, figures, bound_of}
use Rattle.std.specs.declared.option.Option.TheVariants.{Some}
use Rattle.std.specs.declared.result.Result.TheVariants.{Ok}
use Rattle.packing.specs.Packing.{sum_to}
use Rattle.packing.specs.Most.{most_uses}
use Rattle.packing.specs.Code.Plain.{reach}
use Rattle.packing.proofs.Laws.{most-same}
use Rattle.misses.specs.Overloads.{Overload, overloads, pieces_from, pieces_of, capacities_of}
use Rattle.misses.specs.Sets.{members, allowed, set_cost}
use Rattle.misses.specs.Bad.{with_cost, over, bad, Test, by_windows}
use Rattle.misses.specs.Misses.{early_of, bad_of, room_of, packing_figure, missed_of, overloads_of, tested_of, misses_of}
use Rattle.misses.specs.Sieve.{called, by_sieve, as_sieved, at_most_of}
use Rattle.misses.proofs.Answers.{missed_all, missed_packed}
use Rattle.misses.proofs.Covers.{members-sum}
use Rattle.misses.proofs.Packs.{bad-none}
use Rattle.misses.proofs.Starts.{starts}
use Rattle.demands.specs.Sieve.{twice}
use Rattle.demands.proofs.Tables.{twice_table, twice-reads}
use Rattle.demands.proofs.StarredWindows.{demand_at, two-turns, bound-closes}
use Rattle.demands.proofs.StarredMisses.{single, window-within, tested-counts}

abbrev b : Row
b = row_of twice_table 0

abbrev views : List View
views = views_of twice_table 0

abbrev os : List Overload
os = overloads_of twice_table 0

finds : find_of twice_table 1 ≡ 0
unfolding twice_table find_of first ◌when◌else◌
finds = refl

-- the full analysis: the climb stops at 9 and at 14, its window, which is past the deadline
demands : (demand_at twice_table 0 1 1 ≡ 9) × (demand_at twice_table 0 1 9 ≡ 14) × (demand_at twice_table 0 1 14 ≡ 14)
unfolding twice_table demand_of views_of term_of counted_part view_of tasks_from lowest some before stretches onward around nonempty cuts parts cut_segments sum_of most_of count_by δ sums_to greatest last ◌when◌else◌
demands = (refl, refl, refl)

window : window_of (demand_at twice_table 0 1) ≡ Some 14
unfolding twice_table
window = two-turns twice-reads 1 0 finds (lit≤ tt) 9 14 demands.0 demands.1 demands.2 (lit≤ tt)

bounds : bound_of δ b views ≡ Ok (record { figures = figures 1 14 1 (negsuc 3); last = 14 })
unfolding twice_table δ sums_to greatest ◌when◌else◌
bounds = bound-closes twice-reads 1 0 finds (lit≤ tt) 14 window (lit≤ tt)

-- one active segment, of cost 1 and capacity 2
segments : (length (pieces_of os) ≡ 1) × (set_cost (pieces_of os) ≡ 1) × (some (starts 14) os ≡ false) × (room_of δ b os 1 14 ≡ 2 ∷ [])
unfolding twice_table overloads pieces_from capacities_of room_of largest some actives in_order numbered start_of parts stretches cuts tasks_from lowest sum_of count_by δ sums_to greatest last ◌when◌else◌
segments = (refl, refl, refl, refl)

early : early_of b 1 ≡ Ok tt
unfolding twice_table unknown early_of ◌when◌else◌
early = refl

counts : (test : Test) → tested_of δ test twice 1 1 ≡ Ok (missed_of δ test b views os 1 1 14 1)
unfolding twice_table some
counts test =
    tested-counts twice-reads 1 0 finds (lit≤ tt) test 1 14 (negsuc 3) early bounds (omega (arith, segments.0)) segments.2
    (ap (some (ltb 40)) segments.3)

-- without overload: chain 1 takes 2, chain 2 takes 5 for each activation
abbrev demand : ℕ → ℕ → ℕ
demand = demand_of δ b (typical views)

demand-is : (t : ℕ) → demand 1 t ≡ 2 + 5 * η (8 ∷ []) t
unfolding twice_table demand_of views_of typical term_of counted_part view_of tasks_from lowest some before stretches onward around nonempty cuts parts cut_segments sum_of most_of ◌when◌else◌
demand-is t = omega (arith, mul-zero (η (100 ∷ []) t - 1))

-- a set that costs up to 1 ends within 8, before chain 2 comes again
fine : (c : ℕ) → c ≤ 1 → over demand (δ (distances b)) 10 1 c ≡ false
unfolding over up_to some twice_table δ sums_to greatest
fine c h = ap (λ x. x || false) (window-within (with_cost demand c 1) 10 (7 + c) (omega arith) (omega arith) (lit≤ tt) solves)
  where
    good : GoodDistances (8 ∷ [])
    good = single 8 (lit≤ tt) (lit≤ tt)

    solves : 7 + c ≡ with_cost demand c 1 (7 + c)
    solves = omega (arith, demand-is (7 + c), η-some good (7 + c) (omega arith), η-stops good 1 (7 + c) (omega arith))

and_none : (t : Bool) → (t && false) ≡ false
and_none true = refl
and_none false = refl

none-bad : (m : ℕ) → bad_of by_windows b views os 1 m ≡ false
unfolding bad_of bad twice_table
none-bad m =
    let cost = set_cost (members (pieces_of os) m) in
    let h : cost ≤ 1 = omega (arith, members-sum (λ p. p.cost) (pieces_of os) m, segments.1) in
    ap (λ x. allowed (pieces_of os) m && x) (fine cost h) ∙ and_none (allowed (pieces_of os) m)

nothing-packed : most_uses (λ m. false) (λ i. get_or (2 ∷ []) i 0) ≡ 0
unfolding most_uses reach first last sum_to ◌when◌else◌
nothing-packed = refl

pub twice-misses : misses_of twice 1 1 ≡ Ok 0
unfolding packing_figure
twice-misses =
    counts by_windows
    ∙ ap (λ u. Ok u) (missed_packed by_windows b views os 1 1 14 1 (none-bad 0))
    ∙ ap (λ u. Ok (min 1 (1 * u))) (most-same (bad_of by_windows b views os 1) (λ m. false) (λ i. get_or (room_of δ b os 1 14) i 0) (λ i. get_or (2 ∷ []) i 0) (λ m s h. none-bad m) (λ i h. ap (λ l. get_or l i 0) segments.3) ∙ nothing-packed)

-- when chain 1 is due, chain 2 has come twice: 12 is above 10
called-none : bad_of by_sieve b views os 1 0 ≡ true
unfolding bad_of called up_to twice_table demand_of views_of typical term_of counted_part view_of tasks_from lowest some before stretches onward around nonempty cuts parts cut_segments sum_of most_of count_by δ sums_to greatest last ◌when◌else◌
called-none = bad-none _ (pieces_of os)

pub twice-at-most : at_most_of twice 1 1 ≡ Ok (record { most = 1 })
unfolding at_most_of
twice-at-most = ap as_sieved (counts by_sieve ∙ ap (λ u. Ok u) (missed_all by_sieve b views os 1 1 14 1 called-none))
