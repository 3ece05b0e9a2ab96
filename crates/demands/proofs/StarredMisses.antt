-- The starred cases of 01, 'Misses': the bad sets of the sample, and its answers for k = 10, 11 and 1. Assumes nothing.
use Prim.Native.Nat.{ℕ, zero, suc, ◌+◌, ◌*◌, ◌-◌, ◌≤◌, ◌<◌, min}
use mathlib.Core.Path.{◌≡◌, refl, ap, sym, ◌∙◌}
use mathlib.Core.Bool.{Bool, true, false, ◌&&◌, ◌||◌}
use mathlib.Core.List.{List, [], ◌∷◌}
use mathlib.Core.Logic.{⊎_elim}
use native.Mathlib.Omega.{arith}
use native.Mathlib.Nat.{mul-zero}
use borrow.Author.Tests.{le-leb, lt-leb, lt-ltb, le-ltb, ne_eqb}
use lib.Dec.{eqb, ltb, leb, lit≤}
use lib.IntN.{ℤ, negsuc}
use lib.ListN.{length, get_or}
use Rattle.search.specs.Choice.{◌when◌else◌}
use Rattle.search.specs.Find.{first, last}
use Rattle.search.specs.Lists.{sum_of, most_of, some, every}
use Rattle.search.proofs.Choice.{lt_or_le}
use Rattle.table.specs.Limits.{horizon}
use Rattle.table.specs.Record.{distances}
use Rattle.table.specs.Find.{row_of, find_of}
use Rattle.table.specs.declared.Row.{Row}
use Rattle.table.specs.declared.Table.{Table}
use Rattle.table.specs.Read.{Reading}
use Rattle.arrivals.specs.Arrivals.{δ, η, largest, unknown, sums_to, greatest}
use Rattle.table.specs.Code.Good.{GoodDistances}
use Rattle.arrivals.proofs.Counts.{η-some, η-counts, η-stops}
use Rattle.segments.specs.Tasks.{tasks_from, lowest, before}
use Rattle.segments.specs.Segments.{stretches, onward, around, nonempty, cuts, parts, cut_segments}
use Rattle.segments.specs.Actives.{start_of, numbered, in_order, actives}
use Rattle.segments.specs.View.{View, view_of}
use Rattle.windows.specs.Demand.{term_of, counted_part, demand_of, typical, others, views_of}
use Rattle.windows.specs.Window.{Window, window_of}
use Rattle.windows.specs.Latency.{up_to, longer, figures, bound_of}
use Rattle.std.specs.declared.option.Option.TheVariants.{Some, None}
use Rattle.std.specs.declared.result.Result.TheVariants.{Ok}
use Rattle.windows.proofs.Least.{window-at, window-none}
use Rattle.packing.specs.Packing.{sum_to}
use Rattle.packing.specs.Most.{most_uses}
use Rattle.packing.specs.Code.Plain.{reach}
use Rattle.packing.proofs.Laws.{most-same}
use Rattle.misses.specs.Overloads.{Overload, overloads, Piece, pieces_from, pieces_of, capacities_of}
use Rattle.misses.specs.Sets.{members, together, allowed, set_cost}
use Rattle.misses.specs.Bad.{with_cost, over, bad, Test, by_windows}
use Rattle.misses.specs.Misses.{early_of, bad_of, room_of, packing_figure, missed_of, tested_at, tested_in, tested_of, overloads_of, misses_of}
use Rattle.misses.proofs.Prices.{allowed-past}
use Rattle.misses.proofs.Starts.{starts}
use Rattle.misses.proofs.Answers.{tested-accepted, chain-found, at_bound, counts, missed_packed}
use Rattle.demands.specs.Starred.{sample}
use Rattle.demands.proofs.Tables.{Reads, sampled, sample-reads}
use Rattle.demands.proofs.StarredWindows.{bound-closes, sample-window}

-- any two of three combinations of bits, and all three, with the same capacity each
abbrev any_two : ℕ → Bool
any_two m = eqb m 3 || eqb m 5 || eqb m 6 || eqb m 7

abbrev each : ℕ → ℕ → ℕ
each n i = get_or (n ∷ n ∷ n ∷ []) i 0

capacity_2 : most_uses any_two (each 2) ≡ 3
unfolding most_uses reach first last sum_to ◌when◌else◌
capacity_2 = refl

capacity_3 : most_uses any_two (each 3) ≡ 4
unfolding most_uses reach first last sum_to ◌when◌else◌
capacity_3 = refl

-- chain 1, its views, and the overload chains beside it
abbrev b : Row
b = row_of sampled 0

abbrev views : List View
views = views_of sampled 0

abbrev os : List Overload
os = overloads b (others sampled 0)

finds : find_of sampled 1 ≡ 0
unfolding sampled find_of first ◌when◌else◌
finds = refl

-- three active segments: 6 and 10 of chain 3, of one segment, and 12 of chain 4
abbrev piece : ℕ → ℕ → ℕ → Piece
piece chain segment cost = record { chain = chain; segment = segment; cost = cost }

pieces : pieces_of os ≡ piece 0 1 6 ∷ piece 0 1 10 ∷ piece 1 0 12 ∷ []
unfolding sampled overloads pieces_from actives in_order numbered start_of parts stretches cuts tasks_from lowest sum_of ◌when◌else◌
pieces = refl

room : (t : ℕ) → capacities_of δ t os ≡ (η (1000 ∷ []) t + 1) ∷ (η (1000 ∷ []) t + 1) ∷ (η (1000 ∷ []) t + 1) ∷ []
unfolding sampled overloads capacities_of actives in_order numbered start_of parts stretches cuts tasks_from lowest sum_of ◌when◌else◌
room t = refl

-- a list of one distance
pub single : (d : ℕ) → 1 ≤ d → d ≤ 10000000 → GoodDistances (d ∷ [])
single d low high = record {
  some = lit≤ tt;
  few = lit≤ tt;
  rises = λ j h. absurd (omega arith);
  near = near;
  ends = low;
}
  where
    near : (j : ℕ) → get_or (d ∷ []) j 0 ≤ 10000000
    near zero = high
    near (suc j) = omega arith

good_50 : GoodDistances (50 ∷ [])
good_50 = single 50 (lit≤ tt) (lit≤ tt)

good_1000 : GoodDistances (1000 ∷ [])
good_1000 = single 1000 (lit≤ tt) (lit≤ tt)

-- the demand without overload: chain 1 takes 20, chain 2 takes 5 for each activation
abbrev demand : ℕ → ℕ → ℕ
demand = demand_of δ b (typical views)

demand-is : (t : ℕ) → demand 1 t ≡ 20 + 5 * η (50 ∷ []) t
unfolding sampled demand_of views_of typical term_of counted_part view_of tasks_from lowest some before stretches onward around nonempty cuts parts cut_segments sum_of most_of ◌when◌else◌
demand-is t = omega (arith, mul-zero (η (100 ∷ []) t - 1))

-- a set is bad from a cost of 16 on: with 15 the window is 40, the deadline
window-past : (d : ℕ → ℕ) (limit : ℕ) → ((s : ℕ) → 1 ≤ s → limit < d s) → longer (window_of d) limit ≡ true
window-past d limit h = go (window_of d) refl
  where
    go : (w : Window) → window_of d ≡ w → longer w limit ≡ true
    go (Some t) e = let a = window-at d t e in lt-ltb limit t (omega (arith, a.solves, h t a.low))
    go None e = refl

pub window-within : (d : ℕ → ℕ) (limit s : ℕ) → 1 ≤ s → s ≤ limit → limit ≤ horizon → s ≡ d s → longer (window_of d) limit ≡ false
window-within d limit s low high far solves = go (window_of d) refl
  where
    go : (w : Window) → window_of d ≡ w → longer w limit ≡ false
    go (Some t) e = le-ltb limit t (omega (arith, (window-at d t e).least s low solves))
    go None e = absurd (window-none d e s low (omega arith) solves)

over-is : (c : ℕ) → over demand (δ (distances b)) 40 1 c ≡ leb 16 c
unfolding over up_to some sampled δ sums_to greatest
over-is c = ⊎_elim
    (λ h. ap (λ x. x || false) (window-within (with_cost demand c 1) 40 (25 + c) (omega arith) (omega arith) (lit≤ tt) (solves h)) ∙ sym (lt-leb 16 c h))
    (λ h. ap (λ x. x || false) (window-past (with_cost demand c 1) 40 (λ s l. omega (arith, demand-is s, η-some good_50 s l))) ∙ sym (le-leb 16 c h))
    (lt_or_le c 16)
  where
    solves : c < 16 → 25 + c ≡ with_cost demand c 1 (25 + c)
    solves h = omega (arith, demand-is (25 + c), η-some good_50 (25 + c) (omega arith), η-stops good_50 1 (25 + c) (omega arith))

-- so each set is judged by its members and its cost
bad-is : (m : ℕ) → bad_of by_windows b views os 1 m ≡ (allowed (pieces_of os) m && leb 16 (set_cost (members (pieces_of os) m)))
unfolding bad_of bad sampled
bad-is m = ap (λ x. allowed (pieces_of os) m && x) (over-is (set_cost (members (pieces_of os) m)))

judged : ℕ → Bool
judged m = allowed (pieces_of os) m && leb 16 (set_cost (members (pieces_of os) m))

-- any two of them, and all three
low_sets : (m : ℕ) → m < 8 → judged m ≡ any_two m
unfolding judged allowed together members every sampled overloads pieces_from actives in_order numbered start_of parts stretches cuts tasks_from lowest sum_of ◌when◌else◌
low_sets zero h = refl
low_sets (suc zero) h = refl
low_sets (suc (suc zero)) h = refl
low_sets (suc (suc (suc zero))) h = refl
low_sets (suc (suc (suc (suc zero)))) h = refl
low_sets (suc (suc (suc (suc (suc zero))))) h = refl
low_sets (suc (suc (suc (suc (suc (suc zero)))))) h = refl
low_sets (suc (suc (suc (suc (suc (suc (suc zero))))))) h = refl
low_sets (suc (suc (suc (suc (suc (suc (suc (suc m)))))))) h = absurd (omega arith)

no_more : (m : ℕ) → 8 ≤ m → any_two m ≡ false
no_more m h = rw (ne_eqb m 3 (λ e. omega arith), ne_eqb m 5 (λ e. omega arith), ne_eqb m 6 (λ e. omega arith), ne_eqb m 7 (λ e. omega arith))

pub bad_sets : (m : ℕ) → bad_of by_windows b views os 1 m ≡ any_two m
unfolding judged
bad_sets m = bad-is m ∙ ⊎_elim (low_sets m)
    (λ h. ap (λ x. x && leb 16 (set_cost (members (pieces_of os) m))) (allowed-past (pieces_of os) m (rw pieces h)) ∙ sym (no_more m h)) (lt_or_le m 8)

-- the full analysis: K is 1, and the only activation is late by 24
bounds : bound_of δ b views ≡ Ok (record { figures = figures 1 64 1 (negsuc 23); last = 64 })
unfolding sampled δ sums_to greatest ◌when◌else◌
bounds = bound-closes sample-reads 1 0 finds (lit≤ tt) 64 sample-window (lit≤ tt)

-- a chain of the list 1000 starts once in up to 1000, and twice in up to 2000
once : (t : ℕ) → 1 ≤ t → t ≤ 1000 → η (1000 ∷ []) t ≡ 1
unfolding δ sums_to greatest
once t low high = omega (arith, η-some good_1000 t low, η-stops good_1000 1 t high)

twice : (t : ℕ) → 1000 < t → t ≤ 2000 → η (1000 ∷ []) t ≡ 2
unfolding δ sums_to greatest
twice t low high = omega (arith, η-counts good_1000 1 t low, η-stops good_1000 2 t high)

starts-once : some (starts 64) os ≡ false
unfolding sampled overloads some ◌when◌else◌
starts-once = rw (once 64 (lit≤ tt) (lit≤ tt))

rooms : (k n : ℕ) → η (1000 ∷ []) (largest b k + 64) + 1 ≡ n → room_of δ b os k 64 ≡ n ∷ n ∷ n ∷ []
unfolding room_of
rooms k n e = room (largest b k + 64) ∙ ap (λ x. x ∷ x ∷ x ∷ []) e

no_excess : (n : ℕ) → n ≤ 40 → some (ltb 40) (n ∷ n ∷ n ∷ []) ≡ false
unfolding some
no_excess n h = rw (le-ltb 40 n h)

-- a query that nothing refuses, where K is 1 and its activation is late
module _ {s : List ℕ} {t : Table} (a : Reads s t) (id chain : ℕ) (found : find_of t id ≡ chain) (there : chain < t.count) (test : Test) (k x : ℕ) (margin : ℤ)
    (early : early_of (row_of t chain) k ≡ Ok tt) (bound : bound_of δ (row_of t chain) (views_of t chain) ≡ Ok (record { figures = figures 1 x 1 margin; last = x })) where
  pub tested-counts : length (pieces_of (overloads_of t chain)) ≤ 6 → some (starts x) (overloads_of t chain) ≡ false
      → some (ltb 40) (room_of δ (row_of t chain) (overloads_of t chain) k x) ≡ false
      → tested_of δ test s id k ≡ Ok (missed_of δ test (row_of t chain) (views_of t chain) (overloads_of t chain) k 1 x 1)
  tested-counts few once within =
      tested-accepted δ test s id k (ap (λ (r : Reading). r.verdict) a.reads)
      ∙ ap (λ (r : Reading). tested_in δ test r.table id k) a.reads
      ∙ chain-found δ test t id k (λ e. omega (arith, e, found, there))
      ∙ ap (λ j. tested_at δ test t j k) found
      ∙ at_bound test t chain k early bound
      ∙ counts δ test (row_of t chain) (views_of t chain) (overloads_of t chain) k 1 x 1 x (λ e. omega (arith, e)) few once within

answers : (k n uses : ℕ) → early_of b k ≡ Ok tt → η (1000 ∷ []) (largest b k + 64) + 1 ≡ n → n ≤ 40 → most_uses any_two (each n) ≡ uses → misses_of sample 1 k ≡ Ok (min k uses)
unfolding sampled packing_figure
answers k n uses early e few most =
    let r = rooms k n e in
    tested-counts sample-reads 1 0 finds (lit≤ tt) by_windows k 64 (negsuc 23) early bounds (rw pieces (lit≤ tt)) starts-once (ap (some (ltb 40)) r ∙ no_excess n few)
    ∙ ap (λ u. Ok u) (missed_packed by_windows b views os k 1 64 1 (bad_sets 0))
    ∙ ap (λ u. Ok (min k (1 * u))) (most-same (bad_of by_windows b views os 1) any_two (λ i. get_or (room_of δ b os k 64) i 0) (each n) (λ m l h. bad_sets m) (λ i h. ap (λ l. get_or l i 0) r) ∙ most)
    ∙ ap (λ u. Ok u) (omega arith)

room_of_lem : (k n : ℕ) → η (1000 ∷ []) (largest b k + 64) ≡ n → η (1000 ∷ []) (largest b k + 64) + 1 ≡ n + 1
room_of_lem k n e = ap (λ x. x + 1) e

-- capacities and answers for k = 10, 11 and 1
pub room_10 : room_of δ b os 10 64 ≡ 2 ∷ 2 ∷ 2 ∷ []
unfolding sampled largest ◌when◌else◌
room_10 = rooms 10 2 (room_of_lem 10 1 (once 964 (lit≤ tt) (lit≤ tt)))

pub room_11 : room_of δ b os 11 64 ≡ 3 ∷ 3 ∷ 3 ∷ []
unfolding sampled largest ◌when◌else◌
room_11 = rooms 11 3 (room_of_lem 11 2 (twice 1064 (lit≤ tt) (lit≤ tt)))

pub misses_10 : misses_of sample 1 10 ≡ Ok 3
unfolding sampled largest unknown early_of ◌when◌else◌
misses_10 = answers 10 2 3 refl (room_of_lem 10 1 (once 964 (lit≤ tt) (lit≤ tt))) (lit≤ tt) capacity_2

pub misses_11 : misses_of sample 1 11 ≡ Ok 4
unfolding sampled largest unknown early_of ◌when◌else◌
misses_11 = answers 11 3 4 refl (room_of_lem 11 2 (twice 1064 (lit≤ tt) (lit≤ tt))) (lit≤ tt) capacity_3

pub misses_1 : misses_of sample 1 1 ≡ Ok 1
unfolding sampled largest unknown early_of ◌when◌else◌
misses_1 = answers 1 2 3 refl (room_of_lem 1 1 (once 64 (lit≤ tt) (lit≤ tt))) (lit≤ tt) capacity_2
