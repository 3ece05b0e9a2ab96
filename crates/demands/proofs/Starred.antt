-- Every starred case of document 01 holds. Assumes nothing.
use Prim.Native.Nat.{ℕ}
use mathlib.Core.Path.{◌≡◌, refl, ap, sym, ◌∙◌}
use mathlib.Core.Bool.{◌||◌}
use mathlib.Core.List.{List, [], ◌∷◌, map}
use lib.Dec.{eqb}
use Rattle.search.specs.Choice.{◌when◌else◌}
use Rattle.search.specs.Find.{first, last}
use Rattle.search.specs.Lists.{sum_of}
use Rattle.table.specs.Find.{row_of, find_of}
use Rattle.table.specs.Read.{Reading, table_of}
use Rattle.table.specs.declared.Row.{Row}
use Rattle.table.specs.declared.Table.{Table}
use Rattle.arrivals.specs.Arrivals.{δ, η, count_by, sums_to, greatest}
use Rattle.segments.specs.Tasks.{tasks_from, lowest}
use Rattle.segments.specs.Segments.{stretches, onward, around, nonempty, segments, segments_of, cuts, parts}
use Rattle.segments.specs.Actives.{start_of, numbered, in_order, actives, actives_of}
use Rattle.windows.specs.Demand as demand
use Rattle.windows.specs.Window.{window_of}
use Rattle.std.specs.declared.option.Option.TheVariants.{Some}
use Rattle.misses.specs.Bad.{by_windows}
use Rattle.misses.specs.Misses.{bad_of, room_of}
use Rattle.demands.specs.Chains.{chain_of, others_of}
use Rattle.demands.specs.Misses as words
use Rattle.demands.proofs.Equation.{viewed, equation-is}
use Rattle.demands.proofs.Tables.{sampled, sample-reads}
use Rattle.demands.proofs.StarredWindows as windows
use Rattle.demands.proofs.StarredMisses as misses
use Rattle.demands.specs.Starred.{example, sample, chain1, others1, chain3, task, Starred}

-- the sample's rows
table_same : table_of sample ≡ sampled
table_same = ap (λ (r : Reading). r.table) sample-reads.reads

finds : (find_of sampled 1 ≡ 0) × (find_of sampled 3 ≡ 2)
unfolding sampled find_of first ◌when◌else◌
finds = (refl, refl)

row_same : (id chain : ℕ) → find_of sampled id ≡ chain → chain_of sample id ≡ row_of sampled chain
row_same id chain e = ap (λ (t : Table). row_of t (find_of t id)) table_same ∙ ap (row_of sampled) e

others_same : others_of sample 1 ≡ demand.others sampled 0
others_same = ap (λ (t : Table). demand.others t (find_of t 1)) table_same ∙ ap (demand.others sampled) finds.0

-- what holds of these rows holds of chain 1 and the others in the bytes
of-chain1 : (P : Row → List Row → Type 0) → P (row_of sampled 0) (demand.others sampled 0) → P chain1 others1
of-chain1 P p = rw (row_same 1 0 finds.0, others_same) p

of-chain3 : (P : Row → Row → Type 0) → P (row_of sampled 2) (row_of sampled 0) → P chain3 chain1
of-chain3 P p = rw (row_same 3 2 finds.1, row_same 1 0 finds.0) p

segment : segments_of (row_of sampled 2) (row_of sampled 0) ≡ (task 2 7 10 ∷ task 0 8 6 ∷ []) ∷ []
unfolding sampled tasks_from lowest stretches onward around nonempty segments ◌when◌else◌
segment = refl

active : map (λ a. a.cost) (actives_of (row_of sampled 2) (row_of sampled 0)) ≡ 6 ∷ 10 ∷ []
unfolding sampled tasks_from lowest stretches cuts parts start_of numbered in_order actives sum_of ◌when◌else◌
active = refl

-- list 10, 15
delta_eta : (δ example 3 ≡ 20) × (δ example 4 ≡ 30) × (δ example 5 ≡ 40)
    × (η example 1 ≡ 1) × (η example 10 ≡ 1) × (η example 11 ≡ 2) × (η example 25 ≡ 3) × (η example 26 ≡ 3)
unfolding δ sums_to greatest count_by last ◌when◌else◌
delta_eta = (refl, refl, refl, refl, refl, refl, refl, refl)

pub starred : Starred
unfolding demand.views_of
starred =
    record {
      delta_3 = delta_eta.0;
      delta_4 = delta_eta.1;
      delta_5 = delta_eta.2;
      eta_1 = delta_eta.3;
      eta_10 = delta_eta.4;
      eta_11 = delta_eta.5;
      eta_25 = delta_eta.6;
      eta_26 = delta_eta.7;
      edge_figures = windows.edge-latency;
      edge_refused = windows.past-latency;
      window_1 = of-chain1 (λ b l. window_of (words.full b l 1) ≡ Some 64) (ap (λ d. window_of (d 1)) (sym (equation-is _ _)) ∙ windows.sample-window);
      segment_3 = of-chain3 (λ a b. segments_of a b ≡ (task 2 7 10 ∷ task 0 8 6 ∷ []) ∷ []) segment;
      active_3 = of-chain3 (λ a b. map (λ x. x.cost) (actives_of a b) ≡ 6 ∷ 10 ∷ []) active;
      bad_sets = of-chain1 (λ b l. (n : ℕ) → bad_of by_windows b (viewed b l) (words.marked b l) 1 n ≡ (eqb n 3 || eqb n 5 || eqb n 6 || eqb n 7)) misses.bad_sets;
      room_10 = of-chain1 (λ b l. room_of δ b (words.marked b l) 10 64 ≡ 2 ∷ 2 ∷ 2 ∷ []) misses.room_10;
      room_11 = of-chain1 (λ b l. room_of δ b (words.marked b l) 11 64 ≡ 3 ∷ 3 ∷ 3 ∷ []) misses.room_11;
      misses_10 = misses.misses_10;
      misses_11 = misses.misses_11;
      misses_1 = misses.misses_1;
    }
