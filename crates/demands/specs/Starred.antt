-- The starred cases of document 01 in a single list, over the stored tables' bytes; k = 1 and the list 10, 15 as document 02, requests 3 and
-- 9, have them.
use Rattle.std.specs.Prelude.{ℕ, ◌≡◌, ◌||◌, List, [], ◌∷◌, map, eqb, pos, Some, Ok, Err}
use Rattle.table.specs.declared.Row.{Row}
use Rattle.table.specs.declared.refusal.Refusal.TheVariants.{PastHorizon}
use Rattle.arrivals.specs.Arrivals.{δ, η}
use Rattle.segments.specs.Tasks.{Task}
use Rattle.segments.specs.Segments.{segments_of}
use Rattle.segments.specs.Actives.{actives_of}
use Rattle.segments.specs.View.{view_of}
use Rattle.windows.specs.Window.{window_of}
use Rattle.windows.specs.Latency.{figures, latency_of}
use Rattle.misses.specs.Bad.{by_windows}
use Rattle.misses.specs.Misses.{bad_of, room_of, misses_of}
use Rattle.demands.specs.Chains.{chain_of, others_of}
use Rattle.demands.specs.Misses.{marked, full}

-- the list of 'Arrivals'
abbrev pub example : List ℕ
example = 10 ∷ 15 ∷ []

-- the sample table, 140 bytes: the fixed part of each chain with its distance, its tasks, and the end
unfoldable pub sample : List ℕ
sample =
    67 ∷ 72 ∷ 1 ∷ 0 ∷ 0 ∷ 0 ∷ 40 ∷ 0 ∷ 0 ∷ 0 ∷ 100 ∷ 0 ∷ 0 ∷ 0 ∷ 1 ∷ 2 ∷ 100 ∷ 0 ∷ 0 ∷ 0 ∷
    84 ∷ 75 ∷ 5 ∷ 0 ∷ 10 ∷ 0 ∷ 0 ∷ 0 ∷
    84 ∷ 75 ∷ 3 ∷ 0 ∷ 10 ∷ 0 ∷ 0 ∷ 0 ∷
    67 ∷ 72 ∷ 2 ∷ 0 ∷ 0 ∷ 0 ∷ 100 ∷ 0 ∷ 0 ∷ 0 ∷ 50 ∷ 0 ∷ 0 ∷ 0 ∷ 1 ∷ 1 ∷ 50 ∷ 0 ∷ 0 ∷ 0 ∷
    84 ∷ 75 ∷ 9 ∷ 0 ∷ 5 ∷ 0 ∷ 0 ∷ 0 ∷
    67 ∷ 72 ∷ 3 ∷ 0 ∷ 1 ∷ 1 ∷ 244 ∷ 1 ∷ 0 ∷ 0 ∷ 0 ∷ 0 ∷ 0 ∷ 0 ∷ 1 ∷ 3 ∷ 232 ∷ 3 ∷ 0 ∷ 0 ∷
    84 ∷ 75 ∷ 8 ∷ 0 ∷ 6 ∷ 0 ∷ 0 ∷ 0 ∷
    84 ∷ 75 ∷ 1 ∷ 0 ∷ 4 ∷ 0 ∷ 0 ∷ 0 ∷
    84 ∷ 75 ∷ 7 ∷ 0 ∷ 10 ∷ 0 ∷ 0 ∷ 0 ∷
    67 ∷ 72 ∷ 4 ∷ 0 ∷ 0 ∷ 1 ∷ 44 ∷ 1 ∷ 0 ∷ 0 ∷ 0 ∷ 0 ∷ 0 ∷ 0 ∷ 1 ∷ 1 ∷ 232 ∷ 3 ∷ 0 ∷ 0 ∷
    84 ∷ 75 ∷ 6 ∷ 0 ∷ 12 ∷ 0 ∷ 0 ∷ 0 ∷
    69 ∷ 78 ∷ 4 ∷ 0 ∷ []

-- a task of priority 5 and cost 1,000,000, and what follows it
abbrev pub million : List ℕ → List ℕ
million rest = 84 ∷ 75 ∷ 5 ∷ 0 ∷ 64 ∷ 66 ∷ 15 ∷ 0 ∷ rest

-- 'At the edge': one chain, ten tasks of 1,000,000, list 10,000,000, deadline 10,000,000, and what follows it
abbrev pub edged : List ℕ → List ℕ
edged rest =
    67 ∷ 72 ∷ 1 ∷ 0 ∷ 0 ∷ 0 ∷ 128 ∷ 150 ∷ 152 ∷ 0 ∷ 0 ∷ 0 ∷ 0 ∷ 0 ∷ 1 ∷ 10 ∷ 128 ∷ 150 ∷ 152 ∷ 0 ∷
    million (million (million (million (million (million (million (million (million (million rest)))))))))

unfoldable pub edge : List ℕ
edge = edged (69 ∷ 78 ∷ 1 ∷ 0 ∷ [])

-- one tick more from a free interferer
unfoldable pub past : List ℕ
past =
    edged
    (67 ∷ 72 ∷ 2 ∷ 0 ∷ 0 ∷ 0 ∷ 1 ∷ 0 ∷ 0 ∷ 0 ∷ 0 ∷ 0 ∷ 0 ∷ 0 ∷ 1 ∷ 1 ∷ 128 ∷ 150 ∷ 152 ∷ 0 ∷
    84 ∷ 75 ∷ 9 ∷ 0 ∷ 1 ∷ 0 ∷ 0 ∷ 0 ∷
    69 ∷ 78 ∷ 2 ∷ 0 ∷ [])

-- chain 1 of the sample, the others, and chain 3
abbrev pub chain1 : Row
chain1 = chain_of sample 1

abbrev pub others1 : List Row
others1 = others_of sample 1

abbrev pub chain3 : Row
chain3 = chain_of sample 3

-- a task of the priority and cost, with so many before it in its chain
abbrev pub task : ℕ → ℕ → ℕ → Task
task place priority cost = record { place = place; priority = priority; cost = cost }

pub record Starred : Type 0 where
  -- list 10, 15, as document 02, request 9, has it: δ(3) = 20, δ(4) = 30, δ(5) = 40; η(1) = 1, η(10) = 1, η(11) = 2, η(25) = 3, η(26) = 3
  pub delta_3 : δ example 3 ≡ 20
  pub delta_4 : δ example 4 ≡ 30
  pub delta_5 : δ example 5 ≡ 40
  pub eta_1 : η example 1 ≡ 1
  pub eta_10 : η example 10 ≡ 1
  pub eta_11 : η example 11 ≡ 2
  pub eta_25 : η example 25 ≡ 3
  pub eta_26 : η example 26 ≡ 3
  -- at the edge: K 1, latency 10,000,000, late 0, margin 0; one tick more gives 16
  pub edge_figures : latency_of edge 1 ≡ Ok (figures 1 10000000 0 (pos 0))
  pub edge_refused : latency_of past 1 ≡ Err PastHorizon
  -- chain 1: B(1) = 64
  pub window_1 : window_of (full chain1 others1 1) ≡ Some 64
  -- chain 3 shows one segment, task 3, then task 1; active costs 6 and 10
  pub segment_3 : segments_of chain3 chain1 ≡ (task 2 7 10 ∷ task 0 8 6 ∷ []) ∷ []
  pub active_3 : map (λ a. a.cost) (actives_of chain3 chain1) ≡ 6 ∷ 10 ∷ []
  -- the bad sets are both of these, which have the bits 0 and 1, either with chain 4, which has the bit 2, and all three
  pub bad_sets : (m : ℕ) → bad_of by_windows chain1 (map (λ a. view_of a chain1) others1) (marked chain1 others1) 1 m ≡ (eqb m 3 || eqb m 5 || eqb m 6 || eqb m 7)
  -- k = 10: capacities 2, answer 3; k = 11: capacities 3, answer 4; k = 1: 1 (02, request 3)
  pub room_10 : room_of δ chain1 (marked chain1 others1) 10 64 ≡ 2 ∷ 2 ∷ 2 ∷ []
  pub room_11 : room_of δ chain1 (marked chain1 others1) 11 64 ≡ 3 ∷ 3 ∷ 3 ∷ []
  pub misses_10 : misses_of sample 1 10 ≡ Ok 3
  pub misses_11 : misses_of sample 1 11 ≡ Ok 4
  pub misses_1 : misses_of sample 1 1 ≡ Ok 1
