-- The active segments of the overload chains as the code holds them.
use Rattle.std.specs.Prelude.{ℕ, zero, suc, ◌+◌, ◌-◌, ◌/◌, ◌^◌, ◌≤◌, min, List, [], ◌∷◌, map, Bool, true, false, eqb, ltb, length, get_or, take, ◌≡◌}
use Rattle.search.specs.Choice.{◌when◌else◌}
use Rattle.search.specs.Lists.{every, some}
use Rattle.packing.specs.Packing.{bit}
use Rattle.table.specs.Limits.{max_activations, max_run, horizon, max_overloads, max_capacity}
use Rattle.table.specs.Record.{pad, distances}
use Rattle.table.specs.Find.{row_of}
use Rattle.table.specs.declared.Row.{Row}
use Rattle.table.specs.declared.Table.{Table}
use Rattle.arrivals.specs.Arrivals.{δ, largest}
use Rattle.segments.specs.Code.Held.{dearest}
use Rattle.windows.specs.Demand.{views_of}
use Rattle.windows.specs.declared.Windows.{Windows}
use Rattle.misses.specs.Overloads.{Overload, Piece, pieces_of, capacities_of}
use Rattle.misses.specs.Sets.{members, agree, allowed, set_cost}
use Rattle.misses.specs.Bad.{Test}
use Rattle.misses.specs.Misses.{Answer, overloads_of, missed_of, by_figures}
use Rattle.misses.specs.declared.Pieces.{Pieces}

-- the first six of a list, with 0s for those that it lacks
abbrev pub six : List ℕ → List ℕ
six l = pad max_overloads (take max_overloads l)

-- how many overload chains and active segments there are, and of the first six each one's chain, segment, cost, and
-- capacity, which is not counted any further than past its limit
abbrev pub held_as : ℕ → List Piece → List ℕ → Pieces
held_as chains ps cs =
    record {
      chains = chains;
      count = length ps;
      chain = six (map (λ p. p.chain) ps);
      segment = six (map (λ p. p.segment) ps);
      cost = six (map (λ p. p.cost) ps);
      capacity = six (map (min (max_capacity + 1)) cs);
    }

-- those of some overload chains, with their capacities in t
unfoldable pub gathered : ℕ → List Overload → Pieces
gathered t os = held_as (length os) (pieces_of os) (capacities_of δ t os)

-- the active segment after i others, out of arrays of their chains, segments and costs
abbrev pub piece_at : List ℕ → List ℕ → List ℕ → ℕ → Piece
piece_at chains segments costs i = record { chain = get_or chains i 0; segment = get_or segments i 0; cost = get_or costs i 0 }

-- n of them from that one on
unfoldable pub pieces_at : List ℕ → List ℕ → List ℕ → ℕ → ℕ → List Piece
pieces_at chains segments costs zero i = []
pieces_at chains segments costs (suc n) i = piece_at chains segments costs i ∷ pieces_at chains segments costs n (i + 1)

-- those of n in the mask m, from the one after i others on
abbrev pub members_at : List ℕ → List ℕ → List ℕ → ℕ → ℕ → ℕ → List Piece
members_at chains segments costs n m i = members (pieces_at chains segments costs (n - i) i) (m / 2 ^ i)

-- whether the one after i others may stand with the one after j others, if that is in the mask m; and with all of m that come after it
abbrev pub agrees_at : List ℕ → List ℕ → ℕ → ℕ → ℕ → Bool
agrees_at chains segments m i j = agree (piece_at chains segments [] i) (piece_at chains segments [] j) when eqb (bit j m) 1 else true

abbrev pub agrees_after : List ℕ → List ℕ → List ℕ → ℕ → ℕ → ℕ → Bool
agrees_after chains segments costs n m i = every (agree (piece_at chains segments costs i)) (members_at chains segments costs n m (i + 1))

-- what a mask costs, 0 where it is no combination
unfoldable pub price_of : List Piece → ℕ → ℕ
price_of ps m = set_cost (members ps m) when allowed ps m else 0

-- six active segments or fewer are held, and none costs more than a chain can
pub record Few (p : Pieces) : Type 0 where
  pub few : p.count ≤ max_overloads
  pub cheap : (i : ℕ) → get_or p.cost i 0 ≤ dearest

abbrev pub pieces_in : Pieces → List Piece
pieces_in p = pieces_at p.chain p.segment p.cost p.count 0

-- what the windows of a chain b and a run of k are where nothing was refused before: within their limits
pub record Asked (b : Row) (k : ℕ) (w : Windows) : Type 0 where
  pub typical : b.overload ≡ 0
  pub low : 1 ≤ k
  pub high : k ≤ max_run
  pub few : w.figures.close ≤ max_activations
  pub near : w.figures.latency ≤ horizon
  pub count : w.figures.late ≤ max_activations
  pub end : w.last ≤ horizon
  pub starts : (q : ℕ) → 1 ≤ q → q ≤ w.figures.close → δ (distances b) q ≤ horizon

-- what they give by a test, of a chain of a table
abbrev pub figures_at : Test → Table → ℕ → ℕ → Windows → Answer
figures_at test t chain k w = by_figures δ test (row_of t chain) (views_of t chain) (overloads_of t chain) k w.figures.close w.figures.latency w.figures.late w.last

-- and how many are missed of it, where nothing is refused
abbrev pub missed_at : Test → Table → ℕ → ℕ → Windows → ℕ
missed_at test t chain k w = missed_of δ test (row_of t chain) (views_of t chain) (overloads_of t chain) k w.figures.close w.figures.latency w.figures.late

-- what the count of these goes by, all of it known where nothing is refused: some activation is late, and the active segments held are
-- all that there are beside the chain, six or fewer, none with a capacity above its limit
pub record Admitted (t : Table) (chain k : ℕ) (w : Windows) (p : Pieces) : Type 0 where
  pub late : 1 ≤ w.figures.late
  pub all : p ≡ gathered (largest (row_of t chain) k + w.figures.latency) (overloads_of t chain)
  pub few : p.count ≤ max_overloads
  pub within : some (ltb max_capacity) p.capacity ≡ false
