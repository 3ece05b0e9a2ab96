-- How many are missed where nothing is refused: by a test of costs, whatever flags the sets whose costs are bad. Assumes nothing.
use Prim.Native.Nat.{ℕ, ◌+◌, ◌*◌, ◌^◌, ◌≤◌, ◌<◌, min}
use mathlib.Core.Path.{◌≡◌, ap, ap₂, sym, fun_ext, ◌∙◌}
use mathlib.Core.Bool.{Bool, true, false}
use mathlib.Core.List.{List}
use native.Mathlib.Omega.{arith}
use lib.ListN.{length, get_or}
use Rattle.table.specs.Limits.{max_overloads}
use Rattle.table.specs.Find.{row_of}
use Rattle.table.specs.Read.{table_of}
use Rattle.table.specs.Code.Good.{GoodTable}
use Rattle.table.specs.declared.Row.{Row}
use Rattle.table.specs.declared.Table.{Table}
use Rattle.arrivals.specs.Arrivals.{δ, largest}
use Rattle.table.specs.Record.{distances}
use Rattle.segments.specs.View.{View}
use Rattle.windows.specs.Demand.{others, views_of}
use Rattle.windows.specs.Code.Load.{views_at, Load, Loads}
use Rattle.windows.specs.Code.Called.{above_in, Starts}
use Rattle.windows.specs.declared.Others.TheVariants.{Typical}
use Rattle.windows.proofs.Besides.{others-good}
use Rattle.packing.specs.Packing.{combinations}
use Rattle.packing.specs.Most.{most_uses, capacity}
use Rattle.packing.proofs.Laws.{most-same}
use Rattle.misses.specs.Overloads.{Overload, pieces_of}
use Rattle.misses.specs.Bad.{bad, Test, by_windows}
use Rattle.misses.specs.Misses.{bad_of, room_of, packing_figure, overloads_of}
use Rattle.misses.specs.Sieve.{by_sieve}
use Rattle.misses.specs.Code.Held.{pieces_in, price_of, Few, missed_at}
use Rattle.misses.specs.Code.Packings.{Sized, Ready}
use Rattle.misses.specs.Code.Settling.{over_with, beyond, Costs, Tries}
use Rattle.windows.specs.declared.Windows.{Windows}
use Rattle.misses.specs.declared.Pieces.{Pieces}
use Rattle.misses.proofs.Prices.{price-past}
use Rattle.misses.proofs.Packs.{price-within, bad-none, bad-price}
use Rattle.misses.proofs.Held.{held-count, held-pieces, held-above, held-room, held-few}
use Rattle.misses.proofs.Loading.{loads_over, loads_called, loads_room}
use Rattle.misses.proofs.Answers.{missed_all, missed_packed}

module _ {s : List ℕ} {chain k : ℕ} {w : Windows} {p : Pieces} (ready : Ready s chain k w p) where
  abbrev t : Table
  t = table_of s

  abbrev close : ℕ
  close = w.figures.close

  abbrev latency : ℕ
  latency = w.figures.latency

  abbrev late : ℕ
  late = w.figures.late

  abbrev b : Row
  b = row_of t chain

  abbrev views : List View
  views = views_of t chain

  abbrev os : List Overload
  os = overloads_of t chain

  good : GoodTable t
  good = ready.taken.good

  pub missed_sized : Sized k late
  missed_sized = record { low = ready.asked.low; high = ready.asked.high; some = ready.admitted.late; few = ready.asked.count }

  few-pieces : length (pieces_of os) ≤ max_overloads
  few-pieces = omega (arith, ready.admitted.few, held-count (largest b k + latency) os p ready.admitted.all)

  pub missed_few : Few p
  missed_few = held-few (largest b k + latency) b (others t chain) (others-good t good chain) p ready.admitted.all few-pieces

  -- by a test that says which costs are bad
  module _ (test : Test) {costly : ℕ → Bool} (same : (c : ℕ) → costly c ≡ test b views close c) where
    empty : bad_of test b views os close 0 ≡ costly 0
    unfolding bad_of
    empty = bad-none _ (pieces_of os) ∙ sym (same 0)

    pub missed_without : costly 0 ≡ true → k ≡ missed_at test t chain k w
    missed_without e = sym (missed_all test b views os k close latency late (empty ∙ e))

    module _ (fine : costly 0 ≡ false) (costs : List ℕ) (prices : (m : ℕ) → m < combinations → get_or costs m 0 ≡ price_of (pieces_in p) m) where
      most-is : {flag : ℕ → Bool} → ((m : ℕ) → m < combinations → flag m ≡ costly (get_or costs m 0))
          → most_uses flag (capacity p.capacity) ≡ most_uses (bad_of test b views os close) (λ i. get_or (room_of δ b os k latency) i 0)
      unfolding bad_of room_of
      most-is {flag} flags =
          most-same flag (bad_of test b views os close) (capacity p.capacity) (λ i. get_or (room_of δ b os k latency) i 0)
          (λ m s h. flags m h ∙ ap costly (prices m h) ∙ sym (bad-price costly (pieces_in p) fine m)
          ∙ ap₂ (λ f ps. bad f ps m) (fun_ext same) (held-pieces (largest b k + latency) os p ready.admitted.all few-pieces))
          (held-room (largest b k + latency) os p ready.admitted.all few-pieces (sym (held-above (largest b k + latency) os p ready.admitted.all few-pieces) ∙ ready.admitted.within))

      -- whatever flags the sets with bad costs
      pub missed_counts : (flag : ℕ → Bool) → ((m : ℕ) → m < combinations → flag m ≡ costly (get_or costs m 0))
          → min k (late * most_uses flag (capacity p.capacity)) ≡ missed_at test t chain k w
      unfolding packing_figure
      missed_counts flag flags =
          ap (λ n. min k (late * n)) (most-is flags)
          ∙ sym (missed_packed test b views os k close latency late (empty ∙ fine))

  -- what sets cost is within what a load has room for
  module _ (costs : List ℕ) (prices : (m : ℕ) → m < combinations → get_or costs m 0 ≡ price_of (pieces_in p) m) where
    pub missed_within : (m : ℕ) → m < combinations → get_or costs m 0 < beyond
    missed_within m h = omega (arith, prices m h, price-within p.chain p.segment p.cost p.count m missed_few.cheap missed_few.few)

    pub missed_costs : (sets : ℕ) → (sets ≡ 2 ^ p.count) × (sets ≤ combinations) → Costs costs sets
    missed_costs sets many = record {
      few = many.1;
      within = missed_within;
      past = λ m l h. prices m h ∙ price-past p.chain p.segment p.cost p.count m (omega (arith, many.0));
    }

  module _ {l : Load} (loads : Loads b (views_at Typical t chain) l) where
    pub missed_tries : Tries l close
    missed_tries = record { sound = loads.sound; few = ready.asked.few; room = loads_room t good chain ready.there l loads }

    pub missed_starts : Starts l close
    missed_starts = record { sound = loads.sound; few = ready.asked.few; near = λ q s h. omega (arith, ap (λ (r : Row). δ (distances r) q) loads.chain, ready.asked.starts q s h) }

    -- by windows, and by the sieve
    pub missed_over : (c : ℕ) → over_with l close c ≡ by_windows b views close c
    missed_over c = loads_over loads close c

    pub missed_called : (c : ℕ) → above_in l close c ≡ by_sieve b views close c
    missed_called c = loads_called loads close c
