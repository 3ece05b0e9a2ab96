-- Demand 2 for the miss query, and for the sieve: what an answer says of a chain b beside the other chains l, for a run of k activations.
use Rattle.std.specs.Prelude.{ℕ, ◌+◌, ◌*◌, ◌^◌, ◌≤◌, ◌<◌, min, ◌≡◌, Bool, true, List, [], map, ◌⊎◌, ltb, ℤ, length, get_or, Ok, Err}
use Rattle.search.specs.Choice.{◌when◌else◌}
use Rattle.search.specs.Lists.{All}
use Rattle.table.specs.Limits.{max_run, max_overloads, max_capacity}
use Rattle.table.specs.declared.Row.{Row}
use Rattle.table.specs.declared.refusal.Refusal.{Refusal}
use Rattle.table.specs.declared.refusal.Refusal.TheVariants.{BadRun, OverloadAsked, GapUnknown, PastHorizon, StillOpen, TooManySegments, StartsAgain, CapacityAbove}
use Rattle.arrivals.specs.Arrivals.{δ, η, largest}
use Rattle.table.specs.Record.{distances}
use Rattle.windows.specs.Window.{Solution}
use Rattle.windows.specs.Latency.{latency_of, Answer as Latency}
use Rattle.packing.specs.Packing.{bit, IsMost}
use Rattle.misses.specs.Overloads.{Overload, overloads, Piece, pieces_of}
use Rattle.misses.specs.Sets.{members, set_cost}
use Rattle.misses.specs.Bad.{with_cost}
use Rattle.misses.specs.Misses.{Answer, misses_of}
use Rattle.report_text.specs.Numbers.{decimal}
use Rattle.report_text.specs.Report.{refusal_text}
use Rattle.demands.specs.Chains.{chain_of, others_of}
use Rattle.demands.specs.Equation.{equation, unmarked}
use Rattle.demands.specs.Figures.{Exactly, NoWindow, NoClose, Closes, Means}

-- the active segment of a bit, out of all of them
abbrev pub piece_of : List Piece → ℕ → Piece
piece_of ps i = get_or ps i (record { chain = 0; segment = 0; cost = 0 })

-- a combination is a set of active segments, those of one chain all from one of its segments
pub record Combination (ps : List Piece) (m : ℕ) : Type 0 where
  pub below : m < 2 ^ length ps
  pub one : (i j : ℕ) → i < length ps → j < length ps → bit i m ≡ 1 → bit j m ≡ 1 → (piece_of ps i).chain ≡ (piece_of ps j).chain → (piece_of ps i).segment ≡ (piece_of ps j).segment

module _ (b : Row) (l : List Row) where
  -- the overload chains, and their active segments in a row
  abbrev pub marked : List Overload
  marked = overloads b l

  abbrev pub pieces : List Piece
  pieces = pieces_of marked

  -- b's demand beside all others, and with all overload chains' terms dropped
  abbrev pub full : ℕ → ℕ → ℕ
  full = equation b l

  abbrev pub without : ℕ → ℕ → ℕ
  without = equation b (unmarked l)

  -- capacity of each active segment of a chain a: η_a(b's largest distance of k activations + latency) + 1; a bit past the last one's has none
  unfoldable pub capacity_of : ℕ → ℕ → ℕ → ℕ
  capacity_of k latency i =
      η (get_or (map (λ o. o.list) marked) (piece_of pieces i).chain []) (largest b k + latency) + 1 when ltb i (length pieces) else 0

  -- a bad combination: with the set's costs added once, for some q ≤ K its window minus δ(q) exceeds the deadline
  pub record IsBad (close m : ℕ) : Type 0 where
    pub combination : Combination pieces m
    pub q : ℕ
    pub low : 1 ≤ q
    pub high : q ≤ close
    pub t : ℕ
    pub window : Solution (with_cost without (set_cost (members pieces m)) q) t
    pub late : δ (distances b) q + b.deadline < t

  -- one that the sieve calls bad (02, request 6): with the set's costs added once, for some q ≤ K the demand at t = δ(q) + deadline is
  -- above t
  pub record IsCalled (close m : ℕ) : Type 0 where
    pub combination : Combination pieces m
    pub q : ℕ
    pub low : 1 ≤ q
    pub within : q ≤ close
    pub above : δ (distances b) q + b.deadline < with_cost without (set_cost (members pieces m)) q (δ (distances b) q + b.deadline)

  -- before any window: k in 1 to 1,000, no overload chain, a known gap or known largest distances
  pub record MayAsk (k : ℕ) : Type 0 where
    pub low : 1 ≤ k
    pub high : k ≤ max_run
    pub typical : b.overload ≡ 0
    pub known : (1 ≤ b.gap) ⊎ (1 ≤ b.flag)

  -- then the figures of the full analysis
  pub record Figured (k : ℕ) : Type 0 where
    pub asked : MayAsk k
    pub close : ℕ
    pub latency : ℕ
    pub late : ℕ
    pub margin : ℤ
    pub figures : Closes full (distances b) b.deadline close latency late margin

  -- and its last window, B(K)
  abbrev pub last_of : {k : ℕ} → Figured k → ℕ
  last_of f = f.figures.B f.close

  -- no more than 6 active segments
  abbrev pub AtMostSix : Type 0
  AtMostSix = length pieces ≤ max_overloads

  -- no overload chain may start more than once in the last window; no capacity above 40
  module _ {k : ℕ} (f : Figured k) where
    abbrev pub Once : Type 0
    Once = All (λ o. η o.list (last_of f) ≤ 1) marked

    abbrev pub Capped : Type 0
    Capped = (i : ℕ) → i < length pieces → capacity_of k f.latency i ≤ max_capacity

  -- by what makes a combination bad, for q up to K
  module _ (Bad : ℕ → ℕ → Type 0) where
    module _ {k : ℕ} (f : Figured k) where
      -- the empty combination is not bad
      abbrev pub Fine : Type 0
      Fine = Bad f.close 0 → ⊥

      -- the most uses that a packing of the bad combinations has, no active segment beyond its capacity: reached by one, exceeded by none
      pub record Most (uses : ℕ) : Type 0 where
        pub bad : ℕ → Bool
        pub is : (m : ℕ) → Exactly (bad m ≡ true) (Bad f.close m)
        pub most : IsMost bad (capacity_of k f.latency) uses

    -- what each answer says, in document 01's order as document 02, request 3, has changed it
    pub data Says (k : ℕ) : Answer → Type 0 where
      -- k outside 1 to 1,000
      run : (k < 1) ⊎ (max_run < k) → Says k (Err BadRun)
      -- asked of an overload chain
      overload : 1 ≤ k → k ≤ max_run → (b.overload ≡ 0 → ⊥) → Says k (Err OverloadAsked)
      -- asked of a chain with neither: gap 0, or flag 0 (02, request 7)
      unknown : 1 ≤ k → k ≤ max_run → b.overload ≡ 0 → b.gap ≡ 0 → b.flag ≡ 0 → Says k (Err GapUnknown)
      -- a needed window has no solution
      window : MayAsk k → NoWindow full (distances b) → Says k (Err PastHorizon)
      -- no close by activation 1,024
      close : MayAsk k → NoClose full (distances b) → Says k (Err StillOpen)
      -- zero late activations
      none : (f : Figured k) → f.late ≡ 0 → Says k (Ok 0)
      -- over 6 overload active segments
      many : (f : Figured k) → 1 ≤ f.late → (AtMostSix → ⊥) → Says k (Err TooManySegments)
      -- an overload chain may start more than once in the last window
      again : (f : Figured k) → 1 ≤ f.late → AtMostSix → (Once f → ⊥) → Says k (Err StartsAgain)
      -- a capacity above 40
      above : (f : Figured k) → 1 ≤ f.late → AtMostSix → Once f → (Capped f → ⊥) → Says k (Err CapacityAbove)
      -- the empty combination is bad: all of them
      always : (f : Figured k) → 1 ≤ f.late → AtMostSix → Once f → Capped f → Bad f.close 0 → Says k (Ok k)
      -- the smaller of k and the packing figure: late times the most uses that any packing has
      packed : (f : Figured k) (uses : ℕ) → 1 ≤ f.late → AtMostSix → Once f → Capped f → Fine f → Most f uses → Says k (Ok (min k (f.late * uses)))

  -- the miss count, by the bad combinations; and by those that the sieve calls bad
  abbrev pub SaysMissed : ℕ → Answer → Type 0
  SaysMissed k a = Says IsBad k a

  abbrev pub SaysAtMost : ℕ → Answer → Type 0
  SaysAtMost k a = Says IsCalled k a

-- what the report has for the misses: a number up to 10, or `r` and a refusal
abbrev pub LastColumn : List ℕ → Type 0
LastColumn text = ((n : ℕ) × (n ≤ 10) × (text ≡ decimal n)) ⊎ ((n : Refusal) × (text ≡ refusal_text n))

-- a latency answer is what the words say of the chain with the id
abbrev pub MeansOf : List ℕ → ℕ → Latency → Type 0
MeansOf s id a = Means (full (chain_of s id) (others_of s id)) (distances (chain_of s id)) (chain_of s id).deadline a

-- the answers for a chain of an accepted table are those of the words
pub record Right (s : List ℕ) (id : ℕ) : Type 0 where
  pub latency : MeansOf s id (latency_of s id)
  pub misses : (k : ℕ) (a : Answer) → Exactly (misses_of s id k ≡ a) (SaysMissed (chain_of s id) (others_of s id) k a)
