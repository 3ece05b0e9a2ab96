-- The demand equation of document 01, 'Windows', in its own words: over the rows of a chain b and of the other chains.
use Rattle.std.specs.Prelude.{ℕ, ◌+◌, ◌*◌, ◌-◌, List, [], ◌∷◌, eqb}
use Rattle.search.specs.Choice.{◌when◌else◌}
use Rattle.search.specs.Lists.{sum_of, most_of}
use Rattle.table.specs.Record.{distances}
use Rattle.table.specs.declared.Row.{Row}
use Rattle.arrivals.specs.Arrivals.{η}
use Rattle.segments.specs.Tasks.{cost_of, chain_cost, deferred, first_cost, own_part}
use Rattle.segments.specs.Segments.{segments_of}

-- what another chain a adds in t: deferred asynchronous, η(t) times first-segment cost plus all segment costs once; deferred
-- synchronous, its dearest segment once (0 if none); freely interfering, η(t) times its cost
unfoldable pub added : Row → Row → ℕ → ℕ
added b a t =
    (η (distances a) t * first_cost a b + sum_of cost_of (segments_of a b) when eqb a.kind 1 else most_of cost_of (segments_of a b))
    when deferred a b else
    η (distances a) t * chain_cost a

-- what t has to equal for q activations of b beside the chains l: q times b's cost; if b is asynchronous, plus max(0, η_b(t) − q) times
-- its own first part; plus what every chain of l adds
unfoldable pub equation : Row → List Row → ℕ → ℕ → ℕ
equation b l q t =
    q * chain_cost b + (η (distances b) t - q) * (own_part b when eqb b.kind 1 else 0) + sum_of (λ a. added b a t) l

-- the chains without overload mark
unfoldable pub unmarked : List Row → List Row
unmarked [] = []
unmarked (a ∷ l) = a ∷ unmarked l when eqb a.overload 0 else unmarked l
