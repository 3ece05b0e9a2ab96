-- The sieve (02, request 6): the sufficient test of document 000, section V.C, in the place of the windows. It may call a good combination
-- bad, never the reverse, so what it answers is no miss count, and is an answer of its own: at most so many.
use Rattle.std.specs.Prelude.{ℕ, Bool, List, [], ◌∷◌}
use Rattle.table.specs.Record.{distances}
use Rattle.arrivals.specs.Arrivals.{δ}
use Rattle.windows.specs.Demand.{demand_of, typical}
use Rattle.windows.specs.Sieve.{any_above}
use Rattle.misses.specs.Bad.{with_cost, Test}
use Rattle.std.specs.declared.result.Result.{Result}
use Rattle.std.specs.declared.result.Result.TheVariants.{Ok, Err}
use Rattle.table.specs.declared.refusal.Refusal.{Refusal}
use Rattle.misses.specs.Misses.{Answer, tested_of}
use Rattle.misses.specs.declared.AtMost.{AtMost}

-- a set that costs so much is called bad: for some q ≤ K, which is `close`, the demand at t = δ(q) + deadline plus its costs is above t
unfoldable pub called : (ℕ → ℕ → ℕ) → (ℕ → ℕ) → ℕ → ℕ → ℕ → Bool
called demand distance deadline close cost = any_above (with_cost demand cost) distance deadline close

-- as a test of costs: overload chains are left out of the demand
abbrev pub by_sieve : Test
by_sieve b views close cost = called (demand_of δ b (typical views)) (δ (distances b)) b.deadline close cost

-- an answer by the sieve, told as such
abbrev pub as_sieved : Answer → Result AtMost Refusal
as_sieved (Ok n) = Ok (record { most = n })
as_sieved (Err n) = Err n

-- what the sieve answers: the miss query, K, late, capacities and refusals included, with this test
unfoldable pub at_most_of : List ℕ → ℕ → ℕ → Result AtMost Refusal
at_most_of s id k = as_sieved (tested_of δ by_sieve s id k)

-- its value: how many deadlines are missed at most, or none
abbrev pub values_of : Result AtMost Refusal → List ℕ
values_of (Ok a) = a.most ∷ []
values_of (Err n) = []
