-- A demand as the code holds it, and when it's the demand of a chain b beside others.
use Rattle.std.specs.Prelude.{ℕ, zero, suc, ◌+◌, ◌*◌, ◌-◌, ◌<◌, ◌≤◌, ◌≡◌, List, map, Bool, true, eqb, length, get_or}
use Rattle.std.proofs.Math.Seq.{slice}
use Rattle.search.specs.Lists.{sum_of}
use Rattle.table.specs.Limits.{max_chains, max_deadline, horizon}
use Rattle.table.specs.Record.{list_place, row_at, distances}
use Rattle.table.specs.Find.{rows}
use Rattle.table.specs.Place.{place_of}
use Rattle.table.specs.Read.{table_of}
use Rattle.table.specs.declared.Row.{Row}
use Rattle.table.specs.declared.Table.{Table}
use Rattle.table.specs.Code.Listed.{distances_from, Lists}
use Rattle.table.specs.Code.Taken.{Taken, Stands}
use Rattle.arrivals.specs.Arrivals.{δ, η}
use Rattle.segments.specs.Tasks.{floor_of}
use Rattle.segments.specs.View.{View, view_of}
use Rattle.segments.specs.Code.Held.{dearest}
use Rattle.windows.specs.Demand.{term_of, demand_of, typical, views_of}
use Rattle.windows.specs.Latency.{windows_of, any_over}
use Rattle.windows.specs.declared.Others.{Others}
use Rattle.windows.specs.declared.Others.TheVariants.{All, Typical}
use Rattle.windows.specs.declared.Own.{Own}
use Rattle.windows.specs.declared.Span.{Span}
use Rattle.windows.specs.declared.Term.{Term}
use Rattle.std.specs.declared.result.Result.{Result}
use Rattle.table.specs.declared.refusal.Refusal.{Refusal}
use Rattle.windows.specs.declared.Windows.{Windows}

-- all others together, with a set's cost beside them, cost no more
abbrev pub once_limit : ℕ
once_limit = 2 * max_chains * dearest

-- no demand is worked out for a later t: a window, or an activation that starts in one and is due a deadline later
abbrev pub latest : ℕ
latest = horizon + max_deadline

-- what is held of chains whose η counts: of the i-th its rate, and where its list of distances starts
abbrev pub held_rate : List ℕ → ℕ → ℕ
held_rate held i = get_or held i 0

abbrev pub held_place : List ℕ → ℕ → ℕ
held_place held i = get_or held (max_chains + i) 0

abbrev pub held_at : List ℕ → List ℕ → ℕ → List ℕ
held_at s held i = distances_from s (held_place held i)

-- what the first n of them add in t: η(t) times its rate each
unfoldable pub held_of : List ℕ → List ℕ → ℕ → ℕ → ℕ
held_of s held zero t = 0
held_of s held (suc n) t = held_of s held n t + η (held_at s held n) t * held_rate held n

-- n chains are held: each one's list stands in the bytes, and its rate is no more than a chain costs
pub record Held (s held : List ℕ) (n : ℕ) : Type 0 where
  pub few : n ≤ max_chains
  pub size : length held ≡ 2 * max_chains
  pub lists : (i : ℕ) → i < n → Lists s (held_place held i)
  pub cheap : (i : ℕ) → i < n → held_rate held i ≤ dearest

-- a table's bytes; the chain: the places of its record and of its list, its cost, its own first part, 0 if it's synchronous; what the others add
-- once; and how many are held beside it, and what is held of them
pub record Load : Type 0 where
  pub bytes : List ℕ
  pub at : ℕ
  pub list : ℕ
  pub cost : ℕ
  pub part : ℕ
  pub once : ℕ
  pub count : ℕ
  pub held : List ℕ

abbrev pub load_of : List ℕ → Own → List ℕ → Load
load_of s own held =
    record { bytes = s; at = own.at; list = own.list; cost = own.cost; part = own.part; once = own.once; count = own.count; held = held }

-- the chain, and its distances
abbrev pub row_in : Load → Row
row_in l = row_at l.bytes l.at

abbrev pub own_of : Load → List ℕ
own_of l = distances (row_in l)

-- the demand for q activations in t
unfoldable pub demand_in : Load → ℕ → ℕ → ℕ
demand_in l q t = q * l.cost + (η (own_of l) t - q) * l.part + l.once + held_of l.bytes l.held l.count t

-- what its windows give, and whether one up to `close` is over the deadline
abbrev pub windows_in : Load → Result Windows Refusal
windows_in l = windows_of (demand_in l) (δ (own_of l)) (row_in l).deadline

abbrev pub over_in : Load → ℕ → Bool
over_in l close = any_over (demand_in l) (δ (own_of l)) (row_in l).deadline close

-- its parts are within what a table can hold
pub record Sound (l : Load) : Type 0 where
  pub stands : Stands l.bytes l.at
  pub placed : l.list ≡ list_place l.bytes l.at
  pub some : 1 ≤ l.cost
  pub cheap : l.cost ≤ dearest
  pub part : l.part ≤ l.cost
  pub once : l.once ≤ once_limit
  pub held : Held l.bytes l.held l.count

-- the load with a cost more
abbrev pub dearer : Load → ℕ → Load
dearer l cost =
    record { bytes = l.bytes; at = l.at; list = l.list; cost = l.cost; part = l.part; once = l.once + cost; count = l.count; held = l.held }

-- which others add: all, or those without overload mark; of views, and of the chains of a table
abbrev pub adds_to : Others → ℕ → Bool
adds_to All overload = true
adds_to Typical overload = eqb overload 0

abbrev pub counted : Others → List View → List View
counted All vs = vs
counted Typical vs = typical vs

abbrev pub views_at : Others → Table → ℕ → List View
views_at others t chain = counted others (views_of t chain)

-- of the chains from `from` up to `to`, and of a span of them as the chain at `at` sees it
abbrev pub views_between : Others → Table → Row → ℕ → ℕ → List View
views_between others t b from to = counted others (map (λ a. view_of a b) (slice from to (rows t)))

abbrev pub views_from : Others → List ℕ → ℕ → Span → List View
views_from others s at span = views_between others (table_of s) (row_at s at) span.from span.to

-- what a view adds in t, as η(t) times a rate, and a cost once
pub record Adds (v : View) (x : Term) : Type 0 where
  pub rate : x.rate ≤ dearest
  pub once : x.once ≤ dearest
  pub term : (t : ℕ) → term_of δ v t ≡ η v.list t * x.rate + x.once

-- what is asked for where the chains of a span are to stand beside a load: room for all of them
pub record Joins (s : List ℕ) (span : Span) (floor : ℕ) (own : Own) (held : List ℕ) : Type 0 where
  pub taken : Taken s
  pub start : span.at ≡ place_of (table_of s) span.from
  pub order : span.from ≤ span.to
  pub inside : span.to ≤ (table_of s).count
  pub floor_is : floor ≡ floor_of (row_at s own.at)
  pub sound : Sound (load_of s own held)
  pub few : own.count + (span.to - span.from) ≤ max_chains
  pub room : own.once + (span.to - span.from) * dearest ≤ once_limit

-- r is the load l with the chains of these views beside it
pub record Joined (l : Load) (vs : List View) (r : Load) : Type 0 where
  pub sound : Sound r
  pub bytes : r.bytes ≡ l.bytes
  pub at : r.at ≡ l.at
  pub count : r.count ≤ l.count + length vs
  pub once : r.once ≤ l.once + length vs * dearest
  pub demand : (q t : ℕ) → demand_in r q t ≡ demand_in l q t + sum_of (λ v. term_of δ v t) vs

-- l is the load of b beside the chains of these views
pub record Loads (b : Row) (vs : List View) (l : Load) : Type 0 where
  pub sound : Sound l
  pub chain : row_in l ≡ b
  pub count : l.count ≤ length vs
  pub once : l.once ≤ length vs * dearest
  pub demand : (q t : ℕ) → demand_in l q t ≡ demand_of δ b vs q t
