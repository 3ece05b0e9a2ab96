-- How large the figures of a chain can be, and how many active segments it has. Assumes nothing.
use Prim.Native.Nat.{ℕ, zero, suc, ◌+◌, ◌*◌, ◌-◌, ◌<◌, ◌≤◌}
use native.Mathlib.Omega.{arith}
use native.Mathlib.Nat.{eq-or-lt_of_le}
use mathlib.Core.Path.{◌≡◌, refl, ap, sym, subst, ◌∙◌}
use mathlib.Core.Logic.{⊎_elim}
use mathlib.Core.List.{List, [], ◌∷◌, map, flatten}
use mathlib.Core.Bool.{Bool, true, false, ◌||◌}
use borrow.Author.Tests.{eq-eqb}
use lib.ListN.{length}
use Rattle.search.specs.Choice.{◌when◌else◌}
use Rattle.search.specs.Lists.{sum_of, most_of, All, some}
use Rattle.search.proofs.Lists.{sum_ext}
use Rattle.table.specs.Limits.{max_tasks, max_cost}
use Rattle.table.specs.Code.Good.{GoodRow}
use Rattle.table.specs.declared.Row.{Row}
use Rattle.segments.specs.Tasks.{Task, tasks_from, tasks_of, cost_of, chain_cost, floor_of, tail_of, below, at_level, before, first_cost, own_part}
use Rattle.segments.specs.Segments.{◌on◌, stretches, cuts, parts, segments_of}
use Rattle.segments.specs.Actives.{Active, active, in_order, actives, actives_of}
use Rattle.segments.proofs.Steps.{task, rest-each, rest-length, cheap}
use Rattle.segments.proofs.Levels.{lowest_hit}
use Rattle.segments.proofs.Lists.{sum_ones, each-sum, most-sum, sum-map, sum-flatten}
use Rattle.segments.proofs.Stretches.{cuts-flatten}
use Rattle.segments.proofs.Costing.{kept, stretches-cost, all-kept}
use Rattle.segments.proofs.Standing.{order-map}

module _ (p : Task → Bool) where
  first-kept : (ts : List Task) → cost_of (before p ts) ≤ kept p ts
  unfolding before sum_of ◌when◌else◌
  first-kept [] = omega arith
  first-kept (t ∷ ts) = go (p t) (first-kept ts)
    where
      go : (b : Bool) → cost_of (before p ts) ≤ kept p ts → cost_of ([] when b else t ∷ before p ts) ≤ (0 when b else t.cost) + kept p ts
      go true h = omega arith
      go false h = omega arith

  kept-chain : (ts : List Task) → kept p ts ≤ cost_of ts
  unfolding sum_of ◌when◌else◌
  kept-chain [] = omega arith
  kept-chain (t ∷ ts) = go (p t) (kept-chain ts)
    where
      go : (b : Bool) → kept p ts ≤ cost_of ts → (0 when b else t.cost) + kept p ts ≤ t.cost + cost_of ts
      go true h = omega arith
      go false h = omega arith

  -- where some task passes, those before the first that does cost less than all
  before-less : (ts : List Task) → some p ts ≡ true → All (λ t. 1 ≤ t.cost) ts → cost_of (before p ts) < cost_of ts
  unfolding some before sum_of ◌when◌else◌
  before-less [] s h = let z : ◌≡◌ {A = ℕ} 0 1 = cc in absurd (omega arith)
  before-less (t ∷ ts) s h = go (p t) s (before-less ts)
    where
      go : (b : Bool) → b || some p ts ≡ true → (some p ts ≡ true → All (λ u. 1 ≤ u.cost) ts → cost_of (before p ts) < cost_of ts)
          → cost_of ([] when b else t ∷ before p ts) < t.cost + cost_of ts
      go true e r = omega (arith, h.0)
      go false e r = omega (arith, r e h.1)

  some_at : (ps cs : List ℕ) (n from j : ℕ) → from ≤ j → j < from + n → p (task ps cs j) ≡ true → some p (tasks_from ps cs n from) ≡ true
  unfolding some tasks_from
  some_at ps cs zero from j l h e = absurd (omega arith)
  some_at ps cs (suc n) from j l h e = ⊎_elim
      (λ q. ap (λ b. b || some p (tasks_from ps cs n (from + 1))) (ap (λ i. p (task ps cs i)) q ∙ e))
      (λ q. ap (λ b. p (task ps cs from) || b) (some_at ps cs n (from + 1) j (omega arith) (omega arith) e) ∙ or-true (p (task ps cs from)))
      (eq-or-lt_of_le l)
    where
      or-true : (b : Bool) → b || true ≡ true
      or-true true = refl
      or-true false = refl

module _ (a b : Row) where
  pub dearest-all : most_of cost_of (segments_of a b) ≤ sum_of cost_of (segments_of a b)
  dearest-all = most-sum cost_of (segments_of a b)

  pub first-all : first_cost a b ≤ sum_of cost_of (segments_of a b)
  first-all = omega (arith, first-kept (below (floor_of b)) (tasks_of a), all-kept (floor_of b) (tasks_of a))

  pub all-chain : sum_of cost_of (segments_of a b) ≤ chain_cost a
  all-chain = omega (arith, kept-chain (below (floor_of b)) (tasks_of a), all-kept (floor_of b) (tasks_of a))

module _ (a : Row) (good : GoodRow a) where
  pub chain-max : chain_cost a ≤ max_tasks * max_cost
  chain-max =
      let each = rest-each (λ t. t.cost ≤ max_cost) a.priority a.cost a.tasks 0 (λ j l. good.tasks.costs_max j) in
      omega (arith, cheap (tasks_of a) each, rest-length a.priority a.cost a.tasks 0, good.tasks.few)

  pub all-max : (b : Row) → sum_of cost_of (segments_of a b) ≤ max_tasks * max_cost
  all-max b = omega (arith, all-chain a b, chain-max)

  -- a task stands at the floor, and costs something
  pub own-less : own_part a < chain_cost a
  own-less =
      let hit = lowest_hit a.priority (a.tasks - 1) in
      before-less (at_level (floor_of a)) (tasks_of a)
      (some_at (at_level (floor_of a)) a.priority a.cost a.tasks 0 hit.0 (omega arith) (omega (arith, hit.1, good.tasks.some)) (eq-eqb _ _ hit.2))
      (rest-each (λ t. 1 ≤ t.cost) a.priority a.cost a.tasks 0 (λ j l. good.tasks.costs j (omega arith)))

-- no more active segments than tasks
cuts-few : (p : Task → Bool) (s : List Task) → length (cuts p s) ≤ length s
unfolding cuts ◌when◌else◌
cuts-few p [] = omega arith
cuts-few p (t ∷ []) = omega arith
cuts-few p (t ∷ u ∷ s) = go (p u) (cuts p (u ∷ s)) (cuts-few p (u ∷ s))
  where
    go : (b : Bool) (ls : List (List Task)) → length ls ≤ suc (length s) → length ((t ∷ []) ∷ ls when b else t on ls) ≤ suc (suc (length s))
    go true ls h = omega arith
    go false [] h = omega arith
    go false (l ∷ ls) h = omega arith

parts-few : (p : Task → Bool) (ss : List (List Task)) → sum_of length (map (cuts p) ss) ≤ sum_of length ss
unfolding sum_of
parts-few p [] = omega arith
parts-few p (s ∷ ss) = omega (arith, cuts-few p s, parts-few p ss)

stretches-few : (p : Task → Bool) (ts : List Task) → sum_of length (stretches p ts) ≤ length ts
unfolding stretches sum_of ◌when◌else◌
stretches-few p [] = omega arith
stretches-few p (t ∷ ts) = go (p t) (stretches p ts) (stretches-few p ts)
  where
    go : (b : Bool) (ss : List (List Task)) → sum_of length ss ≤ length ts → sum_of length ([] ∷ ss when b else t on ss) ≤ suc (length ts)
    go true ss h = omega arith
    go false [] h = omega arith
    go false (s ∷ ss) h = omega arith

-- the active segments by number sum to what those of the stretches do
order-sum : (f : List Task → ℕ) (g : Active → ℕ) → ((j : ℕ) (l : List Task) → g (active j l) ≡ f l) → (ps : List (List (List Task))) → sum_of g (in_order ps) ≡ sum_of (sum_of f) ps
order-sum f g same ps =
    sym (sum-map g (λ n. n) (in_order ps)) ∙ ap (sum_of (λ n. n)) (order-map g f same ps) ∙ sum-map f (λ n. n) (flatten ps) ∙ sum-flatten f ps

order-length : (ps : List (List (List Task))) → length (in_order ps) ≡ sum_of length ps
order-length ps =
    sym (sum_ones (in_order ps)) ∙ order-sum (λ l. 1) (λ a. 1) (λ j l. refl) ps ∙ sum_ext (sum_of (λ l. 1)) length ps sum_ones

parts-cost : (p : Task → Bool) (ss : List (List Task)) → sum_of (sum_of cost_of) (map (cuts p) ss) ≡ sum_of cost_of ss
parts-cost p ss =
    sum-map (cuts p) (sum_of cost_of) ss
    ∙ sum_ext _ cost_of ss (λ s. sym (sum-flatten (λ t. t.cost) (cuts p s)) ∙ ap cost_of (cuts-flatten p s))

module _ (a : Row) (floor tail : ℕ) where
  pub actives-tasks : length (actives floor tail (tasks_of a)) ≤ a.tasks
  unfolding actives parts
  actives-tasks =
      let ss = stretches (below floor) (tasks_of a) in
      omega (arith, order-length (map (cuts (below tail)) ss), parts-few (below tail) ss, stretches-few (below floor) (tasks_of a), rest-length a.priority a.cost a.tasks 0)

  pub actives-few : GoodRow a → length (actives floor tail (tasks_of a)) ≤ max_tasks
  actives-few good = omega (arith, actives-tasks, good.tasks.few)

module _ (a b : Row) where
  -- all active segments together cost what all segments cost, and each no more than that
  pub actives-cost : sum_of (λ s. s.cost) (actives_of a b) ≡ sum_of cost_of (segments_of a b)
  unfolding actives parts
  actives-cost =
      let ss = stretches (below (floor_of b)) (tasks_of a) in
      order-sum cost_of (λ s. s.cost) (λ j l. refl) (map (cuts (below (tail_of b))) ss)
      ∙ parts-cost (below (tail_of b)) ss ∙ stretches-cost (below (floor_of b)) (tasks_of a) ∙ sym (all-kept (floor_of b) (tasks_of a))

  pub actives-each : All (λ s. s.cost ≤ sum_of cost_of (segments_of a b)) (actives_of a b)
  actives-each = subst (λ n. All (λ s. s.cost ≤ n) (actives_of a b)) actives-cost (each-sum (λ s. s.cost) (actives_of a b))
