-- Tasks regrouped within an active segment leave every segment's active-segment costs as they were. Assumes nothing.
use Prim.Native.Nat.{ℕ, ◌+◌, ◌≤◌}
use mathlib.Core.Path.{◌≡◌, refl, ap, ap₂, sym, ◌∙◌}
use mathlib.Core.Bool.{Bool, true, false, not, ◌&&◌, ◌||◌}
use mathlib.Core.List.{List, [], ◌∷◌, ◌++◌, map, map-append}
use native.Mathlib.Omega.{arith}
use lib.Dec.{ltb}
use borrow.Author.Tests.{le-ltb}
use Rattle.search.specs.Choice.{◌when◌else◌}
use Rattle.search.specs.Lists.{sum_of, some}
use Rattle.search.proofs.Choice.{when_no}
use Rattle.table.specs.declared.Row.{Row}
use Rattle.segments.specs.Tasks.{Task, tasks_of, cost_of, floor_of, tail_of, below, before, deferred, first_cost}
use Rattle.segments.specs.Segments.{◌on◌, stretches, around, nonempty, cuts, parts, cut_segments, cut_segments_of}
use Rattle.segments.proofs.Lists.{around-map}
use Rattle.segments.proofs.Order.{costs}
use Rattle.segments.proofs.Renaming.{full-costs}
use Rattle.demands.specs.Others.{Uncut, Regrouped, RegroupedTasks}

-- a task of the cost c in front of stretches, each as its active-segment costs: in the first one's first active segment, or as one of its own
put : ℕ → Bool → List (List ℕ) → List (List ℕ)
put c joins [] = (c ∷ []) ∷ []
put c joins ([] ∷ r) = (c ∷ []) ∷ r
put c true ((x ∷ l) ∷ r) = ((c + x) ∷ l) ∷ r
put c false ((x ∷ l) ∷ r) = (c ∷ x ∷ l) ∷ r

-- two such tasks are one
put-put : (a c : ℕ) (joins : Bool) (ls : List (List ℕ)) → put (a + c) joins ls ≡ put a true (put c joins ls)
unfolding put
put-put a c joins [] = refl
put-put a c joins ([] ∷ r) = refl
put-put a c true ((x ∷ l) ∷ r) = ap (λ n. (n ∷ l) ∷ r) (omega arith)
put-put a c false ((x ∷ l) ∷ r) = refl

module _ (floor tail : ℕ) where
  -- the next task is of the same active segment
  joined : List Task → Bool
  joined [] = false
  joined (t ∷ ts) = not (below floor t) && not (below tail t)

  -- the stretches' active-segment costs, task by task
  costed : List Task → List (List ℕ)
  costed [] = [] ∷ []
  costed (t ∷ ts) = [] ∷ costed ts when below floor t else put t.cost (joined ts) (costed ts)

  abbrev costs_of : List (List Task) → List (List ℕ)
  costs_of ss = costs (map (cuts (below tail)) ss)

  -- a task alone in the first stretch
  alone : (t : Task) (r : List (List Task)) → costs_of ((t ∷ []) ∷ r) ≡ put t.cost false (costs_of ([] ∷ r))
  unfolding cuts put sum_of
  alone t r = ap (λ n. (n ∷ []) ∷ costs_of r) (omega arith)

  -- a task before one of the same stretch
  before-other : (t u : Task) (s : List Task) (r : List (List Task))
      → costs_of ((t ∷ u ∷ s) ∷ r) ≡ put t.cost (not (below tail u)) (costs_of ((u ∷ s) ∷ r))
  unfolding cuts put sum_of ◌when◌else◌
  before-other t u s r = go (below tail u) (cuts (below tail) (u ∷ s))
    where
      go : (b : Bool) (l : List (List Task)) → map cost_of ((t ∷ []) ∷ l when b else t on l) ∷ costs_of r ≡ put t.cost (not b) (map cost_of l ∷ costs_of r)
      go true [] = ap (λ n. (n ∷ []) ∷ costs_of r) (omega arith)
      go true (x ∷ l) = ap (λ n. (n ∷ map cost_of (x ∷ l)) ∷ costs_of r) (omega arith)
      go false [] = ap (λ n. (n ∷ []) ∷ costs_of r) (omega arith)
      go false (x ∷ l) = refl

  -- a task that starts a stretch, before whatever follows
  in_front : (t : Task) (ts : List Task) → costs_of (t on stretches (below floor) ts) ≡ put t.cost (joined ts) (costs_of (stretches (below floor) ts))
  unfolding stretches joined cuts put ◌when◌else◌
  in_front t [] = alone t []
  in_front t (u ∷ ts) = go (below floor u) (stretches (below floor) ts)
    where
      go : (b : Bool) (ss : List (List Task)) → costs_of (t on ([] ∷ ss when b else u on ss)) ≡ put t.cost (not b && not (below tail u)) (costs_of ([] ∷ ss when b else u on ss))
      go true ss = alone t ss
      go false [] = before-other t u [] []
      go false (s ∷ ss) = before-other t u s ss

  parts-costed : (ts : List Task) → costs_of (stretches (below floor) ts) ≡ costed ts
  unfolding stretches costed cuts ◌when◌else◌
  parts-costed [] = refl
  parts-costed (t ∷ ts) = go (below floor t) (parts-costed ts)
    where
      go : (b : Bool) → costs_of (stretches (below floor) ts) ≡ costed ts
          → costs_of ([] ∷ stretches (below floor) ts when b else t on stretches (below floor) ts) ≡ ([] ∷ costed ts when b else put t.cost (joined ts) (costed ts))
      go true e = ap (λ r. [] ∷ r) e
      go false e = in_front t ts ∙ ap (put t.cost (joined ts)) e

  high : (t : Task) → floor ≤ t.priority → below floor t ≡ false
  high t h = le-ltb t.priority floor h

  -- tasks that no cut parts count as one, before whatever follows
  run-costed : (t : Task) (us xs : List Task) → Uncut floor tail t us → costed (t ∷ (us ++ xs)) ≡ put (cost_of (t ∷ us)) (joined xs) (costed xs)
  unfolding costed joined sum_of
  run-costed t [] xs h = when_no _ _ (high t h.first) ∙ ap (λ n. put n (joined xs) (costed xs)) (omega arith)
  run-costed t (u ∷ us) xs h =
      let v = h.rest.0 in
      let joins : joined (u ∷ (us ++ xs)) ≡ true = ap₂ (λ p q. not p && not q) (high u v.0) (le-ltb u.priority tail v.1) in
      when_no _ _ (high t h.first) ∙ ap₂ (put t.cost) joins (run-costed u us xs (record { first = v.0; rest = h.rest.1 }))
      ∙ sym (put-put t.cost (cost_of (u ∷ us)) (joined xs) (costed xs))

  run-some : (t : Task) (us xs : List Task) → Uncut floor tail t us → some (below floor) (t ∷ (us ++ xs)) ≡ some (below floor) xs
  unfolding some
  run-some t [] xs h = rw (high t h.first)
  run-some t (u ∷ us) xs h = rw (high t h.first) (run-some u us xs (record { first = h.rest.0.0; rest = h.rest.1 }))

  run-before : (t : Task) (us xs : List Task) → Uncut floor tail t us → cost_of (before (below floor) (t ∷ (us ++ xs))) ≡ cost_of (t ∷ us) + cost_of (before (below floor) xs)
  unfolding before sum_of ◌when◌else◌
  run-before t [] xs h = rw (high t h.first) (omega arith)
  run-before t (u ∷ us) xs h = rw (high t h.first) (omega (arith, run-before u us xs (record { first = h.rest.0.0; rest = h.rest.1 })))

  -- regrouped tasks: as joined, as costed, as deferred, with the same first cost
  grouped_joined : {xs ys : List Task} → Regrouped floor tail xs ys → joined xs ≡ joined ys
  unfolding joined
  grouped_joined Regrouped.none = refl
  grouped_joined (Regrouped.kept e c s) = ap (λ p. not (ltb p floor) && not (ltb p tail)) e
  grouped_joined (Regrouped.group {x} {y} g h e c s) = ap₂ (λ p q. not p && not q) (high x g.first ∙ sym (high y h.first)) e

  grouped_costed : {xs ys : List Task} → Regrouped floor tail xs ys → costed xs ≡ costed ys
  unfolding costed
  grouped_costed Regrouped.none = refl
  grouped_costed (Regrouped.kept {x} {y} {xs} {ys} e c s) = rw (grouped_costed s, grouped_joined s, e, c)
  grouped_costed (Regrouped.group {x} {y} {us} {vs} {xs} {ys} g h e c s) =
      run-costed x us xs g ∙ ap (λ n. put n (joined xs) (costed xs)) c ∙ ap₂ (put (cost_of (y ∷ vs))) (grouped_joined s) (grouped_costed s)
      ∙ sym (run-costed y vs ys h)

  grouped_some : {xs ys : List Task} → Regrouped floor tail xs ys → some (below floor) xs ≡ some (below floor) ys
  unfolding some
  grouped_some Regrouped.none = refl
  grouped_some (Regrouped.kept e c s) = ap₂ (λ p r. ltb p floor || r) e (grouped_some s)
  grouped_some (Regrouped.group {x} {y} {us} {vs} {xs} {ys} g h e c s) = run-some x us xs g ∙ grouped_some s ∙ sym (run-some y vs ys h)

  grouped_before : {xs ys : List Task} → Regrouped floor tail xs ys → cost_of (before (below floor) xs) ≡ cost_of (before (below floor) ys)
  unfolding before sum_of ◌when◌else◌
  grouped_before Regrouped.none = refl
  grouped_before (Regrouped.kept {x} {y} {xs} {ys} e c s) =
      ap (λ p. cost_of ([] when ltb p floor else x ∷ before (below floor) xs)) e ∙ go (ltb y.priority floor) (grouped_before s)
    where
      go : (b : Bool) → cost_of (before (below floor) xs) ≡ cost_of (before (below floor) ys) → cost_of ([] when b else x ∷ before (below floor) xs) ≡ cost_of ([] when b else y ∷ before (below floor) ys)
      go true r = refl
      go false r = ap₂ ◌+◌ c r
  grouped_before (Regrouped.group {x} {y} {us} {vs} {xs} {ys} g h e c s) = omega (arith, run-before x us xs g, run-before y vs ys h, c, grouped_before s)

  -- the active-segment costs of the segments go by what the stretches cost
  segments-costed : (ts : List Task) → costs (cut_segments floor tail ts) ≡ nonempty (around ◌++◌ (costed ts))
  unfolding cut_segments parts
  segments-costed ts =
      let ps = parts floor tail ts in
      full-costs (around ◌++◌ ps) ∙ ap nonempty (around-map ◌++◌ ◌++◌ (map cost_of) (map-append cost_of) ps ∙ ap (around ◌++◌) (parts-costed ts))

-- so they have the same active-segment costs, segment by segment, and are as deferred, with the same first-segment cost
module _ (b a c : Row) (h : RegroupedTasks b a c) where
  pub grouped_actives : map (map cost_of) (cut_segments_of a b) ≡ map (map cost_of) (cut_segments_of c b)
  grouped_actives =
      segments-costed (floor_of b) (tail_of b) (tasks_of a)
      ∙ ap (λ l. nonempty (around ◌++◌ l)) (grouped_costed (floor_of b) (tail_of b) h.tasks)
      ∙ sym (segments-costed (floor_of b) (tail_of b) (tasks_of c))

  pub grouped_defers : deferred a b ≡ deferred c b
  grouped_defers = grouped_some (floor_of b) (tail_of b) h.tasks

  pub grouped_first : first_cost a b ≡ first_cost c b
  grouped_first = grouped_before (floor_of b) (tail_of b) h.tasks
