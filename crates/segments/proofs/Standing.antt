-- An active segment is contiguous: its tasks follow one another in the chain, inside it. Assumes nothing.
use Prim.Native.Nat.{ℕ, zero, suc, ◌+◌, ◌-◌, ◌<◌, ◌≤◌}
use native.Mathlib.Omega.{arith}
use mathlib.Core.Path.{◌≡◌, refl, ap, ap₂, sym, subst, ◌∙◌}
use mathlib.Core.List.{List, [], ◌∷◌, ◌++◌, map, map-append, flatten}
use mathlib.Core.Bool.{Bool, true, false}
use lib.ListN.{length, get_or, replicate, length-map, get_or-append, get_or-map}
use Rattle.search.specs.Choice.{◌when◌else◌}
use Rattle.search.specs.Lists.{All}
use Rattle.search.proofs.Lists.{all_append, all_map}
use Rattle.table.specs.Limits.{max_tasks}
use Rattle.table.specs.Record.{pad}
use Rattle.table.specs.declared.Row.{Row}
use Rattle.segments.specs.Tasks.{Task, tasks_from, tasks_of, floor_of, tail_of, below}
use Rattle.segments.specs.Segments.{◌on◌, stretches, cuts, parts, active_tasks}
use Rattle.segments.specs.Actives.{Active, start_of, active, numbered, in_order, actives, actives_of, nothing}
use Rattle.segments.proofs.Steps.{task}

-- tasks that follow one another in the row a, inside it
pub record Contiguous (a : Row) (l : List Task) : Type 0 where
  pub are : l ≡ tasks_from a.priority a.cost (length l) (start_of l)
  pub inside : start_of l + length l ≤ a.tasks

module _ (ps cs : List ℕ) (n : ℕ) where
  -- the tasks l follow one another from the place i on, inside the chain
  record Follow (i : ℕ) (l : List Task) : Type 0 where
    are : l ≡ tasks_from ps cs (length l) i
    inside : i + length l ≤ n

  abbrev Somewhere : List Task → Type 0
  Somewhere l = (i : ℕ) × Follow i l

  -- the first of some lists follows from i on, and each other from somewhere
  abbrev Lined : ℕ → List (List Task) → Type 0
  Lined i [] = Unit {0}
  Lined i (l ∷ ls) = Follow i l × All Somewhere ls

  apart : (i : ℕ) (ls : List (List Task)) → Lined i ls → All Somewhere ls
  apart i [] h = tt
  apart i (l ∷ ls) h = ((i, h.0), h.1)

  none : (i : ℕ) → i ≤ n → Follow i []
  unfolding tasks_from
  none i h = record { are = refl; inside = omega arith }

  one : (i : ℕ) (l : List Task) → i < n → Follow (i + 1) l → Follow i (task ps cs i ∷ l)
  unfolding tasks_from
  one i l h f = record { are = ap (λ r. task ps cs i ∷ r) f.are; inside = omega (arith, f.inside) }

  lined_on : (i : ℕ) (ls : List (List Task)) → i < n → Lined (i + 1) ls → Lined i (task ps cs i on ls)
  lined_on i [] h f = (one i [] h (none (i + 1) (omega arith)), tt)
  lined_on i (l ∷ ls) h f = (one i l h f.0, f.1)

  stretches_lined : (p : Task → Bool) (m i : ℕ) → i + m ≡ n → Lined i (stretches p (tasks_from ps cs m i))
  unfolding stretches tasks_from ◌when◌else◌
  stretches_lined p zero i h = (none i (omega arith), tt)
  stretches_lined p (suc m) i h = go (p (task ps cs i)) (stretches_lined p m (i + 1) (omega arith))
    where
      rest : List (List Task)
      rest = stretches p (tasks_from ps cs m (i + 1))

      go : (b : Bool) → Lined (i + 1) rest → Lined i ([] ∷ rest when b else task ps cs i on rest)
      go true r = (none i (omega arith), apart (i + 1) rest r)
      go false r = lined_on i rest (omega arith) r

  cuts_lined : (p : Task → Bool) (m i : ℕ) → i + m ≤ n → Lined i (cuts p (tasks_from ps cs m i))
  unfolding cuts tasks_from ◌when◌else◌
  cuts_lined p zero i h = tt
  cuts_lined p (suc zero) i h = (one i [] (omega arith) (none (i + 1) (omega arith)), tt)
  cuts_lined p (suc (suc m)) i h = go (p (task ps cs (i + 1))) (cuts_lined p (suc m) (i + 1) (omega arith))
    where
      rest : List (List Task)
      rest = cuts p (tasks_from ps cs (suc m) (i + 1))

      go : (b : Bool) → Lined (i + 1) rest → Lined i ((task ps cs i ∷ []) ∷ rest when b else task ps cs i on rest)
      go true r = (one i [] (omega arith) (none (i + 1) (omega arith)), apart (i + 1) rest r)
      go false r = lined_on i rest (omega arith) r

  cut-each : (p : Task → Bool) (ss : List (List Task)) → All Somewhere ss → All (All Somewhere) (map (cuts p) ss)
  cut-each p [] h = tt
  cut-each p (s ∷ ss) h =
      let i = h.0.0 in
      let f = h.0.1 in
      let c : All Somewhere (cuts p (tasks_from ps cs (length s) i)) = apart i (cuts p (tasks_from ps cs (length s) i)) (cuts_lined p (length s) i f.inside) in
      (subst (λ l. All Somewhere (cuts p l)) (sym f.are) c, cut-each p ss h.1)

-- each of the lists in a list
all-flatten : {A : Type 0} (P : A → Type 0) (ls : List (List A)) → All (All P) ls → All P (flatten ls)
unfolding flatten
all-flatten P [] h = tt
all-flatten P (l ∷ ls) h = all_append P l (flatten ls) h.0 (all-flatten P ls h.1)

-- each of a list, by its place in it, and what stands for those past its end
all-at : {A : Type 0} (P : A → Type 0) (l : List A) (i : ℕ) (d : A) → All P l → P d → P (get_or l i d)
all-at P [] i d h e = e
all-at P (a ∷ l) zero d h e = h.0
all-at P (a ∷ l) (suc i) d h e = all-at P l i d h.1 e

-- an active segment's tasks follow one another
pub active_contiguous : (a b : Row) (i : ℕ) → Contiguous a (get_or (active_tasks a b) i [])
unfolding parts start_of tasks_from
active_contiguous a b i =
    all-at (Contiguous a) (active_tasks a b) i []
    (all_map (λ l h. is l h.0 h.1) (active_tasks a b) (all-flatten (Somewhere a.priority a.cost a.tasks) (parts (floor_of b) (tail_of b) (tasks_of a)) follow))
    (record { are = refl; inside = omega arith })
  where
    ss : List (List Task)
    ss = stretches (below (floor_of b)) (tasks_of a)

    follow : All (All (Somewhere a.priority a.cost a.tasks)) (map (cuts (below (tail_of b))) ss)
    follow =
        cut-each a.priority a.cost a.tasks (below (tail_of b)) ss
        (apart a.priority a.cost a.tasks 0 ss (stretches_lined a.priority a.cost a.tasks (below (floor_of b)) a.tasks 0 (omega arith)))

    is : (l : List Task) (from : ℕ) → Follow a.priority a.cost a.tasks from l → Contiguous a l
    is [] from f = record { are = refl; inside = omega arith }
    is (t ∷ l) from f =
        let e : t.place ≡ from = ap start_of f.are in
        record { are = f.are ∙ ap (tasks_from a.priority a.cost (suc (length l))) (sym e); inside = omega (arith, f.inside) }

-- the active segments by number are these, one by one
module _ {A : Type 0} (f : Active → A) (g : List Task → A) (same : (j : ℕ) (l : List Task) → f (active j l) ≡ g l) where
  active-map : (j : ℕ) (p : List (List Task)) → map f (map (active j) p) ≡ map g p
  active-map j [] = refl
  active-map j (l ∷ p) = ap₂ ◌∷◌ (same j l) (active-map j p)

  one_more : (j : ℕ) (p : List (List Task)) (r : List Active) (ls : List (List Task)) → map f r ≡ map g ls → map f (map (active j) p ++ r) ≡ map g (p ++ ls)
  one_more j p r ls e = map-append f (map (active j) p) r ∙ ap₂ ◌++◌ (active-map j p) e ∙ sym (map-append g p ls)

  numbered-map : (j : ℕ) (ps : List (List (List Task))) → map f (numbered j ps) ≡ map g (flatten ps)
  unfolding numbered flatten
  numbered-map j [] = refl
  numbered-map j (p ∷ ps) = one_more j p (numbered (j + 1) ps) (flatten ps) (numbered-map (j + 1) ps)

  pub order-map : (ps : List (List (List Task))) → map f (in_order ps) ≡ map g (flatten ps)
  unfolding in_order flatten
  order-map [] = refl
  order-map (p ∷ ps) = one_more (length ps) p (numbered 1 ps) (flatten ps) (numbered-map 1 ps)

  pub actives-map : (a b : Row) → map f (actives_of a b) ≡ map g (active_tasks a b)
  unfolding actives
  actives-map a b = order-map (parts (floor_of b) (tail_of b) (tasks_of a))

module _ (a b : Row) where
  pub actives-length : length (actives_of a b) ≡ length (active_tasks a b)
  actives-length = sym (length-map (actives_of a b) (λ s. s.len)) ∙ ap length (actives-map (λ s. s.len) length (λ j l. refl) a b) ∙ length-map (active_tasks a b) length

  pub active-start : (i : ℕ) → (get_or (actives_of a b) i nothing).start ≡ start_of (get_or (active_tasks a b) i [])
  unfolding start_of
  active-start i =
      sym (get_or-map (λ s. s.start) (actives_of a b) i nothing) ∙ ap (λ l. get_or l i 0) (actives-map (λ s. s.start) start_of (λ j l. refl) a b)
      ∙ get_or-map start_of (active_tasks a b) i []

  pub active-length : (i : ℕ) → (get_or (actives_of a b) i nothing).len ≡ length (get_or (active_tasks a b) i [])
  active-length i =
      sym (get_or-map (λ s. s.len) (actives_of a b) i nothing) ∙ ap (λ l. get_or l i 0) (actives-map (λ s. s.len) length (λ j l. refl) a b)
      ∙ get_or-map length (active_tasks a b) i []

-- a number out of the arrays that hold the list
pub array_at : (f : Active → ℕ) (l : List Active) (i : ℕ) → i < length l → get_or (pad max_tasks (map f l)) i 0 ≡ f (get_or l i nothing)
array_at f l i h = get_or-append (map f l) (replicate (max_tasks - length (map f l)) 0) 0 i (rw length-map h) ∙ go l i h
  where
    go : (l : List Active) (i : ℕ) → i < length l → get_or (map f l) i 0 ≡ f (get_or l i nothing)
    go [] i h = absurd (omega arith)
    go (a ∷ l) zero h = refl
    go (a ∷ l) (suc i) h = go l i (omega arith)
