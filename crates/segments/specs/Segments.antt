-- A chain's segments against a chain b, and their cuts (01, 'Segments against chain b'). A segment is a list of tasks.
use Rattle.std.specs.Prelude.{ℕ, Bool}
use mathlib.Core.List.{List, [], ◌∷◌, ◌++◌, map, flatten}
use Rattle.search.specs.Choice.{◌when◌else◌}
use Rattle.table.specs.declared.Row.{Row}
use Rattle.segments.specs.Tasks.{Task, tasks_of, floor_of, tail_of, below}

infixr 67 ◌on◌
-- one more in front of the first of some lists
abbrev pub ◌on◌ : {A : Type 0} → A → List (List A) → List (List A)
t on [] = (t ∷ []) ∷ []
t on (l ∷ ls) = (t ∷ l) ∷ ls

-- the longest stretches of tasks that do not pass: before the first task that passes, between two, and after the last;
-- empty where no task stands there
unfoldable pub stretches : (Task → Bool) → List Task → List (List Task)
stretches p [] = [] ∷ []
stretches p (t ∷ ts) = [] ∷ stretches p ts when p t else t on stretches p ts

-- the last task followed by the first: the last stretch goes on in the first, and the two are one. A chain that
-- interferes freely has one stretch, which stays as it is, from its first task to its last
unfoldable pub onward : {A : Type 0} → (A → A → A) → A → List A → List A
onward join s [] = s ∷ []
onward join s (r ∷ []) = join r s ∷ []
onward join s (r ∷ q ∷ rs) = r ∷ onward join s (q ∷ rs)

unfoldable pub around : {A : Type 0} → (A → A → A) → List A → List A
around join [] = []
around join (s ∷ rs) = onward join s rs

-- without the empty ones
unfoldable pub nonempty : {A : Type 0} → List (List A) → List (List A)
nonempty [] = []
nonempty ([] ∷ ls) = nonempty ls
nonempty ((a ∷ l) ∷ ls) = (a ∷ l) ∷ nonempty ls

-- segment: a longest stretch of tasks at or above the floor, the last task followed by the first
unfoldable pub segments : ℕ → List Task → List (List Task)
segments floor ts = nonempty (around ◌++◌ (stretches (below floor) ts))

abbrev pub segments_of : Row → Row → List (List Task)
segments_of a b = segments (floor_of b) (tasks_of a)

-- cut before each task that passes, except the first
unfoldable pub cuts : (Task → Bool) → List Task → List (List Task)
cuts p [] = []
cuts p (t ∷ []) = (t ∷ []) ∷ []
cuts p (t ∷ u ∷ ts) = (t ∷ []) ∷ cuts p (u ∷ ts) when p u else t on cuts p (u ∷ ts)

-- active segments: stretches end at the last task; each is cut before each task below the tail, except its first
unfoldable pub parts : ℕ → ℕ → List Task → List (List (List Task))
parts floor tail ts = map (cuts (below tail)) (stretches (below floor) ts)

-- all of them, in task order
abbrev pub active_tasks : Row → Row → List (List Task)
active_tasks a b = flatten (parts (floor_of b) (tail_of b) (tasks_of a))

-- the segments, each as its active segments
unfoldable pub cut_segments : ℕ → ℕ → List Task → List (List (List Task))
cut_segments floor tail ts = nonempty (around ◌++◌ (parts floor tail ts))

abbrev pub cut_segments_of : Row → Row → List (List (List Task))
cut_segments_of a b = cut_segments (floor_of b) (tail_of b) (tasks_of a)
