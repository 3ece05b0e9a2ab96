-- What matters of a chain a to a chain b comes from its view, and views that are alike give the same. Assumes nothing.
use Prim.Native.Nat.{ℕ}
use native.Mathlib.Omega.{arith}
use mathlib.Core.Path.{◌≡◌, refl, ap, ap₂, sym, ◌∙◌}
use mathlib.Core.List.Permᴰ
use mathlib.Core.List.{List, [], ◌∷◌, ◌++◌, map, flatten, Permᴰ}
use mathlib.Core.Bool.{false, not}
use lib.Dec.{eqb}
use lib.ListN.{length, take}
use Rattle.search.specs.Lists.{sum_of, most_of, Paired}
use Rattle.search.proofs.Lists.{perm_sum, perm_most, paired_perm}
use Rattle.search.proofs.Pairing.{paired_weaker, paired_turn}
use Rattle.table.specs.declared.Row.{Row}
use Rattle.segments.specs.Tasks.{Task, tasks_of, cost_of, chain_cost, floor_of, tail_of, below, deferred, before, first_cost}
use Rattle.segments.specs.Segments.{onward, around, nonempty, segments, segments_of, cut_segments}
use Rattle.segments.specs.View.{View, view_of, sum, all_of, dearest_of}
use Rattle.segments.proofs.Steps.{rest-length, cost_nil}
use Rattle.segments.proofs.Levels.{some-before, all-before, none_before}
use Rattle.segments.proofs.Lists.{sum-map, most-map, sum-flatten, full-sum}
use Rattle.segments.proofs.Stretches.{stretches-none, cut-flatten}

-- the same view up to order: the segments pair off one to one, each pair with the same active-segment costs in some
-- order, and so with the same cost
pub record Alike (v w : View) : Type 0 where
  pub kind : v.kind ≡ w.kind
  pub overload : v.overload ≡ w.overload
  pub list : v.list ≡ w.list
  pub free : v.free ≡ w.free
  pub first : v.first ≡ w.first
  pub segments : Paired Permᴰ v.segments w.segments

-- what the active segments of a segment cost together is what the segment costs
sum-costs : (l : List (List Task)) → sum (map cost_of l) ≡ cost_of (flatten l)
sum-costs l = sum-map cost_of (λ c. c) l ∙ sym (sum-flatten (λ t. t.cost) l)

all-costs : (ls : List (List (List Task))) → map sum (map (map cost_of) ls) ≡ map cost_of (map flatten ls)
all-costs [] = refl
all-costs (l ∷ ls) = ap₂ ◌∷◌ (sum-costs l) (all-costs ls)

module _ (a b : Row) where
  -- its parts, by name
  pub view_kind : (view_of a b).kind ≡ a.kind
  unfolding view_of
  view_kind = refl

  pub view_overload : (view_of a b).overload ≡ a.overload
  unfolding view_of
  view_overload = refl

  pub view_list : (view_of a b).list ≡ take a.listed a.list
  unfolding view_of
  view_list = refl

  pub view_free : (view_of a b).free ≡ not (deferred a b)
  unfolding view_of
  view_free = refl

  pub view_first : (view_of a b).first ≡ first_cost a b
  unfolding view_of
  view_first = refl

  -- a segment's cost is the sum of its active segments' costs
  pub segment-costs : map sum (view_of a b).segments ≡ map cost_of (segments_of a b)
  unfolding view_of
  segment-costs = all-costs (cut_segments (floor_of b) (tail_of b) (tasks_of a)) ∙ ap (map cost_of) (cut-flatten (floor_of b) (tail_of b) (tasks_of a))

  -- a chain that interferes freely is one segment, which has its cost
  pub free-cost : deferred a b ≡ false → sum_of cost_of (segments_of a b) ≡ chain_cost a
  unfolding segments around onward sum_of
  free-cost free =
      ap (λ ss. sum_of cost_of (nonempty (around ◌++◌ ss))) (stretches-none (below (floor_of b)) (tasks_of a) free)
      ∙ full-sum cost_of cost_nil (tasks_of a ∷ []) ∙ omega arith

  -- the figures of 01 are figures of the view
  pub all_view : sum_of cost_of (segments_of a b) ≡ all_of (view_of a b)
  all_view =
      sym (sum-map cost_of (λ c. c) (segments_of a b)) ∙ ap sum (sym segment-costs) ∙ sum-map sum (λ c. c) (view_of a b).segments

  pub dearest_view : most_of cost_of (segments_of a b) ≡ dearest_of (view_of a b)
  dearest_view =
      sym (most-map cost_of (λ c. c) (segments_of a b)) ∙ ap (most_of (λ c. c)) (sym segment-costs) ∙ most-map sum (λ c. c) (view_of a b).segments

  -- from the tasks before the first below the floor: it interferes freely if these are all its tasks, and costs then what they cost
  pub free-first : (view_of a b).free ≡ eqb (length (before (below (floor_of b)) (tasks_of a))) a.tasks
  free-first =
      view_free ∙ some-before (below (floor_of b)) (tasks_of a)
      ∙ ap (eqb (length (before (below (floor_of b)) (tasks_of a)))) (rest-length a.priority a.cost a.tasks 0)

  pub free_all : length (before (below (floor_of b)) (tasks_of a)) ≡ a.tasks → all_of (view_of a b) ≡ first_cost a b
  free_all h =
      let none = all-before (below (floor_of b)) (tasks_of a) (h ∙ sym (rest-length a.priority a.cost a.tasks 0)) in
      sym all_view ∙ free-cost none ∙ ap cost_of (sym (none_before (below (floor_of b)) (tasks_of a) none))

-- what no order of a segment's active segments moves is the same, segment by segment, in views that are alike
module _ {v w : View} (s : Alike v w) where
  alike_perm : (f : List ℕ → ℕ) → ((l r : List ℕ) → Permᴰ l r → f l ≡ f r) → Permᴰ (map f v.segments) (map f w.segments)
  alike_perm f same = paired_perm f f (paired_weaker s.segments same)

  alike-sum : (f : List ℕ → ℕ) → ((l r : List ℕ) → Permᴰ l r → f l ≡ f r) → sum_of f v.segments ≡ sum_of f w.segments
  alike-sum f same =
      sym (sum-map f (λ c. c) v.segments) ∙ perm_sum (λ c. c) (alike_perm f same) ∙ sum-map f (λ c. c) w.segments

  pub alike_all : all_of v ≡ all_of w
  alike_all = alike-sum sum (λ l r p. perm_sum (λ c. c) p)

  pub alike-dearest : dearest_of v ≡ dearest_of w
  alike-dearest =
      sym (most-map sum (λ c. c) v.segments) ∙ perm_most (λ c. c) (alike_perm sum (λ l r p. perm_sum (λ c. c) p)) ∙ most-map sum (λ c. c) w.segments

-- alike: the other way round
pub alike-turn : {v w : View} → Alike v w → Alike w v
alike-turn s = record {
  kind = sym s.kind;
  overload = sym s.overload;
  list = sym s.list;
  free = sym s.free;
  first = sym s.first;
  segments = paired_turn (λ a b h. Permᴰ.symm h) s.segments;
}
