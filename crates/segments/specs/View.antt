-- What matters of a chain a to a chain b: its view. Every figure of b goes by b's own row and the views of the others.
use Rattle.std.specs.Prelude.{ℕ, List, map, Bool, not}
use Rattle.search.specs.Lists.{sum_of, most_of}
use Rattle.table.specs.Record.{distances}
use Rattle.table.specs.declared.Row.{Row}
use Rattle.segments.specs.Tasks.{cost_of, deferred, first_cost}
use Rattle.segments.specs.Segments.{cut_segments_of}

-- kind, overload mark, listed distances, whether it interferes freely, first-segment cost, and its segments, each as the
-- costs of its active segments
pub record View : Type 0 where
  pub kind : ℕ
  pub overload : ℕ
  pub list : List ℕ
  pub free : Bool
  pub first : ℕ
  pub segments : List (List ℕ)

unfoldable pub view_of : Row → Row → View
view_of a b =
    record {
      kind = a.kind;
      overload = a.overload;
      list = distances a;
      free = not (deferred a b);
      first = first_cost a b;
      segments = map (map cost_of) (cut_segments_of a b);
    }

-- a segment costs what its active segments cost together
abbrev pub sum : List ℕ → ℕ
sum cs = sum_of (λ c. c) cs

-- all segment costs together, which are the cost of a chain that interferes freely; the dearest segment, 0 if there is none
abbrev pub all_of : View → ℕ
all_of v = sum_of sum v.segments

abbrev pub dearest_of : View → ℕ
dearest_of v = most_of sum v.segments
