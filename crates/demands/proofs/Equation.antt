-- The demand of the definitions, which goes through the views, is document 01's demand equation, which goes by the rows. Assumes nothing.
use Prim.Native.Nat.{ℕ, ◌+◌, ◌*◌, ◌-◌}
use mathlib.Core.Path.{◌≡◌, refl, ap, ap₂, sym, ◌∙◌}
use mathlib.Core.Bool.{Bool, true, false, not}
use mathlib.Core.List.{List, [], ◌∷◌, map}
use lib.Dec.{eqb}
use Rattle.search.specs.Choice.{◌when◌else◌}
use Rattle.search.specs.Lists.{sum_of, most_of}
use Rattle.table.specs.Record.{distances}
use Rattle.table.specs.declared.Row.{Row}
use Rattle.arrivals.specs.Arrivals.{δ, η}
use Rattle.segments.specs.Tasks.{cost_of, chain_cost, deferred, first_cost}
use Rattle.segments.specs.Segments.{segments_of}
use Rattle.segments.specs.View.{View, view_of, all_of, dearest_of}
use Rattle.segments.proofs.Views.{free-cost, all_view, dearest_view}
use Rattle.windows.specs.Demand.{term_of, counted_part, demand_of, typical}
use Rattle.demands.specs.Equation.{added, equation, unmarked}

-- what b sees of the chains l
abbrev pub viewed : Row → List Row → List View
viewed b l = map (λ a. view_of a b) l

-- what another chain adds
term_is : (b a : Row) (t : ℕ) → term_of δ (view_of a b) t ≡ added b a t
unfolding term_of view_of added ◌when◌else◌
term_is b a t = by (η (distances a) t) (deferred a b) refl (eqb a.kind 1)
  where
    by : (n : ℕ) (d : Bool) → deferred a b ≡ d → (k : Bool)
        → (n * all_of (view_of a b) when not d else (n * first_cost a b + all_of (view_of a b) when k else dearest_of (view_of a b)))
        ≡ ((n * first_cost a b + sum_of cost_of (segments_of a b) when k else most_of cost_of (segments_of a b)) when d else n * chain_cost a)
    by n false e k = ap (λ c. n * c) (sym (all_view a b) ∙ free-cost a b e)
    by n true e true = ap (λ c. n * first_cost a b + c) (sym (all_view a b))
    by n true e false = sym (dearest_view a b)

terms-are : (b : Row) (l : List Row) (t : ℕ) → sum_of (λ v. term_of δ v t) (viewed b l) ≡ sum_of (λ a. added b a t) l
unfolding sum_of
terms-are b [] t = refl
terms-are b (a ∷ l) t = ap₂ ◌+◌ (term_is b a t) (terms-are b l t)

pub equation-is : (b : Row) (l : List Row) → demand_of δ b (viewed b l) ≡ equation b l
unfolding demand_of counted_part equation
equation-is b l = λ i q t. ap (λ x. q * chain_cost b + (η (distances b) t - q) * counted_part b + x) (terms-are b l t) i

-- the chains without overload mark
typical-is : (b : Row) (l : List Row) → typical (viewed b l) ≡ viewed b (unmarked l)
unfolding typical unmarked view_of ◌when◌else◌
typical-is b [] = refl
typical-is b (a ∷ l) = by (eqb a.overload 0) (typical-is b l)
  where
    by : (m : Bool) → typical (viewed b l) ≡ viewed b (unmarked l)
        → (view_of a b ∷ typical (viewed b l) when m else typical (viewed b l)) ≡ viewed b (a ∷ unmarked l when m else unmarked l)
    by true e = ap (λ vs. view_of a b ∷ vs) e
    by false e = e

pub unmarked-is : (b : Row) (l : List Row) → demand_of δ b (typical (viewed b l)) ≡ equation b (unmarked l)
unmarked-is b l = ap (demand_of δ b) (typical-is b l) ∙ equation-is b (unmarked l)
