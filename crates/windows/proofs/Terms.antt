-- What another chain adds, as η(t) times a rate, and a cost once: from its first stretch, and what its segments cost. Assumes nothing.
use Prim.Native.Nat.{ℕ, ◌*◌, ◌≤◌}
use mathlib.Core.Path.{◌≡◌, ap, sym, ◌∙◌}
use mathlib.Core.Bool.{true, false}
use native.Mathlib.Omega.{arith}
use native.Mathlib.Nat.{mul-zero}
use borrow.Author.Tests.{eq-eqb, ne_eqb}
use lib.ListN.{length}
use Rattle.search.specs.Lists.{sum_of, most_of}
use Rattle.search.proofs.Choice.{when_yes, when_no}
use Rattle.table.specs.Code.Good.{GoodRow}
use Rattle.table.specs.declared.Row.{Row}
use Rattle.arrivals.specs.Arrivals.{η}
use Rattle.segments.specs.Tasks.{tasks_of, cost_of, floor_of, below, before, first_cost}
use Rattle.segments.specs.Segments.{segments, segments_of}
use Rattle.segments.specs.Code.Held.{stretch_of, dearest}
use Rattle.segments.specs.View.{view_of}
use Rattle.segments.specs.declared.tasks.Stretch.{Stretch}
use Rattle.segments.proofs.Views.{view_kind, view_first, all_view, dearest_view, free-first, free_all}
use Rattle.segments.proofs.Bounds.{all-max, first-all, dearest-all}
use Rattle.windows.specs.Demand.{asynchronous, term_of}
use Rattle.windows.specs.Code.Load.{Adds}

module _ (a b : Row) (good : GoodRow a) {floor : ℕ} (same : floor_of b ≡ floor) {first : Stretch}
    (ahead : first ≡ stretch_of (before (below floor) (tasks_of a))) where
  first-is : first ≡ stretch_of (before (below (floor_of b)) (tasks_of a))
  first-is = ahead ∙ ap (λ f. stretch_of (before (below f) (tasks_of a))) (sym same)

  len_is : first.len ≡ length (before (below (floor_of b)) (tasks_of a))
  len_is = ap (λ s. s.len) first-is

  cost-is : first.cost ≡ first_cost a b
  cost-is = ap (λ s. s.cost) first-is

  cheap : first.cost ≤ dearest
  cheap = omega (arith, cost-is, first-all a b, all-max a good b)

  -- freely interfering: the first stretch is the whole chain
  pub free-adds : first.len ≡ a.tasks → Adds (view_of a b) (record { rate = first.cost; once = 0 })
  unfolding term_of
  free-adds h =
      let whole = sym len_is ∙ h in
      record {
        rate = cheap;
        once = omega arith;
        term = λ t. when_yes _ _ (free-first a b ∙ eq-eqb _ _ whole)
            ∙ omega (arith, ap (λ c. η (view_of a b).list t * c) (free_all a b whole ∙ sym cost-is));
      }

  module _ (held : first.len ≡ a.tasks → ⊥) where
    not_free : (view_of a b).free ≡ false
    not_free = free-first a b ∙ ne_eqb _ _ (λ e. held (len_is ∙ e))

    -- deferred asynchronous
    pub asynchronous-adds : asynchronous a.kind ≡ true → {all : ℕ} → all ≡ sum_of cost_of (segments floor (tasks_of a))
        → Adds (view_of a b) (record { rate = first.cost; once = all })
    unfolding term_of
    asynchronous-adds e {all} f =
        let all-is : all ≡ sum_of cost_of (segments_of a b) = f ∙ ap (λ n. sum_of cost_of (segments n (tasks_of a))) (sym same) in
        record {
          rate = cheap;
          once = omega (arith, all-is, all-max a good b);
          term = λ t. when_no _ _ not_free ∙ when_yes _ _ (ap asynchronous (view_kind a b) ∙ e)
              ∙ omega (arith, ap (λ c. η (view_of a b).list t * c) (view_first a b ∙ sym cost-is), sym (all_view a b) ∙ sym all-is);
        }

    -- deferred synchronous
    pub synchronous_adds : asynchronous a.kind ≡ false → {one : ℕ} → one ≡ most_of cost_of (segments floor (tasks_of a))
        → Adds (view_of a b) (record { rate = 0; once = one })
    unfolding term_of
    synchronous_adds e {one} f =
        let one-is : one ≡ most_of cost_of (segments_of a b) = f ∙ ap (λ n. most_of cost_of (segments n (tasks_of a))) (sym same) in
        record {
          rate = omega arith;
          once = omega (arith, one-is, dearest-all a b, all-max a good b);
          term = λ t. when_no _ _ not_free ∙ when_no _ _ (ap asynchronous (view_kind a b) ∙ e)
              ∙ omega (arith, mul-zero (η (view_of a b).list t), sym (dearest_view a b) ∙ sym one-is);
        }
