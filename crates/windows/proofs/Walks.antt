-- Taking q = 1, 2, .. until the windows close: where the walk stands, one turn more, and how it ends. It goes by what a demand has to
-- be, and by δ(1) = 0. Assumes nothing.
use Prim.Native.Nat.{ℕ, zero-le, ◌+◌, ◌-◌, max, ◌≤◌, ◌<◌}
use mathlib.Core.Path.{◌≡◌, refl, subst, ap, ap₂, sym, ◌∙◌}
use mathlib.Core.Bool.{true}
use mathlib.Core.Logic.{⊎_elim}
use borrow.Author.Tests.{le-leb, leb-true, lt-ltb, le-ltb}
use native.Mathlib.Omega.{arith}
use native.Mathlib.Nat.{eq-or-lt_of_le, le_of_eq}
use Rattle.search.proofs.Choice.{when_yes, when_no}
use Rattle.search.proofs.Find.{first-is, first-none}
use Rattle.table.specs.Limits.{horizon, max_activations}
use Rattle.windows.specs.Window.{Window, Solution, window_of}
use Rattle.windows.specs.Code.Climb.{Under}
use Rattle.windows.specs.Latency.{ends, close_of, latency_at, latency_to, over_of, late_to, margin_of, figures, ends_with, windows_of}
use Rattle.std.specs.Option.{ok_or}
use Rattle.std.specs.declared.option.Option.TheVariants.{Some, None}
use Rattle.std.specs.declared.result.Result.TheVariants.{Ok, Err}
use Rattle.table.specs.declared.refusal.Refusal.{Refusal}
use Rattle.table.specs.declared.refusal.Refusal.TheVariants.{PastHorizon, StillOpen}
use Rattle.windows.proofs.Least.{window-at, window-under, under_one, under_lift}
use Rattle.windows.proofs.Growth.{Growing}
use Rattle.windows.proofs.Latencies.{latency-none, latency-more, latency-is, latency-near, late-none, late-more, late-few}

-- a window, by what is answered for one that is there, and for none
pub window-known : (w : Window) {t : ℕ} → ok_or w PastHorizon ≡ Ok t → w ≡ Some t
window-known (Some s) e = cc
window-known None e = absurd (let z : ◌≡◌ {A = ℕ} 0 1 = cc in omega arith)

pub window-unknown : (w : Window) {r : Refusal} → ok_or w PastHorizon ≡ Err r → (w ≡ None) × (r ≡ PastHorizon)
window-unknown (Some s) e = absurd (let z : ◌≡◌ {A = ℕ} 0 1 = cc in omega arith)
window-unknown None e = (refl, cc)

module _ (demand : ℕ → ℕ → ℕ) (distance : ℕ → ℕ) where
  -- none of the activations before q ends the walk
  unfoldable pub Open : ℕ → Type 0
  Open q = (p : ℕ) → 1 ≤ p → p < q → ends (window_of (demand p)) (distance (p + 1)) ≡ true → ⊥

  open_one : Open 1
  unfolding Open
  open_one p l m = absurd (omega arith)

  open_more : (q : ℕ) → Open q → (ends (window_of (demand q)) (distance (q + 1)) ≡ true → ⊥) → Open (q + 1)
  unfolding Open
  open_more q o h p l m =
      ⊎_elim (λ e. subst (λ (x : ℕ). ends (window_of (demand x)) (distance (x + 1)) ≡ true → ⊥) (sym e) h) (λ k. o p l k) (eq-or-lt_of_le (omega arith))

  module _ (deadline : ℕ) where
    -- where the walk ends
    pub windows-end : (q : ℕ) → 1 ≤ q → q ≤ max_activations → ends (window_of (demand q)) (distance (q + 1)) ≡ true → Open q
        → windows_of demand distance deadline ≡ ends_with demand distance deadline q (window_of (demand q))
    unfolding windows_of close_of Open
    windows-end q l h e o =
        let f : close_of demand distance ≡ q = first-is _ 1 max_activations q l (omega arith) e o in
        rw f (when_no _ _ (le-ltb max_activations q h))

    pub windows_open : Open (max_activations + 1) → windows_of demand distance deadline ≡ Err StillOpen
    unfolding windows_of close_of Open
    windows_open o =
        let f : close_of demand distance ≡ 1 + max_activations = first-none _ 1 max_activations o in
        rw f (when_yes _ _ (lt-ltb max_activations (1 + max_activations) (omega arith)))

    -- where the walk stands: `done` activations have been taken, and none ended it; B(done + 1) is not under `start`, and `behind` is
    -- δ(done + 1)
    pub record Walk (done start behind latency late : ℕ) : Type 0 where
      pub some : done ≤ max_activations
      pub under : Under (demand (done + 1)) start
      pub next : behind ≡ distance (done + 1)
      pub ahead : behind ≤ start
      pub greatest : latency ≡ latency_to demand distance done
      pub count : late ≡ late_to demand distance deadline done
      pub still : Open (done + 1)

    pub walk_start : distance 1 ≡ 0 → Walk 0 1 0 0 0
    walk_start one = record {
      some = zero-le;
      under = under_one (demand 1);
      next = sym one;
      ahead = zero-le;
      greatest = latency-none demand distance;
      count = late-none demand distance deadline;
      still = open_one;
    }

    module _ (growing : Growing demand) {done start behind latency late : ℕ} (w : Walk done start behind latency late) where
      pub walk_open : max_activations ≤ done → Err StillOpen ≡ windows_of demand distance deadline
      walk_open h =
          let e : done + 1 ≡ max_activations + 1 = omega (arith, w.some) in
          sym (windows_open (subst Open e w.still))

      module _ (turn : done < max_activations) where
        pub walk_none : window_of (demand (done + 1)) ≡ None → Err PastHorizon ≡ windows_of demand distance deadline
        walk_none e =
            sym (windows-end (done + 1) (omega arith) (omega arith) (ap (λ x. ends x (distance (done + 1 + 1))) e) w.still
            ∙ ap (ends_with demand distance deadline (done + 1)) e)

        module _ {t : ℕ} (at : window_of (demand (done + 1)) ≡ Some t) where
          solution : Solution (demand (done + 1)) t
          solution = window-at (demand (done + 1)) t at

          -- B(q) is not under its start, and so not under δ(q)
          pub walk-ahead : behind ≤ t
          walk-ahead = omega (arith, w.ahead, w.under.under t solution.low (le_of_eq (sym solution.solves)))

          -- the figures with it, as the code works them out
          module _ {best more : ℕ} (b : best ≡ max latency (t - behind)) (m : more ≡ over_of (t - behind) deadline) where
            here : t - behind ≡ latency_at demand distance (done + 1)
            here = ap (λ x. t - x) w.next ∙ sym (latency-is demand distance (done + 1) t at)

            longer : best ≡ latency_to demand distance (done + 1)
            longer = b ∙ ap₂ max w.greatest here ∙ sym (latency-more demand distance done)

            later : late + more ≡ late_to demand distance deadline (done + 1)
            later = ap₂ ◌+◌ w.count (m ∙ ap (λ n. over_of n deadline) here) ∙ sym (late-more demand distance deadline done)

            pub walk-near : best ≤ horizon
            walk-near = omega (arith, longer, latency-near demand distance (done + 1))

            pub walk-few : late + more ≤ done + 1
            walk-few = omega (arith, later, late-few demand distance deadline (done + 1))

            module _ {next : ℕ} (n : next ≡ distance (done + 1 + 1)) where
              -- it closes
              pub walk-close : t ≤ next → Ok (record { figures = figures (done + 1) best (late + more) (margin_of deadline best); last = t }) ≡ windows_of demand distance deadline
              walk-close h =
                  ap₂ (λ x y. Ok (record { figures = figures (done + 1) x y (margin_of deadline x); last = t })) longer later
                  ∙ sym (windows-end (done + 1) (omega arith) (omega arith)
                  (ap (λ x. ends x (distance (done + 1 + 1))) at ∙ le-leb t (distance (done + 1 + 1)) (omega arith)) w.still
                  ∙ ap (ends_with demand distance deadline (done + 1)) at)

              -- it goes on
              pub walk-on : next < t → Walk (done + 1) t next best (late + more)
              walk-on h = record {
                some = omega arith;
                under =
                    under_lift (demand (done + 1)) (demand (done + 1 + 1)) t (growing.more (done + 1))
                    (window-under (demand (done + 1)) (growing.grows (done + 1) (omega arith)) t at);
                next = n;
                ahead = omega arith;
                greatest = longer;
                count = later;
                still = open_more (done + 1) w.still
                    (λ e. omega (arith, leb-true t (distance (done + 1 + 1)) (sym (ap (λ x. ends x (distance (done + 1 + 1))) at) ∙ e)));
              }
