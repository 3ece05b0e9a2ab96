-- The window of a demand d: it's the only right one, a climb from below finds it, and a lesser demand has a lesser one. Assumes nothing.
use Prim.Native.Nat.{ℕ, zero, suc, ◌+◌, ◌≤◌, ◌<◌}
use mathlib.Core.Path.{◌≡◌, refl, subst, ap, sym, ◌∙◌}
use mathlib.Core.Bool.{Bool}
use mathlib.Core.Logic.{⊎_elim}
use lib.Dec.{eqb}
use borrow.Author.Tests.{eq-eqb, eqb-true, lt-ltb, le-ltb}
use native.Mathlib.Omega.{arith}
use native.Mathlib.Nat.{eq-or-lt_of_le, le_trans, le_of_eq, le_refl}
use Rattle.search.specs.Find.{first}
use Rattle.search.proofs.Choice.{when_yes, when_no, true-not-false, lt_or_le}
use Rattle.search.proofs.Find.{first-is, first-none, first_hit, first_ge, first_miss}
use Rattle.table.specs.Limits.{horizon}
use Rattle.windows.specs.Window.{Window, Solution, within, window_of}
use Rattle.windows.specs.Code.Climb.{Under}
use Rattle.std.specs.declared.option.Option.TheVariants.{Some, None}

-- a window of d: its solution, or none where no t in 1 to the horizon equals its demand
abbrev pub WindowOf : (ℕ → ℕ) → Window → Type 0
WindowOf d (Some t) = Solution d t
WindowOf d None = (s : ℕ) → 1 ≤ s → s ≤ horizon → s ≡ d s → ⊥

within-yes : (t : ℕ) → t ≤ horizon → within t ≡ Some t
within-yes t h = when_no None (Some t) (le-ltb horizon t h)

within_no : (t : ℕ) → horizon < t → within t ≡ None
within_no t h = when_yes None (Some t) (lt-ltb horizon t h)

module _ (d : ℕ → ℕ) where
  -- the window is a right one
  pub window-right : WindowOf d (window_of d)
  unfolding window_of
  window-right = ⊎_elim none some (lt_or_le horizon r)
    where
      solves : ℕ → Bool
      solves t = eqb t (d t)

      r : ℕ
      r = first solves 1 horizon

      misses : (s : ℕ) → 1 ≤ s → s < r → s ≡ d s → ⊥
      misses s l h e = true-not-false (eq-eqb s (d s) e) (first_miss solves 1 horizon s l h)

      none : horizon < r → WindowOf d (within r)
      none h = subst (WindowOf d) (sym (within_no r h)) (λ s l m e. misses s l (omega arith) e)

      some : r ≤ horizon → WindowOf d (within r)
      some h = subst (WindowOf d) (sym (within-yes r h)) (record {
        low = first_ge solves 1 horizon;
        high = h;
        solves = eqb-true r (d r) (first_hit solves 1 horizon (omega arith));
        least = λ s l e. ⊎_elim (λ m. absurd (misses s l m e)) (λ m. m) (lt_or_le s r);
      })

  -- and nothing else is
  pub window-only : (w : Window) → WindowOf d w → w ≡ window_of d
  unfolding window_of
  window-only (Some t) a =
      let e : first (λ s. eqb s (d s)) 1 horizon ≡ t =
      first-is _ 1 horizon t a.low (omega (arith, a.high)) (eq-eqb t (d t) a.solves)
      (λ k l m p. absurd (omega (arith, a.least k l (eqb-true k (d k) p)))) in
      sym (ap within e ∙ within-yes t a.high)
  window-only None a =
      let e : first (λ s. eqb s (d s)) 1 horizon ≡ 1 + horizon =
      first-none _ 1 horizon (λ k l m p. a k l (omega arith) (eqb-true k (d k) p)) in
      sym (ap within e ∙ within_no (1 + horizon) (omega arith))

  pub window-at : (t : ℕ) → window_of d ≡ Some t → Solution d t
  window-at t e = subst (WindowOf d) e window-right

  pub window-none : window_of d ≡ None → (s : ℕ) → 1 ≤ s → s ≤ horizon → s ≡ d s → ⊥
  window-none e = subst (WindowOf d) e window-right

-- a demand that is some from 1 on, and never falls
pub record Grows (d : ℕ → ℕ) : Type 0 where
  pub some : (t : ℕ) → 1 ≤ t → 1 ≤ d t
  pub mono : (s t : ℕ) → s ≤ t → d s ≤ d t

-- where a climb may start: at 1, and at any start for a lesser demand
pub under_one : (d : ℕ → ℕ) → Under d 1
under_one d = record { low = le_refl 1; under = λ s l h. l }

pub under_lift : (d e : ℕ → ℕ) (t : ℕ) → ((s : ℕ) → d s ≤ e s) → Under d t → Under e t
under_lift d e t more u = record { low = u.low; under = λ s l h. u.under s l (le_trans (more s) h) }

module _ (d : ℕ → ℕ) (g : Grows d) where
  -- it goes up from there, and stays under
  pub under_climbs : (t : ℕ) → Under d t → t ≤ d t
  under_climbs t u =
      ⊎_elim (λ h. let k : d t ≤ t = omega arith in u.under (d t) (g.some t u.low) (g.mono (d t) t k)) (λ h. h) (lt_or_le (d t) t)

  pub under_next : (t : ℕ) → Under d t → Under d (d t)
  under_next t u =
      record { low = g.some t u.low; under = λ s l h. le_trans (g.mono t s (u.under s l h)) h }

  -- where it ends
  pub under-solves : (t : ℕ) → Under d t → t ≤ horizon → t ≡ d t → Some t ≡ window_of d
  under-solves t u h e =
      window-only d (Some t) (record { low = u.low; high = h; solves = e; least = λ s l f. u.under s l (le_of_eq (sym f)) })

  pub under_none : (t : ℕ) → Under d t → horizon < t → None ≡ window_of d
  under_none t u h = window-only d None (λ s l m e. omega (arith, u.under s l (le_of_eq (sym e))))

  -- below each s in which its demand fits there is a solution
  fits-solution : (f s : ℕ) → s ≤ f → 1 ≤ s → d s ≤ s → (r : ℕ) × (1 ≤ r) × (r ≤ s) × (r ≡ d r)
  fits-solution zero s k l h = absurd (omega arith)
  fits-solution (suc f) s k l h =
      ⊎_elim (λ e. (s, l, le_refl s, sym e))
      (λ m. let r = fits-solution f (d s) (omega arith) (g.some s l) (g.mono (d s) s h) in (r.0, r.1, omega (arith, r.2), r.3))
      (eq-or-lt_of_le h)

  -- so a window is where a climb for a greater demand may start
  pub window-under : (t : ℕ) → window_of d ≡ Some t → Under d t
  window-under t e =
      let a = window-at d t e in
      record {
        low = a.low;
        under = λ s l h.
            let r = fits-solution s s (le_refl s) l h in
            le_trans (a.least r.0 r.1 r.3) r.2;
      }

  -- and where the demand fits in some s up to the horizon, there is a window, at most s
  pub window-fits : (s : ℕ) → 1 ≤ s → s ≤ horizon → d s ≤ s → (t : ℕ) × (window_of d ≡ Some t) × (t ≤ s)
  window-fits s l h f = go (window_of d) refl
    where
      go : (w : Window) → window_of d ≡ w → (t : ℕ) × (window_of d ≡ Some t) × (t ≤ s)
      go (Some t) e = (t, e, (window-under t e).under s l f)
      go None e =
          let r = fits-solution s s (le_refl s) l f in
          absurd (window-none d e r.0 r.1 (le_trans r.2 h) r.3)

  -- a lesser demand has a window where a greater one has, and no greater one
  pub window-less : (e : ℕ → ℕ) → ((t : ℕ) → d t ≤ e t) → (s : ℕ) → window_of e ≡ Some s → (t : ℕ) × (window_of d ≡ Some t) × (t ≤ s)
  window-less e more s f =
      let a = window-at e s f in
      window-fits s a.low a.high (le_trans (more s) (le_of_eq (sym a.solves)))
