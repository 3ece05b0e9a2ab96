-- The windows taken for q = 1, 2, .. until one is over the deadline. It goes by what a demand has to be. Assumes nothing.
use Prim.Native.Nat.{ℕ, zero, suc, ◌+◌, ◌≤◌, ◌<◌}
use mathlib.Core.Path.{◌≡◌, refl, ap, sym, ◌∙◌}
use mathlib.Core.Bool.{Bool, true, false, ◌||◌, or-true}
use mathlib.Core.Logic.{⊎_elim}
use native.Mathlib.Omega.{arith}
use native.Mathlib.Numerals.{add-one}
use native.Mathlib.Nat.{eq-or-lt_of_le, le_of_suc-le-suc}
use borrow.Author.Tests.{lt-ltb, le-ltb}
use Rattle.search.specs.Lists.{some}
use Rattle.search.proofs.Choice.{true-not-false}
use Rattle.windows.specs.Window.{window_of}
use Rattle.windows.specs.Latency.{up_to, longer, any_over}
use Rattle.windows.specs.Code.Climb.{Under}
use Rattle.std.specs.declared.option.Option.TheVariants.{Some, None}
use Rattle.windows.proofs.Least.{under_one, under_lift, window-under}
use Rattle.windows.proofs.Growth.{Growing}

module _ (p : ℕ → Bool) where
  pub some_one : (close q : ℕ) → 1 ≤ q → q ≤ close → p q ≡ true → some p (up_to close) ≡ true
  unfolding some up_to
  some_one zero q l h e = absurd (omega arith)
  some_one (suc close) q l h e = ⊎_elim
      (λ s. ap (λ b. b || some p (up_to close)) (ap p (sym s) ∙ e))
      (λ s. ap (λ b. p (suc close) || b) (some_one close q l (le_of_suc-le-suc s) e) ∙ or-true (p (suc close)))
      (eq-or-lt_of_le h)

  -- and one that is found
  pub some-found : (close : ℕ) → some p (up_to close) ≡ true → (q : ℕ) × (1 ≤ q) × (q ≤ close) × (p q ≡ true)
  unfolding some up_to
  some-found zero e = absurd (true-not-false e refl)
  some-found (suc close) e = go (p (suc close)) refl e (some-found close)
    where
      go : (t : Bool) → p (suc close) ≡ t → (t || some p (up_to close)) ≡ true → (some p (up_to close) ≡ true → (q : ℕ) × (1 ≤ q) × (q ≤ close) × (p q ≡ true))
          → (q : ℕ) × (1 ≤ q) × (q ≤ suc close) × (p q ≡ true)
      go true f e rest = (suc close, omega arith, omega arith, f)
      go false f e rest = let r = rest e in (r.0, r.1, omega (arith, r.2), r.3)

  some_more : (close : ℕ) → some p (up_to close) ≡ false → p (close + 1) ≡ false → some p (up_to (close + 1)) ≡ false
  unfolding some up_to
  some_more close e f = rw add-one (rw (rw add-one at f, e))

  some-none : some p (up_to 0) ≡ false
  unfolding some up_to
  some-none = refl

module _ (demand : ℕ → ℕ → ℕ) (distance : ℕ → ℕ) (deadline : ℕ) where
  -- the window for q activations is over
  abbrev passes : ℕ → Bool
  passes q = longer (window_of (demand q)) (distance q + deadline)

  -- `done` of them were not, and the next is not under `start`
  pub record Swept (done start : ℕ) : Type 0 where
    pub under : Under (demand (done + 1)) start
    pub none : any_over demand distance deadline done ≡ false

  pub swept_start : Swept 0 1
  swept_start = record { under = under_one (demand (0 + 1)); none = some-none passes }

  module _ (close done : ℕ) (more : done < close) where
    swept_over : passes (done + 1) ≡ true → any_over demand distance deadline close ≡ true
    swept_over e = some_one passes close (done + 1) (omega arith) (omega arith) e

    pub swept_none : window_of (demand (done + 1)) ≡ None → any_over demand distance deadline close ≡ true
    swept_none e = swept_over (ap (λ w. longer w (distance (done + 1) + deadline)) e)

    module _ (t : ℕ) (at : window_of (demand (done + 1)) ≡ Some t) where
      pub swept_past : distance (done + 1) + deadline < t → any_over demand distance deadline close ≡ true
      swept_past h = swept_over (ap (λ w. longer w (distance (done + 1) + deadline)) at ∙ lt-ltb _ t h)

      pub swept_on : Growing demand → (start : ℕ) → Swept done start → t ≤ distance (done + 1) + deadline → Swept (done + 1) t
      swept_on growing start s h = record {
        under =
            under_lift (demand (done + 1)) (demand (done + 1 + 1)) t (growing.more (done + 1))
            (window-under (demand (done + 1)) (growing.grows (done + 1) (omega arith)) t at);
        none = some_more passes done s.none (ap (λ w. longer w (distance (done + 1) + deadline)) at ∙ le-ltb _ t h);
      }
