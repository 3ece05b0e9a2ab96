-- K in words: the windows up to it, from the answer and back. Assumes nothing.
use Prim.Native.Nat.{ℕ, zero, suc, ◌+◌, ◌-◌, ◌≤◌, ◌<◌}
use mathlib.Core.Path.{◌≡◌, refl, ap, sym, subst, ◌∙◌}
use mathlib.Core.Bool.{Bool, false}
use mathlib.Core.Logic.{⊎_elim}
use borrow.Author.Tests.{le-leb, leb-true, leb-false, lt-ltb, le-ltb}
use native.Mathlib.Omega.{arith}
use native.Mathlib.Nat.{le_trans, le_of_eq, eq-or-lt_of_le}
use Rattle.search.proofs.Choice.{when_yes, when_no, true-not-false, lt_or_le}
use Rattle.search.proofs.Find.{first_ge, first_hit, first_miss}
use Rattle.table.specs.Limits.{max_activations}
use Rattle.windows.specs.Window.{Window, window_of}
use Rattle.windows.specs.Latency.{ends, close_of, latency_to, late_to, margin_of, figures, ends_with, windows_of}
use Rattle.std.specs.declared.option.Option.TheVariants.{Some, None}
use Rattle.windows.specs.declared.Windows.{Windows}
use Rattle.std.specs.declared.result.Result.TheVariants.{Ok, Err}
use Rattle.table.specs.declared.refusal.Refusal.TheVariants.{PastHorizon, StillOpen}
use Rattle.windows.proofs.Least.{window-at, window-under, under_lift}
use Rattle.windows.proofs.Growth.{Growing}
use Rattle.windows.proofs.Walks.{Open, windows-end}

-- the windows close at `close`, with t the last: each before it is there, and reaches past the next activation
pub record Closes (demand : ℕ → ℕ → ℕ) (distance : ℕ → ℕ) (close t : ℕ) : Type 0 where
  pub low : 1 ≤ close
  pub high : close ≤ max_activations
  pub last : window_of (demand close) ≡ Some t
  pub shut : t ≤ distance (close + 1)
  pub reach : (q : ℕ) → 1 ≤ q → q < close → (s : ℕ) × (window_of (demand q) ≡ Some s) × (distance (q + 1) < s)

module _ (demand : ℕ → ℕ → ℕ) (distance : ℕ → ℕ) where
  abbrev test : ℕ → Bool
  test q = ends (window_of (demand q)) (distance (q + 1))

  -- where the walk does not end, a window reaches past the next activation
  pub open_window : (q : ℕ) → test q ≡ false → (s : ℕ) × (window_of (demand q) ≡ Some s) × (distance (q + 1) < s)
  open_window q f = go (window_of (demand q)) refl
    where
      go : (w : Window) → window_of (demand q) ≡ w → (s : ℕ) × (window_of (demand q) ≡ Some s) × (distance (q + 1) < s)
      go (Some s) e = (s, e, leb-false s (distance (q + 1)) (sym (ap (λ w. ends w (distance (q + 1))) e) ∙ f))
      go None e = absurd (true-not-false (ap (λ w. ends w (distance (q + 1))) e) f)

  -- the first activation at which it ends, where that is within the limit and has a window
  pub closes-found : {t : ℕ} → close_of demand distance ≤ max_activations → window_of (demand (close_of demand distance)) ≡ Some t → Closes demand distance (close_of demand distance) t
  unfolding close_of
  closes-found {t} h g =
      let found = close_of demand distance in
      record {
        low = first_ge test 1 max_activations;
        high = h;
        last = g;
        shut = leb-true t (distance (found + 1)) (sym (ap (λ w. ends w (distance (found + 1))) g) ∙ first_hit test 1 max_activations (omega arith));
        reach = λ q m n. open_window q (first_miss test 1 max_activations q m n);
      }

  module _ (deadline : ℕ) where
    -- then that is the answer
    pub closes-answer : {close t : ℕ} → Closes demand distance close t
        → windows_of demand distance deadline
        ≡ Ok (record { figures = figures close (latency_to demand distance close) (late_to demand distance deadline close) (margin_of deadline (latency_to demand distance close)); last = t })
    unfolding Open
    closes-answer {close} {t} c =
        windows-end demand distance deadline close c.low c.high (ap (λ w. ends w (distance (close + 1))) c.last ∙ le-leb t (distance (close + 1)) c.shut)
        (λ q l h e. let r = c.reach q l h in
        omega (arith, r.2, leb-true r.0 (distance (q + 1)) (sym (ap (λ w. ends w (distance (q + 1))) r.1) ∙ e)))
        ∙ ap (ends_with demand distance deadline close) c.last

    -- what the windows say
    pub record Closed (w : Windows) : Type 0 where
      pub closes : Closes demand distance w.figures.close w.last
      pub greatest : w.figures.latency ≡ latency_to demand distance w.figures.close
      pub count : w.figures.late ≡ late_to demand distance deadline w.figures.close
      pub rest : w.figures.margin ≡ margin_of deadline w.figures.latency

    pub answer-closed : {w : Windows} → windows_of demand distance deadline ≡ Ok w → Closed w
    unfolding windows_of
    answer-closed {w} e = ⊎_elim still (λ h. by h (window_of (demand found)) refl) (lt_or_le max_activations found)
      where
        found : ℕ
        found = close_of demand distance

        still : max_activations < found → Closed w
        still h =
            let f : Err StillOpen ≡ Ok w = sym (when_yes _ _ (lt-ltb max_activations found h)) ∙ e in
            let z : ◌≡◌ {A = ℕ} 0 1 = cc in
            absurd (omega arith)

        by : found ≤ max_activations → (x : Window) → window_of (demand found) ≡ x → Closed w
        by h None g =
            let f : Err PastHorizon ≡ Ok w = sym (when_no _ _ (le-ltb max_activations found h) ∙ ap (ends_with demand distance deadline found) g) ∙ e in
            let z : ◌≡◌ {A = ℕ} 0 1 = cc in
            absurd (omega arith)
        by h (Some t) g =
            let f : ends_with demand distance deadline found (Some t) ≡ Ok w =
            sym (when_no _ _ (le-ltb max_activations found h) ∙ ap (ends_with demand distance deadline found) g) ∙ e in
            let same : record { figures = figures found (latency_to demand distance found) (late_to demand distance deadline found) (margin_of deadline (latency_to demand distance found)); last = t } ≡ w = cc in
            subst Closed same (record { closes = closes-found h g; greatest = refl; count = refl; rest = refl })

-- every window up to the last is there: it reaches past its activation, and not past the last
module _ {demand : ℕ → ℕ → ℕ} {distance : ℕ → ℕ} (growing : Growing demand) (one : distance 1 ≡ 0) {close t : ℕ} (c : Closes demand distance close t) where
  -- the windows never fall
  rises : (q s r : ℕ) → 1 ≤ q → window_of (demand q) ≡ Some s → window_of (demand (q + 1)) ≡ Some r → s ≤ r
  rises q s r l e f =
      let a = window-at (demand (q + 1)) r f in
      (under_lift (demand q) (demand (q + 1)) s (growing.more q) (window-under (demand q) (growing.grows q l) s e)).under r a.low (le_of_eq (sym a.solves))

  there : (q : ℕ) → 1 ≤ q → q ≤ close → (s : ℕ) × (window_of (demand q) ≡ Some s)
  there q l h =
      ⊎_elim (λ e. (t, ap (λ p. window_of (demand p)) e ∙ c.last)) (λ m. let r = c.reach q l m in (r.0, r.1)) (eq-or-lt_of_le h)

  up : (n q s : ℕ) → q + n ≡ close → 1 ≤ q → window_of (demand q) ≡ Some s → s ≤ t
  up zero q s e l f =
      let g : q ≡ close = omega arith in
      let same : Some s ≡ Some t = sym f ∙ ap (λ p. window_of (demand p)) g ∙ c.last in
      let x : s ≡ t = cc in le_of_eq x
  up (suc n) q s e l f =
      let r = there (q + 1) (omega arith) (omega arith) in
      le_trans (rises q s r.0 l f r.1) (up n (q + 1) r.0 (omega arith) (omega arith) r.1)

  behind : (q s : ℕ) → 1 ≤ q → q ≤ close → window_of (demand q) ≡ Some s → distance q ≤ s
  behind zero s l h f = absurd (omega arith)
  behind (suc zero) s l h f = omega (arith, one)
  behind (suc (suc p)) s l h f =
      let r = c.reach (suc p) (omega arith) h in
      let e : suc p + 1 ≡ suc (suc p) = omega arith in
      omega (arith, r.2, ap distance e, rises (suc p) r.0 s (omega arith) r.1 (ap (λ q. window_of (demand q)) e ∙ f))

  pub windows-there : (q : ℕ) → 1 ≤ q → q ≤ close → (s : ℕ) × (window_of (demand q) ≡ Some s) × (distance q ≤ s) × (s ≤ t)
  windows-there q l h =
      let r = there q l h in
      (r.0, r.1, behind q r.0 l h r.1, up (close - q) q r.0 (omega arith) l r.1)
