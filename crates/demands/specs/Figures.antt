-- Demand 2 for the latency query: what its answer says of a chain's demand for q activations in t, of its distances and its deadline.
-- B(q) is t where `Solution (demand q) t` holds: t is in 1 to the horizon and equals its demand, and no smaller one does.
use Rattle.std.specs.Prelude.{ℕ, zero, suc, ◌+◌, ◌≤◌, ◌<◌, ◌≡◌, Bool, List, ltb, ℤ, pos, ◌-ℤ◌, Ok, Err}
use Rattle.search.specs.Choice.{◌when◌else◌}
use Rattle.search.specs.Find.{Greatest}
use Rattle.table.specs.Limits.{horizon, max_activations}
use Rattle.arrivals.specs.Arrivals.{δ}
use Rattle.windows.specs.Window.{Solution}
use Rattle.table.specs.declared.refusal.Refusal.TheVariants.{PastHorizon, StillOpen}
use Rattle.windows.specs.Latency.{Answer}
use Rattle.windows.specs.declared.Figures.{Figures}

-- A holds exactly when B does
abbrev pub Exactly : Type 0 → Type 0 → Type 0
Exactly A B = (A → B) × (B → A)

-- how many of 1, 2, .., n pass
unfoldable pub count : (ℕ → Bool) → ℕ → ℕ
count p zero = 0
count p (suc n) = (1 when p (suc n) else 0) + count p n

module _ (demand : ℕ → ℕ → ℕ) (ds : List ℕ) where
  -- all windows before q are there and stay open: B(p) reaches past δ(p + 1)
  abbrev pub OpenTo : ℕ → Type 0
  OpenTo q = (p : ℕ) → 1 ≤ p → p < q → (t : ℕ) × Solution (demand p) t × (δ ds (p + 1) < t)

  -- 16: for some q all earlier windows are there and stay open, and B(q) has no solution
  pub record NoWindow : Type 0 where
    pub q : ℕ
    pub low : 1 ≤ q
    pub high : q ≤ max_activations
    pub earlier : OpenTo q
    pub none : (t : ℕ) → 1 ≤ t → t ≤ horizon → t ≡ demand q t → ⊥

  -- 17: the windows up to activation 1,024 are there and stay open
  abbrev pub NoClose : Type 0
  NoClose = OpenTo (max_activations + 1)

  -- figures: B(1), .., B(K) are there, and K is the first with B(K) ≤ δ(K + 1); none ends before its activation; latency is the greatest
  -- B(q) − δ(q), late how many of them exceed the deadline, margin the deadline minus latency
  pub record Closes (deadline close latency late : ℕ) (margin : ℤ) : Type 0 where
    pub low : 1 ≤ close
    pub high : close ≤ max_activations
    pub B : ℕ → ℕ
    pub windows : (q : ℕ) → 1 ≤ q → q ≤ close → Solution (demand q) (B q)
    pub reach : (q : ℕ) → 1 ≤ q → q < close → δ ds (q + 1) < B q
    pub shut : B close ≤ δ ds (close + 1)
    pub behind : (q : ℕ) → 1 ≤ q → q ≤ close → δ ds q ≤ B q
    pub greatest : Greatest (λ x. (q : ℕ) × (1 ≤ q) × (q ≤ close) × (B q ≡ δ ds q + x)) latency
    pub counts : late ≡ count (λ q. ltb (δ ds q + deadline) (B q)) close
    pub rest : margin ≡ pos deadline -ℤ pos latency

  -- what each answer says, and that there is no other
  pub record Means (deadline : ℕ) (answer : Answer) : Type 0 where
    pub figures : (f : Figures) → Exactly (answer ≡ Ok f) (Closes deadline f.close f.latency f.late f.margin)
    pub none : Exactly (answer ≡ Err PastHorizon) NoWindow
    pub unclosed : Exactly (answer ≡ Err StillOpen) NoClose
    pub other : ((f : Figures) → answer ≡ Ok f → ⊥) → (answer ≡ Err PastHorizon → ⊥) → answer ≡ Err StillOpen
