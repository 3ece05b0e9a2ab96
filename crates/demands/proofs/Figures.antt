-- Demand 2 for the latency query: its definition meets the words of document 01, 'Windows'. Assumes nothing.
use Prim.Native.Nat.{ℕ, zero, suc, ◌+◌, ◌*◌, ◌-◌, ◌≤◌, ◌<◌}
use mathlib.Core.Path.{◌≡◌, refl, ap, ap₂, sym, subst, ◌∙◌}
use mathlib.Core.Bool.{Bool, true, false}
use mathlib.Core.List.{List}
use mathlib.Core.Logic.{◌⊎◌, inl, inr, ⊎_elim}
use native.Mathlib.Omega.{arith}
use native.Mathlib.Numerals.{add-one}
use lib.Dec.{ltb}
use lib.IntN.{ℤ}
use lib.ListN.{length}
use borrow.Author.Tests.{lt-ltb, le-ltb, leb-true}
use Rattle.search.specs.Choice.{◌when◌else◌}
use Rattle.search.specs.Find.{first, Greatest}
use Rattle.search.specs.Lists.{sum_of}
use Rattle.search.proofs.Choice.{lt_or_le}
use Rattle.search.proofs.Find.{first_ge, first_miss, greatest_unique}
use Rattle.table.specs.Code.Good.{GoodRow}
use Rattle.table.specs.declared.Row.{Row}
use Rattle.table.specs.Limits.{max_activations}
use Rattle.arrivals.specs.Arrivals.{Way, sum_of_steps, δ, largest}
use Rattle.table.specs.Code.Good.{GoodDistances}
use Rattle.table.specs.Record.{distances, largests}
use Rattle.table.proofs.Largests.{largests-at, largests-long}
use Rattle.arrivals.proofs.Repeating.{repeated-start, repeated-listed, repeated-rule}
use Rattle.arrivals.proofs.Sums.{δ-ways}
use Rattle.arrivals.proofs.Distances.{δ-one, δ-adds, δ-above, δ-good}
use Rattle.arrivals.proofs.Closed.{best-last, adds-up-is}
use Rattle.arrivals.proofs.Heads.{best-there}
use Rattle.arrivals.proofs.Counts.{η-zero, η-greatest}
use Rattle.arrivals.proofs.Lists.{rising}
use Rattle.arrivals.proofs.Rows.{largests-rising, largest-by-gap, largest-by-list}
use Rattle.windows.specs.Demand.{views_of}
use Rattle.windows.specs.Window.{Window, Solution, window_of}
use Rattle.windows.specs.Latency.{long, ends, close_of, latency_at, up_to, latency_to, over_of, late_to, margin_of, ends_with, windows_of, figures, figures_of, bound_of, latency_of, Answer}
use Rattle.std.specs.declared.option.Option.TheVariants.{Some, None}
use Rattle.std.specs.declared.result.Result.TheVariants.{Ok, Err}
use Rattle.table.specs.declared.refusal.Refusal.TheVariants.{PastHorizon, StillOpen}
use Rattle.windows.specs.declared.Figures.{Figures}
use Rattle.windows.proofs.Least.{window-only, window-at, window-none}
use Rattle.windows.proofs.Growth.{Growing, demand-growing}
use Rattle.windows.proofs.Besides.{others-paced}
use Rattle.windows.proofs.Walks.{Open, windows-end, windows_open}
use Rattle.windows.proofs.Latencies.{latency-greatest}
use Rattle.windows.proofs.Closing as closing
use Rattle.table.specs.Read.{table_of}
use Rattle.demands.specs.Chains.{Has, chain_number, chain_of}
use Rattle.demands.specs.Chains as chains
use Rattle.demands.specs.Arrivals.{ArrivalRules, FormerRules, LargestRules}
use Rattle.demands.specs.Figures.{count, OpenTo, NoWindow, NoClose, Closes, Means}
use Rattle.demands.specs.Misses.{full}
use Rattle.demands.proofs.Chains.{table-good, latency-is}
use Rattle.demands.proofs.Equation.{equation-is}

module _ (demand : ℕ → ℕ → ℕ) (ds : List ℕ) where
  abbrev ends_at : ℕ → Bool
  ends_at q = ends (window_of (demand q)) (δ ds (q + 1))

  window-is : (q t : ℕ) → Solution (demand q) t → window_of (demand q) ≡ Some t
  window-is q t a = sym (window-only (demand q) (Some t) a)

  -- an open window does not end the walk
  goes_on : (q t : ℕ) → Solution (demand q) t → δ ds (q + 1) < t → ends_at q ≡ true → ⊥
  goes_on q t a h e = omega (arith, h, leb-true t (δ ds (q + 1)) (sym (ap (λ w. ends w (δ ds (q + 1))) (window-is q t a)) ∙ e))

  walked : (q : ℕ) → OpenTo demand ds q → Open demand (δ ds) q
  unfolding Open
  walked q o p l m = let w = o p l m in goes_on p w.0 w.1 w.2

  -- and what does not end the walk is an open window
  opened : (q : ℕ) → ends_at q ≡ false → (t : ℕ) × Solution (demand q) t × (δ ds (q + 1) < t)
  opened q f = let w = closing.open_window demand (δ ds) q f in (w.0, window-at (demand q) w.0 w.1, w.2)

  module _ (deadline : ℕ) where
    abbrev answer : Answer
    answer = figures_of (windows_of demand (δ ds) deadline)

    pub no_window : NoWindow demand ds → answer ≡ Err PastHorizon
    no_window n =
        let e : window_of (demand n.q) ≡ None = sym (window-only (demand n.q) None n.none) in
        ap figures_of
        (windows-end demand (δ ds) deadline n.q n.low n.high (ap (λ w. ends w (δ ds (n.q + 1))) e) (walked n.q n.earlier) ∙ ap (ends_with demand (δ ds) deadline n.q) e)

    pub no_close : NoClose demand ds → answer ≡ Err StillOpen
    no_close o = ap figures_of (windows_open demand (δ ds) deadline (walked (max_activations + 1) o))

    -- the figures of windows
    module _ (k : ℕ) (B : ℕ → ℕ) (windows : (q : ℕ) → 1 ≤ q → q ≤ k → Solution (demand q) (B q)) (behind : (q : ℕ) → 1 ≤ q → q ≤ k → δ ds q ≤ B q) where
      latency-at : (q : ℕ) → 1 ≤ q → q ≤ k → latency_at demand (δ ds) q ≡ B q - δ ds q
      unfolding latency_at
      latency-at q l h = ap (λ w. long w - δ ds q) (window-is q (B q) (windows q l h))

      abbrev One : ℕ → Type 0
      One x = (q : ℕ) × (1 ≤ q) × (q ≤ k) × (B q ≡ δ ds q + x)

      pub longest : 1 ≤ k → Greatest One (latency_to demand (δ ds) k)
      longest low =
          let g = latency-greatest demand (δ ds) k low in
          let w = g.holds in
          record {
            holds = (w.0, w.1, w.2, omega (arith, w.3, latency-at w.0 w.1 w.2, behind w.0 w.1 w.2));
            above = λ x r. g.above x (r.0, r.1, r.2, omega (arith, latency-at r.0 r.1 r.2, r.3));
          }

      late-one : (q : ℕ) → 1 ≤ q → q ≤ k → over_of (latency_at demand (δ ds) q) deadline ≡ (1 when ltb (δ ds q + deadline) (B q) else 0)
      late-one q l h = ap (λ b. 1 when b else 0) (ap (ltb deadline) (latency-at q l h) ∙ same (B q) (δ ds q))
        where
          same : (x y : ℕ) → ltb deadline (x - y) ≡ ltb (y + deadline) x
          same x y = ⊎_elim
              (λ h. lt-ltb deadline (x - y) (omega arith) ∙ sym (lt-ltb (y + deadline) x h))
              (λ h. le-ltb deadline (x - y) (omega arith) ∙ sym (le-ltb (y + deadline) x h))
              (lt_or_le (y + deadline) x)

      pub late-counts : (j : ℕ) → j ≤ k → late_to demand (δ ds) deadline j ≡ count (λ q. ltb (δ ds q + deadline) (B q)) j
      unfolding late_to up_to sum_of count
      late-counts zero h = refl
      late-counts (suc j) h = ap₂ ◌+◌ (late-one (suc j) (omega arith) h) (late-counts j (omega arith))

    -- with the last window
    pub closes-last : (k latency late : ℕ) (margin : ℤ) (c : Closes demand ds deadline k latency late margin)
        → windows_of demand (δ ds) deadline ≡ Ok (record { figures = figures k latency late margin; last = c.B k })
    closes-last k latency late margin c =
        let x : latency_to demand (δ ds) k ≡ latency = greatest_unique (longest k c.B c.windows c.behind c.low) c.greatest in
        let y : late_to demand (δ ds) deadline k ≡ late = late-counts k c.B c.windows c.behind k (omega arith) ∙ sym c.counts in
        closing.closes-answer demand (δ ds) deadline (record {
          low = c.low;
          high = c.high;
          last = window-is k (c.B k) (c.windows k c.low (omega arith));
          shut = c.shut;
          reach = λ q l h. (c.B q, window-is q (c.B q) (c.windows q l (omega arith)), c.reach q l h);
        })
        ∙ ap₂ (λ a b. Ok (record { figures = figures k a b (margin_of deadline a); last = c.B k })) x y
        ∙ ap (λ m. Ok (record { figures = figures k latency late m; last = c.B k })) (sym c.rest)

    closes : (k latency late : ℕ) (margin : ℤ) → Closes demand ds deadline k latency late margin → answer ≡ Ok (figures k latency late margin)
    closes k latency late margin c = ap figures_of (closes-last k latency late margin c)

    -- so there are three answers
    module _ (growing : Growing demand) (good : GoodDistances ds) where
      abbrev pub Closed : Type 0
      Closed = (k : ℕ) × (latency : ℕ) × (late : ℕ) × (margin : ℤ) × Closes demand ds deadline k latency late margin

      abbrev pub Case : Type 0
      Case = NoWindow demand ds ⊎ (NoClose demand ds ⊎ Closed)

      pub three : Case
      unfolding close_of
      three = ⊎_elim
          (λ h. inr (inl (λ p l m. opened p (first_miss ends_at 1 max_activations p l (omega (arith, h, m))))))
          (λ h. by h (window_of (demand (first ends_at 1 max_activations))) refl)
          (lt_or_le max_activations (first ends_at 1 max_activations))
        where
          by : first ends_at 1 max_activations ≤ max_activations → (w : Window) → window_of (demand (first ends_at 1 max_activations)) ≡ w → Case
          by h None e = inl (record {
            q = first ends_at 1 max_activations;
            low = first_ge ends_at 1 max_activations;
            high = h;
            earlier = λ p l m. opened p (first_miss ends_at 1 max_activations p l m);
            none = window-none (demand (first ends_at 1 max_activations)) e;
          })
          by h (Some t) e =
              let k = first ends_at 1 max_activations in
              let c : closing.Closes demand (δ ds) k t = closing.closes-found demand (δ ds) h e in
              let B : ℕ → ℕ = λ q. long (window_of (demand q)) in
              let there : (q : ℕ) → 1 ≤ q → q ≤ k → (s : ℕ) × (window_of (demand q) ≡ Some s) × (δ ds q ≤ s) × (s ≤ t) = closing.windows-there growing (δ-one good) c in
              let is : (q : ℕ) (l : 1 ≤ q) (m : q ≤ k) → B q ≡ (there q l m).0 = λ q l m. ap long (there q l m).1 in
              let windows : (q : ℕ) → 1 ≤ q → q ≤ k → Solution (demand q) (B q) = λ q l m. subst (Solution (demand q)) (sym (is q l m)) (window-at (demand q) (there q l m).0 (there q l m).1) in
              let behind : (q : ℕ) → 1 ≤ q → q ≤ k → δ ds q ≤ B q = λ q l m. omega (arith, is q l m, (there q l m).2) in
              inr (inr (
                k,
                latency_to demand (δ ds) k,
                late_to demand (δ ds) deadline k,
                margin_of deadline (latency_to demand (δ ds) k),
                record {
                  low = c.low;
                  high = h;
                  B = B;
                  windows = windows;
                  reach = λ q l m. let w = c.reach q l m in omega (arith, ap long w.1, w.2);
                  shut = omega (arith, ap long e, c.shut);
                  behind = behind;
                  greatest = longest k B windows behind c.low;
                  counts = late-counts k B windows behind k (omega arith);
                  rest = refl;
                },
              ))

      pub answer_means : Means demand ds deadline answer
      answer_means = record {
        figures = λ f. (λ e. closed f e three, closes f.close f.latency f.late f.margin);
        none = (λ e. none e three, no_window);
        unclosed = (λ e. unclosed e three, no_close);
        other = λ f g. other f g three;
      }
        where
          closed : (f : Figures) → answer ≡ Ok f → Case → Closes demand ds deadline f.close f.latency f.late f.margin
          closed f e (inl n) = let g = no_window n in let z : ◌≡◌ {A = ℕ} 0 1 = cc in absurd (omega arith)
          closed f e (inr (inl o)) = let g = no_close o in let z : ◌≡◌ {A = ℕ} 0 1 = cc in absurd (omega arith)
          closed f e (inr (inr (k, latency, late, margin, c))) =
              let g = closes k latency late margin c in
              let same : figures k latency late margin ≡ f = cc in
              subst (λ (x : Figures). Closes demand ds deadline x.close x.latency x.late x.margin) same c

          none : answer ≡ Err PastHorizon → Case → NoWindow demand ds
          none e (inl n) = n
          none e (inr (inl o)) = let f = no_close o in let z : ◌≡◌ {A = ℕ} 0 1 = cc in absurd (omega arith)
          none e (inr (inr (k, latency, late, margin, c))) = let f = closes k latency late margin c in let z : ◌≡◌ {A = ℕ} 0 1 = cc in absurd (omega arith)

          unclosed : answer ≡ Err StillOpen → Case → NoClose demand ds
          unclosed e (inl n) = let f = no_window n in let z : ◌≡◌ {A = ℕ} 0 1 = cc in absurd (omega arith)
          unclosed e (inr (inl o)) = o
          unclosed e (inr (inr (k, latency, late, margin, c))) = let f = closes k latency late margin c in let z : ◌≡◌ {A = ℕ} 0 1 = cc in absurd (omega arith)

          other : ((f : Figures) → answer ≡ Ok f → ⊥) → (answer ≡ Err PastHorizon → ⊥) → Case → answer ≡ Err StillOpen
          other f g (inl n) = absurd (g (no_window n))
          other f g (inr (inl o)) = no_close o
          other f g (inr (inr (k, latency, late, margin, c))) = absurd (f (figures k latency late margin) (closes k latency late margin c))

      -- and no other answer meets the words
      pub means_one : (a : Answer) → Means demand ds deadline a → a ≡ answer
      means_one a m = go three
        where
          go : Case → a ≡ answer
          go (inl n) = m.none.1 n ∙ sym (no_window n)
          go (inr (inl o)) = m.unclosed.1 o ∙ sym (no_close o)
          go (inr (inr (k, latency, late, margin, c))) = (m.figures (figures k latency late margin)).1 c ∙ sym (closes k latency late margin c)

module _ {s : List ℕ} {id : ℕ} (h : Has s id) where
  abbrev b : Row
  b = chain_of s id

  abbrev l : List Row
  l = chains.others_of s id

  good : GoodRow b
  good = (table-good h.table).row (chain_number s id) h.there

  -- arrivals are those of distances that add up
  pub counted : ArrivalRules (distances b)
  counted =
      let g = good.list in
      let step = best-there (distances b) g.some in
      record {
        ways = λ n. subst (λ m. Greatest (λ x. (steps : List ℕ) × Way (distances b) n steps × (x ≡ sum_of_steps (distances b) steps)) (δ (distances b) m)) (sym (add-one n)) (δ-ways (distances b) g.some n);
        alone = δ-one g;
        adds = δ-adds (distances b) g.some;
        former = δ-above g;
        as_before = λ up. adds-up-is g (record { with = λ i low high. record { adds = λ j some less. up i j low high some (omega (arith, less, high)) } });
        closed = (step.0, step.1, λ n h. rw (add-one, add-one) (best-last (distances b) step.1 n h));
        never = η-zero g;
        greatest = η-greatest g;
      }

  -- the former ones document 01's
  pub formerly : FormerRules (distances b)
  formerly =
      let g = rising good.list in
      record { alone = repeated-start g; listed = repeated-listed g; turns = repeated-rule g }

  -- and so is the largest distance, by its gap or its list
  pub stretched : LargestRules b
  stretched = record {
    by_gap = λ e k. largest-by-gap b k (λ f. omega (arith, f, good.flag_form e));
    alone = λ e. largest-by-list b 1 e ∙ repeated-start (largests-rising good e);
    listed = λ e j h. largest-by-list b (j + 2) e ∙ repeated-listed (largests-rising good e) j (omega (arith, h, largests-long good e)) ∙ largests-at good j;
    turns = λ e i j h.
        subst (λ n. j < n → largest b (1 + i * n + j) ≡ i * largest b (n + 1) + largest b (1 + j)) (largests-long good e)
        (λ l. rw (largest-by-list b (1 + i * length (largests b) + j) e, largest-by-list b (length (largests b) + 1) e, largest-by-list b (1 + j) e) (repeated-rule (largests-rising good e) i j l)) h;
  }

  growing : Growing (full b l)
  unfolding views_of
  growing = subst Growing (equation-is b l) (demand-growing δ-good b _ good (others-paced (table_of s) (table-good h.table) (chain_number s id)))

  -- the answer of the latency query for a chain of an accepted table is that of the demand equation
  answer-is : latency_of s id ≡ figures_of (windows_of (full b l) (δ (distances b)) b.deadline)
  unfolding bound_of
  answer-is = latency-is h δ ∙ ap (λ d. figures_of (windows_of d (δ (distances b)) b.deadline)) (equation-is b l)

  pub latency_means : Means (full b l) (distances b) b.deadline (latency_of s id)
  latency_means = rw answer-is (answer_means (full b l) (distances b) b.deadline growing good.list)

  -- whatever meets the words is that answer: not always a refusal, nor a fixed figure, nor a made-up K, latency or late count
  pub latency-only : (a : Answer) → Means (full b l) (distances b) b.deadline a → a ≡ latency_of s id
  latency-only a m = means_one (full b l) (distances b) b.deadline growing good.list a m ∙ sym answer-is
