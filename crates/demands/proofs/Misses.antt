-- Demand 2 for the miss query: its definition meets the words of document 01, 'Misses', and of document 02, request 3. Assumes nothing.
use Prim.Native.Nat.{ℕ, ◌*◌, ◌≤◌, min}
use mathlib.Core.Path.{◌≡◌, refl, ap, sym, subst, ◌∙◌}
use mathlib.Core.Bool.{Bool, true, false}
use mathlib.Core.List.{List, [], ◌∷◌}
use mathlib.Core.Logic.{inl, inr, ⊎_elim}
use native.Mathlib.Omega.{arith}
use native.Mathlib.Decide.{ℕ_discrete}
use lib.Dec.{ltb}
use lib.ListN.{length, get_or}
use borrow.Author.Tests.{lt-ltb, le-ltb, ltb-false}
use Rattle.std.specs.declared.result.Result.{Result}
use Rattle.std.specs.declared.result.Result.TheVariants.{Ok, Err}
use Rattle.search.specs.Lists.{All, some}
use Rattle.search.proofs.Choice.{true-not-false, lt_or_le}
use Rattle.search.proofs.Lists.{all_map}
use Rattle.table.specs.Limits.{max_run, max_overloads, max_capacity}
use Rattle.table.specs.Fault.{outside}
use Rattle.table.specs.Code.Good.{GoodRow}
use Rattle.table.specs.declared.Row.{Row}
use Rattle.table.specs.declared.refusal.Refusal.{Refusal}
use Rattle.table.proofs.Firsts.{none_or, or_left, or_right}
use Rattle.arrivals.specs.Arrivals.{δ, η}
use Rattle.table.specs.Record.{distances}
use Rattle.segments.specs.View.{View}
use Rattle.windows.specs.Demand as demand
use Rattle.windows.specs.Latency.{windows_of, figures_of, bound_of}
use Rattle.windows.specs.declared.Windows.{Windows}
use Rattle.arrivals.proofs.Distances.{δ-good}
use Rattle.windows.proofs.Comparing.{Paced}
use Rattle.windows.proofs.Growth.{Growing, demand-growing}
use Rattle.windows.proofs.Besides.{others-good, others-paced}
use Rattle.packing.proofs.Most.{most-greatest, most-is}
use Rattle.packing.proofs.Laws.{most-same}
use Rattle.packing.specs.Most.{most_uses}
use Rattle.arrivals.proofs.Rows.{unknown-yes, unknown_no}
use Rattle.misses.specs.Overloads.{Overload}
use Rattle.misses.specs.Bad.{Test, by_windows}
use Rattle.misses.specs.Misses.{Answer, early_of, bad_of, room_of, packing_figure, missed_of, by_figures, by_bound, unless_early, tested_beside, tested_of, misses_of}
use Rattle.misses.specs.Sieve.{by_sieve}
use Rattle.misses.proofs.Starts.{starts}
use Rattle.misses.proofs.Answers as answers
use Rattle.table.specs.Read.{table_of}
use Rattle.demands.specs.Chains.{Has, chain_number, chain_of, others_of}
use Rattle.demands.specs.Figures.{Exactly}
use Rattle.demands.specs.Misses.{marked, pieces, full, capacity_of, IsBad, IsCalled, MayAsk, Figured, last_of, AtMostSix, Once, Fine, Capped, Most, Says, SaysMissed, SaysAtMost, Right}
use Rattle.demands.proofs.Chains.{table-good, tested-are}
use Rattle.demands.proofs.Figures.{no_window, no_close, closes-last, three, latency_means}
use Rattle.demands.proofs.Equation.{viewed, equation-is}
use Rattle.demands.proofs.Sets.{bad_means, called_means}
use Rattle.demands.proofs.Capacities.{room_at, capped_all, all_capped}

-- no element passes
module _ {A : Type 0} (p : A → Bool) where
  none-all : (l : List A) → some p l ≡ false → All (λ a. p a ≡ false) l
  unfolding some
  none-all [] e = tt
  none-all (a ∷ l) e = let r = none_or (p a) (some p l) e in (r.0, none-all l r.1)

  all_none : (l : List A) → All (λ a. p a ≡ false) l → some p l ≡ false
  unfolding some
  all_none [] h = refl
  all_none (a ∷ l) h = rw h.0 (all_none l h.1)

-- the tests 19 and 21, which go over lists, against a limit
module _ {A : Type 0} (limit : ℕ) (f : A → ℕ) where
  abbrev above : A → Bool
  above a = ltb limit (f a)

  within_none : (l : List A) → All (λ a. f a ≤ limit) l → some above l ≡ false
  within_none l h = all_none above l (all_map (λ a e. le-ltb limit (f a) e) l h)

  none_within : (l : List A) → some above l ≡ false → All (λ a. f a ≤ limit) l
  none_within l e = all_map (λ a h. ltb-false limit (f a) h) l (none-all above l e)

  not_within : (l : List A) → (All (λ a. f a ≤ limit) l → ⊥) → some above l ≡ true
  not_within l h = go (some above l) refl
    where
      go : (t : Bool) → some above l ≡ t → t ≡ true
      go true e = refl
      go false e = absurd (h (none_within l e))

  some-not : (l : List A) → some above l ≡ true → All (λ a. f a ≤ limit) l → ⊥
  some-not l e h = true-not-false e (within_none l h)

-- two tests that hold exactly when the same does
same_test : {P : Type 0} (x y : Bool) → Exactly (x ≡ true) P → Exactly (y ≡ true) P → x ≡ y
same_test true y f g = sym (g.1 (f.0 refl))
same_test false true f g = f.1 (g.0 refl)
same_test false false f g = refl

module _ (b : Row) (l : List Row) (good : GoodRow b) (rows : All GoodRow l) (paced : Paced (viewed b l)) (k : ℕ) (test : Test) (Bad : ℕ → ℕ → Type 0)
    (exactly : (f : Figured b l k) (m : ℕ) → Exactly (bad_of test b (viewed b l) (marked b l) f.close m ≡ true) (Bad f.close m)) where
  abbrev vs : List View
  vs = viewed b l

  abbrev os : List Overload
  os = marked b l

  abbrev answer : Answer
  answer = tested_beside δ test b vs os k

  -- the full analysis
  abbrev windows : Result Windows Refusal
  windows = windows_of (full b l) (δ (distances b)) b.deadline

  inside : 1 ≤ k → k ≤ max_run → outside 1 max_run k ≡ false
  inside x y = rw (le-ltb k 1 x, le-ltb max_run k y)

  -- nothing is refused before the windows
  asked-early : MayAsk b l k → early_of b k ≡ Ok tt
  asked-early a = answers.early-none b k (inside a.low a.high) a.typical (unknown_no b a.known)

  early-refused : {n : Refusal} → early_of b k ≡ Err n → answer ≡ Err n
  unfolding tested_beside
  early-refused e = ap (unless_early δ test b vs os k) e

  -- the windows refuse, or their figures decide
  by-windows : MayAsk b l k → {r : Result Windows Refusal} → windows ≡ r → answer ≡ by_bound δ test b vs os k r
  unfolding tested_beside bound_of
  by-windows a e =
      ap (unless_early δ test b vs os k) (asked-early a)
      ∙ ap (by_bound δ test b vs os k) (ap (λ d. windows_of d (δ (distances b)) b.deadline) (equation-is b l) ∙ e)

  refused-by : MayAsk b l k → {n : Refusal} → figures_of windows ≡ Err n → answer ≡ Err n
  refused-by a {n} e = by-windows a (same windows e)
    where
      same : (r : Result Windows Refusal) → figures_of r ≡ Err n → r ≡ Err n
      same (Ok w) f = absurd (let z : ◌≡◌ {A = ℕ} 0 1 = cc in omega arith)
      same (Err m) f = let z : m ≡ n = cc in ap (λ q. Err q) z

  module _ (f : Figured b l k) where
    by-figures : answer ≡ by_figures δ test b vs os k f.close f.latency f.late (last_of b l f)
    by-figures = by-windows f.asked (closes-last (full b l) (distances b) b.deadline f.close f.latency f.late f.margin f.figures)

    bad-false : (Bad f.close 0 → ⊥) → bad_of test b vs os f.close 0 ≡ false
    bad-false h = go (bad_of test b vs os f.close 0) refl
      where
        go : (t : Bool) → bad_of test b vs os f.close 0 ≡ t → t ≡ false
        go true e = absurd (h ((exactly f 0).0 e))
        go false e = refl

    -- whatever is the most uses is the number that is answered with
    most-same-uses : (uses : ℕ) → Most b l Bad f uses → most_uses (bad_of test b vs os f.close) (λ i. get_or (room_of δ b os k f.latency) i 0) ≡ uses
    most-same-uses uses m =
        most-same (bad_of test b vs os f.close) m.bad (λ i. get_or (room_of δ b os k f.latency) i 0) (capacity_of b l k f.latency)
        (λ x s h. same_test _ _ (exactly f x) (m.is x)) (λ i h. room_at b l k f.latency i)
        ∙ most-is m.bad (capacity_of b l k f.latency) m.most

    figure_is : (uses : ℕ) → Most b l Bad f uses → packing_figure δ test b vs os k f.close f.latency f.late ≡ f.late * uses
    unfolding packing_figure
    figure_is uses m = ap (λ u. f.late * u) (most-same-uses uses m)

    -- nothing is refused
    by_count : 1 ≤ f.late → AtMostSix b l → Once b l f → Capped b l f → answer ≡ Ok (missed_of δ test b vs os k f.close f.latency f.late)
    by_count h few once room =
        by-figures
        ∙ answers.counts δ test b vs os k f.close f.latency f.late (last_of b l f) (λ e. omega (arith, e, h)) few
        (within_none 1 (λ o. η o.list (last_of b l f)) os once) (within_none max_capacity (λ c. c) (room_of δ b os k f.latency) (capped_all b l k f.latency max_capacity room))

  -- an answer that the words allow is the answer given
  says-answer : {a : Answer} → Says b l Bad k a → answer ≡ a
  says-answer (Says.run (inl h)) = early-refused (answers.early-run b k (or_left _ (ltb max_run k) (lt-ltb k 1 h)))
  says-answer (Says.run (inr h)) = early-refused (answers.early-run b k (or_right (ltb k 1) _ (lt-ltb max_run k h)))
  says-answer (Says.overload x y h) = early-refused (answers.early-overload b k (inside x y) h)
  says-answer (Says.unknown x y t g f) = early-refused (answers.early-unknown b k (inside x y) t (unknown-yes b g f))
  says-answer (Says.window a n) = refused-by a (no_window (full b l) (distances b) b.deadline n)
  says-answer (Says.close a o) = refused-by a (no_close (full b l) (distances b) b.deadline o)
  says-answer (Says.none f e) = by-figures f ∙ answers.none-late δ test b vs os k f.close f.latency f.late (last_of b l f) e
  says-answer (Says.many f h n) =
      by-figures f
      ∙ answers.too_many δ test b vs os k f.close f.latency f.late (last_of b l f) (λ e. omega (arith, e, h))
      (⊎_elim (λ x. x) (λ x. absurd (n x)) (lt_or_le max_overloads (length (pieces b l))))
  says-answer (Says.again f h few n) =
      by-figures f
      ∙ answers.starts-again δ test b vs os k f.close f.latency f.late (last_of b l f) (λ e. omega (arith, e, h)) few
      (not_within 1 (λ o. η o.list (last_of b l f)) os n)
  says-answer (Says.above f h few once n) =
      by-figures f
      ∙ answers.too_roomy δ test b vs os k f.close f.latency f.late (last_of b l f) (λ e. omega (arith, e, h)) few
      (within_none 1 (λ o. η o.list (last_of b l f)) os once) (not_within max_capacity (λ c. c) (room_of δ b os k f.latency) (λ a. n (all_capped b l k f.latency max_capacity a)))
  says-answer (Says.always f h few once room x) =
      by_count f h few once room ∙ ap (λ u. Ok u) (answers.missed_all test b vs os k f.close f.latency f.late ((exactly f 0).1 x))
  says-answer (Says.packed f uses h few once room fine m) =
      by_count f h few once room
      ∙ ap (λ u. Ok u) (answers.missed_packed test b vs os k f.close f.latency f.late (bad-false f fine) ∙ ap (min k) (figure_is f uses m))

  -- and the words allow it
  is : {a : Answer} → Says b l Bad k a → Says b l Bad k answer
  is s = subst (Says b l Bad k) (sym (says-answer s)) s

  -- no more than 6 active segments, and some activation is late: three tests are left
  module _ (f : Figured b l k) (h : 1 ≤ f.late) (few : AtMostSix b l) where
    packed-says : Once b l f → Capped b l f → Fine b l Bad f → Says b l Bad k answer
    packed-says once room fine =
        is (Says.packed f (most_uses (bad_of test b vs os f.close) (capacity_of b l k f.latency)) h few once room fine (record {
          bad = bad_of test b vs os f.close;
          is = exactly f;
          most = most-greatest (bad_of test b vs os f.close) (capacity_of b l k f.latency);
        }))

    always-says : Once b l f → Capped b l f → (t : Bool) → bad_of test b vs os f.close 0 ≡ t → Says b l Bad k answer
    always-says once room true e = is (Says.always f h few once room ((exactly f 0).0 e))
    always-says once room false e = packed-says once room (λ x. true-not-false ((exactly f 0).1 x) e)

    roomy_says : Once b l f → (t : Bool) → some (ltb max_capacity) (room_of δ b os k f.latency) ≡ t → Says b l Bad k answer
    roomy_says once true e = is (Says.above f h few once (λ a. some-not max_capacity (λ c. c) (room_of δ b os k f.latency) e (capped_all b l k f.latency max_capacity a)))
    roomy_says once false e =
        always-says once (all_capped b l k f.latency max_capacity (none_within max_capacity (λ c. c) (room_of δ b os k f.latency) e)) (bad_of test b vs os f.close 0) refl

    again-says : (t : Bool) → some (starts (last_of b l f)) os ≡ t → Says b l Bad k answer
    again-says true e = is (Says.again f h few (some-not 1 (λ o. η o.list (last_of b l f)) os e))
    again-says false e = roomy_says (none_within 1 (λ o. η o.list (last_of b l f)) os e) (some (ltb max_capacity) (room_of δ b os k f.latency)) refl

  late-says : Figured b l k → Says b l Bad k answer
  late-says f = ⊎_elim
      (λ h. ⊎_elim (λ n. is (Says.many f h (λ few. omega (arith, n, few)))) (λ few. again-says f h few (some (starts (last_of b l f)) os) refl) (lt_or_le max_overloads (length (pieces b l))))
      (λ h. is (Says.none f (omega arith)))
      (lt_or_le 0 f.late)

  asked-says : MayAsk b l k → Says b l Bad k answer
  asked-says a = ⊎_elim
      (λ n. is (Says.window a n))
      (⊎_elim (λ o. is (Says.close a o)) (λ c. late-says (record { asked = a; close = c.0; latency = c.1; late = c.2; margin = c.3; figures = c.4 })))
      (three (full b l) (distances b) b.deadline (subst Growing (equation-is b l) (demand-growing δ-good b vs good paced)) good.list)

  answer-says : Says b l Bad k answer
  answer-says = ⊎_elim
      (λ h. is (Says.run (inl h)))
      (λ low. ⊎_elim
      (λ h. is (Says.run (inr h)))
      (λ high. elim (ℕ_discrete b.overload 0) [
        | yes t ↦ elim (ℕ_discrete b.gap 0) [
          | yes g ↦ elim (ℕ_discrete b.flag 0) [
            | yes f ↦ is (Says.unknown low high t g f)
            | no f ↦ asked-says (record { low = low; high = high; typical = t; known = inr (omega arith) })
          ]
          | no g ↦ asked-says (record { low = low; high = high; typical = t; known = inl (omega arith) })
        ]
        | no t ↦ is (Says.overload low high t)
      ])
      (lt_or_le max_run k))
      (lt_or_le k 1)

-- the answer by a test for a chain of an accepted table, where bad by the test means the same as in words
tested_mean : {s : List ℕ} {id : ℕ} → Has s id → (k : ℕ) (test : Test) (Bad : ℕ → ℕ → Type 0)
    → (GoodRow (chain_of s id) → All GoodRow (others_of s id) → Paced (viewed (chain_of s id) (others_of s id)) → (f : Figured (chain_of s id) (others_of s id) k) (m : ℕ)
    → Exactly (bad_of test (chain_of s id) (viewed (chain_of s id) (others_of s id)) (marked (chain_of s id) (others_of s id)) f.close m ≡ true) (Bad f.close m))
    → (a : Answer) → Exactly (tested_of δ test s id k ≡ a) (Says (chain_of s id) (others_of s id) Bad k a)
unfolding demand.views_of
tested_mean {s} {id} h k test Bad means a =
    let t = table-good h.table in
    let b = t.row (chain_number s id) h.there in
    let r = others-good (table_of s) t (chain_number s id) in
    let p = others-paced (table_of s) t (chain_number s id) in (
      λ e. subst (Says (chain_of s id) (others_of s id) Bad k) (sym (tested-are h δ test k) ∙ e) (answer-says (chain_of s id) (others_of s id) b r p k test Bad (means b r p)),
      λ x. tested-are h δ test k ∙ says-answer (chain_of s id) (others_of s id) b r p k test Bad (means b r p) x,
    )

-- demand 2: the answer of the miss query for a chain of an accepted table, and of the sieve
pub misses_mean : {s : List ℕ} {id : ℕ} → Has s id → (k : ℕ) (a : Answer) → Exactly (misses_of s id k ≡ a) (SaysMissed (chain_of s id) (others_of s id) k a)
misses_mean {s} {id} h k a = tested_mean h k by_windows (IsBad (chain_of s id) (others_of s id)) (λ b r p f. bad_means (chain_of s id) (others_of s id) b r p f.figures) a

pub sieve_means : {s : List ℕ} {id : ℕ} → Has s id → (k : ℕ) (a : Answer) → Exactly (tested_of δ by_sieve s id k ≡ a) (SaysAtMost (chain_of s id) (others_of s id) k a)
sieve_means {s} {id} h k a = tested_mean h k by_sieve (IsCalled (chain_of s id) (others_of s id)) (λ b r p f. called_means (chain_of s id) (others_of s id) f.close) a

-- both at once
pub answers-right : {s : List ℕ} {id : ℕ} → Has s id → Right s id
answers-right h = record { latency = latency_means h; misses = misses_mean h }
