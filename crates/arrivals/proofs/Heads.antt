-- The greatest sums as the code holds them, and the best step as it finds it. Assumes nothing.
use Prim.Native.Nat.{ℕ, zero, suc, zero-le, max, min, ◌+◌, ◌*◌, ◌/◌, ◌-◌, ◌%◌, ◌≤◌, ◌<◌}
use mathlib.Core.Path.{◌≡◌, refl, ap, sym, subst, ◌∙◌}
use mathlib.Core.List.{List}
use mathlib.Core.Logic.{inl, inr, ⊎_elim}
use native.Mathlib.Omega.{arith}
use native.Mathlib.Nat.{le_antisymm, le_refl, le_of_eq, eq-or-lt_of_le, mul-le-mul_right, mul-le-mul, mul-pos, mul_assoc, mul_comm, div-add-mod', mod-lt}
use borrow.Author.Tests.{lt-ltb, le-ltb}
use lib.Dec.{ltb}
use lib.ListN.{length, get_or, set, length-set}
use lib.Seq.{get_or-set_same, get_or-set_other}
use Rattle.search.specs.Choice.{◌when◌else◌}
use Rattle.search.proofs.Choice.{lt_or_le, when_yes, when_no}
use Rattle.table.specs.Limits.{max_distances, max_distance}
use Rattle.table.specs.Code.Good.{GoodDistances}
use Rattle.arrivals.specs.Arrivals.{as_listed, repeated, δ, count_by, η, Best}
use Rattle.arrivals.specs.Code.Sums.{AddsUp, Better, head_of, places, SumsAt, FirstSum, GreatestTo, FirstFrom}
use Rattle.arrivals.proofs.Blocks.{multiple}
use Rattle.arrivals.proofs.Sums.{δ-none, δ-step, δ-last}
use Rattle.arrivals.proofs.Rules.{count-fewer}
use Rattle.arrivals.proofs.Repeating.{repeated-lawful}
use Rattle.arrivals.proofs.Lists.{last-above}
use Rattle.arrivals.proofs.Distances.{δ-mono, δ-above, δ-lawful, δ-far}
use Rattle.arrivals.proofs.Closed.{best-last, best-steps, adds-up-is}
use Rattle.arrivals.proofs.Counts.{η-some, η-counts, η-stops, η-zero}

-- a place among the eight
pub inside : (m : ℕ) → m % max_distances < max_distances
inside m = mod-lt m (omega arith)

-- `best` is a best step of those below j
pub record BestTo (ds : List ℕ) (j best : ℕ) : Type 0 where
  pub low : 1 ≤ best
  pub high : best < j
  pub best_of : (i : ℕ) → 1 ≤ i → i < j → as_listed ds i * best ≤ as_listed ds best * i

-- what is no better than one is no better than a better one
through : (x y z a b c : ℕ) → 1 ≤ b → x * b ≤ y * a → y * c ≤ z * b → x * c ≤ z * a
through x y z a b c some f g = ⊎_elim
    (λ l. absurd (omega (
      arith,
      mul-le-mul_right b l,
      mul-le-mul_right c f,
      mul-le-mul_right a g,
      some,
      mul_assoc x c b,
      mul_comm c b,
      mul_assoc x b c,
      mul_assoc y a c,
      mul_comm a c,
      mul_assoc y c a,
      mul_assoc z b a,
      mul_comm b a,
      mul_assoc z a b,
    )))
    (λ l. l) (lt_or_le (z * a) (x * c))

module _ (ds : List ℕ) where
  pub best-on : (j best r : ℕ) → 1 ≤ j → BestTo ds j best → Better ds best j r → BestTo ds (j + 1) r
  best-on j best r some b better = record {
    low = ⊎_elim (λ e. omega (arith, e, b.low)) (λ e. omega (arith, e)) better.one;
    high = ⊎_elim (λ e. omega (arith, e, b.high)) (λ e. omega (arith, e)) better.one;
    best_of = λ i l h. ⊎_elim
        (λ e. let f : i ≡ j = omega arith in omega (arith, better.second, ap (λ k. as_listed ds k * r) f, ap (λ k. as_listed ds r * k) f))
        (λ g. through (as_listed ds i) (as_listed ds best) (as_listed ds r) i best r b.low (b.best_of i l (omega arith)) better.first)
        (eq-or-lt_of_le h);
  }

  pub best-all : (j best : ℕ) → j ≡ length ds + 1 → BestTo ds j best → Best ds best
  best-all j best e b = record { low = b.low; high = omega (arith, e, b.high); best = λ i l h. b.best_of i l (omega (arith, e, h)) }

  -- there is one
  best-up-to : (n : ℕ) → (s : ℕ) × BestTo ds (n + 2) s
  best-up-to zero = (1, record { low = le_refl 1; high = omega arith; best_of = λ i l h. let e : i ≡ 1 = omega arith in omega (arith, ap (λ k. as_listed ds k * 1) e, ap (λ k. as_listed ds 1 * k) e) })
  best-up-to (suc n) =
      let b = best-up-to n in
      let next : (r : ℕ) → Better ds b.0 (n + 2) r → (s : ℕ) × BestTo ds (suc n + 2) s =
      λ r better. let e : n + 2 + 1 ≡ suc n + 2 = omega arith in (r, subst (λ j. BestTo ds j r) e (best-on (n + 2) b.0 r (omega arith) b.1 better)) in
      ⊎_elim
      (λ h. next (n + 2) (record { one = inr refl; first = omega arith; second = le_refl _ }))
      (λ h. next b.0 (record { one = inl refl; first = le_refl _; second = h }))
      (lt_or_le (as_listed ds b.0 * (n + 2)) (as_listed ds (n + 2) * b.0))

  pub best-there : 1 ≤ length ds → (s : ℕ) × Best ds s
  best-there some =
      let b = best-up-to (length ds - 1) in
      (b.0, best-all (length ds - 1 + 2) b.0 (omega arith) b.1)

  -- the last steps one after the other
  pub last_none : (m : ℕ) → GreatestTo ds m 1 0
  last_none m = record { within = zero-le; each = λ i l h. absurd (omega arith); none = λ e. refl; one = λ h. absurd (omega arith) }

  pub last_on : (m j best x : ℕ) → 1 ≤ j → j ≤ length ds → j ≤ m → GreatestTo ds m j best → x ≡ δ ds (suc (m - j)) → GreatestTo ds m (j + 1) (max best (as_listed ds j + x))
  last_on m j best x l h k t e =
      let f : j + (m - j) ≡ m = omega arith in
      let step : as_listed ds j + x ≤ δ ds (suc m) = omega (arith, e, δ-step ds j (m - j) l h, ap (λ n. δ ds (suc n)) f) in
      let this : best ≤ as_listed ds j + x → (i : ℕ) × (1 ≤ i) × (i < j + 1) × (max best (as_listed ds j + x) ≡ as_listed ds i + δ ds (suc (m - i))) =
      λ g. (j, l, omega arith, omega (arith, g, e)) in
      record {
        within = omega (arith, t.within, step);
        each = λ i low less. ⊎_elim
            (λ g. let same : i ≡ j = omega arith in omega (arith, e, ap (λ n. as_listed ds n + δ ds (suc (m - n))) same))
            (λ g. omega (arith, t.each i low (omega arith)))
            (eq-or-lt_of_le less);
        none = λ g. absurd (omega (arith, g, l));
        one = λ g. ⊎_elim
            (λ z. this (omega (arith, t.none (sym z))))
            (λ before. ⊎_elim
            (λ less. let o = t.one before in (o.0, o.1, omega (arith, o.2), omega (arith, o.3, less)))
            this
            (lt_or_le (as_listed ds j + x) best))
            (eq-or-lt_of_le l);
      }

  pub last-all : (m j best : ℕ) → 1 ≤ length ds → 1 ≤ m → j ≡ min (length ds) m + 1 → GreatestTo ds m j best → best ≡ δ ds (suc m)
  last-all m j best some l e t =
      let r = δ-last ds some m l in
      le_antisymm t.within (omega (arith, r.4, t.each r.0 r.1 (omega (arith, e, r.2, r.3))))

  -- two places of eight in a row are apart
  apart : (i m : ℕ) → i < m → m < i + max_distances → i % max_distances ≡ m % max_distances → ⊥
  apart i m l h e = let k = multiple max_distances i m l e in omega (arith, k.1, k.2, h)

  pub sums_next : (m x : ℕ) (sums : List ℕ) → 1 ≤ m → SumsAt ds (m - 1) sums → x ≡ δ ds (suc m) → SumsAt ds m (set sums (m % max_distances) x)
  sums_next m x sums l s e = record {
    size = length-set sums (m % max_distances) x ∙ s.size;
    at = λ i h g. ⊎_elim
        (λ f. ap (λ k. get_or (set sums (m % max_distances) x) (k % max_distances) 0) f
        ∙ get_or-set_same sums (m % max_distances) x 0 (omega (arith, s.size, inside m)) ∙ e ∙ ap (λ n. δ ds (suc n)) (sym f))
        (λ less. get_or-set_other sums (m % max_distances) (i % max_distances) x 0 (apart i m less g) ∙ s.at i (omega arith) (omega arith))
        (eq-or-lt_of_le h);
  }

  -- the last that was put
  pub sums-here : (m : ℕ) (sums : List ℕ) → SumsAt ds m sums → get_or sums (m % max_distances) 0 ≡ δ ds (suc m)
  sums-here m sums s = s.at m (le_refl m) (omega arith)

  -- no sum yet
  pub sums_none : (sums : List ℕ) → length sums ≡ max_distances → get_or sums 0 0 ≡ 0 → SumsAt ds 0 sums
  sums_none sums size first = record {
    size = size;
    at = λ i h g. let e : i ≡ 0 = omega arith in ap (λ k. get_or sums (k % max_distances) 0) e ∙ first ∙ sym (ap (λ n. δ ds (suc n)) e ∙ δ-none ds);
  }

  -- the first
  pub sums_first : (sums : List ℕ) (x : ℕ) → 1 ≤ length ds → SumsAt ds 0 sums → x ≡ as_listed ds 1 → SumsAt ds 1 (set sums 1 x)
  sums_first sums x some s e =
      let r = δ-last ds some 1 (le_refl 1) in
      let one : r.0 ≡ 1 = omega (arith, r.1, r.3) in
      sums_next 1 x sums (le_refl 1) s (e ∙ sym (r.4 ∙ ap (λ j. as_listed ds j + δ ds (suc (1 - j))) one ∙ omega (arith, δ-none ds)))

  -- one step or none
  pub δ-few : 1 ≤ length ds → (m : ℕ) → m ≤ 1 → m * as_listed ds 1 ≡ δ ds (m + 1)
  δ-few some m h = ⊎_elim
      (λ l.
      let e : m ≡ 1 = omega arith in
      let r = δ-last ds some 1 (le_refl 1) in
      let one : r.0 ≡ 1 = omega (arith, r.1, r.3) in
      omega (arith, ap (λ n. n * as_listed ds 1) e, ap (λ n. δ ds (n + 1)) e, r.4, ap (λ j. as_listed ds j + δ ds (suc (1 - j))) one, δ-none ds))
      (λ z. let e : m ≡ 0 = omega arith in omega (arith, ap (λ n. n * as_listed ds 1) e, ap (λ n. δ ds (n + 1)) e, δ-none ds))
      (lt_or_le 0 m)

module _ {ds : List ℕ} (good : GoodDistances ds) where
  -- up to a sum that none has
  pub first-all : (t most r : ℕ) → most ≤ places → places * max_distance < t → FirstSum ds t most r → r ≡ most
  first-all t most r few never s = ⊎_elim
      (λ e. e)
      (λ h. absurd (omega (arith, h, δ-far good r, s.high, few, never)))
      s.ends

  -- it is a count
  pub first-min : (t most r : ℕ) → FirstSum ds t most r → r ≡ min (η ds t) most
  first-min t most r s = ⊎_elim (λ e. omega (arith, e, all)) (λ h. omega (arith, all, s.high, stops h)) s.ends
    where
      all : r ≤ η ds t
      all = ⊎_elim
          (λ l.
          let e : suc (r - 1) ≡ r - 1 + 1 = omega arith in
          omega (arith, η-counts good (r - 1) t (omega (arith, s.before (r - 1) (omega (arith, l)), ap (δ ds) e))))
          (λ l. omega (arith, l))
          (lt_or_le 0 r)

      stops : t ≤ δ ds (suc r) → η ds t ≤ r
      stops h = let e : suc r ≡ r + 1 = omega arith in η-stops good r t (omega (arith, h, ap (δ ds) e))

  module _ {s : ℕ} (best : Best ds s) where
    pub best-some : 0 < as_listed ds s
    best-some = ⊎_elim
        (λ h. h)
        (λ z.
        let e : as_listed ds s ≡ 0 = omega (arith, z) in
        absurd (omega (arith, best.best (length ds) good.some (le_refl (length ds)), ap (λ n. n * length ds) e, mul-pos (last-above good) best.low)))
        (lt_or_le 0 (as_listed ds s))

    -- the head, or the list where that is longer; with a step more it has its places
    abbrev pub head : ℕ
    head = max (head_of ds s) (length ds)

    pub head_few : head + s ≤ places
    head_few =
        let a : s - 1 ≤ max_distances - 1 = omega (arith, best.high, good.few) in
        omega (arith, mul-le-mul a good.few, best.high, good.few)

    -- δ(m + 1) by whole best steps, as few as lead back into the head
    module _ (m whole : ℕ) (long : length ds ≤ m) (is : whole ≡ (m + s - (head + 1)) / s) where
      ticks : whole * s + (m + s - (head + 1)) % s ≡ m + s - (head + 1)
      ticks = ap (λ n. n * s + (m + s - (head + 1)) % s) is ∙ div-add-mod' (m + s - (head + 1)) s

      pub whole-within : whole * s ≤ m
      whole-within = omega (arith, ticks, best.high)

      pub rest-few : m - whole * s ≤ places
      rest-few = omega (arith, ticks, mod-lt (m + s - (head + 1)) best.low, head_few)

      pub rest-long : length ds < m - whole * s + max_distances
      rest-long = ⊎_elim
          (λ some. omega (arith, ticks, mul-pos some best.low, whole-within, best.high, good.few))
          (λ none. let z : whole ≡ 0 = omega (arith, none) in omega (arith, ap (λ n. n * s) z, long))
          (lt_or_le 0 whole)

      pub δ-whole : δ ds (m + 1) ≡ whole * as_listed ds s + δ ds (m - whole * s + 1)
      δ-whole = ⊎_elim
          (λ some.
          let e : m + 1 ≡ suc (whole * s + (m - whole * s)) = omega (arith, whole-within) in
          let f : suc (m - whole * s) ≡ m - whole * s + 1 = omega arith in
          let past : head_of ds s < m - whole * s + s = omega (arith, ticks, mul-pos some best.low, whole-within) in
          ap (δ ds) e ∙ best-steps ds best whole (m - whole * s) past ∙ ap (λ n. whole * as_listed ds s + δ ds n) f)
          (λ none.
          let z : whole ≡ 0 = omega (arith, none) in
          let e : m - whole * s + 1 ≡ m + 1 = omega (arith, ap (λ n. n * s) z) in
          omega (arith, ap (λ n. n * as_listed ds s) z, ap (δ ds) e))
          (lt_or_le 0 whole)

    -- η(t) by whole best steps, and the first r in the remainder
    η-at : (t left whole r : ℕ) → t ≡ whole * as_listed ds s + left → 1 ≤ r → head_of ds s < r - 1 + s → δ ds (suc (r - 1)) < left → left ≤ δ ds (suc r) → η ds t ≡ whole * s + r
    η-at t left whole r e some past before reaches = le_antisymm none_more all_there
      where
        none_more : η ds t ≤ whole * s + r
        none_more =
            let f : suc (whole * s + r) ≡ whole * s + r + 1 = omega arith in
            η-stops good (whole * s + r) t (omega (arith, e, reaches, best-steps ds best whole r (omega (arith, past)), ap (δ ds) f))

        all_there : whole * s + r ≤ η ds t
        all_there =
            let f : suc (whole * s + (r - 1)) ≡ whole * s + (r - 1) + 1 = omega arith in
            omega (arith, some, η-counts good (whole * s + (r - 1)) t (omega (arith, e, before, best-steps ds best whole (r - 1) past, ap (δ ds) f)))

    -- where t lies past the head, whose next sum is known
    module _ (t sum whole : ℕ) (reached : sum ≡ δ ds (suc (head + 1))) (past : δ ds (suc head) < t) (is : whole ≡ (t + as_listed ds s - 1 - sum) / as_listed ds s) where
      spans : whole * as_listed ds s + (t + as_listed ds s - 1 - sum) % as_listed ds s ≡ t + as_listed ds s - 1 - sum
      spans = ap (λ n. n * as_listed ds s + (t + as_listed ds s - 1 - sum) % as_listed ds s) is ∙ div-add-mod' (t + as_listed ds s - 1 - sum) (as_listed ds s)

      earlier : sum ≡ as_listed ds s + δ ds (suc (head + 1 - s))
      earlier = reached ∙ best-last ds best (head + 1) (omega arith)

      pub spans-within : whole * as_listed ds s ≤ t
      spans-within = omega (arith, spans, earlier)

      abbrev left : ℕ
      left = t - whole * as_listed ds s

      left_near : left ≤ sum
      left_near = omega (arith, spans, mod-lt (t + as_listed ds s - 1 - sum) best-some)

      left-past : 0 < whole → δ ds (suc (head + 1 - s)) < left
      left-past some = omega (arith, spans, earlier, mul-pos some best-some)

      left-all : whole ≡ 0 → left ≡ t
      left-all z = omega (arith, ap (λ n. n * as_listed ds s) z)

      pub η-past : (sums : List ℕ) (r : ℕ) → SumsAt ds (head + 1) sums → FirstFrom sums (head + 1 + 1 - s) (head + 1) left r → η ds t ≡ whole * s + r
      η-past sums r at f = η-at t left whole r (omega (arith, spans-within)) (omega (arith, f.low, best.high)) (omega (arith, f.low, best.low)) before reaches
        where
          here : (i : ℕ) → head + 1 + 1 - s ≤ i → i ≤ head + 1 → get_or sums (i % max_distances) 0 ≡ δ ds (suc i)
          here i low high = at.at i high (omega (arith, low, best.high, good.few))

          reaches : left ≤ δ ds (suc r)
          reaches = ⊎_elim
              (λ e. omega (arith, ap (λ n. δ ds (suc n)) e, reached, left_near))
              (λ h. omega (arith, h, here r f.low f.high))
              f.ends

          -- the one before lies below, in the remainder or as its start
          before : δ ds (suc (r - 1)) < left
          before = ⊎_elim
              (λ start. ⊎_elim
              (λ some. let e : r - 1 ≡ head + 1 - s = omega (arith, start, best.low) in omega (arith, ap (λ n. δ ds (suc n)) e, left-past some))
              (λ none. let z : whole ≡ 0 = omega (arith, none) in omega (arith, left-all z, past, δ-mono good (suc (r - 1)) (suc head) (omega (arith, f.high))))
              (lt_or_le 0 whole))
              (λ later. omega (arith, f.before (r - 1) (omega (arith, later)) (omega (arith, later)), here (r - 1) (omega (arith, later)) (omega (arith, f.high))))
              (eq-or-lt_of_le f.low)

  -- a list of one distance: δ(m + 1) is m times that
  pub δ-single : length ds ≡ 1 → (m : ℕ) → δ ds (m + 1) ≡ m * as_listed ds 1
  δ-single one m =
      let best : Best ds 1 = record { low = le_refl 1; high = good.some; best = λ j l h. let e : j ≡ 1 = omega arith in omega (arith, ap (λ k. as_listed ds k * 1) e, ap (λ k. as_listed ds 1 * k) e) } in
      let e : m + 1 ≡ suc (m * 1 + 0) = omega arith in
      omega (arith, ap (δ ds) e, best-steps ds best m 0 (omega arith), δ-none ds)

  -- before the first distance there is one, and in no time none
  pub η-first : (t : ℕ) → t ≤ as_listed ds 1 → (1 when ltb 0 t else 0) ≡ η ds t
  η-first t h =
      let stops : η ds t ≤ 1 = η-stops good 1 t (omega (arith, h, δ-step ds 1 0 (le_refl 1) good.some)) in
      ⊎_elim
      (λ l. when_yes {A = ℕ} 1 0 (lt-ltb 0 t l) ∙ le_antisymm (η-some good t l) stops)
      (λ z. when_no {A = ℕ} 1 0 (le-ltb 0 t z) ∙ sym (let e : t ≡ 0 = omega arith in ap (η ds) e ∙ η-zero good))
      (lt_or_le 0 t)

  -- a list that adds up is counted by 01's rule
  pub adds-up-count : AddsUp ds → (t : ℕ) → count_by repeated ds t ≡ η ds t
  adds-up-count up t = le_antisymm
      (count-fewer (repeated-lawful good) (δ-lawful good) (λ n. le_of_eq (adds-up-is good up n)) t t (le_refl t))
      (count-fewer (δ-lawful good) (repeated-lawful good) (δ-above good) t t (le_refl t))
