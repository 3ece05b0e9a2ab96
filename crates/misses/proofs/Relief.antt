-- Two miss queries compared: where the first chain's analysis is no harder than the second's and the overload chains, matched one by one, cost
-- and start no more, the first misses no more, and it has a number of misses where the second has. Assumes nothing.
use Prim.Native.Nat.{ℕ, zero-le, ◌+◌, ◌/◌, ◌%◌, ◌^◌, ◌≤◌}
use mathlib.Core.Path.{◌≡◌, refl, ap₂, sym, ◌∙◌}
use mathlib.Core.Bool.{Bool, true, false, ◌&&◌}
use mathlib.Core.List.{List, [], ◌∷◌}
use mathlib.Core.Logic.{⊎_elim}
use native.Mathlib.Omega.{arith}
use native.Mathlib.Nat.{le_refl}
use borrow.Author.Tests.{lt-ltb, ltb-true, ltb-false, eq-eqb, eqb-true}
use lib.Dec.{eqb, ltb}
use lib.ListN.{length}
use Rattle.search.specs.Choice.{◌when◌else◌}
use Rattle.search.specs.Lists.{All, some, every}
use Rattle.search.proofs.Choice.{when_cases, true-not-false, true_or_false}
use Rattle.table.specs.Limits.{max_overloads, max_capacity}
use Rattle.table.specs.Code.Good.{GoodDistances}
use Rattle.table.specs.declared.Row.{Row}
use Rattle.arrivals.specs.Arrivals.{Rule, count_by, largest}
use Rattle.segments.specs.Actives.{Active}
use Rattle.segments.specs.View.{View}
use Rattle.windows.specs.Latency.{bound_of}
use Rattle.std.specs.Prelude.{⊤}
use Rattle.std.specs.declared.result.Result.{Result}
use Rattle.std.specs.declared.result.Result.TheVariants.{Ok, Err}
use Rattle.table.specs.declared.refusal.Refusal.{Refusal}
use Rattle.windows.specs.declared.Windows.{Windows}
use Rattle.search.proofs.Matching.{Matched, matched_same, matched_sum, matched_length, matched_append, matched_some, matched_map, matched_le}
use Rattle.arrivals.proofs.Rules.{Fewer, Slower, slower_fewer}
use Rattle.windows.proofs.Easing.{Relieved, relieved_easier, relieved-typical, bound-less}
use Rattle.misses.specs.Overloads.{Overload, Piece, piece, pieces_from, pieces_of, capacities_of}
use Rattle.misses.specs.Sets.{members, agree, together, allowed}
use Rattle.misses.specs.Bad.{bad, windows_by}
use Rattle.misses.specs.Misses.{Answer, early_of, bad_of, room_of, missed_of, by_figures, by_bound, unless_early, tested_beside}
use Rattle.misses.proofs.Bools.{and_left, and_right}
use Rattle.misses.proofs.Worsening.{over-mono}
use Rattle.misses.proofs.Starts.{starts_by}
use Rattle.misses.proofs.Answers.{none-late, counts}
use Rattle.misses.proofs.Increase.{missed_mono}

-- two active segments of the same number in their chains, the first no dearer
pub record Cheaper (x y : Active) : Type 0 where
  pub segment : x.segment ≡ y.segment
  pub cost : x.cost ≤ y.cost

-- two overload chains, each by its rule: their active segments are matched, and the first starts no more often
pub record Rarer (rule other : Rule) (o p : Overload) : Type 0 where
  pub actives : Matched Cheaper o.actives p.actives
  pub count : Fewer rule o.list other p.list

-- one chain's, by two rules
pub rarer_same : {rule other : Rule} → Slower rule other → (os : List Overload) → All (λ o. GoodDistances o.list) os → Matched (Rarer rule other) os os
rarer_same slower = matched_same (λ o good. record { actives = cheaper_same o.actives; count = slower_fewer slower good })
  where
    cheaper_same : (l : List Active) → Matched Cheaper l l
    cheaper_same [] = Matched.none
    cheaper_same (x ∷ l) = Matched.more (record { segment = refl; cost = le_refl x.cost }) (cheaper_same l)

-- as a combination holds them
record Lower (p r : Piece) : Type 0 where
  chain : p.chain ≡ r.chain
  segment : p.segment ≡ r.segment
  cost : p.cost ≤ r.cost

-- the same sets of them are combinations, and cost no more
members-lower : {ps rs : List Piece} → Matched Lower ps rs → (m : ℕ) → Matched Lower (members ps m) (members rs m)
unfolding members ◌when◌else◌
members-lower Matched.none m = Matched.none
members-lower (Matched.more {a = p} {b = r} {l = ps} {r = rs} h e) m = go (eqb (m % 2) 1) (members-lower e (m / 2))
  where
    go : (t : Bool) → Matched Lower (members ps (m / 2)) (members rs (m / 2))
        → Matched Lower (p ∷ members ps (m / 2) when t else members ps (m / 2)) (r ∷ members rs (m / 2) when t else members rs (m / 2))
    go true f = Matched.more h f
    go false f = f

agree-lower : {p q r s : Piece} → Lower p r → Lower q s → agree p q ≡ agree r s
agree-lower h e = rw (h.chain, h.segment, e.chain, e.segment)

every_lower : {p r : Piece} → Lower p r → {ps rs : List Piece} → Matched Lower ps rs → every (agree p) ps ≡ every (agree r) rs
unfolding every
every_lower h Matched.none = refl
every_lower h (Matched.more e m) = ap₂ ◌&&◌ (agree-lower h e) (every_lower h m)

together-lower : {ps rs : List Piece} → Matched Lower ps rs → together ps ≡ together rs
unfolding together
together-lower Matched.none = refl
together-lower (Matched.more h m) = ap₂ ◌&&◌ (every_lower h m) (together-lower m)

allowed-lower : {ps rs : List Piece} → Matched Lower ps rs → (m : ℕ) → allowed ps m ≡ allowed rs m
unfolding allowed
allowed-lower e m = ap₂ (λ n t. ltb m (2 ^ n) && t) (matched_length e) (together-lower (members-lower e m))

-- what is bad in the first is bad in the second
bad-lower : {costly worse : ℕ → Bool} → ((c e : ℕ) → c ≤ e → costly c ≡ true → worse e ≡ true) → {ps rs : List Piece} → Matched Lower ps rs → (m : ℕ)
    → bad costly ps m ≡ true → bad worse rs m ≡ true
unfolding bad
bad-lower {costly} {worse} more {ps} {rs} e m b =
    ap₂ ◌&&◌ (sym (allowed-lower e m) ∙ and_left (allowed ps m) _ b)
    (more _ _ (matched_sum (λ p. p.cost) (λ r. r.cost) (λ p r h. h.cost) (members-lower e m)) (and_right (allowed ps m) _ b))

-- the active segments of all overload chains
pieces-lower : {rule other : Rule} {os ps : List Overload} → Matched (Rarer rule other) os ps → (n : ℕ) → Matched Lower (pieces_from n os) (pieces_from n ps)
unfolding pieces_from
pieces-lower Matched.none n = Matched.none
pieces-lower (Matched.more h m) n =
    matched_append (matched_map (piece n) (piece n) (λ x y e. record { chain = refl; segment = e.segment; cost = e.cost }) h.actives) (pieces-lower m (n + 1))

-- their capacities in no more time
pub capacities_less : {rule other : Rule} {os ps : List Overload} → Matched (Rarer rule other) os ps → (s t : ℕ) → s ≤ t
    → Matched ◌≤◌ (capacities_of rule s os) (capacities_of other t ps)
unfolding capacities_of
capacities_less Matched.none s t h = Matched.none
capacities_less {rule} {other} (Matched.more {a = o} {b = p} e m) s t h =
    matched_append (matched_map (λ x. count_by rule o.list s + 1) (λ y. count_by other p.list t + 1) (λ x y f. omega (arith, e.count s t h)) e.actives) (capacities_less m s t h)

-- a test that fails in the second fails in the first
not_first : (t : Bool) {u : Bool} → u ≡ false → (t ≡ true → u ≡ true) → t ≡ false
not_first true e f = absurd (true-not-false (f refl) e)
not_first false e f = refl

-- where the second answer is a number of misses, the first is one, no greater
abbrev pub Spared : Answer → Answer → Type 0
Spared a (Ok r) = (n : ℕ) × (a ≡ Ok n) × (n ≤ r)
Spared a (Err r) = Unit {0}

-- a chain b beside its overload chains, and c beside its own: for b's run no later time is looked at
module _ {rule other : Rule} {b c : Row} {vs ws : List View} {os ps : List Overload} (k : ℕ) (r : Relieved rule other b c vs ws) (m : Matched (Rarer rule other) os ps)
    (early : early_of b k ≡ early_of c k) (run : largest b k ≤ largest c k) where
  module _ {close far : ℕ} (closes : close ≤ far) where
    bad-less : (x : ℕ) → bad_of (windows_by rule) b vs os close x ≡ true → bad_of (windows_by other) c ws ps far x ≡ true
    unfolding bad_of
    bad-less = bad-lower (λ y z h. over-mono (relieved_easier (relieved-typical r)) y z h close far closes) (pieces-lower m 0)

    module _ {latency longer late more : ℕ} (shorter : latency ≤ longer) (fewer : late ≤ more) where
      room-less : Matched ◌≤◌ (room_of rule b os k latency) (room_of other c ps k longer)
      unfolding room_of
      room-less = capacities_less m (largest b k + latency) (largest c k + longer) (omega arith)

      missed_less : missed_of rule (windows_by rule) b vs os k close latency late ≤ missed_of other (windows_by other) c ws ps k far longer more
      missed_less = missed_mono rule other (windows_by rule) (windows_by other) b c vs ws os ps close far latency longer (le_refl k) fewer bad-less (matched_le room-less)

      -- the refusals in their order: each that the first has, the second has
      module _ {last end : ℕ} (sooner : last ≤ end) where
        abbrev first : Answer
        first = by_figures rule (windows_by rule) b vs os k close latency late last

        again : some (starts_by rule last) os ≡ true → some (starts_by other end) ps ≡ true
        again = matched_some (starts_by rule last) (starts_by other end)
            (λ o p h e. lt-ltb 1 (count_by other p.list end) (omega (arith, ltb-true 1 (count_by rule o.list last) e, h.count last end sooner))) m

        above : some (ltb max_capacity) (room_of rule b os k latency) ≡ true → some (ltb max_capacity) (room_of other c ps k longer) ≡ true
        above = matched_some (ltb max_capacity) (ltb max_capacity) (λ x y h e. lt-ltb max_capacity y (omega (arith, ltb-true max_capacity x e, h))) room-less

        none : late ≡ 0 → (n : ℕ) → Spared first (Ok n)
        none e n = (0, none-late rule (windows_by rule) b vs os k close latency late last e, zero-le)

        answer-less : Spared first (by_figures other (windows_by other) c ws ps k far longer more end)
        unfolding by_figures
        answer-less =
            when_cases (Spared first) _ (λ e. none (omega (arith, eqb-true more 0 e)) 0) (λ e.
            when_cases (Spared first) _ (λ f. tt) (λ f.
            when_cases (Spared first) _ (λ g. tt) (λ g.
            when_cases (Spared first) _ (λ h. tt) (λ h. ⊎_elim
            (λ z. none (eqb-true late 0 z) (missed_of other (windows_by other) c ws ps k far longer more))
            (λ z. (
              missed_of rule (windows_by rule) b vs os k close latency late,
              counts rule (windows_by rule) b vs os k close latency late last (λ y. true-not-false (eq-eqb late 0 y) z)
                  (omega (arith, matched_length (pieces-lower m 0), ltb-false max_overloads (length (pieces_of ps)) f)) (not_first _ g again) (not_first _ h above),
              missed_less,
            ))
            (true_or_false (eqb late 0))))))

  bound-spared : (y : Result Windows Refusal) → bound_of other c ws ≡ y
      → Spared (by_bound rule (windows_by rule) b vs os k (bound_of rule b vs)) (by_bound other (windows_by other) c ws ps k y)
  bound-spared (Ok w) e =
      let v = bound-less r e in
      rw v.is (answer-less v.close_less v.latency_less v.late_less v.last_less)
  bound-spared (Err n) e = tt

  early-spared : (e : Result ⊤ Refusal) → Spared (unless_early rule (windows_by rule) b vs os k e) (unless_early other (windows_by other) c ws ps k e)
  early-spared (Ok u) = bound-spared (bound_of other c ws) refl
  early-spared (Err n) = tt

  -- so the first answer is a number of misses where the second is, and no greater
  pub beside-less : Spared (tested_beside rule (windows_by rule) b vs os k) (tested_beside other (windows_by other) c ws ps k)
  unfolding tested_beside
  beside-less = rw early (early-spared (early_of c k))
