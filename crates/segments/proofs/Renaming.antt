-- Chains whose views are alike have the same active segments: the numbers of the segments matter no more than their order. Assumes nothing.
use Prim.Native.Nat.{ℕ, ◌+◌, ◌-◌, ◌<◌}
use native.Mathlib.Omega.{arith}
use mathlib.Core.Path.{◌≡◌, refl, ap, ap₂, subst, ◌∙◌}
use mathlib.Core.List.Permᴰ
use mathlib.Core.List.{List, [], ◌∷◌, ◌++◌, map, map-map, map-id, map-append, Permᴰ}
use lib.Dec.{ltb, eqb}
use borrow.Author.Tests.{lt-ltb, le-ltb, eq-eqb, ne_eqb}
use Rattle.search.specs.Choice.{◌when◌else◌}
use Rattle.search.specs.Lists.{All, Paired}
use Rattle.table.specs.declared.Row.{Row}
use Rattle.segments.specs.Tasks.{Task, tasks_of, floor_of, tail_of, cost_of}
use Rattle.segments.specs.Segments.{around, nonempty, parts, cut_segments}
use Rattle.segments.specs.Actives.{actives, actives_of}
use Rattle.segments.specs.View.{view_of}
use Rattle.segments.proofs.Views.{Alike}
use Rattle.segments.proofs.Order.{label_of, label, labels, costs, behind, by_number}

-- the segments bear other numbers
abbrev pub rename : (ℕ → ℕ) → ℕ × ℕ → ℕ × ℕ
rename f a = label (f a.0) a.1

-- the same in another order, once the segments of l are renumbered; numbers below j stay
pub record Renamed (j : ℕ) (l k : List (ℕ × ℕ)) : Type 0 where
  pub name : ℕ → ℕ
  pub stay : (x : ℕ) → x < j → name x ≡ x
  pub order : Permᴰ (map (rename name) l) k

both : {j : ℕ} {l k h : List (ℕ × ℕ)} → Renamed j l k → Renamed j k h → Renamed j l h
both {l = l} {k = k} s t = record {
  name = λ x. t.name (s.name x);
  stay = λ x lt. ap t.name (s.stay x lt) ∙ t.stay x lt;
  order =
      Permᴰ.trans
      (subst (λ r. Permᴰ r (map (rename t.name) k)) (map-map (rename t.name) (rename s.name) l) (Permᴰ.map (rename t.name) s.order))
      t.order;
}

reordered : (j : ℕ) {l k : List (ℕ × ℕ)} → Permᴰ l k → Renamed j l k
reordered j {l} p = record { name = λ x. x; stay = λ x lt. refl; order = rw (map-id l) p }

-- a segment bears another number
block : (f : ℕ → ℕ) (j i : ℕ) (l : List ℕ) → f j ≡ i → map (rename f) (map (label j) l) ≡ map (label i) l
block f j i [] e = refl
block f j i (c ∷ l) e = ap₂ (λ x r. label x c ∷ r) e (block f j i l e)

-- each number from j on goes up or down by the same
shift : (f : ℕ → ℕ) (j i : ℕ) → ((d : ℕ) → f (j + d) ≡ i + d) → (ls : List (List ℕ)) → map (rename f) (labels j ls) ≡ labels i ls
unfolding labels
shift f j i h [] = refl
shift f j i h (l ∷ ls) =
    map-append (rename f) (map (label j) l) (labels (j + 1) ls)
    ∙ ap₂ ◌++◌ (block f j i l (let e : j + 0 ≡ j = omega arith in omega (arith, h 0, ap f e)))
    (shift f (j + 1) (i + 1) (λ d. let e : j + 1 + d ≡ j + (1 + d) = omega arith in omega (arith, h (1 + d), ap f e)) ls)

down : (j : ℕ) (ls : List (List ℕ)) → Renamed j (labels (j + 1) ls) (labels j ls)
unfolding ◌when◌else◌
down j ls = record {
  name = λ x. x - 1 when ltb j x else x;
  stay = λ x lt. rw (le-ltb j x (omega arith));
  order = rw (shift (λ x. x - 1 when ltb j x else x) (j + 1) j (λ d. rw (lt-ltb j (j + 1 + d) (omega arith)) (omega arith)) ls) (Permᴰ.refl (labels j ls));
}

up : (j : ℕ) (ls : List (List ℕ)) → Renamed j (labels j ls) (labels (j + 1) ls)
unfolding ◌when◌else◌
up j ls = record {
  name = λ x. x when ltb x j else x + 1;
  stay = λ x lt. rw (lt-ltb x j lt);
  order = rw (shift (λ x. x when ltb x j else x + 1) j (j + 1) (λ d. rw (le-ltb (j + d) j (omega arith)) (omega arith)) ls) (Permᴰ.refl (labels (j + 1) ls));
}

-- whichever number they start from
moved : (i j : ℕ) (ls : List (List ℕ)) → Renamed 0 (labels i ls) (labels j ls)
moved i j ls = record {
  name = λ x. x - i + j;
  stay = λ x lt. absurd (omega arith);
  order = rw (shift (λ x. x - i + j) i j (λ d. omega arith) ls) (Permᴰ.refl (labels j ls));
}

-- one segment more in front
cons : (j : ℕ) (l : List ℕ) (ls ks : List (List ℕ)) → Renamed (j + 1) (labels (j + 1) ls) (labels (j + 1) ks) → Renamed j (labels j (l ∷ ls)) (labels j (l ∷ ks))
unfolding labels
cons j l ls ks s = record {
  name = s.name;
  stay = λ x lt. s.stay x (omega arith);
  order = rw (map-append (rename s.name) (map (label j) l) (labels (j + 1) ls), block s.name j j l (s.stay j (omega arith))) (Permᴰ.append_left (map (label j) l) s.order);
}

-- two segments change places
exchange : (j : ℕ) (l k : List ℕ) (r : List (List ℕ)) → Renamed j (labels j (l ∷ k ∷ r)) (labels j (k ∷ l ∷ r))
unfolding labels ◌when◌else◌
exchange j l k r = record {
  name = f;
  stay = λ x lt. rw (ne_eqb x j (λ e. omega arith), ne_eqb x (j + 1) (λ e. omega arith));
  order = rw swapped (behind a b c);
}
  where
    f : ℕ → ℕ
    f x = j + 1 when eqb x j else j when eqb x (j + 1) else x

    a : List (ℕ × ℕ)
    a = map (label (j + 1)) l

    b : List (ℕ × ℕ)
    b = map (label j) k

    c : List (ℕ × ℕ)
    c = labels (j + 1 + 1) r

    swapped : map (rename f) (labels j (l ∷ k ∷ r)) ≡ a ++ (b ++ c)
    swapped =
        map-append (rename f) (map (label j) l) (map (label (j + 1)) k ++ c)
        ∙ ap₂ ◌++◌ (block f j (j + 1) l (rw (eq-eqb j j refl)))
        (map-append (rename f) (map (label (j + 1)) k) c
        ∙ ap₂ ◌++◌ (block f (j + 1) j k (rw (ne_eqb (j + 1) j (λ e. omega arith), eq-eqb (j + 1) (j + 1) refl)))
        (shift f (j + 1 + 1) (j + 1 + 1) (λ d. rw (ne_eqb (j + 1 + 1 + d) j (λ e. omega arith), ne_eqb (j + 1 + 1 + d) (j + 1) (λ e. omega arith))) r))

-- segments in another order
perm_renamed : (j : ℕ) {ls ks : List (List ℕ)} → Permᴰ ls ks → Renamed j (labels j ls) (labels j ks)
perm_renamed j Permᴰ.nil = reordered j (Permᴰ.refl (labels j []))
perm_renamed j (Permᴰ.cons {a = a} {l₁ = l} {l₂ = r} e p) = subst (λ b. Renamed j (labels j (a ∷ l)) (labels j (b ∷ r))) e (cons j a l r (perm_renamed (j + 1) p))
perm_renamed j (Permᴰ.swap {a = a} {b = b} {l = l} e f) = rw (← e, ← f) (exchange j a b l)
perm_renamed j (Permᴰ.trans p q) = both (perm_renamed j p) (perm_renamed j q)

-- each segment's active segments in another order
inner_perm : (j : ℕ) (ps : List (List ℕ × List ℕ)) → All (λ p. Permᴰ p.0 p.1) ps
    → Permᴰ (labels j (map (λ p. p.0) ps)) (labels j (map (λ p. p.1) ps))
unfolding labels
inner_perm j [] h = Permᴰ.nil
inner_perm j (p ∷ ps) h =
    Permᴰ.trans (Permᴰ.append_right (labels (j + 1) (map (λ q. q.0) ps)) (Permᴰ.map (label j) h.0))
    (Permᴰ.append_left (map (label j) p.1) (inner_perm (j + 1) ps h.1))

paired_renamed : (j : ℕ) {ls ks : List (List ℕ)} → Paired Permᴰ ls ks → Renamed j (labels j ls) (labels j ks)
paired_renamed j p =
    both (perm_renamed j p.firsts) (both (reordered j (inner_perm j p.pairs p.related)) (perm_renamed j p.seconds))

-- the empty ones may go, and come back
full-to : (j : ℕ) (ls : List (List ℕ)) → Renamed j (labels j ls) (labels j (nonempty ls))
unfolding nonempty labels
full-to j [] = reordered j Permᴰ.nil
full-to j ([] ∷ ls) = both (down j ls) (full-to j ls)
full-to j ((c ∷ l) ∷ ls) = cons j (c ∷ l) ls (nonempty ls) (full-to (j + 1) ls)

full_from : (j : ℕ) (ls : List (List ℕ)) → Renamed j (labels j (nonempty ls)) (labels j ls)
unfolding nonempty labels
full_from j [] = reordered j Permᴰ.nil
full_from j ([] ∷ ls) = both (full_from j ls) (up j ls)
full_from j ((c ∷ l) ∷ ls) = cons j (c ∷ l) (nonempty ls) ls (full_from (j + 1) ls)

pub full-costs : (ls : List (List (List Task))) → costs (nonempty ls) ≡ nonempty (costs ls)
unfolding nonempty
full-costs [] = refl
full-costs ([] ∷ ls) = full-costs ls
full-costs ((l ∷ k) ∷ ls) = ap (λ r. map cost_of (l ∷ k) ∷ r) (full-costs ls)

-- the active segments by number are those of the view's segments, and these are those
module _ (a b : Row) where
  view_segments : (view_of a b).segments ≡ nonempty (costs (around ◌++◌ (parts (floor_of b) (tail_of b) (tasks_of a))))
  unfolding view_of cut_segments
  view_segments = full-costs (around ◌++◌ (parts (floor_of b) (tail_of b) (tasks_of a)))

  pub to_view : Renamed 0 (map label_of (actives_of a b)) (labels 0 (view_of a b).segments)
  unfolding actives
  to_view =
      let ps = parts (floor_of b) (tail_of b) (tasks_of a) in
      let ls = costs (around ◌++◌ ps) in
      let n = by_number ps in
      rw view_segments (both (reordered 0 n.order) (both (moved n.from 0 ls) (full-to 0 ls)))

  pub from_view : Renamed 0 (labels 0 (view_of a b).segments) (map label_of (actives_of a b))
  unfolding actives
  from_view =
      let ps = parts (floor_of b) (tail_of b) (tasks_of a) in
      let ls = costs (around ◌++◌ ps) in
      let n = by_number ps in
      rw view_segments (both (full_from 0 ls) (both (moved 0 n.from ls) (reordered 0 (Permᴰ.symm n.order))))

pub alike-renamed : (a b a' b' : Row) → Alike (view_of a b) (view_of a' b') → Renamed 0 (map label_of (actives_of a b)) (map label_of (actives_of a' b'))
alike-renamed a b a' b' s = both (to_view a b) (both (paired_renamed 0 s.segments) (from_view a' b'))
