-- The active segments by number are those of the segments, in another order. Assumes nothing.
use Prim.Native.Nat.{ℕ, suc, ◌+◌}
use native.Mathlib.Omega.{arith}
use mathlib.Core.Path.{◌≡◌, refl, ap, subst, ◌∙◌}
use mathlib.Core.List.Permᴰ
use mathlib.Core.List.{List, [], ◌∷◌, ◌++◌, append_assoc, map, map-append, Permᴰ}
use lib.ListN.{length}
use Rattle.segments.specs.Tasks.{Task, cost_of}
use Rattle.segments.specs.Segments.{onward, around}
use Rattle.segments.specs.Actives.{Active, active, numbered, in_order}

-- what matters of an active segment to a combination: the number of its segment, and its cost
abbrev pub label_of : Active → ℕ × ℕ
label_of a = (a.segment, a.cost)

abbrev pub label : ℕ → ℕ → ℕ × ℕ
label j c = (j, c)

-- the active segments of some segments, each as the costs of its active segments, the segments numbered from j on
unfoldable pub labels : ℕ → List (List ℕ) → List (ℕ × ℕ)
labels j [] = []
labels j (l ∷ ls) = map (label j) l ++ labels (j + 1) ls

abbrev pub costs : List (List (List Task)) → List (List ℕ)
costs ps = map (map cost_of) ps

map-label : (j : ℕ) (p : List (List Task)) → map label_of (map (active j) p) ≡ map (label j) (map cost_of p)
map-label j [] = refl
map-label j (a ∷ p) = ap (λ r. label j (cost_of a) ∷ r) (map-label j p)

numbered-labels : (j : ℕ) (p : List (List Task)) (ps : List (List (List Task)))
    → map label_of (numbered j (p ∷ ps)) ≡ map (label j) (map cost_of p) ++ map label_of (numbered (j + 1) ps)
unfolding numbered
numbered-labels j p ps =
    map-append label_of (map (active j) p) (numbered (j + 1) ps) ∙ ap (λ l. l ++ map label_of (numbered (j + 1) ps)) (map-label j p)

-- a list from the front goes behind the next
pub behind : {A : Type 0} (a b c : List A) → Permᴰ (a ++ (b ++ c)) (b ++ (a ++ c))
behind a b c =
    subst (λ x. Permᴰ x (b ++ (a ++ c))) (append_assoc a b c)
    (subst (λ x. Permᴰ ((a ++ b) ++ c) x) (append_assoc b a c) (Permᴰ.append_right c (Permᴰ.append_comm a b)))

-- the first stretch, with the number of the last, goes behind the last
onward-labels : (j : ℕ) (p q : List (List Task)) (qs : List (List (List Task)))
    → Permᴰ (map (label (j + length qs)) (map cost_of p) ++ map label_of (numbered j (q ∷ qs))) (labels j (costs (onward ◌++◌ p (q ∷ qs))))
unfolding labels onward numbered
onward-labels j p q [] =
    let e : j + 0 ≡ j = omega arith in
    let a = map (label j) (map cost_of p) in
    let b = map (label j) (map cost_of q) in
    let right : map (label j) (map cost_of (q ++ p)) ++ [] ≡ b ++ (a ++ []) =
    ap (λ l. map (label j) l ++ []) (map-append cost_of q p) ∙ ap (λ l. l ++ []) (map-append (label j) (map cost_of q) (map cost_of p)) ∙ append_assoc b a [] in
    rw (e, numbered-labels j q [], right) (behind a b [])
onward-labels j p q (r ∷ rs) =
    let e : j + suc (length rs) ≡ j + 1 + length rs = omega arith in
    let a = map (label (j + 1 + length rs)) (map cost_of p) in
    let b = map (label j) (map cost_of q) in
    rw (e, numbered-labels j q (r ∷ rs)) (Permᴰ.trans (behind a b _) (Permᴰ.append_left b (onward-labels (j + 1) p r rs)))

-- the active segments by number are, in some order, those of the segments, numbered from some number on
pub record Ordered (ps : List (List (List Task))) : Type 0 where
  pub from : ℕ
  pub order : Permᴰ (map label_of (in_order ps)) (labels from (costs (around ◌++◌ ps)))

pub by_number : (ps : List (List (List Task))) → Ordered ps
unfolding in_order around onward labels numbered
by_number [] = record { from = 0; order = Permᴰ.refl [] }
by_number (p ∷ []) = record { from = 0; order = rw (map-append label_of (map (active 0) p) [], map-label 0 p) (Permᴰ.refl _) }
by_number (p ∷ q ∷ qs) = record {
  from = 1;
  order =
      let e : suc (length qs) ≡ 1 + length qs = omega arith in
      rw (map-append label_of (map (active (suc (length qs))) p) (numbered 1 (q ∷ qs)), map-label (suc (length qs)) p, e) (onward-labels 1 p q qs);
}
