-- The misses go by the views alone: not by their order, and views that are alike give the same answer, refusals included. Assumes nothing.
use Prim.Native.Nat.{ℕ, ◌+◌, ◌*◌, ◌≤◌, min}
use mathlib.Core.Path.{◌≡◌, refl, ap, sym, fun_ext, ◌∙◌}
use mathlib.Core.Bool.{Bool, true, false, not, ◌||◌}
use mathlib.Core.List.{List, [], ◌∷◌, map}
use native.Mathlib.Omega.{arith}
use lib.Dec.{eqb, ltb}
use lib.ListN.{length, get_or}
use borrow.Author.Tests.{ltb-false}
use Rattle.search.specs.Choice.{◌when◌else◌}
use Rattle.search.specs.Lists.{Paired, some, keep}
use Rattle.search.proofs.Lists.{paired_perm}
use Rattle.search.proofs.Pairing.{paired_keep, paired_weaker, paired_turn, paired_map}
use Rattle.table.specs.Limits.{max_overloads, max_capacity}
use Rattle.table.specs.declared.Row.{Row}
use Rattle.arrivals.specs.Arrivals.{δ, η, largest}
use Rattle.table.specs.Record.{distances}
use Rattle.segments.specs.View.{View, view_of}
use Rattle.segments.proofs.Renaming.{alike-renamed}
use Rattle.segments.proofs.Views.{Alike, view_overload, view_list, alike-turn}
use Rattle.windows.specs.Demand.{demand_of, typical}
use Rattle.windows.specs.Latency.{bound_of}
use Rattle.std.specs.Prelude.{⊤}
use Rattle.std.specs.declared.result.Result.{Result}
use Rattle.std.specs.declared.result.Result.TheVariants.{Ok, Err}
use Rattle.table.specs.declared.refusal.Refusal.{Refusal}
use Rattle.windows.specs.declared.Windows.{Windows}
use Rattle.windows.proofs.Views.{alike-demand, alike-bound, alike-typical}
use Rattle.packing.specs.Most.{most_uses}
use Rattle.misses.specs.Overloads.{Overload, overload, overloads, pieces_of, capacities_of}
use Rattle.misses.specs.Bad.{over, bad, by_windows}
use Rattle.misses.specs.Misses.{early_of, bad_of, room_of, packing_figure, missed_of, by_figures, by_bound, unless_early, tested_beside}
use Rattle.misses.proofs.Packs.{bad-none}
use Rattle.misses.proofs.Starts.{starts}
use Rattle.misses.proofs.Together.{perm_some}
use Rattle.misses.proofs.Relabelling.{Same}
use Rattle.misses.proofs.Carrying.{same_count, same-rooms, same-most}

-- the overload chains among rows whose views pair off alike pair off too
overloads-keep : (b : Row) (l : List Row) → overloads b l ≡ map (λ a. overload a b) (keep (λ a. not (eqb a.overload 0)) l)
unfolding overloads keep ◌when◌else◌
overloads-keep b [] = refl
overloads-keep b (a ∷ l) = go (eqb a.overload 0) (overloads-keep b l)
  where
    go : (t : Bool) → overloads b l ≡ map (λ a. overload a b) (keep (λ a. not (eqb a.overload 0)) l)
        → (overloads b l when t else overload a b ∷ overloads b l) ≡ map (λ a. overload a b) (a ∷ keep (λ a. not (eqb a.overload 0)) l when not t else keep (λ a. not (eqb a.overload 0)) l)
    go true e = e
    go false e = ap (λ r. overload a b ∷ r) e

pub alike-overloads : (b : Row) {l r : List Row} → Paired (λ a c. Alike (view_of a b) (view_of c b)) l r → Paired Same (overloads b l) (overloads b r)
alike-overloads b {l} {r} p =
    rw (overloads-keep b l, overloads-keep b r)
    (paired_map (paired_keep p _ _ (λ a c h. ap (λ n. not (eqb n 0)) (sym (view_overload a b) ∙ h.overload ∙ view_overload c b)))
    (λ a. overload a b) (λ c. overload c b)
    (λ a c h. record { list = sym (view_list a b) ∙ h.list ∙ view_list c b; actives = alike-renamed a b c b h }))

some-map : {A B : Type 0} (f : A → B) (p : B → Bool) (l : List A) → some p (map f l) ≡ some (λ a. p (f a)) l
unfolding some
some-map f p [] = refl
some-map f p (a ∷ l) = ap (λ t. p (f a) || t) (some-map f p l)

-- two choices by one test
choose : {A : Type 0} (x y z w : A) (t : Bool) → (t ≡ true → x ≡ z) → (t ≡ false → y ≡ w) → (x when t else y) ≡ (z when t else w)
unfolding ◌when◌else◌
choose x y z w true f g = f refl
choose x y z w false f g = g refl

module _ (b : Row) {vs ws : List View} (views : Paired Alike vs ws) {os ps : List Overload} (r : Paired Same os ps) (q : Paired Same ps os) (k : ℕ) where
  module _ (close latency late last : ℕ) where
    again : some (starts last) os ≡ some (starts last) ps
    again =
        let test : List ℕ → Bool = λ ds. ltb 1 (η ds last) in
        sym (some-map (λ o. o.list) test os)
        ∙ perm_some test (paired_perm (λ o. o.list) (λ o. o.list) (paired_weaker r (λ o p h. h.list)))
        ∙ some-map (λ o. o.list) test ps

    same-bad : (m : ℕ) → bad_of by_windows b vs os close m ≡ bad (over (demand_of δ b (typical ws)) (δ (distances b)) b.deadline close) (pieces_of os) m
    unfolding bad_of
    same-bad m = ap (λ d. bad (over d (δ (distances b)) b.deadline close) (pieces_of os) m) (alike-demand (alike-typical views) b)

    empty : bad_of by_windows b vs os close 0 ≡ bad_of by_windows b ws ps close 0
    unfolding bad_of
    empty = same-bad 0 ∙ bad-none _ (pieces_of os) ∙ sym (bad-none _ (pieces_of ps))

    above : some (ltb max_capacity) (room_of δ b os k latency) ≡ some (ltb max_capacity) (room_of δ b ps k latency)
    unfolding room_of
    above = perm_some (ltb max_capacity) (same-rooms r (largest b k + latency))

    most : length (pieces_of ps) ≤ max_overloads
        → most_uses (bad_of by_windows b vs os close) (λ i. get_or (room_of δ b os k latency) i 0) ≡ most_uses (bad_of by_windows b ws ps close) (λ i. get_or (room_of δ b ps k latency) i 0)
    unfolding bad_of room_of
    most few =
        ap (λ f. most_uses f (λ i. get_or (capacities_of δ (largest b k + latency) os) i 0)) (fun_ext same-bad)
        ∙ same-most r q (largest b k + latency) _ (omega (arith, same_count r 0))

    same_missed : length (pieces_of ps) ≤ max_overloads → missed_of δ by_windows b vs os k close latency late ≡ missed_of δ by_windows b ws ps k close latency late
    unfolding missed_of packing_figure
    same_missed few = rw empty (ap (λ n. k when bad_of by_windows b ws ps close 0 else min k (late * n)) (most few))

    same-figures : by_figures δ by_windows b vs os k close latency late last ≡ by_figures δ by_windows b ws ps k close latency late last
    unfolding by_figures
    same-figures =
        rw (same_count r 0, again, above)
        (choose _ _ _ _ (eqb late 0) (λ e. refl) (λ e.
        choose _ _ _ _ (ltb max_overloads (length (pieces_of ps))) (λ f. refl) (λ f.
        choose _ _ _ _ (some (starts last) ps) (λ g. refl) (λ g.
        choose _ _ _ _ (some (ltb max_capacity) (room_of δ b ps k latency)) (λ g. refl) (λ g.
        ap Ok (same_missed (ltb-false _ _ f)))))))

  same-by_bound : (x : Result Windows Refusal) → by_bound δ by_windows b vs os k x ≡ by_bound δ by_windows b ws ps k x
  same-by_bound (Ok w) = same-figures w.figures.close w.figures.latency w.figures.late w.last
  same-by_bound (Err n) = refl

  same_early : bound_of δ b vs ≡ bound_of δ b ws → (e : Result ⊤ Refusal) → unless_early δ by_windows b vs os k e ≡ unless_early δ by_windows b ws ps k e
  same_early same (Ok u) = same-by_bound (bound_of δ b vs) ∙ ap (by_bound δ by_windows b ws ps k) same
  same_early same (Err n) = refl

-- other chains that pair off alike, in any order: the same answer for every k
pub alike-misses : (b : Row) {l r : List Row} → Paired (λ a c. Alike (view_of a b) (view_of c b)) l r → (k : ℕ)
    → tested_beside δ by_windows b (map (λ a. view_of a b) l) (overloads b l) k ≡ tested_beside δ by_windows b (map (λ a. view_of a b) r) (overloads b r) k
unfolding tested_beside
alike-misses b {l} {r} p k =
    let vs = map (λ a. view_of a b) l in
    let ws = map (λ a. view_of a b) r in
    let views : Paired Alike vs ws = paired_map p (λ a. view_of a b) (λ a. view_of a b) (λ a c h. h) in
    let one = alike-overloads b p in
    let two = alike-overloads b (paired_turn (λ a c h. alike-turn h) p) in
    let same = alike-bound views b in
    same_early b views one two k same (early_of b k)
