-- The demand goes by the views alone: not by their order, and views that are alike give the same. Assumes nothing.
use Prim.Native.Nat.{ℕ}
use mathlib.Core.Path.{◌≡◌, refl, ap, sym, fun_ext, ◌∙◌}
use mathlib.Core.List.{List, [], ◌∷◌, map, Permᴰ}
use lib.Dec.{eqb}
use native.Mathlib.Omega.{arith}
use Rattle.search.specs.Choice.{◌when◌else◌}
use Rattle.search.specs.Lists.{sum_of, Paired, keep}
use Rattle.search.proofs.Lists.{perm_sum, paired_perm}
use Rattle.search.proofs.Pairing.{paired_keep, paired_weaker}
use Rattle.table.specs.declared.Row.{Row}
use Rattle.arrivals.specs.Arrivals.{δ}
use Rattle.segments.specs.View.{View}
use Rattle.segments.proofs.Lists.{sum-map}
use Rattle.segments.proofs.Views.{Alike, alike_all, alike-dearest}
use Rattle.windows.specs.Demand.{term_of, demand_of, typical}
use Rattle.windows.specs.Latency.{bound_of}

pub alike-term : {v w : View} → Alike v w → (t : ℕ) → term_of δ v t ≡ term_of δ w t
unfolding term_of
alike-term s t = rw (s.list, s.free, s.kind, s.first, alike_all s, alike-dearest s)

-- views that pair off alike, in any order, give the same demand
module _ {vs ws : List View} (p : Paired Alike vs ws) where
  alike-terms : (t : ℕ) → sum_of (λ v. term_of δ v t) vs ≡ sum_of (λ v. term_of δ v t) ws
  alike-terms t =
      let f : View → ℕ = λ v. term_of δ v t in
      let e : Permᴰ (map f vs) (map f ws) = paired_perm f f (paired_weaker p (λ v w h. alike-term h t)) in
      sym (sum-map f (λ n. n) vs) ∙ perm_sum (λ n. n) e ∙ sum-map f (λ n. n) ws

  pub alike-demand : (b : Row) → demand_of δ b vs ≡ demand_of δ b ws
  unfolding demand_of
  alike-demand b = fun_ext (λ q. fun_ext (λ t. omega (arith, alike-terms t)))

  -- so every figure is the same: B(q), K, latency, late, margin, the last window, and each refusal
  pub alike-bound : (b : Row) → bound_of δ b vs ≡ bound_of δ b ws
  unfolding bound_of
  alike-bound b = rw (alike-demand b)

-- the typical ones of them pair off alike too
typical-keep : (vs : List View) → typical vs ≡ keep (λ v. eqb v.overload 0) vs
unfolding typical keep
typical-keep [] = refl
typical-keep (v ∷ vs) = ap (λ l. v ∷ l when eqb v.overload 0 else l) (typical-keep vs)

pub alike-typical : {vs ws : List View} → Paired Alike vs ws → Paired Alike (typical vs) (typical ws)
alike-typical {vs} {ws} p = rw (typical-keep vs, typical-keep ws) (paired_keep p _ _ (λ v w h. ap (λ n. eqb n 0) h.overload))
