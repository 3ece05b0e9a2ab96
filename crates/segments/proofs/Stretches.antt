-- Stretches and their cuts: how many, and that the cuts of a segment put together are the segment. Assumes nothing.
use Prim.Native.Nat.{ℕ, suc, ◌+◌, ◌<◌, ◌≤◌}
use native.Mathlib.Omega.{arith}
use mathlib.Core.Path.{◌≡◌, refl, ap, ap₂, ◌∙◌}
use mathlib.Core.List.{List, [], ◌∷◌, ◌++◌, map, flatten}
use mathlib.Core.Bool.{Bool, true, false, ◌||◌}
use lib.ListN.{length, drop}
use Rattle.search.specs.Choice.{◌when◌else◌}
use Rattle.search.specs.Lists.{sum_of, All, some}
use Rattle.search.proofs.Lists.{all_append}
use Rattle.segments.specs.Tasks.{Task, below, before}
use Rattle.segments.specs.Segments.{◌on◌, stretches, around, nonempty, segments, cuts, parts, cut_segments}
use Rattle.segments.proofs.Lists.{flatten-on, flatten_append, Solid, solid_on, full-flatten, around-all, around-map}

module _ (p : Task → Bool) where
  on-length : (t : Task) (ls : List (List Task)) → 1 ≤ length ls → length (t on ls) ≡ length ls
  on-length t [] h = absurd (omega arith)
  on-length t (l ∷ ls) h = refl

  pub stretches-some : (ts : List Task) → 1 ≤ length (stretches p ts)
  unfolding stretches ◌when◌else◌
  stretches-some [] = omega arith
  stretches-some (t ∷ ts) = go (p t) (stretches-some ts)
    where
      go : (b : Bool) → 1 ≤ length (stretches p ts) → 1 ≤ length ([] ∷ stretches p ts when b else t on stretches p ts)
      go true h = omega arith
      go false h = omega (arith, on-length t (stretches p ts) h)

  -- one stretch more than tasks that pass
  pub stretches-length : (ts : List Task) → sum_of (λ t. 1 when p t else 0) ts + 1 ≡ length (stretches p ts)
  unfolding stretches sum_of ◌when◌else◌
  stretches-length [] = refl
  stretches-length (t ∷ ts) = go (p t) (stretches-length ts)
    where
      go : (b : Bool) → sum_of (λ t. 1 when p t else 0) ts + 1 ≡ length (stretches p ts)
          → (1 when b else 0) + sum_of (λ t. 1 when p t else 0) ts + 1 ≡ length ([] ∷ stretches p ts when b else t on stretches p ts)
      go true e = omega (arith, e)
      go false e = omega (arith, e, on-length t (stretches p ts) (stretches-some ts))

  -- the first stretch, and the others
  pub stretches-split : (ts : List Task) → length (before p ts) < length ts
      → stretches p ts ≡ before p ts ∷ stretches p (drop (suc (length (before p ts))) ts)
  unfolding stretches before ◌when◌else◌
  stretches-split [] h = absurd (omega arith)
  stretches-split (t ∷ ts) h = go (p t) refl (stretches-split ts)
    where
      go : (b : Bool) → p t ≡ b
          → (length (before p ts) < length ts → stretches p ts ≡ before p ts ∷ stretches p (drop (suc (length (before p ts))) ts))
          → stretches p (t ∷ ts) ≡ before p (t ∷ ts) ∷ stretches p (drop (suc (length (before p (t ∷ ts)))) (t ∷ ts))
      go true e r = rw e
      go false e r = let i : length (before p ts) < length ts = omega (arith, rw e at h) in rw (e, r i)

  -- no task passes: one stretch
  pub stretches-none : (ts : List Task) → some p ts ≡ false → stretches p ts ≡ ts ∷ []
  unfolding stretches some ◌when◌else◌
  stretches-none [] h = refl
  stretches-none (t ∷ ts) h = go (p t) h (stretches-none ts)
    where
      go : (b : Bool) → b || some p ts ≡ false → (some p ts ≡ false → stretches p ts ≡ ts ∷ [])
          → ([] ∷ stretches p ts when b else t on stretches p ts) ≡ (t ∷ ts) ∷ []
      go true e r = let z : ◌≡◌ {A = ℕ} 0 1 = cc in absurd (omega arith)
      go false e r = rw (r e)

  -- a stretch with tasks has cuts, they have tasks, and put together they are the stretch
  pub cuts-some : (t : Task) (s : List Task) → 1 ≤ length (cuts p (t ∷ s))
  unfolding cuts ◌when◌else◌
  cuts-some t [] = omega arith
  cuts-some t (u ∷ s) = go (p u) (cuts-some u s)
    where
      go : (b : Bool) → 1 ≤ length (cuts p (u ∷ s)) → 1 ≤ length ((t ∷ []) ∷ cuts p (u ∷ s) when b else t on cuts p (u ∷ s))
      go true h = omega arith
      go false h = omega (arith, on-length t (cuts p (u ∷ s)) h)

  pub cuts_solid : (s : List Task) → Solid (cuts p s)
  unfolding cuts ◌when◌else◌
  cuts_solid [] = tt
  cuts_solid (t ∷ []) = (omega arith, tt)
  cuts_solid (t ∷ u ∷ s) = go (p u) (cuts_solid (u ∷ s))
    where
      go : (b : Bool) → Solid (cuts p (u ∷ s)) → Solid ((t ∷ []) ∷ cuts p (u ∷ s) when b else t on cuts p (u ∷ s))
      go true h = (omega arith, h)
      go false h = solid_on t (cuts p (u ∷ s)) h

  pub cuts-flatten : (s : List Task) → flatten (cuts p s) ≡ s
  unfolding cuts flatten ◌when◌else◌
  cuts-flatten [] = refl
  cuts-flatten (t ∷ []) = refl
  cuts-flatten (t ∷ u ∷ s) = go (p u) (cuts-flatten (u ∷ s))
    where
      go : (b : Bool) → flatten (cuts p (u ∷ s)) ≡ u ∷ s → flatten ((t ∷ []) ∷ cuts p (u ∷ s) when b else t on cuts p (u ∷ s)) ≡ t ∷ u ∷ s
      go true e = ap (λ l. t ∷ l) e
      go false e = flatten-on t (cuts p (u ∷ s)) ∙ ap (λ l. t ∷ l) e

  pub all_solid : (ss : List (List Task)) → All Solid (map (cuts p) ss)
  all_solid [] = tt
  all_solid (s ∷ ss) = (cuts_solid s, all_solid ss)

  all-flatten : (ss : List (List Task)) → map flatten (map (cuts p) ss) ≡ ss
  all-flatten [] = refl
  all-flatten (s ∷ ss) = ap₂ ◌∷◌ (cuts-flatten s) (all-flatten ss)

-- the active segments of a segment put together are the segment
pub cut-flatten : (floor tail : ℕ) (ts : List Task) → map flatten (cut_segments floor tail ts) ≡ segments floor ts
unfolding cut_segments segments parts
cut-flatten floor tail ts =
    let ss = stretches (below floor) ts in
    let ps = map (cuts (below tail)) ss in
    full-flatten (around ◌++◌ ps) (around-all ◌++◌ Solid (all_append _) ps (all_solid (below tail) ss))
    ∙ ap nonempty (around-map ◌++◌ ◌++◌ flatten flatten_append ps ∙ ap (around ◌++◌) (all-flatten (below tail) ss))
