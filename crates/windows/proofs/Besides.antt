-- The views of the chains of a table from one place up to another, one after the other. Assumes nothing.
use Prim.Native.Nat.{ℕ, zero, suc, ◌+◌, ◌-◌, ◌≤◌, ◌<◌}
use mathlib.Core.Path.{◌≡◌, refl, ap, sym, subst, ◌∙◌}
use mathlib.Core.List.{List, [], ◌∷◌, ◌++◌, map, map-append, append-nil}
use mathlib.Core.Bool.{Bool, true, false}
use native.Mathlib.Omega.{arith}
use native.Mathlib.Numerals.{add-one}
use lib.Dec.{eqb}
use lib.ListN.{length, get_or, take, drop, length-map}
use lib.Seq.{slice, slice_empty, length-slice, length-take-le, get_or-take, take-take, take-suc, drop-append-le}
use Rattle.search.specs.Choice.{◌when◌else◌}
use Rattle.search.specs.Lists.{All}
use Rattle.search.proofs.Choice.{when_yes, when_no, when_cases, true-not-false}
use Rattle.search.proofs.Lists.{all_append}
use Rattle.table.specs.Record.{blank}
use Rattle.table.specs.Find.{row_of, rows}
use Rattle.table.specs.Code.Good.{GoodRow, GoodTable}
use Rattle.table.specs.declared.Row.{Row}
use Rattle.table.specs.declared.Table.{Table}
use Rattle.table.specs.Code.Good.{GoodDistances}
use Rattle.segments.specs.View.{View, view_of}
use Rattle.segments.proofs.Views.{view_overload, view_list}
use Rattle.windows.specs.Demand.{views_of, typical}
use Rattle.windows.specs.Demand.{others as others_of}
use Rattle.windows.specs.Code.Load.{adds_to, counted, views_between}
use Rattle.windows.specs.declared.Others.{Others}
use Rattle.windows.specs.declared.Others.TheVariants.{All as Whole, Typical}
use Rattle.windows.proofs.Comparing.{Paced}

pub typical_append : (vs ws : List View) → typical (vs ++ ws) ≡ typical vs ++ typical ws
unfolding typical ◌when◌else◌
typical_append [] ws = refl
typical_append (v ∷ vs) ws = go (eqb v.overload 0) (typical_append vs ws)
  where
    go : (b : Bool) → typical (vs ++ ws) ≡ typical vs ++ typical ws
        → (v ∷ typical (vs ++ ws) when b else typical (vs ++ ws)) ≡ (v ∷ typical vs when b else typical vs) ++ typical ws
    go true e = ap (λ r. v ∷ r) e
    go false e = e

typical-length : (vs : List View) → length (typical vs) ≤ length vs
unfolding typical
typical-length [] = omega arith
typical-length (v ∷ vs) =
    when_cases {x = v ∷ typical vs} {y = typical vs} (λ r. length r ≤ suc (length vs)) (eqb v.overload 0)
    (λ e. omega (arith, typical-length vs)) (λ e. omega (arith, typical-length vs))

counted_append : (others : Others) (vs ws : List View) → counted others (vs ++ ws) ≡ counted others vs ++ counted others ws
counted_append Whole vs ws = refl
counted_append Typical vs ws = typical_append vs ws

counted-length : (others : Others) (vs : List View) → length (counted others vs) ≤ length vs
counted-length Whole vs = omega arith
counted-length Typical vs = typical-length vs

counted_none : (others : Others) → counted others [] ≡ []
unfolding typical
counted_none Whole = refl
counted_none Typical = refl

-- a view counts where its chain is among those that add
counted-yes : (others : Others) (v : View) → adds_to others v.overload ≡ true → counted others (v ∷ []) ≡ v ∷ []
unfolding typical
counted-yes Whole v e = refl
counted-yes Typical v e = when_yes _ _ e

counted_no : (others : Others) (v : View) → adds_to others v.overload ≡ false → counted others (v ∷ []) ≡ []
unfolding typical
counted_no Whole v e = absurd (true-not-false refl e)
counted_no Typical v e = when_no _ _ e

pub views-none : (others : Others) (t : Table) (b : Row) (from : ℕ) → views_between others t b from from ≡ []
views-none others t b from = ap (λ l. counted others (map (λ a. view_of a b) l)) (slice_empty from (rows t)) ∙ counted_none others

-- one element more at the end of a part
slice-more : {A : Type 0} (from j : ℕ) (l : List A) (z : A) → from ≤ j → j < length l → slice from (j + 1) l ≡ slice from j l ++ (get_or l j z ∷ [])
slice-more from j l z h k =
    let n : from ≤ length (take j l) = omega (arith, length-take-le j l (omega arith)) in
    ap (λ i. slice from i l) (add-one j) ∙ ap (drop from) (take-suc l j z k) ∙ drop-append-le from (take j l) (get_or l j z ∷ []) n

rows-length : (t : Table) → GoodTable t → length (rows t) ≡ t.count
rows-length t good = length-take-le t.count t.row (omega (arith, good.few, good.size))

module _ (others : Others) (t : Table) (b : Row) (good : GoodTable t) where
  pub views-length : (from to : ℕ) → to ≤ t.count → length (views_between others t b from to) ≤ to - from
  views-length from to h =
      let views = map (λ a. view_of a b) (slice from to (rows t)) in
      omega (arith, counted-length others views, length-map (slice from to (rows t)) (λ a. view_of a b), length-slice from to (rows t) (omega (arith, rows-length t good)))

  module _ (from j : ℕ) (low : from ≤ j) (high : j < t.count) where
    views-on : views_between others t b from (j + 1) ≡ views_between others t b from j ++ counted others (view_of (row_of t j) b ∷ [])
    views-on =
        ap (λ l. counted others (map (λ a. view_of a b) l))
        (slice-more from j (rows t) blank low (omega (arith, rows-length t good))
        ∙ ap (λ r. slice from j (rows t) ++ (r ∷ [])) (get_or-take t.count t.row j blank high))
        ∙ ap (counted others) (map-append (λ a. view_of a b) (slice from j (rows t)) (row_of t j ∷ []))
        ∙ counted_append others (map (λ a. view_of a b) (slice from j (rows t))) (view_of (row_of t j) b ∷ [])

    -- the chain j counts, or it does not
    pub views-yes : adds_to others (row_of t j).overload ≡ true → views_between others t b from (j + 1) ≡ views_between others t b from j ++ (view_of (row_of t j) b ∷ [])
    views-yes e = views-on ∙ ap (λ r. views_between others t b from j ++ r) (counted-yes others _ (ap (adds_to others) (view_overload (row_of t j) b) ∙ e))

    pub views_no : adds_to others (row_of t j).overload ≡ false → views_between others t b from (j + 1) ≡ views_between others t b from j
    views_no e =
        views-on
        ∙ ap (λ r. views_between others t b from j ++ r) (counted_no others _ (ap (adds_to others) (view_overload (row_of t j) b) ∙ e))
        ∙ append-nil (views_between others t b from j)

-- those before a chain and those after it are all others
pub views-others : (others : Others) (t : Table) (chain : ℕ)
    → views_between others t (row_of t chain) 0 chain ++ views_between others t (row_of t chain) (chain + 1) t.count ≡ counted others (views_of t chain)
unfolding views_of
views-others others t chain =
    let b = row_of t chain in
    sym (counted_append others (map (λ a. view_of a b) (slice 0 chain (rows t))) (map (λ a. view_of a b) (slice (chain + 1) t.count (rows t))))
    ∙ ap (counted others) (sym (map-append (λ a. view_of a b) (slice 0 chain (rows t)) (slice (chain + 1) t.count (rows t))))
    ∙ ap (λ l. counted others (map (λ a. view_of a b) (take chain (rows t) ++ drop (chain + 1) l))) (take-take t.count t.count t.row (omega arith))

-- the others of a good table are good rows, so their views have distances of an accepted table
all-at : {A : Type 0} (P : A → Type 0) (l : List A) (z : A) → ((j : ℕ) → j < length l → P (get_or l j z)) → All P l
all-at P [] z h = tt
all-at P (a ∷ l) z h = (h 0 (omega arith), all-at P l z (λ j k. h (suc j) (omega arith)))

all_take : {A : Type 0} (P : A → Type 0) (k : ℕ) (l : List A) → All P l → All P (take k l)
all_take P zero l h = tt
all_take P (suc k) [] h = tt
all_take P (suc k) (a ∷ l) h = (h.0, all_take P k l h.1)

all_drop : {A : Type 0} (P : A → Type 0) (k : ℕ) (l : List A) → All P l → All P (drop k l)
all_drop P zero l h = h
all_drop P (suc k) [] h = tt
all_drop P (suc k) (a ∷ l) h = all_drop P k l h.1

module _ (t : Table) (good : GoodTable t) where
  pub others-good : (chain : ℕ) → All GoodRow (others_of t chain)
  others-good chain =
      let rows-good : All GoodRow (rows t) = all-at GoodRow (rows t) blank
      (λ j h. let l : j < t.count = omega (arith, rows-length t good) in rw (get_or-take t.count t.row j blank l) (good.row j l)) in
      all_append GoodRow (take chain (rows t)) (drop (chain + 1) (rows t)) (all_take GoodRow chain (rows t) rows-good) (all_drop GoodRow (chain + 1) (rows t) rows-good)

  pub others-paced : (chain : ℕ) → Paced (views_of t chain)
  unfolding views_of
  others-paced chain = go (others_of t chain) (others-good chain)
    where
      go : (l : List Row) → All GoodRow l → Paced (map (λ a. view_of a (row_of t chain)) l)
      go [] h = tt
      go (a ∷ l) h = (subst GoodDistances (sym (view_list a (row_of t chain))) h.0.list, go l h.1)
