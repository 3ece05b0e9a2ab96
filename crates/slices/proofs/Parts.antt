-- A table's bytes as its chain records, one after the other, and the end record's four. Assumes nothing.
use Prim.Native.Nat.{ℕ, zero, suc, ◌+◌, ◌<◌}
use native.Mathlib.Omega.{arith}
use mathlib.Core.Path.{◌≡◌, refl, ap, sym, ◌∙◌}
use mathlib.Core.List.{List, [], ◌∷◌, ◌++◌, map, flatten, append_assoc}
use lib.ListN.{length, get_or, take, drop, set, length-append}
use lib.Seq.{split_at, set_split, take_at, drop_at}
use Rattle.search.specs.Lists.{sum_of, All}
use Rattle.table.specs.Bytes.{word}
use Rattle.table.specs.Record.{length_at, row_at}
use Rattle.table.specs.Fault.{mark_of}
use Rattle.table.specs.Place.{length_of}
use Rattle.table.specs.declared.Row.{Row}
use Rattle.table.specs.declared.Mark.TheVariants.{Chain}
use Rattle.slices.specs.Slices.{splice}

-- a chain record by itself: its mark, and as long as its own counts say
pub record Whole (r : List ℕ) : Type 0 where
  pub mark : mark_of (word 2 r 0) ≡ Chain
  pub long : length r ≡ length_at r 0

pub record Parts (s : List ℕ) (rs : List (List ℕ)) (e : List ℕ) : Type 0 where
  pub bytes : s ≡ flatten rs ++ e
  pub whole : All Whole rs
  pub last : length e ≡ 4

-- the row that a record makes
abbrev pub row_in : List ℕ → Row
row_in r = row_at r 0

-- lists of lists
pub flatten_append : (a b : List (List ℕ)) → flatten (a ++ b) ≡ flatten a ++ flatten b
unfolding flatten
flatten_append [] b = refl
flatten_append (r ∷ a) b = rw (flatten_append a b, append_assoc)

pub all_take : {A : Type 0} (P : A → Type 0) (i : ℕ) (l : List A) → All P l → All P (take i l)
all_take P zero l h = tt
all_take P (suc i) [] h = tt
all_take P (suc i) (a ∷ l) h = (h.0, all_take P i l h.1)

pub all-at : {A : Type 0} (P : A → Type 0) (l : List A) (i : ℕ) (d : A) → All P l → i < length l → P (get_or l i d)
all-at P [] i d h n = absurd (omega arith)
all-at P (a ∷ l) zero d h n = h.0
all-at P (a ∷ l) (suc i) d h n = all-at P l i d h.1 (omega arith)

all_set : {A : Type 0} (P : A → Type 0) (l : List A) (i : ℕ) (a : A) → All P l → P a → All P (set l i a)
all_set P [] i a h n = tt
all_set P (x ∷ l) zero a h n = (n, h.1)
all_set P (x ∷ l) (suc i) a h n = (h.0, all_set P l i a h.1 n)

pub map_at : {A B : Type 0} (f : A → B) (l : List A) (i : ℕ) (d : A) (b : B) → i < length l → get_or (map f l) i b ≡ f (get_or l i d)
map_at f [] i d b n = absurd (omega arith)
map_at f (a ∷ l) zero d b n = refl
map_at f (a ∷ l) (suc i) d b n = map_at f l i d b (omega arith)

pub map-take : {A B : Type 0} (f : A → B) (i : ℕ) (l : List A) → take i (map f l) ≡ map f (take i l)
map-take f zero l = refl
map-take f (suc i) [] = refl
map-take f (suc i) (a ∷ l) = ap (λ (m : List _). f a ∷ m) (map-take f i l)

pub map-set : {A B : Type 0} (f : A → B) (l : List A) (i : ℕ) (a : A) → map f (set l i a) ≡ set (map f l) i (f a)
map-set f [] i a = refl
map-set f (x ∷ l) zero a = refl
map-set f (x ∷ l) (suc i) a = ap (λ (m : List _). f x ∷ m) (map-set f l i a)

-- the records take as many bytes as their rows say
pub row-size : (r : List ℕ) → Whole r → length_of (row_in r) ≡ length r
unfolding row_at
row-size r w = sym w.long

sizes : (rs : List (List ℕ)) → All Whole rs → sum_of length_of (map row_in rs) ≡ length (flatten rs)
unfolding sum_of flatten
sizes [] h = refl
sizes (r ∷ rs) h = omega (arith, row-size r h.0, sizes rs h.1, length-append r (flatten rs))

module _ (s : List ℕ) (rs : List (List ℕ)) (e : List ℕ) (p : Parts s rs e) (i : ℕ) (h : i < length rs) where
  abbrev before : List ℕ
  before = flatten (take i rs)

  abbrev here : List ℕ
  here = get_or rs i []

  abbrev after : List ℕ
  after = flatten (drop (suc i) rs) ++ e

  parted : s ≡ before ++ (here ++ after)
  unfolding flatten
  parted = p.bytes ∙ ap (λ (l : List (List ℕ)). flatten l ++ e) (split_at rs i [] h) ∙ rw (flatten_append, append_assoc, append_assoc)

  -- the records before it take as many bytes as the sum of their rows' sizes
  pub place-sum : sum_of length_of (take i (map row_in rs)) ≡ length before
  place-sum = rw map-take (sizes (take i rs) (all_take Whole i rs p.whole))

  -- there it stands
  pub stands-there : (at n : ℕ) → at ≡ length before → n ≡ length here → take n (drop at s) ≡ here
  stands-there at n f g = rw (parted, drop_at before (here ++ after) at (sym f)) (take_at here after n (sym g))

  -- and another takes its place
  pub parts-splice : (at n : ℕ) → at ≡ length before → n ≡ length here → (new : List ℕ) → Whole new → Parts (splice s at n new) (set rs i new) e
  unfolding flatten
  parts-splice at n f g new w =
      let a : take at s ≡ before = rw parted (take_at before (here ++ after) at (sym f)) in
      let l : length (before ++ here) ≡ at + n = omega (arith, length-append before here) in
      let b : drop (at + n) s ≡ after = rw (parted, ← append_assoc before here after) (drop_at (before ++ here) after (at + n) l) in
      record {
        bytes = rw (a, b, set_split rs i new h, flatten_append) (simp append_assoc);
        whole = all_set Whole rs i new p.whole w;
        last = p.last;
      }
