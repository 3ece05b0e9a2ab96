-- Laws of little-endian numbers, for any width. Assumes nothing.
use Prim.Native.Nat.{ℕ, zero, suc, ◌+◌, ◌*◌, ◌/◌, ◌%◌, ◌^◌, ◌<◌, ◌≤◌}
use mathlib.Core.Path.{◌≡◌, refl, ap, sym, ◌∙◌}
use mathlib.Core.List.{List, [], ◌∷◌, ◌++◌, append_assoc, append-nil}
use native.Mathlib.Omega.{arith}
use native.Mathlib.Nat.{pow-suc}
use lib.ListN.{length, get_or, take, drop, length-append}
use lib.Seq.{get_or-append_seam, drop-cons, take-add, drop-drop}
use Rattle.table.specs.Bytes.{word, bytes_of, Bytes}
use Rattle.table.specs.Record.{end_record}

-- a number of m + n bytes is one of m bytes and one of n bytes after it
pub word_split : (m n : ℕ) (s : List ℕ) (at : ℕ) → word (m + n) s at ≡ word m s at + 256 ^ m * word n s (at + m)
unfolding word
word_split zero n s at =
    let e : at + 0 ≡ at = omega arith in
    let f : 0 + n ≡ n = omega arith in
    rw (f, e) (omega arith)
word_split (suc m) n s at =
    let e : suc m + n ≡ suc (m + n) = omega arith in
    let f : at + 1 + m ≡ at + suc m = omega arith in
    rw (e, ← f) (omega (arith, word_split m n s (at + 1), ap (λ (p : ℕ). p * word n s (at + 1 + m)) (pow-suc 256 m)))

-- a number of n bytes is below 256 to the n
pub word_below : (n : ℕ) (s : List ℕ) (at : ℕ) → Bytes s → word n s at < 256 ^ n
unfolding word
word_below zero s at h = omega arith
word_below (suc n) s at h = omega (arith, h at, word_below n s (at + 1) h, pow-suc 256 n)

-- the same number has the same bytes
pub word_same : (n : ℕ) (s r : List ℕ) (at to : ℕ) → Bytes s → Bytes r → word n s at ≡ word n r to → (i : ℕ) → i < n → get_or s (at + i) 0 ≡ get_or r (to + i) 0
unfolding word
word_same zero s r at to b c e i h = absurd (omega arith)
word_same (suc n) s r at to b c e zero h =
    let f : at + 0 ≡ at = omega arith in
    let g : to + 0 ≡ to = omega arith in
    rw (f, g) (omega (arith, e, b at, c to))
word_same (suc n) s r at to b c e (suc i) h =
    let f : at + 1 + i ≡ at + suc i = omega arith in
    let g : to + 1 + i ≡ to + suc i = omega arith in
    rw (← f, ← g) (word_same n s r (at + 1) (to + 1) b c (omega (arith, e, b at, c to)) i (omega arith))

-- a number's bytes are as many as asked for, and are read back as the number
pub length-bytes : (n x : ℕ) → length (bytes_of n x) ≡ n
unfolding bytes_of
length-bytes zero x = refl
length-bytes (suc n) x = ap suc (length-bytes n (x / 256))

pub word_bytes : (n x : ℕ) (l r : List ℕ) → x < 256 ^ n → word n (l ++ (bytes_of n x ++ r)) (length l) ≡ x
unfolding word bytes_of
word_bytes zero x l r h = omega arith
word_bytes (suc n) x l r h =
    let rest : List ℕ = bytes_of n (x / 256) ++ r in
    let first : List ℕ = l ++ (x % 256 ∷ []) in
    let e : get_or (l ++ x % 256 ∷ rest) (length l) 0 ≡ x % 256 = get_or-append_seam l (x % 256) rest 0 in
    let f : l ++ x % 256 ∷ rest ≡ first ++ rest = sym (append_assoc l (x % 256 ∷ []) rest) in
    let g : length l + 1 ≡ length first = sym (length-append l (x % 256 ∷ [])) in
    let w : word n (l ++ x % 256 ∷ rest) (length l + 1) ≡ x / 256 =
    ap (λ (i : ℕ). word n (l ++ x % 256 ∷ rest) i) g ∙ ap (λ (s : List ℕ). word n s (length first)) f
    ∙ word_bytes n (x / 256) first r (omega (arith, pow-suc 256 n)) in
    omega (arith, e, w)

-- and a number read from bytes is those bytes
pub word_back : (n : ℕ) (s : List ℕ) (at : ℕ) → Bytes s → at + n ≤ length s → bytes_of n (word n s at) ≡ take n (drop at s)
unfolding word bytes_of
word_back zero s at b h = refl
word_back (suc n) s at b h =
    let rest = word n s (at + 1) in
    let first : (get_or s at 0 + 256 * rest) % 256 ≡ get_or s at 0 = omega (arith, b at) in
    let next : (get_or s at 0 + 256 * rest) / 256 ≡ rest = omega (arith, b at) in
    let e : at + 1 ≡ suc at = omega arith in
    let after : bytes_of n rest ≡ take n (drop (suc at) s) = word_back n s (at + 1) b (omega arith) ∙ ap (λ (k : ℕ). take n (drop k s)) e in
    rw (first, next, after, drop-cons s at 0 (omega arith))

-- bytes, and those after them
pub take_next : (s : List ℕ) (at n m : ℕ) → take (n + m) (drop at s) ≡ take n (drop at s) ++ take m (drop (at + n) s)
take_next s at n m = take-add n m (drop at s) ∙ ap (λ (l : List ℕ). take n (drop at s) ++ take m l) (drop-drop n at s)

-- the bytes of a number are bytes
pub bytes-of : (n x : ℕ) → Bytes (bytes_of n x)
unfolding bytes_of
bytes-of zero x i = omega arith
bytes-of (suc n) x zero = omega arith
bytes-of (suc n) x (suc i) = bytes-of n (x / 256) i

-- two numbers in one: the bytes of the first, and those of the second after them
pub bytes-join : (m n x y : ℕ) → x < 256 ^ m → bytes_of (m + n) (x + 256 ^ m * y) ≡ bytes_of m x ++ bytes_of n y
unfolding bytes_of
bytes-join zero n x y h =
    let e : 0 + n ≡ n = omega arith in
    let f : x + 256 ^ 0 * y ≡ y = omega arith in
    rw (e, f)
bytes-join (suc m) n x y h =
    let e : suc m + n ≡ suc (m + n) = omega arith in
    let p = ap (λ (q : ℕ). q * y) (pow-suc 256 m) in
    let first : (x + 256 ^ suc m * y) % 256 ≡ x % 256 = omega (arith, p) in
    let rest : (x + 256 ^ suc m * y) / 256 ≡ x / 256 + 256 ^ m * y = omega (arith, p) in
    rw (e, first, rest, bytes-join m n (x / 256) y (omega (arith, h, pow-suc 256 m)))

-- so the end record is one number, of four bytes
pub end-bytes : (n : ℕ) → bytes_of 4 (20037 + 65536 * n) ≡ end_record n
end-bytes n = bytes-join 2 2 20037 n (omega arith)

pub end-length : (n : ℕ) → length (end_record n) ≡ 4
unfolding bytes_of
end-length n = refl

pub end-mark-word : (n : ℕ) → word 2 (end_record n) 0 ≡ 20037
end-mark-word n = word_bytes 2 20037 [] (bytes_of 2 n) (omega arith)

pub end-count : (n : ℕ) → n < 65536 → word 2 (end_record n) 2 ≡ n
end-count n h =
    ap (λ (l : List ℕ). word 2 (bytes_of 2 20037 ++ l) 2) (sym (append-nil (bytes_of 2 n)))
    ∙ ap (word 2 (bytes_of 2 20037 ++ (bytes_of 2 n ++ []))) (sym (length-bytes 2 20037)) ∙ word_bytes 2 n (bytes_of 2 20037) [] (omega (arith, h))
