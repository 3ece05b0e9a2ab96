-- A piece of text after another, in one buffer. Assumes nothing.
use Prim.Native.Nat.{ℕ, suc, ◌+◌, ◌-◌, ◌≤◌}
use native.Mathlib.Omega.{arith}
use native.Mathlib.Numerals.{add-one}
use mathlib.Core.Path.{◌≡◌, refl, ap, sym, ◌∙◌}
use mathlib.Core.List.{List, [], ◌∷◌, ◌++◌, append_assoc, append-nil}
use lib.ListN.{length, take, drop, set, length-append, length-take, length-drop, length-set, take-append-drop, drop_of_length-le}
use lib.Seq.{set_split, append_snoc, take_at, drop-append-add, drop-drop, length-take-le, take_all, take-length}
use borrow.Rule.Slice.PartMut.{put_mid}
use Rattle.table.specs.Bytes.{bytes_of}
use Rattle.table.proofs.Words.{length-bytes}
use Rattle.slices.specs.Code.Wrote.{Wrote}

-- nothing
pub wrote_none : (before : List ℕ) (at : ℕ) → at ≤ length before → Wrote before at [] before at
wrote_none before at h =
    let e : at + 0 ≡ at = omega arith in
    record { fits = omega arith; holds = rw (append-nil, e) (sym (take-append-drop at before)); long = refl; ends = omega arith }

-- one byte
pub wrote_byte : (before : List ℕ) (at b : ℕ) → at + 1 ≤ length before → Wrote before at (b ∷ []) (set before at b) (at + 1)
wrote_byte before at b h = record {
  fits = h;
  holds = rw (add-one) (set_split before at b (omega arith) ∙ sym (append_snoc (take at before) b (drop (suc at) before)));
  long = length-set before at b;
  ends = refl;
}

-- a text copied over the first bytes of what stands from `at` on
pub wrote_text : (before : List ℕ) (at : ℕ) (text part : List ℕ) → at + length text ≤ length before
    → part ≡ take (length text) text ++ drop (length text) (take (length before - at) (drop at before))
    → Wrote before at text (put_mid at (length before - at) before part) (at + length text)
wrote_text before at text part h e =
    let all : take (length before - at) (drop at before) ≡ drop at before = take_all (length before - at) (drop at before) (omega (arith, length-drop at before)) in
    let past : drop (length before - at) (drop at before) ≡ [] = drop_of_length-le (drop at before) {i = length before - at} (omega (arith, length-drop at before)) in
    let holds : put_mid at (length before - at) before part ≡ take at before ++ text ++ drop (at + length text) before =
    rw (past, e, all, take-length, append-nil, drop-drop, append_assoc) in
    record { fits = h; holds = holds; long = ap length holds ∙ simp (length-append, length-take, length-drop) (omega arith); ends = refl }

-- n bytes put in the place of n others
pub wrote_put : (before : List ℕ) (at : ℕ) (text after : List ℕ) (n next : ℕ) → length text ≡ n → next ≡ at + n → at + n ≤ length before
    → after ≡ take at before ++ text ++ drop (at + n) before → Wrote before at text after next
wrote_put before at text after n next e f h w =
    let holds : after ≡ take at before ++ text ++ drop (at + length text) before = rw e w in
    record {
      fits = omega arith;
      holds = holds;
      long = ap length holds ∙ simp (length-append, length-take, length-drop) (omega arith);
      ends = omega arith;
    }

-- a piece, and another one after it
pub wrote_on : {before mid after p q : List ℕ} {at next end : ℕ} → Wrote before at p mid next → Wrote mid next q after end → Wrote before at (p ++ q) after end
wrote_on {before} {mid} {after} {p} {q} {at} {next} {end} a b =
    let n : length (p ++ q) ≡ length p + length q = length-append p q in
    let m : length (take at before ++ p) ≡ at + length p = length-append (take at before) p ∙ ap (λ k. k + length p) (length-take-le at before (omega (arith, a.fits))) in
    let t : take (at + length p) (take at before ++ p ++ drop (at + length p) before) ≡ take at before ++ p = take_at (take at before ++ p) (drop (at + length p) before) (at + length p) m in
    let d : drop (at + length p + length q) (take at before ++ p ++ drop (at + length p) before) ≡ drop (at + length p + length q) before =
    ap (λ k. drop (k + length q) (take at before ++ p ++ drop (at + length p) before)) (sym m) ∙ drop-append-add (take at before ++ p) (drop (at + length p) before) (length q) ∙ drop-drop (length q) (at + length p) before in
    let s : at + length p + length q ≡ at + length (p ++ q) = omega arith in
    record {
      fits = omega (arith, a.fits, b.fits, a.ends, a.long);
      holds = b.holds ∙ rw (a.ends, a.holds, t, d, s, append_assoc (take at before) p q);
      long = b.long ∙ a.long;
      ends = omega (arith, a.ends, b.ends);
    }

-- a number
pub wrote_number : (before : List ℕ) (at n x : ℕ) (after : List ℕ) (next : ℕ) → next ≡ at + n → at + n ≤ length before
    → after ≡ take at before ++ bytes_of n x ++ drop (at + n) before → Wrote before at (bytes_of n x) after next
wrote_number before at n x after next e h w = wrote_put before at (bytes_of n x) after n next (length-bytes n x) e h w

-- and one after what was put
pub number-on : {before mid text after : List ℕ} {at here : ℕ} → Wrote before at text mid here → (n x next : ℕ) → next ≡ here + n → here + n ≤ length before
    → after ≡ take here mid ++ bytes_of n x ++ drop (here + n) mid → Wrote before at (text ++ bytes_of n x) after next
number-on {before} {mid} {text} {after} {at} {here} w n x next e h p = wrote_on w (wrote_number mid here n x after next e (omega (arith, w.long)) p)
