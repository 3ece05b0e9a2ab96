-- What the walks of the lent rows need of their loops: each begins, goes on by one row, and ends. Assumes nothing.
use Prim.Native.Nat.{ℕ, suc, min, ◌+◌, ◌<◌, ◌≤◌}
use native.Mathlib.Omega.{arith}
use native.Mathlib.Numerals.{add-one}
use mathlib.Core.Path.{◌≡◌, refl, ap, subst, sym, ◌∙◌}
use mathlib.Core.List.{List, ◌∷◌, ◌++◌, map, flatten, map-append, append-nil}
use lib.ListN.{length, get_or, take, drop, set, length-append, length-take, take-append-drop}
use lib.Seq.{drop-cons, take-suc, take-length, take-take, get_or-take, set_at, append_snoc, length-take-le}
use Rattle.std.specs.declared.result.Result.TheVariants.{Ok, Err}
use Rattle.search.specs.Choice.{◌when◌else◌}
use Rattle.table.specs.Record.{blank, end_record, row_at, length_at}
use Rattle.table.specs.Find.{rows}
use Rattle.table.specs.Place.{place_of}
use Rattle.table.specs.Read.{table_of}
use Rattle.table.specs.Code.Taken.{Taken, Stands}
use Rattle.table.specs.declared.Row.{Row}
use Rattle.table.specs.declared.refusal.Refusal.{Refusal}
use Rattle.table.proofs.Stands.{row-there, stands, place-next as next_place}
use Rattle.table.proofs.Words.{end-length}
use Rattle.slices.specs.Slices.{splice}
use Rattle.slices.specs.Code.Wrote.{Wrote}
use Rattle.slices.proofs.Writes.{wrote_none, wrote_put, wrote_on}
use Rattle.slices.proofs.Parts.{flatten_append, all-at}
use Rattle.writing.specs.Rows.{row_bytes, table_bytes}
use Rattle.writing.specs.Write.{Writes}
use Rattle.writing.specs.Code.Tally.{unjudged, Judgement, judged_all, Fits, Small, JudgedWith, most_judged, JudgedRows}
use Rattle.writing.specs.Code.Put.{fitted, RowRoom, row_records}
use Rattle.writing.specs.Code.Rows.{filled_to}
use Rattle.writing.specs.declared.judged.Tally.{Tally}
use Rattle.writing.proofs.Lefts.{left-on, left-none, take_more}
use Rattle.writing.proofs.Judging.{Counts, GoodRows, judged-good}
use Rattle.writing.proofs.Answering.{table-length, fitted-room, long, fitted-is}

-- Rows judged one after the other

pub small-start : Small unjudged
small-start = record { count = omega arith; tasks = omega arith; bytes = omega arith; gap_bytes_holds = λ h. omega arith; places = refl }

-- the first k rows are good, and j is what is known of them; what is left makes of it what all rows make of nothing
pub record Judged (ys : List Row) (k : ℕ) (j : Tally) : Type 0 where
  pub fits : Fits (Ok j) (drop k (take most_judged ys)) → Fits (Ok unjudged) (take most_judged ys)
  pub small : Small j
  pub so : judged_all (Ok j) (drop k (take most_judged ys)) ≡ judged_all (Ok unjudged) (take most_judged ys)

pub judged-start : (ys : List Row) → Judged ys 0 unjudged
judged-start ys = record { fits = λ f. f; small = small-start; so = refl }

module _ (ys : List Row) (k : ℕ) (j : Tally) (g : Judged ys k j) where
  module _ (h : k < min (length ys) most_judged) {v : Judgement} (w : JudgedWith j (get_or ys k blank) v) where
    left : drop k (take most_judged ys) ≡ get_or ys k blank ∷ drop (k + 1) (take most_judged ys)
    left = left-on ys most_judged k blank (omega arith) (omega arith)

    fits-on : Fits v (drop (k + 1) (take most_judged ys)) → Fits (Ok unjudged) (take most_judged ys)
    unfolding Fits
    fits-on f = g.fits (subst (Fits (Ok j)) (sym left) (w.fits, subst (λ (u : Judgement). Fits u (drop (k + 1) (take most_judged ys))) w.is f))

    so-on : judged_all v (drop (k + 1) (take most_judged ys)) ≡ judged_all (Ok unjudged) (take most_judged ys)
    unfolding judged_all
    so-on = ap (λ (u : Judgement). judged_all u (drop (k + 1) (take most_judged ys))) w.is ∙ sym (ap (judged_all (Ok j)) left) ∙ g.so

  -- one good row more, and one at fault
  pub judged-on : k < min (length ys) most_judged → {i : Tally} → JudgedWith j (get_or ys k blank) (Ok i) → Judged ys (k + 1) i
  judged-on h w = record { fits = fits-on h w; small = w.small; so = so-on h w }

  pub judged-refused : k < min (length ys) most_judged → {n : Refusal} → JudgedWith j (get_or ys k blank) (Err n) → JudgedRows ys (Err n)
  unfolding judged_all Fits
  judged-refused h w = record { fits = fits-on h w tt; small = tt; is = so-on h w }

  -- all rows are judged
  pub judged-end : min (length ys) most_judged ≤ k → JudgedRows ys (Ok j)
  unfolding judged_all Fits
  judged-end h =
      let none = left-none ys most_judged k h in
      record {
        fits = g.fits (subst (Fits (Ok j)) (sym none) tt);
        small = g.small;
        is = sym (ap (judged_all (Ok j)) none) ∙ g.so;
      }

-- Rows put one after the other

-- what was judged is short
pub judged-short : (j : Tally) → Small j → j.bytes ≤ 4096
judged-short j h = omega (arith, h.bytes, h.count, h.tasks)

pub rows_start : (ys : List Row) (buffer : List ℕ) → Wrote buffer 0 (row_records ys 0) buffer 0
unfolding flatten
rows_start ys buffer = wrote_none buffer 0 (omega arith)

-- the records of one row more
pub records-more : (ys : List Row) (k : ℕ) → k < length ys → row_records ys (k + 1) ≡ row_records ys k ++ row_bytes (get_or ys k blank)
unfolding flatten
records-more ys k h = rw (take_more ys k blank h, map-append, flatten_append, append-nil)

-- the records of the first rows and of the others are all records
pub records-split : (ys : List Row) (n : ℕ) → flatten (map row_bytes ys) ≡ row_records ys n ++ flatten (map row_bytes (drop n ys))
records-split ys n = ap (λ (l : List Row). flatten (map row_bytes l)) (sym (take-append-drop n ys)) ∙ rw (map-append, flatten_append)

pub records-all : (ys : List Row) (n : ℕ) → n ≡ length ys → row_records ys n ≡ flatten (map row_bytes ys)
records-all ys n e = ap (λ (l : List Row). flatten (map row_bytes l)) (ap (λ (k : ℕ). take k ys) e ∙ take-length ys)

pub rows_on : (ys : List Row) (k : ℕ) → k < length ys → (buffer zs after : List ℕ) (at next : ℕ) → Wrote buffer 0 (row_records ys k) zs at
    → Wrote zs at (row_bytes (get_or ys k blank)) after next → Wrote buffer 0 (row_records ys (k + 1)) after next
rows_on ys k h buffer zs after at next w v = subst (λ text. Wrote buffer 0 text after next) (sym (records-more ys k h)) (wrote_on w v)

-- good rows, for which there is room
module _ (ys : List Row) (j : Tally) (h : JudgedRows ys (Ok j)) (buffer : List ℕ) {n : ℕ} (e : fitted j (length buffer) ≡ Ok n) where
  good : GoodRows ys unjudged j
  good = judged-good ys j h

  pub all-put : j.count ≡ length ys
  all-put = omega (arith, good.count)

  room : length (table_bytes ys) ≤ length buffer
  room = omega (arith, (fitted-room j (length buffer) e).1, long ys j h)

  module _ (zs : List ℕ) (k at : ℕ) (w : Wrote buffer 0 (row_records ys k) zs at) where
    pub rows-room : k < length ys → RowRoom (get_or ys k blank) zs at
    rows-room l =
        let c = all-at Counts ys k blank good.rows l in
        let more = ap length (records-split ys (k + 1)) ∙ length-append (row_records ys (k + 1)) _ in
        let next = ap length (records-more ys k l) ∙ length-append (row_records ys k) (row_bytes (get_or ys k blank)) in
        record { form = c.form; some = c.some; listed = c.listed; tasks = c.tasks; room = omega (arith, room, table-length ys, more, next, w.ends, w.long) }

    module _ (all : k ≡ length ys) where
      rows-all : row_records ys k ≡ flatten (map row_bytes ys)
      rows-all = records-all ys k all

      pub end-room : at + 4 ≤ length zs
      end-room = omega (arith, room, table-length ys, ap length rows-all, w.ends, w.long)

      -- the end record is put too
      pub writes : (after : List ℕ) → after ≡ splice zs at 4 (end_record j.count) → Writes ys buffer (Ok n) after
      unfolding table_bytes flatten ◌when◌else◌
      writes after put =
          let end : after ≡ take at zs ++ end_record (length ys) ++ drop (at + 4) zs = put ∙ ap (λ (i : ℕ). take at zs ++ end_record i ++ drop (at + 4) zs) all-put in
          record {
            answers = sym e ∙ fitted-is ys j h (length buffer);
            leaves =
                first-bytes (wrote_on w (wrote_put zs at (end_record (length ys)) after 4 (at + 4) (end-length (length ys)) refl end-room end))
                (ap (λ (t : List ℕ). t ++ end_record (length ys)) rows-all);
          }
        where
          -- what is put from the first byte on, and the rest
          first-bytes : {text : List ℕ} {next : ℕ} → Wrote buffer 0 text after next → text ≡ table_bytes ys → after ≡ table_bytes ys ++ drop (length (table_bytes ys)) buffer
          first-bytes {text} v t =
              let z : 0 + length text ≡ length text = omega arith in
              v.holds ∙ rw (z, t)

-- Rows filled one after the other

-- an accepted table, whose chains have room
module _ (s : List ℕ) (before : List Row) (taken : Taken s) (room : (table_of s).count ≤ length before) where
  module _ (k at : ℕ) (h : k < (table_of s).count) (e : at ≡ place_of (table_of s) k) where
    pub fill_stands : Stands s at
    fill_stands = stands taken e h

    pub fill_on : set (filled_to s before k) k (row_at s at) ≡ filled_to s before (k + 1)
    fill_on =
        let t = table_of s in
        let there : k < length (rows t) = rw length-take (omega (arith, h, taken.good.few, taken.good.size)) in
        ap (λ l. set (take k (rows t) ++ l) k (row_at s at)) (drop-cons before k blank (omega (arith, h, room)))
        ∙ set_at (take k (rows t)) (get_or before k blank) (drop (suc k) before) (row_at s at) k (length-take-le k (rows t) (omega arith))
        ∙ rw (add-one, take-suc (rows t) k blank there, get_or-take t.count t.row k blank h, ← row-there taken e h) (sym (append_snoc (take k (rows t)) (row_at s at) (drop (suc k) before)))

    pub place-next : at + length_at s at ≡ place_of (table_of s) (k + 1)
    place-next = next_place taken e h

  -- all rows are filled
  pub all-filled : (k : ℕ) → k ≡ (table_of s).count → filled_to s before k ≡ rows (table_of s) ++ drop (table_of s).count before
  all-filled k e = rw (e, take-take (table_of s).count (table_of s).count (table_of s).row (omega arith))
