-- The lines of an accepted table are what the two queries answer, chain by chain. Assumes nothing.
use Prim.Native.Nat.{ℕ, zero, suc, ◌+◌, ◌≤◌, ◌<◌}
use native.Mathlib.Omega.{arith}
use native.Mathlib.Numerals.{add-one}
use mathlib.Core.Path.{◌≡◌, refl, ap, ap₂, sym, ◌∙◌}
use mathlib.Core.List.{List, [], ◌∷◌, ◌++◌, append_assoc, append-nil, flat_map}
use lib.ListN.{length, take, drop, length-append}
use lib.Seq.{take-suc, take_at}
use Rattle.table.specs.Bytes.{Bytes}
use Rattle.table.specs.Record.{blank}
use Rattle.table.specs.Find.{row_of, rows, find_of}
use Rattle.table.specs.Code.Good.{GoodTable}
use Rattle.table.specs.Read.{unless, read_table}
use Rattle.table.specs.declared.Table.{Table}
use Rattle.std.specs.declared.result.Result.TheVariants.{Ok, Err}
use Rattle.table.specs.declared.refusal.Refusal.{Refusal}
use Rattle.table.proofs.Accepted.{taken}
use Rattle.table.proofs.Finds.{find_is}
use Rattle.arrivals.specs.Arrivals.{δ}
use Rattle.windows.specs.Latency.{bound_at, figures_of, latency_of}
use Rattle.windows.proofs.Answers.{latency-accepted}
use Rattle.windows.proofs.Answers.{chain-found as latency-found}
use Rattle.misses.specs.Bad.{by_windows}
use Rattle.misses.specs.Misses.{misses_at, misses_of}
use Rattle.misses.proofs.Answers.{tested-accepted}
use Rattle.misses.proofs.Answers.{chain-found as misses-found}
use Rattle.report_text.specs.Report.{header, miss_run, line_text, line_of, refused_text, report_of, longest, Reported}
use Rattle.slices.specs.Code.Wrote.{Wrote}
use Rattle.report_text.specs.Code.Writing.{line_in, lines_in}
use Rattle.slices.proofs.Writes.{wrote_none}

flat_map-more : {A : Type 0} (f : A → List ℕ) (l : List A) (a : A) → flat_map f (l ++ (a ∷ [])) ≡ flat_map f l ++ f a
unfolding flat_map
flat_map-more f [] a = append-nil (f a)
flat_map-more f (x ∷ l) a = ap (λ m. f x ++ m) (flat_map-more f l a) ∙ sym (append_assoc (f x) (flat_map f l) (f a))

pub lines_none : (t : Table) (before : List ℕ) (at : ℕ) → at ≤ length before → Wrote before at (lines_in t 0) before at
unfolding lines_in
lines_none t before at h = wrote_none before at h

pub lines_on : (t : Table) (n : ℕ) → lines_in t (n + 1) ≡ lines_in t n ++ line_in t n
unfolding lines_in
lines_on t n = rw add-one

module _ (s : List ℕ) (bytes : Bytes s) (yes : (read_table s).verdict ≡ Ok tt) where
  abbrev t : Table
  t = (read_table s).table

  good : GoodTable t
  good = (taken s bytes yes).good

  module _ (chain : ℕ) (h : chain < t.count) where
    found : find_of t (row_of t chain).id ≡ chain
    found = find_is t good chain h

    latency-is : latency_of s (row_of t chain).id ≡ figures_of (bound_at δ t chain)
    latency-is =
        latency-accepted δ s (row_of t chain).id yes ∙ latency-found δ t (row_of t chain).id (λ e. omega (arith, e, found, h))
        ∙ ap (λ j. figures_of (bound_at δ t j)) found

    misses-is : misses_of s (row_of t chain).id miss_run ≡ misses_at t chain miss_run
    misses-is =
        tested-accepted δ by_windows s (row_of t chain).id miss_run yes ∙ misses-found δ by_windows t (row_of t chain).id miss_run (λ e. omega (arith, e, found, h))
        ∙ ap (λ j. misses_at t j miss_run) found

    line_is : line_of s (row_of t chain) ≡ line_in t chain
    line_is = ap₂ (line_text (row_of t chain).id) latency-is misses-is

  lines_are : (n : ℕ) → n ≤ t.count → flat_map (line_of s) (take n t.row) ≡ lines_in t n
  unfolding flat_map lines_in
  lines_are zero h = refl
  lines_are (suc n) h =
      let l : n < length t.row = omega (arith, h, good.size, good.few) in
      ap (flat_map (line_of s)) (take-suc t.row n blank l) ∙ flat_map-more (line_of s) (take n t.row) (row_of t n)
      ∙ ap₂ (λ a b. a ++ b) (lines_are n (omega arith)) (line_is n (omega arith))

  -- the report of an accepted table
  pub report-accepted : report_of s ≡ header ++ lines_in t t.count
  unfolding report_of unless
  report-accepted = ap (λ v. unless refused_text v (header ++ flat_map (line_of s) (rows t))) yes ∙ ap (λ l. header ++ l) (lines_are t.count (omega arith))

-- the report of a refused one
pub report-refused : (s : List ℕ) {n : Refusal} {place : ℕ} → (read_table s).verdict ≡ Err (n, place) → report_of s ≡ refused_text n place
unfolding report_of unless
report-refused s e = ap (λ v. unless refused_text v (header ++ flat_map (line_of s) (rows (read_table s).table))) e

-- the report stands first in the buffer
pub wrote_report : (s : List ℕ) {text before after : List ℕ} {r : ℕ} → report_of s ≡ text → length before ≡ longest → Wrote before 0 text after r
    → Reported s before after r
wrote_report s {text} e l w =
    let z : 0 + length text ≡ length text = omega arith in
    record { answers = rw e (w.ends ∙ z); fits = omega (arith, w.ends, w.fits, l); leaves = rw (e, ← z) w.holds }

-- as many bytes of the buffer as are answered are the report
module _ {s before after : List ℕ} {r : ℕ} (h : Reported s before after r) where
  pub reported_within : r ≤ length after
  reported_within = omega (arith, h.answers, ap length h.leaves ∙ length-append (report_of s) (drop (length (report_of s)) before))

  pub reported_text : take r after ≡ report_of s
  reported_text = rw h.leaves (take_at (report_of s) (drop (length (report_of s)) before) r (sym h.answers))

  pub reported_count : r ≡ length (take r after)
  reported_count = h.answers ∙ ap length (sym reported_text)
