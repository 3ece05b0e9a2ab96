-- Every query is answered with its figures or refused with a number, never both. Assumes nothing.
use Prim.Native.Nat.{ℕ, zero, suc, ◌≤◌}
use mathlib.Core.Path.{◌≡◌, refl, sym, subst, ◌∙◌}
use mathlib.Core.Bool.{Bool, not, ◌||◌}
use mathlib.Core.List.{List, []}
use mathlib.Core.Logic.{inl, inr, ⊎_elim}
use native.Mathlib.Omega.{arith}
use lib.Dec.{lit≤, eqb, ltb}
use borrow.Author.Tests.{eqb-false, not-false}
use lib.ListN.{length, take}
use Rattle.std.specs.Prelude.{⊤}
use Rattle.std.specs.declared.option.Option.TheVariants.{Some, None}
use Rattle.std.specs.declared.result.Result.{Result}
use Rattle.std.specs.declared.result.Result.TheVariants.{Ok, Err}
use Rattle.search.specs.Choice.{◌when◌else◌, by_number}
use Rattle.search.specs.Lists.{All, every}
use Rattle.search.proofs.Choice.{when_cases}
use Rattle.table.specs.Bytes.{Bytes}
use Rattle.table.specs.Find.{rows}
use Rattle.table.specs.Refusal.{Verdict, numbered, number_of, one_value, part_values, answering}
use Rattle.table.specs.Read.{by_verdict, outcome_of, read_table, table_of}
use Rattle.table.specs.Field.{TableRefusal}
use Rattle.table.specs.Read as read
use Rattle.table.specs.declared.Part.{Part}
use Rattle.table.specs.declared.Row.{Row}
use Rattle.table.specs.declared.Table.{Table}
use Rattle.table.specs.declared.refusal.Fault.{Fault}
use Rattle.table.specs.declared.refusal.Refusal.{Refusal}
use Rattle.table.specs.declared.refusal.Refusal.TheVariants.{BufferShort, NoSuchForm}
use Rattle.table.proofs.Fields.{refused-placed, some_number}
use Rattle.table.proofs.Firsts.{none_or}
use Rattle.arrivals.specs.Arrivals.{δ}
use Rattle.segments.specs.Query as segment
use Rattle.segments.specs.View.{View}
use Rattle.table.specs.Record.{form_at, distances}
use Rattle.windows.specs.Demand.{demand_of}
use Rattle.windows.specs.Window.{Window, window_of}
use Rattle.windows.specs.Latency as latency
use Rattle.windows.specs.declared.Windows.{Windows}
use Rattle.misses.specs.Bad.{Test}
use Rattle.misses.specs.Misses as misses
use Rattle.misses.specs.Sieve as sieve
use Rattle.misses.specs.Overloads.{Overload}
use Rattle.saving.specs.Save as save
use Rattle.merging.specs.Versions.{Versions}
use Rattle.merging.specs.Rule.{conflict_above}
use Rattle.merging.specs.Merge as merge
use Rattle.merging.specs.declared.Unmerged.TheVariants.{Conflict}
use Rattle.slices.specs.Locate as locate
use Rattle.writing.specs.Rows.{table_bytes, Typed}
use Rattle.salvaging.specs.Salvage as salvage
use Rattle.writing.specs.Write as write
use Rattle.writing.specs.Fill as fill
use Rattle.converting.specs.Forms.{form_of, fits_form}
use Rattle.converting.specs.Convert.{rows_in, converted_of}
use Rattle.converting.specs.declared.To.{To}
use Rattle.converting.proofs.Results.{Given, unrefused, written}
use Rattle.writing.proofs.Promises.{judged}
use Rattle.writing.proofs.Refusals.{rows-refusal}
use Rattle.editor.specs.Entry.{latency_figures, verdict_figures}
use Rattle.demands.specs.Entries.{verdictNumber, mergeNumber, reading_by, CheckRefusal, LatencyRefusal, MissesRefusal, SegmentRefusal, SaveRefusal, MergeRefusal, WriteRefusal, ReadRefusal, RecordRefusal, ConvertRefusal, SalvageRefusal, OneAnswer}
use Rattle.demands.proofs.Numbers.{Known, save-number}

module _ (Allowed : ℕ → Type 0) (n : ℕ) where
  -- figures, and a refusal
  answers : (figures : List ℕ) → length figures ≡ n → OneAnswer Allowed n 0 figures
  answers figures e = record { answered = λ z. e; refused = λ h. absurd (h refl) }

  refuses : (f : ℕ) → 1 ≤ f → Allowed f → OneAnswer Allowed n f []
  refuses f h r = record { answered = λ z. absurd (omega arith); refused = λ z. (r, refl) }

  -- a table's refusal
  faulty : ((k : ℕ) → TableRefusal k → Allowed k) → (s : List ℕ) (f : Fault) → (read_table s).verdict ≡ Err f → OneAnswer Allowed n (numbered f.0) []
  faulty low s f e = refuses (numbered f.0) (some_number s {n = f.0} {place = f.1} e) (low (numbered f.0) (refused-placed s {n = f.0} {place = f.1} e).number)

-- a refusal of one query that is one of another too
other : {Allowed Also : ℕ → Type 0} {n m : ℕ} → 1 ≤ n → ((k : ℕ) → Allowed k → Also k) → (f : ℕ) → OneAnswer Allowed n f [] → OneAnswer Also m f []
other some to zero o = absurd (omega (arith, o.answered refl))
other some to (suc k) o = record { answered = λ z. absurd (omega (arith, z)); refused = λ h. (to (suc k) (o.refused h).0, refl) }

-- a table, judged and read
pub verdict_one : (s : List ℕ) → OneAnswer TableRefusal 0 (verdictNumber (read_table s).verdict) []
verdict_one s = by (read_table s).verdict refl
  where
    by : (v : Verdict) → (read_table s).verdict ≡ v → OneAnswer TableRefusal 0 (verdictNumber v) []
    by (Ok u) e = answers TableRefusal 0 [] refl
    by (Err f) e = faulty TableRefusal 0 (λ k h. h) s f e

pub read_one : (s : List ℕ) → OneAnswer TableRefusal 0 (verdictNumber (reading_by (outcome_of (read_table s))).verdict) []
read_one s = by (read_table s).verdict refl (read_table s).table
  where
    by : (v : Verdict) → (read_table s).verdict ≡ v → (t : Table) → OneAnswer TableRefusal 0 (verdictNumber (reading_by (answering v t)).verdict) []
    by (Ok u) e t = answers TableRefusal 0 [] refl
    by (Err f) e t = faulty TableRefusal 0 (λ k h. h) s f e

-- the check, which is answered whatever the table
pub check_one : (s : List ℕ) → OneAnswer CheckRefusal 2 0 (verdict_figures (read_table s).verdict)
check_one s = answers CheckRefusal 2 _ refl

-- latency
abbrev OneLatency : latency.Answer → Type 0
OneLatency a = OneAnswer LatencyRefusal 4 (number_of a) (latency_figures a)

bound-one : (b : Row) (views : List View) → OneLatency (latency.figures_of (latency.bound_of δ b views))
unfolding latency.bound_of latency.windows_of
bound-one b views =
    let k = latency.close_of (demand_of δ b views) (δ (distances b)) in
    when_cases (λ (w : Result Windows Refusal). OneLatency (latency.figures_of w)) _ (λ e. refuses LatencyRefusal 4 17 (lit≤ tt) (inr (inr (lit≤ tt, lit≤ tt)))) (λ e. by (demand_of δ b views) (δ (distances b)) b.deadline k (window_of (demand_of δ b views k)))
  where
    by : (demand : ℕ → ℕ → ℕ) (distance : ℕ → ℕ) (deadline k : ℕ) (w : Window) → OneLatency (latency.figures_of (latency.ends_with demand distance deadline k w))
    by demand distance deadline k (Some t) = answers LatencyRefusal 4 _ refl
    by demand distance deadline k None = refuses LatencyRefusal 4 16 (lit≤ tt) (inr (inr (lit≤ tt, lit≤ tt)))

pub latency-one : (s : List ℕ) (id : ℕ) → OneLatency (latency.latency_of s id)
unfolding latency.latency_by latency.latency_in
latency-one s id = by (read_table s).verdict refl
  where
    by : (v : Verdict) → (read_table s).verdict ≡ v → OneLatency (by_verdict Err v (latency.latency_in δ (read_table s).table id))
    by (Ok u) e = when_cases OneLatency _ (λ f. refuses LatencyRefusal 4 12 (lit≤ tt) (inr (inl refl))) (λ f. bound-one _ _)
    by (Err f) e = faulty LatencyRefusal 4 (λ k h. inl h) s f e

-- misses
abbrev OneMisses : misses.Answer → Type 0
OneMisses a = OneAnswer MissesRefusal 1 (number_of a) (one_value a)

figures-one : (test : Test) (b : Row) (views : List View) (os : List Overload) (k close latency late last : ℕ) → OneMisses (misses.by_figures δ test b views os k close latency late last)
unfolding misses.by_figures
figures-one test b views os k close latency late last =
    when_cases OneMisses _ (λ e. answers MissesRefusal 1 _ refl) (λ e.
    when_cases OneMisses _ (λ e. refuses MissesRefusal 1 18 (lit≤ tt) (inr (inl (lit≤ tt, lit≤ tt)))) (λ e.
    when_cases OneMisses _ (λ e. refuses MissesRefusal 1 19 (lit≤ tt) (inr (inl (lit≤ tt, lit≤ tt)))) (λ e.
    when_cases OneMisses _ (λ e. refuses MissesRefusal 1 21 (lit≤ tt) (inr (inr refl))) (λ e. answers MissesRefusal 1 _ refl))))

-- no refusal before any window, or one with its number
Early : Result ⊤ Refusal → Type 0
Early (Ok u) = Unit {0}
Early (Err n) = OneMisses (Err n)

early-one : (b : Row) (k : ℕ) → Early (misses.early_of b k)
unfolding misses.early_of Early
early-one b k =
    when_cases Early _ (λ e. refuses MissesRefusal 1 13 (lit≤ tt) (inr (inl (lit≤ tt, lit≤ tt)))) (λ e.
    when_cases Early _ (λ e. refuses MissesRefusal 1 14 (lit≤ tt) (inr (inl (lit≤ tt, lit≤ tt)))) (λ e.
    when_cases Early _ (λ e. refuses MissesRefusal 1 15 (lit≤ tt) (inr (inl (lit≤ tt, lit≤ tt)))) (λ e. tt)))

in_one : (test : Test) (b : Row) (views : List View) (os : List Overload) (k : ℕ) → OneMisses (misses.tested_beside δ test b views os k)
unfolding misses.tested_beside Early
in_one test b views os k = by (misses.early_of b k) (early-one b k)
  where
    bounded : (w : Result Windows Refusal) → OneLatency (latency.figures_of w) → OneMisses (misses.by_bound δ test b views os k w)
    bounded (Ok w) o = figures-one test b views os k _ _ _ _
    bounded (Err n) o = other (lit≤ tt) (λ f r. ⊎_elim (λ h. inl h) (λ g. inr (inl (⊎_elim (λ h. (omega (arith, h), omega (arith, h))) (λ h. (omega (arith, h.0), omega (arith, h.1))) g))) r) (numbered n) o

    by : (r : Result ⊤ Refusal) → Early r → OneMisses (misses.unless_early δ test b views os k r)
    by (Ok u) l = bounded (latency.bound_of δ b views) (bound-one b views)
    by (Err n) l = l

pub tested-one : (test : Test) (s : List ℕ) (id k : ℕ) → OneMisses (misses.tested_of δ test s id k)
unfolding misses.tested_of misses.tested_in misses.tested_at
tested-one test s id k = by (read_table s).verdict refl
  where
    by : (v : Verdict) → (read_table s).verdict ≡ v → OneMisses (by_verdict Err v (misses.tested_in δ test (read_table s).table id k))
    by (Ok u) e = when_cases OneMisses _ (λ f. refuses MissesRefusal 1 12 (lit≤ tt) (inr (inl (lit≤ tt, lit≤ tt)))) (λ f. in_one test _ _ _ k)
    by (Err f) e = faulty MissesRefusal 1 (λ k h. inl h) s f e

-- by the sieve
pub sieve_one : (s : List ℕ) (id k : ℕ) → OneAnswer MissesRefusal 1 (number_of (sieve.at_most_of s id k)) (sieve.values_of (sieve.at_most_of s id k))
unfolding sieve.at_most_of
sieve_one s id k = by (misses.tested_of δ sieve.by_sieve s id k) (tested-one sieve.by_sieve s id k)
  where
    by : (a : misses.Answer) → OneMisses a → OneAnswer MissesRefusal 1 (number_of (sieve.as_sieved a)) (sieve.values_of (sieve.as_sieved a))
    by (Ok n) o = o
    by (Err n) o = o

-- segment
abbrev OneSegment : segment.Answer → Type 0
OneSegment a = OneAnswer SegmentRefusal 2 (number_of a) (part_values a)

pub segment-one : (s : List ℕ) (chain against number : ℕ) → OneSegment (segment.segment_of s chain against number)
unfolding segment.segment_of segment.answer_of segment.nth_of
segment-one s chain against number = by (read_table s).verdict refl
  where
    by : (v : Verdict) → (read_table s).verdict ≡ v → OneSegment (by_verdict Err v (segment.answer_of (read_table s).table chain against number))
    by (Ok u) e =
        when_cases OneSegment _ (λ f. refuses SegmentRefusal 2 12 (lit≤ tt) (inr (inl refl))) (λ f.
        when_cases OneSegment _ (λ f. refuses SegmentRefusal 2 25 (lit≤ tt) (inr (inr (lit≤ tt, lit≤ tt)))) (λ f.
        when_cases OneSegment _ (λ f. refuses SegmentRefusal 2 26 (lit≤ tt) (inr (inr (lit≤ tt, lit≤ tt)))) (λ f. answers SegmentRefusal 2 _ refl)))
    by (Err f) e = faulty SegmentRefusal 2 (λ k h. inl h) s f e

-- save
pub save-one : (buffer : List ℕ) (used : ℕ) (old new : List ℕ)
    → OneAnswer SaveRefusal 1 (number_of (save.saved_of buffer used old new)) (one_value (save.saved_of buffer used old new))
unfolding save.saved_of
save-one buffer used old new = by (save.save_fault buffer used old new) (save-number buffer used old new) (length (save.result_of (take used buffer) old new))
  where
    by : (r : Result ⊤ Refusal) → Known SaveRefusal r → (n : ℕ) → OneAnswer SaveRefusal 1 (number_of (answering r n)) (one_value (answering r n))
    by (Ok u) h n = answers SaveRefusal 1 _ refl
    by (Err f) h n = refuses SaveRefusal 1 (numbered f) h.0 h.1

-- a merge, and its conflicts
abbrev OneMerge : merge.Answer → Type 0
OneMerge a = OneAnswer MergeRefusal 1 (mergeNumber a) (one_value (merge.as_refused a))

fitted-one : (room : ℕ) (result : List ℕ) → OneMerge (merge.fitted room result)
unfolding merge.fitted read.unless
fitted-one room result = when_cases OneMerge _ (λ e. refuses MergeRefusal 1 24 (lit≤ tt) (inr (inl refl))) (λ e. by (read_table result).verdict refl)
  where
    by : (v : Verdict) → (read_table result).verdict ≡ v → OneMerge (read.unless merge.of_merged v (Ok (length result)))
    by (Ok u) e = answers MergeRefusal 1 _ refl
    by (Err f) e = faulty MergeRefusal 1 (λ n h. inl h) result f e

pub merge-one : (room : ℕ) (v : Versions) → OneMerge (merge.merged_of room v)
unfolding merge.merged_of read.unless by_number
merge-one room v = by (read_table v.ancestor).verdict refl (read_table v.first).verdict refl (read_table v.second).verdict refl (conflict_above v 0)
  where
    by : (a : Verdict) → (read_table v.ancestor).verdict ≡ a → (b : Verdict) → (read_table v.first).verdict ≡ b → (c : Verdict) → (read_table v.second).verdict ≡ c → (id : ℕ)
        → OneMerge (read.unless merge.of_ancestor a (read.unless merge.of_first b (read.unless merge.of_second c (by_number (λ x. Err (Conflict x)) id (merge.fitted room (merge.result_of v))))))
    by (Err f) e b g c h id = faulty MergeRefusal 1 (λ n h. inl h) v.ancestor f e
    by (Ok u) e (Err f) g c h id = faulty MergeRefusal 1 (λ n h. inl h) v.first f g
    by (Ok u) e (Ok w) g (Err f) h id = faulty MergeRefusal 1 (λ n h. inl h) v.second f h
    by (Ok u) e (Ok w) g (Ok x) h zero = fitted-one room (merge.result_of v)
    by (Ok u) e (Ok w) g (Ok x) h (suc id) = refuses MergeRefusal 1 32 (lit≤ tt) (inr (inr refl))

pub conflict-one : (v : Versions) (above : ℕ) → OneAnswer TableRefusal 1 (number_of (merge.found_of v above)) (one_value (merge.found_of v above))
unfolding merge.found_of
conflict-one v above = by (read_table v.ancestor).verdict refl (read_table v.first).verdict refl (read_table v.second).verdict refl
  where
    One : Result ℕ Refusal → Type 0
    One a = OneAnswer TableRefusal 1 (number_of a) (one_value a)

    by : (a : Verdict) → (read_table v.ancestor).verdict ≡ a → (b : Verdict) → (read_table v.first).verdict ≡ b → (c : Verdict) → (read_table v.second).verdict ≡ c
        → One (by_verdict Err a (by_verdict Err b (by_verdict Err c (Ok (conflict_above v above)))))
    by (Err f) e b g c h = faulty TableRefusal 1 (λ n h. h) v.ancestor f e
    by (Ok u) e (Err f) g c h = faulty TableRefusal 1 (λ n h. h) v.first f g
    by (Ok u) e (Ok w) g (Err f) h = faulty TableRefusal 1 (λ n h. h) v.second f h
    by (Ok u) e (Ok w) g (Ok x) h = answers TableRefusal 1 _ refl

-- rows written
pub write-one : (rs : List Row) → All Typed rs → (room : ℕ)
    → OneAnswer WriteRefusal 1 (number_of (write.written_of room rs)) (one_value (write.written_of room rs))
unfolding write.written_of
write-one rs f room = by (write.verdict_on rs) refl
  where
    One : write.Written → Type 0
    One a = OneAnswer WriteRefusal 1 (number_of a) (one_value a)

    by : (v : Verdict) → write.verdict_on rs ≡ v → One (by_verdict Err v (Err BufferShort when ltb room (length (table_bytes rs)) else Ok (length (table_bytes rs))))
    by (Ok u) e = when_cases One _ (λ g. refuses WriteRefusal 1 24 (lit≤ tt) (inr refl)) (λ g. answers WriteRefusal 1 _ refl)
    by (Err x) e = let r = rows-refusal rs _ (judged rs f) {n = x.0} {place = x.1} e in refuses WriteRefusal 1 (numbered x.0) (some r) (inl r)
      where
        some : {n : ℕ} → write.RowsRefusal n → 1 ≤ n
        some r = ⊎_elim (λ h. omega (arith, h.0)) (λ g. ⊎_elim (λ h. omega (arith, h.0)) (λ k. ⊎_elim (λ h. omega (arith, h.0)) (λ h. omega (arith, h)) k) g) r

-- a table converted
pub convert-one : (to : To) (s : List ℕ) → Bytes s → (room : ℕ)
    → OneAnswer ConvertRefusal 1 (number_of (converted_of to room s)) (one_value (converted_of to room s))
unfolding converted_of
convert-one to s bytes room = by (read_table s).verdict refl
  where
    One : write.Written → Type 0
    One a = OneAnswer ConvertRefusal 1 (number_of a) (one_value a)

    wrong : Bool
    wrong = eqb (form_at s 0) (form_of to) || not (every (fits_form to) (rows (table_of s)))

    by : (v : Verdict) → (read_table s).verdict ≡ v → One (by_verdict Err v (Err NoSuchForm when wrong else write.written_of room (rows_in to s)))
    by (Ok u) e = when_cases One wrong (λ f. refuses ConvertRefusal 1 34 (lit≤ tt) (inr (inl refl)))
        (λ f. let c = none_or (eqb (form_at s 0) (form_of to)) _ f in
        subst One (sym (sym (unrefused to (given e) (eqb-false _ _ c.0) (not-false _ c.1) room) ∙ written to (given e) (eqb-false _ _ c.0) (not-false _ c.1) room))
        (when_cases One _ (λ g. refuses ConvertRefusal 1 24 (lit≤ tt) (inr (inr refl))) (λ g. answers ConvertRefusal 1 _ refl)))
      where
        given : (read_table s).verdict ≡ Ok tt → Given s
        given e = record { bytes = bytes; accepted = e }
    by (Err f) e = faulty ConvertRefusal 1 (λ k h. inl h) s f e

-- a damaged table salvaged
pub salvage-one : (tableRoom listRoom : ℕ) (s : List ℕ)
    → OneAnswer SalvageRefusal 2 (number_of (salvage.salvaged_of tableRoom listRoom s)) (salvage.values_of (salvage.salvaged_of tableRoom listRoom s))
unfolding salvage.salvaged_of
salvage-one tableRoom listRoom s =
    when_cases One _ (λ e. refuses SalvageRefusal 2 35 (lit≤ tt) (inl (lit≤ tt, lit≤ tt)))
    (λ e. when_cases One _ (λ f. refuses SalvageRefusal 2 36 (lit≤ tt) (inl (lit≤ tt, lit≤ tt)))
    (λ f. when_cases One _ (λ g. refuses SalvageRefusal 2 24 (lit≤ tt) (inr refl)) (λ g. answers SalvageRefusal 2 _ refl)))
  where
    One : salvage.Answer → Type 0
    One a = OneAnswer SalvageRefusal 2 (number_of a) (salvage.values_of a)

-- a table read into rows
pub fill_one : (room : ℕ) (s : List ℕ) → OneAnswer ReadRefusal 1 (number_of (fill.filled_of room s)) (one_value (fill.filled_of room s))
unfolding fill.filled_of
fill_one room s = by (read_table s).verdict refl
  where
    One : fill.Filled → Type 0
    One a = OneAnswer ReadRefusal 1 (number_of a) (one_value a)

    by : (v : Verdict) → (read_table s).verdict ≡ v → One (by_verdict Err v (Err BufferShort when ltb room (read_table s).table.count else Ok (read_table s).table.count))
    by (Ok u) e = when_cases One _ (λ f. refuses ReadRefusal 1 24 (lit≤ tt) (inr refl)) (λ f. answers ReadRefusal 1 _ refl)
    by (Err f) e = faulty ReadRefusal 1 (λ k h. inl h) s f e

-- where a record stands
pub record_one : (s : List ℕ) (id : ℕ) → OneAnswer RecordRefusal 2 (number_of (locate.located_of s id)) (part_values (locate.located_of s id))
unfolding locate.located_of locate.record_in
record_one s id = by (read_table s).verdict refl
  where
    One : Result Part Refusal → Type 0
    One a = OneAnswer RecordRefusal 2 (number_of a) (part_values a)

    by : (v : Verdict) → (read_table s).verdict ≡ v → One (by_verdict Err v (locate.record_in (read_table s).table id))
    by (Ok u) e = when_cases One _ (λ f. answers RecordRefusal 2 _ refl) (λ f. refuses RecordRefusal 2 12 (lit≤ tt) (inr refl))
    by (Err f) e = faulty RecordRefusal 2 (λ k h. inl h) s f e
