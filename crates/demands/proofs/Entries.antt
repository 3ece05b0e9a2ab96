-- Demand 1, entry by entry: the library's reader, queries, save and report, and the C entries. Assumes nothing.
use Prim.Native.Nat.{ℕ, zero, suc, ◌+◌, ◌*◌}
use mathlib.Core.Path.{◌≡◌, refl, ap, ap₂, sym, subst, ◌∙◌}
use mathlib.Core.List.{List, [], ◌∷◌}
use mathlib.Core.Bool.{Bool, true, false}
use mathlib.Core.Logic.{inl, inr, ⊎_elim}
use native.Mathlib.Omega.{arith}
use lib.Dec.{ltb}
use lib.ListN.{length}
use borrow.Author.Tests.{lt-ltb, le-ltb}
use denote.Ref.{Bor}
use Rattle.std.specs.Result.{is_ok}
use Rattle.std.specs.declared.result.Result.{Result}
use Rattle.std.specs.declared.result.Result.TheVariants.{Ok, Err}
use Rattle.search.specs.Choice.{◌when◌else◌}
use Rattle.search.specs.Lists.{All}
use Rattle.search.proofs.Choice.{when_yes, when_no, when_cases, lt_or_le}
use Rattle.table.specs.Field.{TableRefusal}
use Rattle.table.specs.Refusal.{Verdict, number_of, answering}
use Rattle.table.specs.Read.{read_table, outcome_of}
use Rattle.table.specs.declared.Table.{Table}
use Rattle.table.specs.declared.refusal.Fault.{Fault}
use Rattle.table.specs.declared.refusal.Refusal.{Refusal as Reason}
use Rattle.table.proofs.Rows.{refused_reading}
use Rattle.table.specs.declared.Row.{Row}
use Rattle.segments.specs.Query.{segment_of, part_of, offset_of}
use Rattle.saving.specs.Save as save
use Rattle.saving.proofs.After.{saved-ok}
use Rattle.merging.specs.Versions.{Versions}
use Rattle.merging.specs.Merge as merge
use Rattle.writing.specs.Rows.{Typed}
use Rattle.converting.specs.Convert.{rows_in, converted_of, Converts}
use Rattle.converting.specs.declared.To.{To}
use Rattle.salvaging.specs.Salvage as salvage
use Rattle.table.specs.Bytes.{Bytes}
use Rattle.writing.specs.Write as write
use Rattle.writing.specs.Fill as fill
use Rattle.report_text.specs.Report.{report_of}
use Rattle.editor.specs.Entry.{figure_bytes, returned, left_by, too_long, Answered, SaveEntry, MergeEntry, ReadEntry, WriteEntry, ConvertEntry, SalvageEntry, ReportEntry}
use Rattle.demands.specs.Entries.{SaveRefusal, MergeRefusal, WriteRefusal, ReadRefusal, RecordRefusal, ConvertRefusal, SalvageRefusal, ReportRefusal, CheckRefusal, AtEntry, OneAnswer, mergeNumber, reading_by, Query, Call, OnePart, OneChosen, LatencyRefusal, MissesRefusal, SegmentRefusal, EveryEntry, RefusalNumbers}
use Rattle.misses.specs.Bad.{by_windows}
use Rattle.demands.proofs.Answers.{verdict_one, read_one, check_one, latency-one, tested-one, sieve_one, segment-one, save-one, merge-one, conflict-one, write-one, convert-one, salvage-one, fill_one, record_one}

-- a statement that names the answer
query : {A : Type 0} (right : A) (Refusal : ℕ → Type 0) (n : ℕ) (number : A → ℕ) (figures : A → List ℕ) → OneAnswer Refusal n (number right) (figures right) → Query (λ a. a ≡ right) Refusal n number figures
query right Refusal n number figures one = record { taken = (right, refl); one = λ e f. e ∙ sym f; answer = λ e. rw e one }

-- what has a number is no success
not_ok : {A : Type 0} (r : Result A Reason) → (number_of r ≡ 0 → ⊥) → is_ok r ≡ false
not_ok (Ok a) h = absurd (h refl)
not_ok (Err e) h = refl

not-merged : (r : merge.Answer) → (mergeNumber r ≡ 0 → ⊥) → is_ok r ≡ false
not-merged (Ok n) h = absurd (h refl)
not-merged (Err e) h = refl

-- what is read is what the reader answers
reads : (s : List ℕ) {r : Result Table Fault} → r ≡ outcome_of (read_table s) → read_table s ≡ reading_by r
reads s e = by (read_table s).verdict refl ∙ sym (ap reading_by e)
  where
    by : (v : Verdict) → (read_table s).verdict ≡ v → read_table s ≡ reading_by (answering (read_table s).verdict (read_table s).table)
    by (Ok u) f =
        let t = (read_table s).table in
        ap (λ (v : Verdict). record { verdict = v; table = t }) f ∙ ap (λ (v : Verdict). reading_by (answering v t)) (sym f)
    by (Err g) f = refused_reading s g.0 g.1 f ∙ ap (λ (v : Verdict). reading_by (answering v (read_table s).table)) (sym f)

-- the save of the library: its answer, and the whole buffer
module _ (buffer : List ℕ) (used : ℕ) (old new : List ℕ) where
  -- a refused save leaves the buffer
  save-leaves : (number_of (save.saved_of buffer used old new) ≡ 0 → ⊥) → save.buffer_after buffer used old new ≡ buffer
  unfolding save.buffer_after
  save-leaves h = when_no _ _ (sym (saved-ok buffer used old new) ∙ not_ok (save.saved_of buffer used old new) h)

  save_call : Call (λ after a. save.Saves buffer used old new a after) SaveRefusal number_of buffer
  save_call = record {
    taken = (save.buffer_after buffer used old new, save.saved_of buffer used old new, record { answers = refl; leaves = refl });
    one = λ x y. (x.leaves ∙ sym y.leaves, x.answers ∙ sym y.answers);
    refused = λ {x} {r} a h.
        let n = ap number_of a.answers in
        (subst SaveRefusal (sym n) ((save-one buffer used old new).refused (λ e. h (n ∙ e))).0, a.leaves ∙ save-leaves (λ e. h (n ∙ e)));
  }

-- the part of the lent table that is handed back
one-part : (table : Bor (List ℕ)) (chain against number : ℕ) → OnePart table (segment_of table.now chain against number)
one-part table chain against number =
    let answer = segment_of table.now chain against number in
    record {
      taken = (record { ref_ptr = (table.ref_ptr.0, offset_of answer + table.ref_ptr.1); now = part_of table.now answer }, record { bytes = refl; place = refl });
      one = λ x y. (x.bytes ∙ sym y.bytes, x.place ∙ sym y.place);
    }

-- the merge of the library: its answer, and the whole buffer
module _ (v : Versions) (buffer : List ℕ) where
  abbrev merge_after : List ℕ
  merge_after = merge.buffer_after (merge.merged_of (length buffer) v) (merge.result_of v) buffer

  -- a refused merge leaves the buffer
  merge-leaves : (mergeNumber (merge.merged_of (length buffer) v) ≡ 0 → ⊥) → merge_after ≡ buffer
  merge-leaves h = when_no _ _ (not-merged (merge.merged_of (length buffer) v) h)

  merge_call : Call (λ after a. merge.Merges v buffer a after) MergeRefusal mergeNumber buffer
  merge_call = record {
    taken = (merge_after, merge.merged_of (length buffer) v, record { answers = refl; leaves = refl });
    one = λ {x} {y} {r} {q} a b. let e = a.answers ∙ sym b.answers in (a.leaves ∙ ap (λ (m : merge.Answer). merge.buffer_after m (merge.result_of v) buffer) e ∙ sym b.leaves, e);
    refused = λ {x} {r} a h.
        let n = ap mergeNumber a.answers in
        (subst MergeRefusal (sym n) ((merge-one (length buffer) v).refused (λ e. h (n ∙ e))).0, a.leaves ∙ when_no _ _ (not-merged r h));
  }

-- rows written, and a table read into rows: the answer, and all that is lent
write_call : (rs : List Row) → All Typed rs → (buffer : List ℕ) → Call (λ after a. write.Writes rs buffer a after) WriteRefusal number_of buffer
write_call rs f buffer = record {
  taken = (write.buffer_after (write.written_of (length buffer) rs) rs buffer, write.written_of (length buffer) rs, record { answers = refl; leaves = refl });
  one = λ {x} {y} {r} {q} a b. let e = a.answers ∙ sym b.answers in (a.leaves ∙ ap (λ (w : write.Written). write.buffer_after w rs buffer) e ∙ sym b.leaves, e);
  refused = λ {x} {r} a h.
      let n = ap number_of a.answers in
      (subst WriteRefusal (sym n) ((write-one rs f (length buffer)).refused (λ e. h (n ∙ e))).0, a.leaves ∙ when_no _ _ (not_ok r h));
}

fill_call : (s : List ℕ) (before : List Row) → Call (λ after a. fill.Fills s before a after) ReadRefusal number_of before
fill_call s before = record {
  taken = (fill.rows_after (fill.filled_of (length before) s) s before, fill.filled_of (length before) s, record { answers = refl; leaves = refl });
  one = λ {x} {y} {r} {q} a b. let e = a.answers ∙ sym b.answers in (a.leaves ∙ ap (λ (w : fill.Filled). fill.rows_after w s before) e ∙ sym b.leaves, e);
  refused = λ {x} {r} a h.
      let n = ap number_of a.answers in
      (subst ReadRefusal (sym n) ((fill_one (length before) s).refused (λ e. h (n ∙ e))).0, a.leaves ∙ when_no _ _ (not_ok r h));
}

-- a table converted
convert_call : (to : To) (s buffer : List ℕ) → Bytes s → Call (λ after a. Converts to s buffer a after) ConvertRefusal number_of buffer
convert_call to s buffer bytes = record {
  taken = (write.buffer_after (converted_of to (length buffer) s) (rows_in to s) buffer, converted_of to (length buffer) s, record { answers = refl; leaves = refl });
  one = λ {x} {y} {r} {q} a b. let e = a.answers ∙ sym b.answers in (a.leaves ∙ ap (λ (w : write.Written). write.buffer_after w (rows_in to s) buffer) e ∙ sym b.leaves, e);
  refused = λ {x} {r} a h.
      let n = ap number_of a.answers in
      (subst ConvertRefusal (sym n) ((convert-one to s bytes (length buffer)).refused (λ e. h (n ∙ e))).0, a.leaves ∙ when_no _ _ (not_ok r h));
}

-- a damaged table salvaged: both buffers
module _ (s table list : List ℕ) where
  abbrev salvaged : salvage.Answer
  salvaged = salvage.salvaged_of (length table) (length list) s

  abbrev salvages_to : salvage.Answer → List ℕ × List ℕ
  salvages_to a = (salvage.buffer_after a (salvage.table_kept s) table, salvage.buffer_after a (salvage.list_skipped s) list)

  -- a refused salvage leaves them
  salvage-leaves : (a : salvage.Answer) → (number_of a ≡ 0 → ⊥) → salvages_to a ≡ (table, list)
  salvage-leaves a h = ap₂ (λ x y. (x, y)) (when_no _ _ (not_ok a h)) (when_no _ _ (not_ok a h))

  salvage_call : Call {A = List ℕ × List ℕ} (λ after a. salvage.Salvages s table list a after.0 after.1) SalvageRefusal number_of (table, list)
  salvage_call = record {
    taken = (salvages_to salvaged, salvaged, record { answers = refl; leaves_table = refl; leaves_list = refl });
    one = λ {x} {y} {r} {q} a b.
        let e = a.answers ∙ sym b.answers in
        (ap₂ (λ x y. (x, y)) a.leaves_table a.leaves_list ∙ ap salvages_to e ∙ sym (ap₂ (λ x y. (x, y)) b.leaves_table b.leaves_list), e);
    refused = λ {x} {r} a h.
        let n = ap number_of a.answers in
        (subst SalvageRefusal (sym n) ((salvage-one (length table) (length list) s).refused (λ e. h (n ∙ e))).0, ap₂ (λ x y. (x, y)) a.leaves_table a.leaves_list ∙ salvage-leaves r h);
  }

-- the record taken for an id
one-chosen : (ancestor first second : Bor (List ℕ)) (id : ℕ) → OneChosen ancestor first second id
one-chosen ancestor first second id =
    let v = merge.versions ancestor first second in
    record {
      taken = (record { ref_ptr = merge.chosen_place v id first.ref_ptr second.ref_ptr; now = merge.chosen_of v id }, record { bytes = refl; place = refl });
      one = λ x y. (x.bytes ∙ sym y.bytes, x.place ∙ sym y.place);
    }

-- a C entry
module _ (Refusal : ℕ → Type 0) (n number : ℕ) (figures : List ℕ) (one : OneAnswer Refusal n number figures) (before : List ℕ) where
  returned-known : (returned n number before ≡ 0 → ⊥) → AtEntry Refusal (returned n number before)
  returned-known = when_cases (λ r. (r ≡ 0 → ⊥) → AtEntry Refusal r) (ltb (length before) (4 * n)) (λ e h. inl refl) (λ e h. inr (one.refused h).0)

  answered : Call (Answered n number figures before) (AtEntry Refusal) (λ r. r) before
  answered = record {
    taken = (left_by (returned n number before) (figure_bytes figures) before, returned n number before, record { returns = refl; leaves = refl });
    one = λ x y. let e = x.returns ∙ sym y.returns in (x.leaves ∙ ap (λ r. left_by r (figure_bytes figures) before) e ∙ sym y.leaves, e);
    refused = λ {x} {r} a h. (subst (AtEntry Refusal) (sym a.returns) (returned-known (λ e. h (a.returns ∙ e))), a.leaves ∙ left r h);
  }
    where
      left : (r : ℕ) → (r ≡ 0 → ⊥) → left_by r (figure_bytes figures) before ≡ before
      left zero h = absurd (h refl)
      left (suc r) h = refl

-- an entry whose statement is that of an answer
entry : {A R : Type 0} {Allows Other : A → R → Type 0} {Refusal : ℕ → Type 0} {number : R → ℕ} {before : A}
    → ((x : A) (r : R) → Allows x r → Other x r) → ((x : A) (r : R) → Other x r → Allows x r) → Call Allows Refusal number before → Call Other Refusal number before
entry to from c = record {
  taken = (c.taken.0, c.taken.1, to _ _ c.taken.2);
  one = λ x y. c.one (from _ _ x) (from _ _ y);
  refused = λ x h. c.refused (from _ _ x) h;
}

-- an entry that is lent something to be written beside its answer buffer: it stays where 27 is given, and where the call is refused
module _ {X : Type 0} (Refusal : ℕ → Type 0) (n number : ℕ) (figures : List ℕ) (one : OneAnswer Refusal n number figures) (before result : X)
    (stays : (number ≡ 0 → ⊥) → result ≡ before) (answer : List ℕ) where
  abbrev later : X
  later = before when ltb (length answer) (4 * n) else result

  pub record Beside (after : X × List ℕ) (r : ℕ) : Type 0 where
    pub answers : Answered n number figures answer after.1 r
    pub leaves : after.0 ≡ later

  beside : Call Beside (AtEntry Refusal) (λ r. r) (before, answer)
  beside =
      let c = answered Refusal n number figures one answer in
      record {
        taken = ((later, c.taken.0), c.taken.1, record { answers = c.taken.2; leaves = refl });
        one = λ x y. let e = c.one x.answers y.answers in (ap₂ (λ a b. (a, b)) (x.leaves ∙ sym y.leaves) e.0, e.1);
        refused = λ x h. let f = c.refused x.answers h in (f.0, ap₂ (λ a b. (a, b)) (x.leaves ∙ kept (λ e. h (x.answers.returns ∙ e))) f.1);
      }
    where
      kept : (returned n number answer ≡ 0 → ⊥) → later ≡ before
      kept h = ⊎_elim
          (λ l. when_yes _ _ (lt-ltb (length answer) (4 * n) l))
          (λ l. when_no _ _ (le-ltb (length answer) (4 * n) l) ∙ stays (λ e. h (when_no _ _ (le-ltb (length answer) (4 * n) l) ∙ e)))
          (lt_or_le (length answer) (4 * n))

pub save_entry : (buffer : List ℕ) (used : ℕ) (old new answer : List ℕ)
    → Call {A = List ℕ × List ℕ} (λ after r. SaveEntry buffer used old new answer after.0 after.1 r) (AtEntry SaveRefusal) (λ r. r) (buffer, answer)
save_entry buffer used old new answer =
    entry (λ x r a. record { answers = a.answers; leaves = a.leaves }) (λ x r e. record { answers = e.answers; leaves = e.leaves })
    (beside SaveRefusal 1 _ _ (save-one buffer used old new) buffer (save.buffer_after buffer used old new) (save-leaves buffer used old new) answer)

pub merge_entry : (v : Versions) (buffer answer : List ℕ)
    → Call {A = List ℕ × List ℕ} (λ after r. MergeEntry v buffer answer after.0 after.1 r) (AtEntry MergeRefusal) (λ r. r) (buffer, answer)
merge_entry v buffer answer =
    entry (λ x r a. record { answers = a.answers; leaves = a.leaves }) (λ x r e. record { answers = e.answers; leaves = e.leaves })
    (beside MergeRefusal 1 _ _ (merge-one (length buffer) v) buffer (merge_after v buffer) (merge-leaves v buffer) answer)

pub write_entry : (rs : List Row) → All Typed rs → (buffer answer : List ℕ)
    → Call {A = List ℕ × List ℕ} (λ after r. WriteEntry rs buffer answer after.0 after.1 r) (AtEntry WriteRefusal) (λ r. r) (buffer, answer)
write_entry rs f buffer answer =
    entry (λ x r a. record { answers = a.answers; leaves = a.leaves }) (λ x r e. record { answers = e.answers; leaves = e.leaves })
    (beside WriteRefusal 1 _ _ (write-one rs f (length buffer)) buffer (write.buffer_after (write.written_of (length buffer) rs) rs buffer) (λ h. when_no _ _ (not_ok _ h)) answer)

pub read-entry : (s : List ℕ) (rs : List Row) (answer : List ℕ)
    → Call {A = List Row × List ℕ} (λ after r. ReadEntry s rs answer after.0 after.1 r) (AtEntry ReadRefusal) (λ r. r) (rs, answer)
read-entry s rs answer =
    entry (λ x r a. record { answers = a.answers; leaves = a.leaves }) (λ x r e. record { answers = e.answers; leaves = e.leaves })
    (beside ReadRefusal 1 _ _ (fill_one (length rs) s) rs (fill.rows_after (fill.filled_of (length rs) s) s rs) (λ h. when_no _ _ (not_ok _ h)) answer)

pub convert_entry : (to : To) (s : List ℕ) → Bytes s → (buffer answer : List ℕ)
    → Call {A = List ℕ × List ℕ} (λ after r. ConvertEntry to s buffer answer after.0 after.1 r) (AtEntry ConvertRefusal) (λ r. r) (buffer, answer)
convert_entry to s bytes buffer answer =
    entry (λ x r a. record { answers = a.answers; leaves = a.leaves }) (λ x r e. record { answers = e.answers; leaves = e.leaves })
    (beside ConvertRefusal 1 _ _ (convert-one to s bytes (length buffer)) buffer (write.buffer_after (converted_of to (length buffer) s) (rows_in to s) buffer) (λ h. when_no _ _ (not_ok _ h)) answer)

-- a choice between two pairs is one between their parts
of_choice : {A B : Type 0} (f : A → B) (x y : A) (t : Bool) → f (x when t else y) ≡ (f x when t else f y)
unfolding ◌when◌else◌
of_choice f x y true = refl
of_choice f x y false = refl

pub salvage_entry : (s table list answer : List ℕ)
    → Call {A = (List ℕ × List ℕ) × List ℕ} (λ after r. SalvageEntry s table list answer after.0.0 after.0.1 after.1 r) (AtEntry SalvageRefusal) (λ r. r) ((table, list), answer)
salvage_entry s table list answer =
    entry (λ x r a. record { answers = a.answers; leaves_table = ap (λ p. p.0) a.leaves ∙ first; leaves_list = ap (λ p. p.1) a.leaves ∙ second })
    (λ x r e. record { answers = e.answers; leaves = ap₂ (λ a b. (a, b)) (e.leaves_table ∙ sym first) (e.leaves_list ∙ sym second) })
    (beside SalvageRefusal 2 _ _ (salvage-one (length table) (length list) s) (table, list) (salvages_to s table list (salvaged s table list)) (salvage-leaves s table list (salvaged s table list)) answer)
  where
    first : ((table, list) when ltb (length answer) 8 else salvages_to s table list (salvaged s table list)).0 ≡ (table when ltb (length answer) 8 else (salvages_to s table list (salvaged s table list)).0)
    first = of_choice (λ (p : List ℕ × List ℕ). p.0) (table, list) (salvages_to s table list (salvaged s table list)) (ltb (length answer) 8)

    second : ((table, list) when ltb (length answer) 8 else salvages_to s table list (salvaged s table list)).1 ≡ (list when ltb (length answer) 8 else (salvages_to s table list (salvaged s table list)).1)
    second = of_choice (λ (p : List ℕ × List ℕ). p.1) (table, list) (salvages_to s table list (salvaged s table list)) (ltb (length answer) 8)

-- and so does the report entry: the text's buffer and the answer's
module _ (s text answer : List ℕ) where
  report-one : OneAnswer ReportRefusal 1 (24 when too_long s text else 0) ([] when too_long s text else length (report_of s) ∷ [])
  unfolding ◌when◌else◌
  report-one = by (too_long s text)
    where
      by : (long : Bool) → OneAnswer ReportRefusal 1 (24 when long else 0) ([] when long else length (report_of s) ∷ [])
      by true = record { answered = λ e. absurd (omega (arith, e)); refused = λ h. (refl, refl) }
      by false = record { answered = λ e. refl; refused = λ h. absurd (h refl) }

  pub report_entry : Call {A = List ℕ × List ℕ} (λ after r. ReportEntry s text answer after.0 after.1 r) (AtEntry ReportRefusal) (λ r. r) (text, answer)
  report_entry =
      let c = answered ReportRefusal 1 _ _ report-one answer in
      record {
        taken = ((left_by c.taken.1 (report_of s) text, c.taken.0), c.taken.1, record { answers = c.taken.2; leaves = refl });
        one = λ x y.
            let e = c.one x.answers y.answers in
            (ap₂ (λ a b. (a, b)) (x.leaves ∙ ap (λ r. left_by r (report_of s) text) e.1 ∙ sym y.leaves) e.0, e.1);
        refused = λ {x} {r} a h. let f = c.refused a.answers h in (f.0, ap₂ (λ a b. (a, b)) (a.leaves ∙ left r h) f.1);
      }
    where
      left : (r : ℕ) → (r ≡ 0 → ⊥) → left_by r (report_of s) text ≡ text
      left zero h = absurd (h refl)
      left (suc r) h = refl

pub every-entry : EveryEntry
every-entry = record {
  judge = λ s. query _ TableRefusal 0 _ _ (verdict_one s);
  read = λ s. query _ TableRefusal 0 _ _ (read_one s);
  reads = reads;
  latency = λ s id. query _ LatencyRefusal 4 _ _ (latency-one s id);
  misses = λ s id k. query _ MissesRefusal 1 _ _ (tested-one by_windows s id k);
  misses_plain = λ s id k. query _ MissesRefusal 1 _ _ (tested-one by_windows s id k);
  at_most = λ s id k. query _ MissesRefusal 1 _ _ (sieve_one s id k);
  segment = λ s chain against number. query _ SegmentRefusal 2 _ _ (segment-one s chain against number);
  part = one-part;
  save = save_call;
  merge = merge_call;
  conflict = λ v above. query _ TableRefusal 1 _ _ (conflict-one v above);
  chosen = one-chosen;
  write = write_call;
  read_rows = fill_call;
  convert = convert_call;
  record_place = λ s id. query _ RecordRefusal 2 _ _ (record_one s id);
  salvage = salvage_call;
  report = λ s before. record { one = λ a b. (a.leaves ∙ sym b.leaves, a.answers ∙ sym b.answers) };
  latency_entry = λ s id before. entry (λ x r a. record { answers = a }) (λ x r e. e.answers) (answered LatencyRefusal 4 _ _ (latency-one s id) before);
  misses_entry = λ s id k before. entry (λ x r a. record { answers = a }) (λ x r e. e.answers) (answered MissesRefusal 1 _ _ (tested-one by_windows s id k) before);
  plain_entry = λ s id k before. entry (λ x r a. record { answers = a }) (λ x r e. e.answers) (answered MissesRefusal 1 _ _ (tested-one by_windows s id k) before);
  at_most_entry = λ s id k before. entry (λ x r a. record { answers = a }) (λ x r e. e.answers) (answered MissesRefusal 1 _ _ (sieve_one s id k) before);
  record_entry = λ s id before. entry (λ x r a. record { answers = a }) (λ x r e. e.answers) (answered RecordRefusal 2 _ _ (record_one s id) before);
  segment_entry = λ s chain against number before.
      entry (λ x r a. record { answers = a }) (λ x r e. e.answers) (answered SegmentRefusal 2 _ _ (segment-one s chain against number) before);
  conflict_entry = λ v above before. entry (λ x r a. record { answers = a }) (λ x r e. e.answers) (answered TableRefusal 1 _ _ (conflict-one v above) before);
  save_entry = save_entry;
  merge_entry = merge_entry;
  write_entry = write_entry;
  read_rows_entry = read-entry;
  convert_entry = convert_entry;
  salvage_entry = salvage_entry;
  report_entry = report_entry;
  check_entry = λ s before. entry (λ x r a. record { answers = a }) (λ x r e. e.answers) (answered CheckRefusal 2 _ _ (check_one s) before);
  version_entry = λ e f. e ∙ sym f;
}

pub refusal-numbers : RefusalNumbers
refusal-numbers = record { table = refl; query = refl; change = refl; asked = refl; lists = refl; later = refl }
