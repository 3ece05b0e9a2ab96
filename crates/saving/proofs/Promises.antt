-- What is promised of a save (01, 'Saving one record'): an edit made from an old copy never overwrites a newer one, and a
-- refused save changes nothing. Assumes nothing.
use Prim.Native.Nat.{ℕ, ◌<◌, ◌≤◌}
use native.Mathlib.Omega.{arith}
use native.Mathlib.Decide.{ℕ_discrete}
use mathlib.Core.Path.{◌≡◌, refl, ap, ap₂, sym, subst, ◌∙◌}
use mathlib.Core.List.{List, [], ◌∷◌}
use lib.ListN.{length, set}
use lib.Seq.{length-take-le}
use mathlib.Core.Bool.{Bool, true, false}
use Rattle.std.specs.Prelude.{is_ok}
use Rattle.std.specs.declared.result.Result.TheVariants.{Ok, Err}
use Rattle.search.specs.Lists.{All}
use Rattle.table.specs.Bytes.{Bytes}
use Rattle.table.specs.Record.{id_at}
use Rattle.table.specs.Find.{row_of, rows}
use Rattle.table.specs.Read.{accepted, read_table, table_of}
use Rattle.table.specs.Refusal.{answering}
use Rattle.table.specs.declared.refusal.Refusal.TheVariants.{StaleRecord}
use Rattle.saving.specs.Save.{Judgement, save_fault, seen_of, result_of, change_fault, written, saved_of}
use Rattle.slices.specs.Stored.{record_of}
use Rattle.saving.specs.Later.{State, stored, Holding, Edit, answer, after, after_all, Never}
use Rattle.search.proofs.Choice.{true-not-false}
use Rattle.slices.proofs.Sameness.{same_true}
use Rattle.saving.proofs.Written.{written_same}
use Rattle.saving.proofs.Verdicts.{read-accepted}
use Rattle.saving.proofs.Seen.{seen_none}
use Rattle.saving.proofs.Faults.{NoFault, change_read, replace_unseen, save-within, refuses}
use Rattle.slices.proofs.Parts.{row_in}
use Rattle.slices.proofs.Records.{record_id, record_alone}
use Rattle.saving.proofs.After.{saved-ok, passed-accepted, used-within, all-passed, after-answer, after-buffer, after-used, after-stored, after-length, after-holding}
use Rattle.slices.proofs.Bytes.{bytes_take}
use Rattle.saving.proofs.Changes.{own-result, own-passes, was_read, is_seen, seen-old, count_kept, record_changed, record_kept, rows-kept, result-back, back_passes}

-- a refused save changes nothing
pub refused-leaves : (x : State) (e : Edit) → is_ok (answer x e) ≡ false → after x e ≡ x
refused-leaves x e h = by (save_fault x.buffer x.used e.old e.new) refl
  where
    by : (j : Judgement) → save_fault x.buffer x.used e.old e.new ≡ j → after x e ≡ x
    by (Ok u) f = absurd (true-not-false (saved-ok x.buffer x.used e.old e.new ∙ ap (λ (j : Judgement). is_ok j) f) h)
    by (Err n) f = let r = refuses x.buffer x.used e.old e.new f in rw (← r.leaves, ← r.answers)

-- what is accepted reads back as an accepted table whose rows are the old ones with exactly one replaced
pub record OneReplaced (x : State) (e : Edit) : Type 0 where
  pub holding : Holding (after x e)
  pub place : seen_of (stored x) e.old < (table_of (stored x)).count
  pub seen : record_of (stored x) (seen_of (stored x) e.old) ≡ e.old
  pub replaced : rows (table_of (stored (after x e))) ≡ set (rows (table_of (stored x))) (seen_of (stored x) e.old) (row_in e.new)

pub reads-back : (x : State) (e : Edit) → Bytes x.buffer → Bytes e.new → is_ok (answer x e) ≡ true → OneReplaced x e
reads-back x e bytes new-bytes ok =
    let p = all-passed x e ok in
    let s = bytes_take x.used x.buffer bytes in
    record {
      holding = after-holding x e ok bytes new-bytes;
      place = is_seen _ (stored x) e.old e.new p s new-bytes;
      seen = seen-old _ (stored x) e.old e.new p s new-bytes;
      replaced = rw (after-stored x e ok) (rows-kept _ (stored x) e.old e.new p s new-bytes);
    }

-- saving the record that is there changes nothing
abbrev pub own : State → ℕ → Edit
own x chain = record { old = record_of (stored x) chain; new = record_of (stored x) chain }

pub own-saved : (x : State) → Holding x → (chain : ℕ) → chain < (table_of (stored x)).count → (answer x (own x chain) ≡ Ok x.used) × (after x (own x chain) ≡ x)
own-saved x h chain l =
    let n = length-take-le x.used x.buffer h.within in
    let passes = own-passes (stored x) h.right (bytes_take x.used x.buffer h.bytes) chain l (length x.buffer) (omega (arith, n, h.within)) in
    let same-result = own-result (stored x) h.right chain l in
    let taken = passed-accepted x (own x chain) h.within passes in
    let same-used = after-answer x (own x chain) taken ∙ ap Ok (ap length same-result ∙ n) in
    let same-buffer = after-buffer x (own x chain) taken ∙ ap (written x.buffer x.used) same-result ∙ written_same x.buffer x.used h.within in
    (same-used, rw (same-buffer, same-used))

module _ (x : State) (h : Holding x) where
  abbrev s : List ℕ
  s = stored x

  read : read_table s ≡ accepted (table_of s)
  read = read-accepted s h.right

  bytes : Bytes s
  bytes = bytes_take x.used x.buffer h.bytes

  -- a save whose old record is none of the stored ones is refused
  pub unseen_refused : (e : Edit) → ((chain : ℕ) → chain < (table_of s).count → record_of s chain ≡ e.old → ⊥) → answer x e ≡ Err StaleRecord
  unseen_refused e n =
      let none = seen_none s e.old (λ j l z. n j l (same_true _ _ z)) in
      let f = save-within x.buffer x.used e.old e.new h.within ∙ change_read (length x.buffer) s e.old e.new h.right ∙ replace_unseen (length x.buffer) s e.old e.new none in
      sym (refuses x.buffer x.used e.old e.new f).answers

  -- so it is where the old record differs from the stored one of that id
  pub differing_refused : (e : Edit) (chain : ℕ) → chain < (table_of s).count → id_at e.old 0 ≡ (row_of (table_of s) chain).id → (e.old ≡ record_of s chain → ⊥) → answer x e ≡ Err StaleRecord
  differing_refused e chain l id n =
      unseen_refused e
      (λ j m z. n (sym z ∙ ap (record_of s) (record_alone s (table_of s) read bytes j chain m l
      (ap (λ (q : List ℕ). id_at q 0) z ∙ id ∙ sym (record_id s (table_of s) read bytes chain l)))))

-- none of a state's stored records is r
Absent : List ℕ → State → Type 0
Absent r x = (j : ℕ) → j < (table_of (stored x)).count → record_of (stored x) j ≡ r → ⊥

-- after an accepted save none is where neither the new one nor any but the one replaced was
absent-after : (x : State) (e : Edit) (bytes : Bytes x.buffer) (new-bytes : Bytes e.new) (ok : is_ok (answer x e) ≡ true) (r : List ℕ) → (e.new ≡ r → ⊥)
    → ((j : ℕ) → j < (table_of (stored x)).count → (j ≡ seen_of (stored x) e.old → ⊥) → record_of (stored x) j ≡ r → ⊥) → Absent r (after x e)
unfolding Absent
absent-after x e bytes new-bytes ok r n others =
    let p = all-passed x e ok in
    let b = bytes_take x.used x.buffer bytes in
    let chain = seen_of (stored x) e.old in
    let changed = record_changed _ (stored x) e.old e.new p b new-bytes in
    let kept = record_kept _ (stored x) e.old e.new p b new-bytes in
    rw (after-stored x e ok) (λ j l z.
    let m : j < (table_of (stored x)).count = omega (arith, l, count_kept _ (stored x) e.old e.new p b new-bytes) in
    elim (ℕ_discrete j chain) [ yes q ↦ n (sym changed ∙ ap (record_of (result_of (stored x) e.old e.new)) (sym q) ∙ z) | no q ↦ others j m q (sym (kept j m q) ∙ z) ])

-- and so it stays, whatever is saved, while no accepted save stores r
once : (r : List ℕ) (x : State) (e : Edit) → Holding x → Absent r x → Bytes e.new → (is_ok (answer x e) ≡ true → e.new ≡ r → ⊥)
    → Holding (after x e) × Absent r (after x e)
unfolding Absent
once r x e h a b n = by (is_ok (answer x e)) refl
  where
    by : (m : Bool) → is_ok (answer x e) ≡ m → Holding (after x e) × Absent r (after x e)
    by true ok = (after-holding x e ok h.bytes b, absent-after x e h.bytes b ok r (n ok) (λ j l q. a j l))
    by false f = subst (λ (y : State). Holding y × Absent r y) (sym (refused-leaves x e f)) (h, a)

stays : (r : List ℕ) (x : State) → Holding x → Absent r x → (es : List Edit) → All (λ e. Bytes e.new) es → Never r x es
    → Holding (after_all x es) × Absent r (after_all x es)
unfolding after_all Never
stays r x h a [] b n = (h, a)
stays r x h a (e ∷ es) b n = let y = once r x e h a b.0 n.0 in stays r (after x e) y.0 y.1 es b.1 n.1

-- after an accepted save whose new record differs from the old, any save from that old record is refused until the
-- record is changed back
pub stale_until_back : (x : State) (e : Edit) → Bytes x.buffer → Bytes e.new → is_ok (answer x e) ≡ true → (e.new ≡ e.old → ⊥)
    → (es : List Edit) → All (λ f. Bytes f.new) es → Never e.old (after x e) es
    → (new : List ℕ) → answer (after_all (after x e) es) (record { old = e.old; new = new }) ≡ Err StaleRecord
unfolding Absent
stale_until_back x e bytes new-bytes ok n es b never new =
    let p = all-passed x e ok in
    let c = bytes_take x.used x.buffer bytes in
    let read = was_read _ (stored x) e.old e.new p c new-bytes in
    let place = is_seen _ (stored x) e.old e.new p c new-bytes in
    let seen = seen-old _ (stored x) e.old e.new p c new-bytes in
    let gone = absent-after x e bytes new-bytes ok e.old n
    (λ j l q z. q (record_alone (stored x) (table_of (stored x)) read c j (seen_of (stored x) e.old) l place (ap (λ (r : List ℕ). id_at r 0) (z ∙ sym seen)))) in
    let later = stays e.old (after x e) (after-holding x e ok bytes new-bytes) gone es b never in
    unseen_refused (after_all (after x e) es) later.0 (record { old = e.old; new = new }) later.1

-- a record changed away and changed back counts as the one seen
answer-is : (x : State) (e : Edit) → x.used ≤ length x.buffer
    → answer x e ≡ answering (change_fault (length x.buffer) (stored x) e.old e.new) (length (result_of (stored x) e.old e.new))
unfolding saved_of
answer-is x e h = ap (λ (j : Judgement). answering j (length (result_of (stored x) e.old e.new))) (save-within x.buffer x.used e.old e.new h)

pub record ChangedBack (x : State) (e : Edit) (back : Edit) : Type 0 where
  pub taken : is_ok (answer (after x e) back) ≡ true
  pub table : stored (after (after x e) back) ≡ stored x
  pub used : (after (after x e) back).used ≡ x.used
  pub seen : (new : List ℕ) → answer (after (after x e) back) (record { old = e.old; new = new }) ≡ answer x (record { old = e.old; new = new })

pub changed_back : (x : State) (e : Edit) → Bytes x.buffer → Bytes e.new → is_ok (answer x e) ≡ true → ChangedBack x e (record { old = e.new; new = e.old })
changed_back x e bytes new-bytes ok =
    let p = all-passed x e ok in
    let c = bytes_take x.used x.buffer bytes in
    let y = after x e in
    let back : Edit = record { old = e.new; new = e.old } in
    let l = length-take-le x.used x.buffer (used-within x e ok) in
    let n = after-length x e ok in
    let there = after-stored x e ok in
    let passes = back_passes _ (stored x) e.old e.new p c new-bytes (length y.buffer) (omega (arith, l, n, used-within x e ok)) in
    let taken = passed-accepted y back (after-holding x e ok bytes new-bytes).within (subst (λ (q : List ℕ). NoFault (length y.buffer) q e.new e.old) (sym there) passes) in
    let same-table : stored (after y back) ≡ stored x = after-stored y back taken ∙ ap (λ (q : List ℕ). result_of q e.new e.old) there ∙ result-back _ (stored x) e.old e.new p c new-bytes in
    let same-used : (after y back).used ≡ x.used = after-used y back taken ∙ ap length (sym (after-stored y back taken) ∙ same-table) ∙ l in
    let same-room : length (after y back).buffer ≡ length x.buffer = after-length y back taken ∙ n in
    record {
      taken = taken;
      table = same-table;
      used = same-used;
      seen = λ new.
          answer-is (after y back) (record { old = e.old; new = new }) (omega (arith, same-used, same-room, used-within x e ok))
          ∙ ap₂ (λ (m : ℕ) (q : List ℕ). answering (change_fault m q e.old new) (length (result_of q e.old new))) same-room same-table
          ∙ sym (answer-is x (record { old = e.old; new = new }) (used-within x e ok));
    }
