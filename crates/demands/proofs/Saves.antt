-- After a save that changes only another chain's deadline, gap or largest distances, no other chain's answers have moved. Assumes nothing.
use Prim.Native.Nat.{ℕ}
use mathlib.Core.Path.{◌≡◌, ap, sym, ◌∙◌}
use mathlib.Core.List.{List}
use lib.Dec.{eqb}
use lib.ListN.{get_or}
use lib.Seq.{get_or-take}
use Rattle.search.specs.Lists.{Paired}
use Rattle.search.proofs.Pairing.{paired_set}
use Rattle.table.specs.Record.{id_at, row_at}
use Rattle.table.specs.Record.{blank}
use Rattle.table.specs.Find.{rows}
use Rattle.saving.specs.Save.{seen_of}
use Rattle.table.specs.Read.{Reading, table_of}
use Rattle.saving.specs.Later.{State, stored, Edit, after}
use Rattle.saving.proofs.Verdicts.{read-accepted}
use Rattle.slices.proofs.Parts.{row_in}
use Rattle.slices.proofs.Records.{record_row}
use Rattle.slices.proofs.Bytes.{bytes_take}
use Rattle.saving.proofs.After.{all-passed}
use Rattle.saving.proofs.Promises.{OneReplaced, reads-back}
use Rattle.demands.specs.Chains.{IsTable}
use Rattle.demands.specs.Saves.{AcceptedEdit}
use Rattle.demands.specs.Others.{Unmoved, DeadlineOrLargest}
use Rattle.demands.proofs.Chains.{table-read}
use Rattle.demands.proofs.Others.{Beside, beside-own, work-agrees, paired_unmoved}

-- such a record makes a row with the same id and the same work
beside : {old new : List ℕ} → DeadlineOrLargest old new → (id : ℕ) → (id_at old 0 ≡ id → ⊥) → Beside id (row_in old) (row_in new)
unfolding row_at
beside h id n = record { bearing = ap (λ x. eqb x id) (sym h.id); own = λ e. absurd (n e); agrees = λ b. work-agrees b h.work }

-- after an accepted save whose new record differs from the old in these alone, every other id is answered as before
pub saved-deadline_or_largest : (x : State) (e : Edit) → AcceptedEdit x e → DeadlineOrLargest e.old e.new
    → (id : ℕ) → (id_at e.old 0 ≡ id → ⊥) → Unmoved (stored x) (stored (after x e)) id
saved-deadline_or_largest x e took h id n = paired_unmoved id one two pairs
  where
    o : OneReplaced x e
    o = reads-back x e took.buffer took.new took.accepted

    one : IsTable (stored x)
    one = record { bytes = bytes_take x.used x.buffer took.buffer; accepted = ap (λ (r : Reading). r.verdict) (read-accepted (stored x) (all-passed x e took.accepted).table) }

    two : IsTable (stored (after x e))
    two = record {
      bytes = bytes_take (after x e).used (after x e).buffer o.holding.bytes;
      accepted = ap (λ (r : Reading). r.verdict) (read-accepted (stored (after x e)) o.holding.right);
    }

    replaced : get_or (rows (table_of (stored x))) (seen_of (stored x) e.old) blank ≡ row_in e.old
    replaced =
        let t = table_of (stored x) in
        get_or-take t.count t.row (seen_of (stored x) e.old) blank o.place
        ∙ sym (record_row (stored x) t (table-read one) one.bytes (seen_of (stored x) e.old) o.place) ∙ ap row_in o.seen

    pairs : Paired (Beside id) (rows (table_of (stored x))) (rows (table_of (stored (after x e))))
    pairs =
        rw o.replaced
        (paired_set (beside-own id) (rows (table_of (stored x))) (seen_of (stored x) e.old) blank (row_in e.new) (rw replaced (beside h id n)))
