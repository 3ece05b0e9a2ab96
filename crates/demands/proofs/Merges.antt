-- What is promised of a merge, in the demands' words. Assumes nothing.
use Prim.Native.Nat.{ℕ, ◌<◌, ◌≤◌}
use native.Mathlib.Omega.{arith}
use mathlib.Core.Path.{◌≡◌, refl, ap, sym, subst, ◌∙◌}
use mathlib.Core.List.{List, [], ◌++◌}
use mathlib.Core.Bool.{true, false}
use mathlib.Core.Logic.{◌⊎◌, inl, inr, ⊎_elim}
use lib.ListN.{length, take, drop}
use lib.Seq.{take_at, drop_at}
use borrow.Author.Tests.{eq-eqb}
use Rattle.search.proofs.Choice.{when_yes, true-not-false, lt_or_le}
use Rattle.std.specs.declared.result.Result.{Result}
use Rattle.std.specs.declared.result.Result.TheVariants.{Ok, Err}
use Rattle.table.specs.Refusal.{numbered}
use Rattle.table.specs.declared.refusal.Refusal.{Refusal}
use Rattle.table.specs.declared.refusal.Refusal.TheVariants.{BadLength, BadMark, BadTaskCount, BadChainCount}
use Rattle.table.proofs.Numbers.{numbered_same}
use Rattle.slices.specs.Stored.{Mixed}
use Rattle.slices.proofs.Sound.{NoTable}
use Rattle.merging.specs.Versions.{Versions, three, swapped, state_of}
use Rattle.merging.specs.Rule.{taken_of, conflict_of, conflict_above}
use Rattle.merging.specs.Merge.{result_of, merged_of, found_of, chosen_of}
use Rattle.merging.specs.declared.Unmerged.TheVariants.{Merged}
use Rattle.merging.specs.Code.Judged.{AllAccepted}
use Rattle.slices.proofs.Sameness.{same-yes}
use Rattle.merging.proofs.Judgements.{asked}
use Rattle.merging.proofs.Rules.{by_alike}
use Rattle.merging.proofs.Outcomes.{used-says, conflict-says, room_says, result_says, used-given, conflict-given, room-given, result-given}
use Rattle.merging.proofs.Merges.{taken-swapped}
use Rattle.merging.proofs.Merges as laws
use Rattle.merging.proofs.Tables.{refused_for, result-bytes, result-form, result_state, mixed-result, emptied-refused}
use Rattle.merging.proofs.Promises.{differ-conflict, conflict-differ, found-conflict, found-least, swapped-conflicts, swapped-length, swapped-accepted, swapped_rows, swapped-refused, staying-first, staying-swapped, given-accepted, given-length, first-unchanged, second-unchanged, none_differ, no_conflict, zero-alike}
use Rattle.merging.proofs.Equals.{same-result}
use Rattle.merging.proofs.Within.{used-length}
use Rattle.demands.specs.Chains.{IsTable}
use Rattle.demands.specs.Merges.{AllTables, InConflict, Smallest, MergedInto, FirstMixed, NoEditLost, SwappedCopies, UnchangedCopies, MergeOfCopies}
use Rattle.demands.proofs.Others.{reordered}

module _ {v : Versions} (e : AllTables v) where
  all : AllAccepted v
  all = record { ancestor = e.ancestor.accepted; first = e.first.accepted; second = e.second.accepted }

  known : laws.Edited v
  known = record { all = all; of_ancestor = e.ancestor.bytes; of_first = e.first.bytes; of_second = e.second.bytes }

  -- in conflict by the rule, and in the demands' words
  in_conflict : (id : ℕ) → conflict_of v id ≡ true → InConflict v id
  in_conflict id h = let d = conflict-differ (state_of v.ancestor id) (state_of v.first id) (state_of v.second id) h in
      record { copies = d.copies; in_first = d.of_first; in_second = d.of_second }

  by-rule : (id : ℕ) → InConflict v id → conflict_of v id ≡ true
  by-rule id d =
      differ-conflict (state_of v.ancestor id) (state_of v.first id) (state_of v.second id) (record { copies = d.copies; of_first = d.in_first; of_second = d.in_second })

  not-zero : (id : ℕ) → InConflict v id → 0 < id
  not-zero id d = ⊎_elim (λ h. h)
      (λ h. let z : id ≡ 0 = omega arith in absurd (true-not-false (by-rule id d) (ap (conflict_of v) z ∙ zero-alike v known)))
      (lt_or_le 0 id)

  -- what is found above a number
  smallest : (above id : ℕ) → conflict_above v above ≡ id → 0 < id → Smallest v above id
  smallest above id c h =
      let f = found-conflict v known above (omega (arith, c, h)) in
      record {
        greater = omega (arith, c, f.0);
        conflict = in_conflict id (subst (λ n. conflict_of v n ≡ true) c f.1);
        least = λ other g d. omega (arith, c, (found-least v known above other g (by-rule other d)).1);
      }

  is_found : (above id : ℕ) → Smallest v above id → conflict_above v above ≡ id
  is_found above id s =
      let f = found-least v known above id s.greater (by-rule id s.conflict) in
      let g = found-conflict v known above f.0 in
      omega (arith, f.1, s.least (conflict_above v above) g.0 (in_conflict (conflict_above v above) g.1))

  answer : (above : ℕ) → found_of v above ≡ Ok (conflict_above v above)
  unfolding found_of
  answer above = asked v Err (Ok (conflict_above v above)) all

-- none is found where there is none
unfound : {v : Versions} (e : AllTables v) (above : ℕ) → ((id : ℕ) → above < id → InConflict v id → ⊥) → conflict_above v above ≡ 0
unfound {v} e above none = ⊎_elim
    (λ l. let f = found-conflict v (known e) above l in absurd (none (conflict_above v above) f.0 (in_conflict e (conflict_above v above) f.1)))
    (λ l. omega (arith, l)) (lt_or_le 0 (conflict_above v above))

-- an id that is answered is the one found
value : Result ℕ Refusal → ℕ
value (Ok id) = id
value (Err n) = 0

answered : {v : Versions} (e : AllTables v) (above id : ℕ) → found_of v above ≡ Ok id → conflict_above v above ≡ id
unfolding value
answered e above id h = ap value (sym (answer e above) ∙ h)

-- the state that is taken, in an accepted result
result-taken : {v : Versions} {room n : ℕ} → MergedInto room v n → (id : ℕ) → state_of (result_of v) id ≡ taken_of v id
result-taken {v} {room} m id = result_state v (known m.tables) (used-says room v (all m.tables) m.answered).2 id

pub edit_kept : NoEditLost
unfolding chosen_of
edit_kept = record {
  table = λ {v} {room} m. let u = used-says room v (all m.tables) m.answered in
      (record { bytes = result-bytes v (known m.tables); accepted = u.2 }, u.3, omega (arith, u.1, u.3));
  written = λ {v} {buffer} {after} {n} w.
      let long : n ≡ length (result_of v) = used-length w n refl in
      let left : after ≡ result_of v ++ drop (length (result_of v)) buffer = w.leaves ∙ when_yes _ _ (eq-eqb 0 0 refl) in (
        ap (take n) left ∙ take_at (result_of v) (drop (length (result_of v)) buffer) n (sym long),
        ap (drop n) left ∙ drop_at (result_of v) (drop (length (result_of v)) buffer) n (sym long) ∙ ap (λ k. drop k buffer) (sym long),
      );
  alike = λ {v} m id h. result-taken m id ∙ by_alike (state_of v.ancestor id) (state_of v.first id) (state_of v.second id) _ _ _ (same-yes _ _ h);
  first_changed = λ {v} m id h. result-taken m id ∙ second-unchanged (state_of v.ancestor id) (state_of v.first id) (state_of v.second id) h;
  second_changed = λ {v} m id h. result-taken m id ∙ first-unchanged (state_of v.ancestor id) (state_of v.first id) (state_of v.second id) h;
  no_conflict = λ {v} {room} m id d. let u = used-says room v (all m.tables) m.answered in
      omega (arith, u.0, (found-least v (known m.tables) 0 id (not-zero m.tables id d) (by-rule m.tables id d)).0);
  chosen = λ {v} m id. asked v (λ n. []) (taken_of v id) (all m.tables) ∙ sym (result-taken m id);
  conflict = λ {v} e room id. (
    λ h. let c = conflict-says room v (all e) h in
        let s = smallest e 0 id c.0 c.1 in
        (s.conflict, λ other d. s.least other (not-zero e other d) d),
    λ d. let s : Smallest v 0 id = record { greater = not-zero e id d.0; conflict = d.0; least = λ other g h. d.1 other h } in
        conflict-given room v (all e) id (is_found e 0 id s) s.greater,
  );
  told = λ {v} e room id h. answer e 0 ∙ ap (λ n. Ok n) (conflict-says room v (all e) h).0;
  emptied = λ {v} e none missing room h. lost e none missing room h;
  found = λ {v} e above id. (
    λ h. smallest e above id (answered e above id h.0) h.1,
    λ s. (answer e above ∙ ap (λ n. Ok n) (is_found e above id s), omega (arith, s.greater)),
  );
  none = λ {v} e above. (
    λ h id g d. omega (arith, answered e above 0 h, (found-least v (known e) above id g (by-rule e id d)).0),
    λ h. answer e above ∙ ap (λ n. Ok n) (unfound e above h),
  );
  numbers = λ {v} e room {n} h. number n (refused_for v (known e) (result_says room v (all e) h).2);
  mixed = λ {v} e room h. forms-only (refused_for v (known e) (result_says room v (all e) h).2);
  one_form = λ {v} {room} m. result-form v (known m.tables) (used-says room v (all m.tables) m.answered).2;
  mixed_first = λ {v} e none room h {i} f. refused-first e none room h i f;
}
  where
    number : {rs : List (List ℕ)} (n : Refusal) → NoTable rs (numbered n) → (n ≡ BadLength) ⊎ (n ≡ BadMark) ⊎ (n ≡ BadTaskCount) ⊎ (n ≡ BadChainCount)
    number n (NoTable.bytes f h) = inl (numbered_same n BadLength f)
    number n (NoTable.forms f i h) = inr (inl (numbered_same n BadMark f))
    number n (NoTable.tasks f i o h) = inr (inr (inl (numbered_same n BadTaskCount f)))
    number n (NoTable.chains f o h) = inr (inr (inr (numbered_same n BadChainCount f)))
    number n (NoTable.none f h) = inr (inr (inr (numbered_same n BadChainCount f)))

    forms-only : {rs : List (List ℕ)} → NoTable rs 3 → (i : ℕ) × Mixed rs i
    forms-only (NoTable.bytes f h) = absurd (omega (arith, f))
    forms-only (NoTable.forms f i h) = (i, h)
    forms-only (NoTable.tasks f i o h) = absurd (omega (arith, f))
    forms-only (NoTable.chains f o h) = absurd (omega (arith, f))
    forms-only (NoTable.none f h) = absurd (omega (arith, f))

    refused-first : {v : Versions} (e : AllTables v) → ((id : ℕ) → InConflict v id → ⊥) → (room : ℕ) → length (result_of v) ≤ room → (i : ℕ) → FirstMixed v i
        → (place : ℕ) × (merged_of room v ≡ Err (Merged (BadMark, place)))
    refused-first {v} e none room h i f =
        let r = mixed-result v (known e) i f.mixed f.short f.few f.tasks in
        (r.0, result-given room v (all e) (unfound e 0 (λ id g. none id)) h r.1)

    lost : {v : Versions} (e : AllTables v) → ((id : ℕ) → InConflict v id → ⊥) → ((id : ℕ) → taken_of v id ≡ []) → (room : ℕ) → 4 ≤ room → (place : ℕ) × (merged_of room v ≡ Err (Merged (BadChainCount, place)))
    lost {v} e none missing room h =
        let r = emptied-refused v (known e) missing in
        (r.0, result-given room v (all e) (unfound e 0 (λ id g. none id)) (omega (arith, r.2, h)) r.1)

-- the copies swapped
turned : {v : Versions} → AllTables v → AllTables (swapped v)
turned e = record { ancestor = e.ancestor; first = e.second; second = e.first }

pub copies-swapped : SwappedCopies
copies-swapped = record {
  conflicts = λ {v} e above. answer (turned e) above ∙ ap (λ n. Ok n) (swapped-conflicts v (known e) above) ∙ sym (answer e above);
  long = λ {v} e. swapped-length v (known e);
  conflict = λ {v} e room {id} h. let c = conflict-says room v (all e) h in conflict-given room (swapped v) (all (turned e)) id (swapped-conflicts v (known e) 0 ∙ c.0) c.1;
  no_room_holds = λ {v} e room h. let c = room_says room v (all e) h in
      room-given room (swapped v) (all (turned e)) (swapped-conflicts v (known e) 0 ∙ c.0) (omega (arith, c.1, swapped-length v (known e)));
  refused = λ {v} e room {f} h. let c = result_says room v (all e) h in
      let r = swapped-refused v (known e) {n = f.0} {place = f.1} c.2 in
      ((r.0, r.1), result-given room (swapped v) (all (turned e)) (swapped-conflicts v (known e) 0 ∙ c.0) (omega (arith, c.1, swapped-length v (known e))) r.2);
  accepted = λ {v} {room} m. merged v room m;
  states = λ {v} {room} m id. let u = used-says room v (all m.tables) m.answered in
      result_state (swapped v) (known (turned m.tables)) (swapped-accepted v (known m.tables) u.2) id ∙ taken-swapped v id ∙ sym (result-taken m id);
  places = λ v. let one = staying-first v in
      let two = staying-first (swapped v) in
      (one.0, two.0, one.1, two.1 ∙ ap (λ (l : List ℕ). l ++ two.0) (staying-swapped v));
  figures = λ {v} {room} m. let u = used-says room v (all m.tables) m.answered in
      reordered (record {
        one = record { bytes = result-bytes v (known m.tables); accepted = u.2 };
        two = record { bytes = result-bytes (swapped v) (known (turned m.tables)); accepted = swapped-accepted v (known m.tables) u.2 };
        rows = swapped_rows v (known m.tables) u.2;
      });
}
  where
    merged : (v : Versions) (room : ℕ) {n : ℕ} → MergedInto room v n → merged_of room (swapped v) ≡ Ok n
    merged v room m = let u = used-says room v (all m.tables) m.answered in
        used-given room (swapped v) (all (turned m.tables)) (swapped-conflicts v (known m.tables) 0 ∙ u.0) (omega (arith, u.1, swapped-length v (known m.tables))) (swapped-accepted v (known m.tables) u.2)
        ∙ ap (λ k. Ok k) (swapped-length v (known m.tables) ∙ sym u.3)

-- an unchanged copy
module _ {v : Versions} (e : AllTables v) {s : List ℕ} (t : IsTable s) (gives : (id : ℕ) → taken_of v id ≡ state_of s id) (none : (id : ℕ) → conflict_of v id ≡ false) {room : ℕ} (h : length s ≤ room) where
  copy-given : (merged_of room v ≡ Ok (length s)) × ((id : ℕ) → state_of (result_of v) id ≡ state_of s id)
  copy-given =
      let read = given-accepted v (known e) s t.bytes t.accepted gives in
      let long = given-length v (known e) s t.bytes t.accepted gives in (
        used-given room v (all e) (no_conflict v (known e) none 0) (omega (arith, long, h)) read ∙ ap (λ k. Ok k) long,
        λ id. result_state v (known e) read id ∙ gives id,
      )

pub copy-unchanged : UnchangedCopies
copy-unchanged = record {
  first = λ {v} e same h. copy-given e e.second
      (λ id. first-unchanged (state_of v.ancestor id) (state_of v.first id) (state_of v.second id) (same id))
      (λ id. none_differ (state_of v.ancestor id) (state_of v.first id) (state_of v.second id) (inl (same id))) h;
  second = λ {v} e same h. copy-given e e.first
      (λ id. second-unchanged (state_of v.ancestor id) (state_of v.first id) (state_of v.second id) (same id))
      (λ id. none_differ (state_of v.ancestor id) (state_of v.first id) (state_of v.second id) (inr (same id))) h;
  both = λ {s} t h.
      let v = three s s s in
      let own : (id : ℕ) → taken_of v id ≡ state_of s id = λ id. first-unchanged (state_of s id) (state_of s id) (state_of s id) refl in
      record {
        answered = (copy-given {v = v} (record { ancestor = t; first = t; second = t }) t own (λ id. none_differ (state_of s id) (state_of s id) (state_of s id) (inl refl)) h).0;
        result = same-result s t.bytes t.accepted v refl refl refl own;
      };
}

pub merge-of-copies : MergeOfCopies
merge-of-copies = record { kept = edit_kept; swapped_copies = copies-swapped; unchanged = copy-unchanged }
