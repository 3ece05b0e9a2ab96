-- What is promised of a conversion. Assumes nothing.
use Prim.Native.Nat.{ℕ, ◌<◌, ◌≤◌}
use mathlib.Core.Path.{◌≡◌, refl, ap, ap₂, sym, subst, ◌∙◌}
use mathlib.Core.Bool.{Bool, true, false, not, ◌||◌}
use mathlib.Core.List.{List, [], ◌∷◌, map, map-map}
use mathlib.Core.Logic.{◌⊎◌, inl, inr, ⊎_elim}
use native.Mathlib.Omega.{arith}
use lib.Dec.{eqb}
use lib.ListN.{length, take, drop}
use borrow.Author.Tests.{eq-eqb, ne_eqb, eqb-false, not-false}
use lib.Seq.{take_at, drop_at}
use Rattle.search.specs.Choice.{◌when◌else◌}
use Rattle.search.specs.Lists.{All, every}
use Rattle.search.proofs.Choice.{when_yes, when_no, when_cases}
use Rattle.search.proofs.Lists.{every-says, every_given, all_after, map_back}
use Rattle.table.specs.Record.{gap_form, largest_form, form_at, blank}
use Rattle.table.specs.Find.{row_of, rows}
use Rattle.table.specs.Read.{by_verdict, table_of, read_table}
use Rattle.table.specs.declared.Row.{Row}
use Rattle.table.specs.Refusal.{Verdict}
use Rattle.std.specs.declared.result.Result.TheVariants.{Ok, Err}
use Rattle.table.specs.declared.refusal.Refusal.{Refusal}
use Rattle.table.specs.declared.refusal.Refusal.TheVariants.{BufferShort, NoSuchForm}
use Rattle.table.proofs.Firsts.{or_left, or_right, none_or}
use Rattle.slices.proofs.Parts.{all-at}
use Rattle.arrivals.specs.Arrivals.{δ, largest, unknown}
use Rattle.segments.specs.View.{View, view_of}
use Rattle.windows.specs.Latency.{figures_of, bound_of, latency_of}
use Rattle.misses.specs.Bad.{Test, by_windows}
use Rattle.misses.specs.Sieve.{by_sieve, as_sieved, at_most_of}
use Rattle.misses.specs.Overloads.{overloads}
use Rattle.misses.specs.Misses.{tested_beside, tested_of}
use Rattle.merging.specs.Versions.{three, state_of, ids_of}
use Rattle.merging.proofs.Promises.{map-alike, first-unchanged, second-unchanged}
use Rattle.merging.proofs.Equals.{same-result}
use Rattle.writing.specs.Rows.{table_bytes}
use Rattle.writing.specs.Write.{Written, written_of}
use Rattle.writing.proofs.Again.{table-again}
use Rattle.converting.specs.Forms.{in_form, form_of, fits_form, converted, with_largest, with_gap}
use Rattle.converting.specs.Convert.{rows_in, converted_of, Converts}
use Rattle.converting.specs.declared.To.{To}
use Rattle.converting.specs.declared.To.TheVariants.{Largest, Gap}
use Rattle.converting.proofs.Goods.{largest-none, place_at, largest-back, gap_back, largest-fits, fits-says, fits-given}
use Rattle.converting.proofs.Accepted.{together-written}
use Rattle.converting.proofs.Results.{Given, good, long, row-at, first-mark, each, id-kept, Convertible, row-good, from, together, result, result-back, result-mark, unrefused}
use Rattle.demands.specs.Chains.{IsTable, Has, chain_number, chain_of, others_of}
use Rattle.demands.specs.Converts.{table_in, TableOf, OfGap, Conversions}
use Rattle.demands.specs.Others.{Unmoved}
use Rattle.demands.specs.Merges.{Gives}
use Rattle.demands.specs.Rows.{RefusedFor}
use Rattle.demands.proofs.Chains.{latency-is, tested-are, latency-absent, tested-absent, absent_or_there}
use Rattle.demands.proofs.Rows.{used-says, used-given, refused-given}
use Rattle.demands.proofs.Merges.{copy-unchanged}
use Rattle.demands.proofs.InStep.{step-none, step-has, step-chain, step-others}
use Rattle.demands.proofs.Kept.{view_kept, bound-kept, windows-kept, sieve_kept, overloads-kept, largest-kept, unknown-kept, tested-kept}

-- an accepted table, in the words of `converting`
given : {s : List ℕ} → IsTable s → Given s
given h = record { bytes = h.bytes; accepted = h.accepted }

accepted-table : {s : List ℕ} → Given s → IsTable s
accepted-table g = record { bytes = g.bytes; accepted = g.accepted }

-- its largest distance stays, and so does whether it is known
largest-stays : (to : To) {r : Row} → Convertible to r → (k : ℕ) → largest (converted to r) k ≡ largest r k
largest-stays Largest c k = largest-kept c.good c.form k
largest-stays Gap {r} c k =
    sym (ap (λ (x : Row). largest x k) (sym (gap_back c.good c.form c.fits c.typed.largest_places)) ∙ largest-kept (row-good Gap c) refl k)

unknown-stays : (to : To) {r : Row} → Convertible to r → unknown (converted to r) ≡ unknown r
unknown-stays Largest c = unknown-kept c.good c.form
unknown-stays Gap {r} c =
    sym (ap unknown (sym (gap_back c.good c.form c.fits c.typed.largest_places)) ∙ unknown-kept (row-good Gap c) refl)

-- a table that can be converted
module _ (to : To) {s : List ℕ} (h : IsTable s) (other : form_at s 0 ≡ form_of to → ⊥) (fit : every (fits_form to) (rows (table_of s)) ≡ true) where
  converted-table : IsTable (table_in to s)
  converted-table = accepted-table (result to (given h) other fit)

  converted-rows : rows (table_of (table_in to s)) ≡ rows_in to s
  converted-rows = result-back to (given h) other fit

  given-room : (room : ℕ) → length (table_in to s) ≤ room → converted_of to room s ≡ Ok (length (table_in to s))
  given-room room l = unrefused to (given h) other fit room ∙ used-given room (rows_in to s) (together-written (together to (given h) other fit)) l

  -- its chains fit the same ids, in the same order
  same-ids : ids_of s ≡ ids_of (table_in to s)
  same-ids = let ids : Row → ℕ = λ r. r.id in
      sym (ap (map ids) converted-rows ∙ map-map ids (converted to) (rows (table_of s)) ∙ map-alike (λ r. ids (converted to r)) ids (id-kept to) (rows (table_of s)))

  -- so a merge with an untouched copy gives its bytes
  given-merged : (room : ℕ) → length (table_in to s) ≤ room → Gives room (three s (table_in to s) s) (table_in to s) × Gives room (three s s (table_in to s)) (table_in to s)
  given-merged room l =
      let c = converted-table in (
        record {
          answered = (copy-unchanged.second (record { ancestor = h; first = c; second = h }) (λ id. refl) l).0;
          result = same-result (table_in to s) c.bytes c.accepted (three s (table_in to s) s) same-ids refl same-ids (λ id. second-unchanged (state_of s id) (state_of (table_in to s) id) (state_of s id) refl);
        },
        record {
          answered = (copy-unchanged.first (record { ancestor = h; first = h; second = c }) (λ id. refl) l).0;
          result = same-result (table_in to s) c.bytes c.accepted (three s s (table_in to s)) same-ids same-ids refl (λ id. first-unchanged (state_of s id) (state_of s id) (state_of (table_in to s) id) refl);
        },
      )

  -- every figure stays
  module _ (id : ℕ) where
    module _ (own : Has s id) where
      abbrev b : Row
      b = chain_of s id

      own_row : Convertible to b
      own_row = from to (given h) other fit (chain_number s id) own.there

      own-has : Has (table_in to s) id
      own-has = step-has h converted-table (converted to) (id-kept to) converted-rows id own

      views : (l : List Row) → map (λ a. view_of a (converted to b)) (map (converted to) l) ≡ map (λ a. view_of a b) l
      views [] = refl
      views (a ∷ l) = rw (view_kept to a b, views l)

      row_is : chain_of (table_in to s) id ≡ converted to b
      row_is = step-chain h converted-table (converted to) (id-kept to) converted-rows id own

      others-are : others_of (table_in to s) id ≡ map (converted to) (others_of s id)
      others-are = step-others h converted-table (converted to) (id-kept to) converted-rows id own

      latency-stays : latency_of s id ≡ latency_of (table_in to s) id
      latency-stays =
          latency-is own δ
          ∙ sym (latency-is own-has δ ∙ ap₂ (λ x (l : List Row). figures_of (bound_of δ x (map (λ a. view_of a x) l))) row_is others-are
          ∙ ap (λ v. figures_of (bound_of δ (converted to b) v)) (views (others_of s id)) ∙ ap figures_of (bound-kept to b _))

      tested_stays : (test : Test) → ((views : List View) (close cost : ℕ) → test (converted to b) views close cost ≡ test b views close cost) → (k : ℕ)
          → tested_of δ test s id k ≡ tested_of δ test (table_in to s) id k
      tested_stays test same k =
          tested-are own δ test k
          ∙ sym (tested-are own-has δ test k ∙ ap₂ (λ x (l : List Row). tested_beside δ test x (map (λ a. view_of a x) l) (overloads x l) k) row_is others-are
          ∙ ap₂ (λ v o. tested_beside δ test (converted to b) v o k) (views (others_of s id)) (overloads-kept to b (others_of s id))
          ∙ tested-kept test to b _ _ k (same _) (largest-stays to own_row k) (unknown-stays to own_row))

    unmoved : Unmoved s (table_in to s) id
    unmoved = ⊎_elim
        (λ e. let f = step-none h converted-table (converted to) (id-kept to) converted-rows id e in
        record { latency = latency-absent h id e δ ∙ sym (latency-absent converted-table id f δ); misses = λ k. tested-absent h id e δ by_windows k ∙ sym (tested-absent converted-table id f δ by_windows k) })
        (λ l. let own : Has s id = record { table = h; there = l } in
        record { latency = latency-stays own; misses = tested_stays own by_windows (windows-kept to _) })
        (absent_or_there h id)

    sieve_stays : (k : ℕ) → at_most_of s id k ≡ at_most_of (table_in to s) id k
    unfolding at_most_of
    sieve_stays k = ap as_sieved (⊎_elim
        (λ e. tested-absent h id e δ by_sieve k ∙ sym (tested-absent converted-table id (step-none h converted-table (converted to) (id-kept to) converted-rows id e) δ by_sieve k))
        (λ l. tested_stays (record { table = h; there = l }) by_sieve (sieve_kept to _) k)
        (absent_or_there h id))

-- what is answered with a length is written
used-written : (to : To) (s : List ℕ) (room n : ℕ) → converted_of to room s ≡ Ok n → written_of room (rows_in to s) ≡ Ok n
unfolding converted_of
used-written to s room n = by (read_table s).verdict
  where
    wrong : Bool
    wrong = eqb (form_at s 0) (form_of to) || not (every (fits_form to) (rows (table_of s)))

    by : (v : Verdict) → by_verdict Err v (Err NoSuchForm when wrong else written_of room (rows_in to s)) ≡ Ok n → written_of room (rows_in to s) ≡ Ok n
    by (Ok u) = when_cases (λ (w : Written). w ≡ Ok n → written_of room (rows_in to s) ≡ Ok n) wrong (λ b f. absurd (let z : ◌≡◌ {A = ℕ} 0 1 = cc in omega arith)) (λ b f. f)
    by (Err g) = λ f. absurd (let z : ◌≡◌ {A = ℕ} 0 1 = cc in omega arith)

-- what an accepted conversion says
converted-says : (to : To) {s : List ℕ} → IsTable s → (room n : ℕ) → converted_of to room s ≡ Ok n
    → (form_at s 0 ≡ form_of to → ⊥) × (every (fits_form to) (rows (table_of s)) ≡ true) × (written_of room (rows_in to s) ≡ Ok n)
unfolding converted_of
converted-says to {s} h room n e =
    when_cases (λ (w : Written). w ≡ Ok n → (form_at s 0 ≡ form_of to → ⊥) × (every (fits_form to) (rows (table_of s)) ≡ true) × (written_of room (rows_in to s) ≡ Ok n))
    (eqb (form_at s 0) (form_of to) || not (every (fits_form to) (rows (table_of s))))
    (λ b f. absurd (let z : ◌≡◌ {A = ℕ} 0 1 = cc in omega arith))
    (λ b f. let c = none_or (eqb (form_at s 0) (form_of to)) _ b in (eqb-false _ _ c.0, not-false _ c.1, f))
    (sym (ap (λ (v : Verdict). by_verdict Err v (Err NoSuchForm when eqb (form_at s 0) (form_of to) || not (every (fits_form to) (rows (table_of s))) else written_of room (rows_in to s))) h.accepted) ∙ e)

-- a refused table keeps its number
own-number : (to : To) (s : List ℕ) {n : Refusal} {place : ℕ} → (read_table s).verdict ≡ Err (n, place) → (room : ℕ) → converted_of to room s ≡ Err n
unfolding converted_of
own-number to s e room = ap (λ (v : Verdict). by_verdict Err v (Err NoSuchForm when eqb (form_at s 0) (form_of to) || not (every (fits_form to) (rows (table_of s))) else written_of room (rows_in to s))) e

-- 34
always_34 : (to : To) {s : List ℕ} → IsTable s → (room : ℕ) → (eqb (form_at s 0) (form_of to) || not (every (fits_form to) (rows (table_of s)))) ≡ true → converted_of to room s ≡ Err NoSuchForm
unfolding converted_of
always_34 to {s} h room e =
    ap (λ (v : Verdict). by_verdict Err v (Err NoSuchForm when eqb (form_at s 0) (form_of to) || not (every (fits_form to) (rows (table_of s))) else written_of room (rows_in to s))) h.accepted
    ∙ when_yes _ _ e

-- the shape in words
module _ {s : List ℕ} (x : TableOf largest_form s) where
  in_form_lem : (i : ℕ) → i < (table_of s).count → (row_of (table_of s) i).form ≡ largest_form
  in_form_lem i l = (good (given x.table)).forms i l ∙ sym (first-mark (given x.table)) ∙ x.has

  shaped : every (fits_form Gap) (rows (table_of s)) ≡ true → All (λ r. (r.flag ≡ 0) ⊎ OfGap r) (rows (table_of s))
  shaped e = each (given x.table) (λ r. (r.flag ≡ 0) ⊎ OfGap r)
      (λ i l. let h = subst (λ (r : Row). fits_form Gap r ≡ true) (row-at (given x.table) i l) (all-at (λ r. fits_form Gap r ≡ true) (rows (table_of s)) i blank (every-says (fits_form Gap) (rows (table_of s)) e) (omega (arith, long (given x.table)))) in
      ⊎_elim (λ z. inl z) (λ g. inr (record { gap = _; near = g.0; each = g.1 })) (fits-says ((good (given x.table)).row i l) (in_form_lem i l) h))

  shape_fits : All (λ r. (r.flag ≡ 0) ⊎ OfGap r) (rows (table_of s)) → every (fits_form Gap) (rows (table_of s)) ≡ true
  shape_fits a = every_given (fits_form Gap) (rows (table_of s)) (each (given x.table) (λ r. fits_form Gap r ≡ true)
      (λ i l. let h = subst (λ (r : Row). (r.flag ≡ 0) ⊎ OfGap r) (row-at (given x.table) i l) (all-at (λ r. (r.flag ≡ 0) ⊎ OfGap r) (rows (table_of s)) i blank a (omega (arith, long (given x.table)))) in
      fits-given ((good (given x.table)).row i l) (in_form_lem i l) (⊎_elim (λ z. inl z) (λ g. inr (g.gap, g.near, g.each)) h)))

  not-gap : form_at s 0 ≡ gap_form → ⊥
  not-gap e = omega (arith, e, x.has)

-- a table with gaps, there and back
module _ {s : List ℕ} (x : TableOf gap_form s) where
  not-largest : form_at s 0 ≡ largest_form → ⊥
  not-largest e = omega (arith, e, x.has)

  all_fit : every (fits_form Largest) (rows (table_of s)) ≡ true
  all_fit = every_given (fits_form Largest) (rows (table_of s)) (each (given x.table) (λ r. fits_form Largest r ≡ true) (λ i l. refl))

  there : (i : ℕ) → i < (table_of s).count → Convertible Largest (row_of (table_of s) i)
  there = from Largest (given x.table) not-largest all_fit

  far : IsTable (table_in Largest s)
  far = converted-table Largest x.table not-largest all_fit

  far-rows : rows (table_of (table_in Largest s)) ≡ map with_largest (rows (table_of s))
  far-rows = converted-rows Largest x.table not-largest all_fit

  far-form : TableOf largest_form (table_in Largest s)
  far-form = record { table = far; has = result-mark Largest (given x.table) not-largest all_fit }

  returned : rows_in Gap (table_in Largest s) ≡ rows (table_of s)
  returned = ap (map with_gap) far-rows ∙ map_back with_gap with_largest (rows (table_of s))
      (each (given x.table) (λ r. with_gap (with_largest r) ≡ r) (λ i l. largest-back (there i l).good (there i l).form (there i l).typed.largest_places))

  old-bytes : table_in Gap (table_in Largest s) ≡ s
  old-bytes = ap table_bytes returned ∙ table-again s x.table.bytes x.table.accepted

  back_fits : every (fits_form Gap) (rows (table_of (table_in Largest s))) ≡ true
  back_fits = ap (every (fits_form Gap)) far-rows
      ∙ every_given (fits_form Gap) _ (all_after (λ r. fits_form Gap r ≡ true) with_largest (rows (table_of s)) (each (given x.table) (λ r. fits_form Gap (with_largest r) ≡ true) (λ i l. largest-fits (there i l).good (there i l).form)))

  back-answered : (room : ℕ) → length s ≤ room → converted_of Gap room (table_in Largest s) ≡ Ok (length s)
  back-answered room l =
      given-room Gap far (not-gap far-form) back_fits room (omega (arith, ap length old-bytes, l)) ∙ ap (λ (b : List ℕ). Ok (length b)) old-bytes

pub conversions : Conversions
conversions = record {
  table = λ {to} {s} {room} {n} c.
      let e = converted-says to c.table room n c.answered in
      let u = used-says room (rows_in to s) n e.2 in
      (record { table = converted-table to c.table e.0 e.1; has = result-mark to (given c.table) e.0 e.1 }, u.2, omega (arith, u.1, u.2));
  written = λ {to} {s} {buffer} {after} {n} c. written-says to s buffer after n c;
  chains = λ {to} {s} {room} {n} c. let e = converted-says to c.table room n c.answered in converted-rows to c.table e.0 e.1;
  stays = kept;
  gap_becomes = λ r h. (when_no {A = ℕ} 0 1 (ne_eqb r.gap 0 (λ z. omega (arith, z, h))), place_at r);
  zero_becomes = λ r e. when_yes {A = ℕ} 0 1 (eq-eqb r.gap 0 e);
  list_becomes = λ r some g each. omega (arith, each 0 some);
  none_becomes = λ {s} x. each (given x.table) (λ r. r.flag ≡ 0 → (with_gap r).gap ≡ 0) (λ i l e. largest-none ((good (given x.table)).row i l) e 0);
  figures = λ {to} {s} {room} {n} c id. let e = converted-says to c.table room n c.answered in unmoved to c.table e.0 e.1 id;
  at_most = λ {to} {s} {room} {n} c id k. let e = converted-says to c.table room n c.answered in sieve_stays to c.table e.0 e.1 id k;
  to_largest = λ x room l. given-room Largest x.table (not-largest x) (all_fit x) room l;
  to_gap = λ {s} x room l. (
    λ e. shaped x (converted-says Gap x.table room _ e).1,
    λ a. given-room Gap x.table (not-gap x) (shape_fits x a) room l,
  );
  refused = own-number;
  no_gap = λ {s} x none room. always_34 Gap x.table room (or_right (eqb (form_at s 0) gap_form) _ (ap not (not-every (every (fits_form Gap) (rows (table_of s))) (λ e. none (shaped x e)))));
  already = λ to {s} x room. always_34 to x.table room (or_left _ _ (eq-eqb _ _ x.has));
  no_room_holds = λ {to} {s} {room} {n} c less l.
      let e = converted-says to c.table room n c.answered in
      let u = used-says room (rows_in to s) n e.2 in
      unrefused to (given c.table) e.0 e.1 less ∙ refused-given less (rows_in to s) BufferShort (RefusedFor.no_room u.0 (omega (arith, l, u.2)) refl);
  back = λ x. (old-bytes x, back-answered x);
  again = λ {s} {room} {n} c.
      let e = converted-says Gap c.table room n c.answered in
      let f = from Gap (given c.table) e.0 e.1 in
      ap table_bytes (ap (map with_largest) (converted-rows Gap c.table e.0 e.1)
      ∙ map_back with_largest with_gap (rows (table_of s)) (each (given c.table) (λ r. with_largest (with_gap r) ≡ r) (λ i l. gap_back (f i l).good (f i l).form (f i l).fits (f i l).typed.largest_places)))
      ∙ table-again s c.table.bytes c.table.accepted;
  merged = λ {to} {s} {room} {n} c.
      let e = converted-says to c.table room n c.answered in
      given-merged to c.table e.0 e.1 room (used-says room (rows_in to s) n e.2).1;
}
  where
    kept : (to : To) (r : Row) → converted to r ≡ in_form r (form_of to) (converted to r).flag (converted to r).gap (converted to r).largest
    kept Largest r = refl
    kept Gap r = refl

    not-every : (b : Bool) → (b ≡ true → ⊥) → b ≡ false
    not-every true h = absurd (h refl)
    not-every false h = refl

    written-says : (to : To) (s buffer after : List ℕ) (n : ℕ) → Converts to s buffer (Ok n) after → (take n after ≡ table_in to s) × (drop n after ≡ drop n buffer)
    written-says to s buffer after n c =
        let rs = rows_in to s in
        let u = used-says (length buffer) rs n (used-written to s (length buffer) n (sym c.answers)) in
        let e = c.leaves ∙ when_yes _ _ refl in
        (rw e (take_at (table_bytes rs) (drop (length (table_bytes rs)) buffer) n (sym u.2)), rw e (drop_at (table_bytes rs) (drop (length (table_bytes rs)) buffer) n (sym u.2) ∙ rw u.2))
