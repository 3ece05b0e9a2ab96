-- The ids of the rows before, the newest first. Assumes nothing.
use Prim.Native.Nat.{ℕ, zero, suc, ◌+◌, ◌<◌, ◌≤◌}
use native.Mathlib.Omega.{arith}
use native.Mathlib.Numerals.{add-one}
use mathlib.Core.Path.{◌≡◌, refl, ap, sym, ◌∙◌}
use mathlib.Core.List.{List, [], ◌∷◌, ◌++◌}
use mathlib.Core.Bool.{Bool, true, false, ◌||◌}
use mathlib.Core.Logic.{⊎_elim}
use borrow.Author.Tests.{lt-ltb, le-ltb, ne_eqb}
use lib.Dec.{eqb, ltb}
use lib.ListN.{length, get_or, take, drop, set, replicate, length-set, length-replicate}
use lib.Seq.{drop-cons, take-suc-set, get_or-set_same, get_or-set_other}
use Rattle.search.specs.Find.{first}
use Rattle.search.proofs.Choice.{lt_or_le, true-not-false}
use Rattle.search.proofs.Find.{first_miss, first_hit, first-same}
use Rattle.table.specs.Limits.{max_chains}
use Rattle.table.specs.Record.{blank}
use Rattle.table.specs.Find.{row_of, find_of, used}
use Rattle.table.specs.Read.{empty, plus}
use Rattle.table.specs.declared.Row.{Row}
use Rattle.table.specs.declared.Table.{Table}
use Rattle.table.proofs.Firsts.{or_left, or_right, or_none}
use Rattle.table.proofs.Goods.{zeros}
use Rattle.writing.specs.Code.Tally.{bears}
use Rattle.writing.proofs.Lefts.{take_more}

-- Whether one of them is this one

pub bears-none : (id : ℕ) → bears [] id ≡ false
unfolding bears
bears-none id = refl

pub bears-on : (ids : List ℕ) (id i : ℕ) → i < length ids → bears (drop i ids) id ≡ (eqb (get_or ids i 0) id || bears (drop (i + 1) ids) id)
unfolding bears
bears-on ids id i h = rw add-one (ap (λ (l : List ℕ). bears l id) (drop-cons ids i 0 h))

pub or_assoc : (a b c : Bool) → ((a || b) || c) ≡ (a || (b || c))
or_assoc true b c = refl
or_assoc false b c = refl

pub or_last : (a : Bool) → (a || false) ≡ a
or_last true = refl
or_last false = refl

-- of an id other than 0, places with 0 say nothing
bears-take : (ids : List ℕ) (n id : ℕ) → (id ≡ 0 → ⊥) → ((i : ℕ) → n ≤ i → get_or ids i 0 ≡ 0) → bears (take n ids) id ≡ bears ids id
unfolding bears
bears-take [] zero id h e = refl
bears-take [] (suc n) id h e = refl
bears-take (m ∷ ids) zero id h e = sym (or_none (eqb m id) (bears ids id) (ne_eqb m id (λ z. h (sym z ∙ e 0 (omega arith)))) (sym (bears-take ids zero id h (λ i l. e (suc i) (omega arith)))))
bears-take (m ∷ ids) (suc n) id h e = ap (λ b. eqb m id || b) (bears-take ids n id h (λ i l. e (suc i) (omega arith)))

-- each moves by one place
pub moved_on : (with ids : List ℕ) (id i : ℕ) → i + 1 < length with → i < length ids → take (i + 1) with ≡ id ∷ take i ids
    → take (i + 1 + 1) (set with (i + 1) (get_or ids i 0)) ≡ id ∷ take (i + 1) ids
moved_on with ids id i h k e =
    let q : i + 1 + 1 ≡ suc (i + 1) = omega arith in
    ap (λ n. take n (set with (i + 1) (get_or ids i 0))) q ∙ take-suc-set with (i + 1) (get_or ids i 0) h ∙ ap (λ (l : List ℕ). l ++ (get_or ids i 0 ∷ [])) e
    ∙ ap (λ (l : List ℕ). id ∷ l) (sym (take_more ids i 0 k))

-- An id of a table with one row more

-- found among one more
module _ (p : ℕ → Bool) (n : ℕ) where
  found-yes : (m : ℕ) → m < n → p m ≡ true → ltb (first p 0 n) n ≡ true
  found-yes m h e = ⊎_elim (λ l. lt-ltb _ _ l) (λ l. absurd (true-not-false e (first_miss p 0 n m (omega arith) (omega arith)))) (lt_or_le (first p 0 n) n)

found-more : (p : ℕ → Bool) (n : ℕ) → ltb (first p 0 (n + 1)) (n + 1) ≡ (p n || ltb (first p 0 n) n)
found-more p n = ⊎_elim
    (λ l. found-yes p (n + 1) (first p 0 n) (omega arith) (first_hit p 0 n (omega arith)) ∙ sym (or_right (p n) _ (lt-ltb _ _ l)))
    (λ l. by (p n) refl l)
    (lt_or_le (first p 0 n) n)
  where
    by : (b : Bool) → p n ≡ b → n ≤ first p 0 n → ltb (first p 0 (n + 1)) (n + 1) ≡ (p n || ltb (first p 0 n) n)
    by true e l = found-yes p (n + 1) n (omega arith) e ∙ sym (or_left (p n) _ e)
    by false e l = ⊎_elim
        (λ k. let hit = first_hit p 0 (n + 1) (omega arith) in
        ⊎_elim
        (λ m. absurd (true-not-false hit (first_miss p 0 n (first p 0 (n + 1)) (omega arith) (omega arith))))
        (λ m. let z : first p 0 (n + 1) ≡ n = omega arith in absurd (true-not-false (ap p (sym z) ∙ hit) e))
        (lt_or_le (first p 0 (n + 1)) n))
        (λ k. le-ltb _ _ k ∙ sym (or_none (p n) _ e (le-ltb _ _ l)))
        (lt_or_le (first p 0 (n + 1)) (n + 1))

used-more : (t : Table) (r : Row) (id : ℕ) → t.count < length t.row → used (plus t r) id ≡ (eqb r.id id || used t id)
unfolding find_of
used-more t r id h =
    let p : ℕ → Bool = λ i. eqb (row_of (plus t r) i).id id in
    let here : p t.count ≡ eqb r.id id = ap (λ (x : Row). eqb x.id id) (get_or-set_same t.row t.count r blank h) in
    let others = first-same p (λ i. eqb (row_of t i).id id) 0 t.count (λ i a l. ap (λ (x : Row). eqb x.id id) (get_or-set_other t.row t.count i r blank (λ e. omega (arith, e, l)))) in
    found-more p t.count ∙ ap (λ b. b || ltb (first p 0 t.count) t.count) here ∙ ap (λ m. eqb r.id id || ltb m t.count) others

-- What is kept of a table

-- its ids, the places after them with 0, n rows, and m tasks in all
pub record Holds (ids : List ℕ) (n m : ℕ) (t : Table) : Type 0 where
  pub bear : (id : ℕ) → (id ≡ 0 → ⊥) → used t id ≡ bears ids id
  pub rest : (i : ℕ) → n ≤ i → get_or ids i 0 ≡ 0
  pub places : length t.row ≡ max_chains
  pub count : n ≡ t.count
  pub tasks : m ≡ t.tasks

pub holds-none : Holds (replicate max_chains 0) 0 0 empty
unfolding find_of first
holds-none = record {
  bear = λ id h. sym (bears-zeros max_chains id h);
  rest = λ i l. zeros max_chains i;
  places = length-replicate max_chains blank;
  count = refl;
  tasks = refl;
}
  where
    bears-zeros : (n id : ℕ) → (id ≡ 0 → ⊥) → bears (replicate n 0) id ≡ false
    bears-zeros n id h = sym (bears-take (replicate n 0) 0 id h (λ i l. zeros n i)) ∙ bears-none id

-- whether an id is wrong
pub held-wrong : {ids : List ℕ} {count tasks : ℕ} (t : Table) (id : ℕ) → Holds ids count tasks t → (eqb id 0 || used t id) ≡ (eqb id 0 || bears ids id)
held-wrong t zero k = refl
held-wrong t (suc n) k = ap (λ b. eqb (suc n) 0 || b) (k.bear (suc n) (λ z. omega (arith, z)))

pub holds_more : {ids : List ℕ} {count tasks : ℕ} (t : Table) (r : Row) → count < max_chains → Holds ids count tasks t
    → Holds (r.id ∷ take 15 ids) (count + 1) (tasks + r.tasks) (plus t r)
unfolding bears
holds_more {ids} {count} {tasks} t r few k = record {
  bear = λ id h. used-more t r id (omega (arith, k.places, k.count)) ∙ ap (λ b. eqb r.id id || b) (k.bear id h ∙ sym (bears-take ids 15 id h (λ i l. k.rest i (omega arith))));
  rest = λ i l. later i l;
  places = length-set t.row t.count r ∙ k.places;
  count = ap (λ n. n + 1) k.count;
  tasks = ap (λ n. n + r.tasks) k.tasks;
}
  where
    short : (l : List ℕ) (n i : ℕ) → get_or l i 0 ≡ 0 → get_or (take n l) i 0 ≡ 0
    short l zero i e = refl
    short [] (suc n) i e = refl
    short (x ∷ l) (suc n) zero e = e
    short (x ∷ l) (suc n) (suc i) e = short l n i e

    later : (i : ℕ) → count + 1 ≤ i → get_or (r.id ∷ take 15 ids) i 0 ≡ 0
    later zero l = absurd (omega arith)
    later (suc i) l = short ids 15 i (k.rest i (omega arith))
