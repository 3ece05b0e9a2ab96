-- What the code keeps of the chains before a record. Assumes nothing.
use Prim.Native.Nat.{ℕ, zero, suc, ◌+◌, ◌≤◌}
use native.Mathlib.Omega.{arith}
use mathlib.Core.Path.{◌≡◌, ◌∙◌, refl, ap, sym}
use borrow.Author.Tests.{lt-ltb, le-ltb, ltb-true, ltb-false}
use mathlib.Core.Bool.{Bool, true, false, ◌||◌}
use mathlib.Core.List.{List, [], ◌∷◌, map}
use Rattle.std.specs.List.{list_any}
use lib.ListN.{length, take, get_or, set, get_or-map}
use lib.Dec.{eqb, ltb}
use Rattle.search.specs.Find.{first}
use Rattle.table.proofs.Firsts.{or_left}
use Rattle.search.specs.Choice.{◌when◌else◌}
use Rattle.search.proofs.Choice.{when_cases}
use Rattle.search.proofs.Find.{first-same}
use Rattle.table.specs.Record.{blank}
use Rattle.table.specs.Find.{row_of, find_of, used}
use Rattle.table.specs.Read.{plus}
use Rattle.table.specs.Code.Before.{Keeps}
use Rattle.table.specs.declared.Row.{Row}
use Rattle.table.specs.declared.Table.{Table}
use Rattle.table.specs.declared.before.Before.{Before}

abbrev id_of : Row → ℕ
id_of r = r.id

-- a search that starts one place further
first-next : (p : ℕ → Bool) (s n : ℕ) → first p (suc s) n ≡ suc (first (λ i. p (suc i)) s n)
unfolding first ◌when◌else◌
first-next p s zero = refl
first-next p s (suc n) = when_cases (λ r. r ≡ suc (s when p (suc s) else first (λ i. p (suc i)) (suc s) n)) (p (suc s))
    (λ e. rw e) (λ e. rw e (first-next p (suc s) n))

ltb-next : (a b : ℕ) → ltb a b ≡ ltb (suc a) (suc b)
ltb-next a b = by (ltb a b) refl
  where
    by : (t : Bool) → ltb a b ≡ t → ltb a b ≡ ltb (suc a) (suc b)
    by true e = e ∙ sym (lt-ltb (suc a) (suc b) (omega (arith, ltb-true a b e)))
    by false e = e ∙ sym (le-ltb (suc a) (suc b) (omega (arith, ltb-false a b e)))

-- an id is one of the first n where the search for it stops among them
among-first : (ids : List ℕ) (n id : ℕ) → n ≤ length ids → list_any (λ y. eqb y id) (take n ids) ≡ ltb (first (λ i. eqb (get_or ids i 0) id) 0 n) n
unfolding first
among-first ids zero id h = refl
among-first [] (suc n) id h = absurd (omega arith)
among-first (x ∷ ids) (suc n) id h = when_cases (λ r. eqb x id || list_any (λ y. eqb y id) (take n ids) ≡ ltb r (suc n)) (eqb x id)
    (λ e. or_left _ _ e ∙ sym (lt-ltb 0 (suc n) (omega arith))) (λ e. rw (e, first-next (λ i. eqb (get_or (x ∷ ids) i 0) id) 0 n) (among-first ids n id (omega arith) ∙ ltb-next _ n))

-- an id is used where it is one of those kept
pub used-before : {b : Before} (t : Table) (id : ℕ) → b.count ≤ length b.ids → Keeps b t → used t id ≡ list_any (λ y. eqb y id) (take b.count b.ids)
unfolding find_of
used-before t id few k =
    rw (among-first _ _ id few, k.bear, k.count) (ap (λ n. ltb n t.count)
    (first-same (λ i. eqb (row_of t i).id id) (λ i. eqb (get_or (map id_of t.row) i 0) id) 0 t.count
    (λ i a h. ap (λ n. eqb n id) (sym (get_or-map id_of t.row i blank)))))

-- there is a table for anything kept
abbrev bearing : ℕ → Row
bearing n = record { form = 0; id = n; kind = 0; overload = 0; flag = 0; deadline = 0; gap = 0; listed = 0; tasks = 0; list = []; largest = []; priority = []; cost = [] }

ids-back : (ids : List ℕ) → ids ≡ map id_of (map bearing ids)
ids-back [] = refl
ids-back (n ∷ ids) = ap (λ (l : List ℕ). n ∷ l) (ids-back ids)

abbrev pub table_before : Before → Table
table_before b = record { count = b.count; tasks = b.tasks; row = map bearing b.ids }

pub table_before_lem : (b : Before) → Keeps b (table_before b)
table_before_lem b = record { bear = ids-back b.ids; count = refl; tasks = refl }

-- one row more
set-ids : (l : List Row) (n : ℕ) (r : Row) → map id_of (set l n r) ≡ set (map id_of l) n r.id
set-ids [] n r = refl
set-ids (a ∷ l) zero r = refl
set-ids (a ∷ l) (suc n) r = ap (λ (m : List ℕ). a.id ∷ m) (set-ids l n r)

pub before_more : {b : Before} (t : Table) (r : Row) → Keeps b t
    → Keeps (record { ids = set b.ids b.count r.id; count = b.count + 1; tasks = b.tasks + r.tasks }) (plus t r)
before_more t r k = record {
  bear = rw (k.bear, k.count) (sym (set-ids t.row t.count r));
  count = ap (λ n. n + 1) k.count;
  tasks = ap (λ n. n + r.tasks) k.tasks;
}
