-- The sample and a table that differs from it meet demand 3's hypothesis for chains 1, 2 and 4. Assumes nothing.
use Prim.Native.Nat.{ℕ, ◌<◌}
use mathlib.Core.Path.{◌≡◌, refl, ap, ◌∙◌}
use mathlib.Core.List.Permᴰ
use mathlib.Core.List.{List, [], ◌∷◌, Permᴰ}
use native.Mathlib.Omega.{arith}
use lib.Dec.{lit≤}
use lib.ListN.{length, take, drop}
use Rattle.search.specs.Choice.{◌when◌else◌}
use Rattle.search.specs.Find.{first}
use Rattle.search.specs.Lists.{sum_of, some, Paired}
use Rattle.table.specs.Record.{gap_width, known}
use Rattle.table.specs.Find.{row_of, find_of}
use Rattle.table.specs.Read.{Reading, table_of}
use Rattle.table.specs.Place.{length_of, place_of}
use Rattle.table.specs.declared.Table.{Table}
use Rattle.segments.specs.Tasks.{tasks_from, lowest, before}
use Rattle.segments.specs.Segments.{stretches, onward, around, nonempty, cuts, parts, cut_segments}
use Rattle.windows.specs.Demand.{others}
use Rattle.slices.specs.Stored.{record_of}
use Rattle.demands.specs.Others.{Agrees, SameBesides}
use Rattle.demands.specs.Starred.{sample}
use Rattle.demands.specs.Witness.{altered}
use Rattle.demands.proofs.Tables.{sampled, alteration, sample-reads, altered-reads, read_table_lem}
use Rattle.demands.proofs.Others.{pairs_off, agrees-own}

differ : sample ≡ altered → ⊥
unfolding sample altered
differ e = let n : ◌≡◌ {A = ℕ} 140 148 = ap length e in absurd (omega arith)

sample-table : table_of sample ≡ sampled
sample-table = ap (λ (r : Reading). r.table) sample-reads.reads

altered-table : table_of altered ≡ alteration
altered-table = ap (λ (r : Reading). r.table) altered-reads.reads

-- a chain of each that an id finds, with the same record, and others that pair off
module _ (id chain other : ℕ) (in-sample : find_of sampled id ≡ chain) (in-altered : find_of alteration id ≡ other) where
  besides : (chain < 4) → (other < 4) → record_of sample chain ≡ record_of altered other → Paired (Agrees (row_of sampled chain)) (others sampled chain) (others alteration other) → SameBesides sample altered id
  unfolding sampled alteration
  besides l m own pairs =
      let f : find_of (table_of sample) id ≡ chain = ap (λ t. find_of t id) sample-table ∙ in-sample in
      let g : find_of (table_of altered) id ≡ other = ap (λ t. find_of t id) altered-table ∙ in-altered in
      record {
        one = record { table = read_table_lem sample-reads; there = rw (f, sample-table) l };
        two = record { table = read_table_lem altered-reads; there = rw (g, altered-table) m };
        own = rw (f, g) own;
        others = rw (f, g, sample-table, altered-table) pairs;
      }

-- chain 3 and its alteration agree against each of the three
abbrev Altered : ℕ → Type 0
Altered chain = Agrees (row_of sampled chain) (row_of sampled 2) (row_of alteration 1)

agrees_1 : Altered 0
unfolding sampled alteration tasks_from lowest some before stretches onward around nonempty cuts parts cut_segments sum_of ◌when◌else◌
agrees_1 = record { kind = refl; overload = refl; arrivals = refl; defers = refl; first = refl; segments = pairs_off _ _ refl }

agrees_2 : Altered 1
unfolding sampled alteration tasks_from lowest some before stretches onward around nonempty cuts parts cut_segments sum_of ◌when◌else◌
agrees_2 = record { kind = refl; overload = refl; arrivals = refl; defers = refl; first = refl; segments = pairs_off _ _ refl }

agrees_4 : Altered 3
unfolding sampled alteration tasks_from lowest some before stretches onward around nonempty cuts parts cut_segments sum_of ◌when◌else◌
agrees_4 = record { kind = refl; overload = refl; arrivals = refl; defers = refl; first = refl; segments = pairs_off _ _ refl }

-- three in a row, the last one first, and turned round
last-first : {A : Type 0} (x y z : A) → Permᴰ (x ∷ y ∷ z ∷ []) (z ∷ x ∷ y ∷ [])
last-first x y z = Permᴰ.trans (Permᴰ.cons refl (Permᴰ.swap refl refl)) (Permᴰ.swap refl refl)

turned : {A : Type 0} (x y z : A) → Permᴰ (x ∷ y ∷ z ∷ []) (z ∷ y ∷ x ∷ [])
turned x y z = Permᴰ.trans (last-first x y z) (Permᴰ.cons refl (Permᴰ.swap refl refl))

finds : (find_of sampled 1 ≡ 0) × (find_of sampled 2 ≡ 1) × (find_of sampled 4 ≡ 3) × (find_of alteration 1 ≡ 2) × (find_of alteration 2 ≡ 3) × (find_of alteration 4 ≡ 0)
unfolding sampled alteration find_of first ◌when◌else◌
finds = (refl, refl, refl, refl, refl, refl)

-- the three records stand in both
same-records : (record_of sample 0 ≡ record_of altered 2) × (record_of sample 1 ≡ record_of altered 3) × (record_of sample 3 ≡ record_of altered 0)
unfolding record_of sample altered sampled alteration place_of sum_of gap_width known ◌when◌else◌
same-records = rw (sample-table, altered-table) bytes
  where
    part : List ℕ → Table → ℕ → List ℕ
    part s t chain = take (length_of (row_of t chain)) (drop (place_of t chain) s)

    bytes : (part sample sampled 0 ≡ part altered alteration 2) × (part sample sampled 1 ≡ part altered alteration 3) × (part sample sampled 3 ≡ part altered alteration 0)
    bytes = (refl, refl, refl)

pub met : (sample ≡ altered → ⊥) × SameBesides sample altered 1 × SameBesides sample altered 2 × SameBesides sample altered 4
unfolding sampled alteration
met = (
  differ,
  besides 1 0 2 finds.0 finds.3 (lit≤ tt) (lit≤ tt) same-records.0 (record {
    pairs = (row_of sampled 1, row_of alteration 3) ∷ (row_of sampled 2, row_of alteration 1) ∷ (row_of sampled 3, row_of alteration 0) ∷ [];
    firsts = Permᴰ.refl _;
    seconds = turned _ _ _;
    related = (agrees-own _ _, (agrees_1, (agrees-own _ _, tt)));
  }),
  besides 2 1 3 finds.1 finds.4 (lit≤ tt) (lit≤ tt) same-records.1 (record {
    pairs = (row_of sampled 0, row_of alteration 2) ∷ (row_of sampled 2, row_of alteration 1) ∷ (row_of sampled 3, row_of alteration 0) ∷ [];
    firsts = Permᴰ.refl _;
    seconds = turned _ _ _;
    related = (agrees-own _ _, (agrees_2, (agrees-own _ _, tt)));
  }),
  besides 4 3 0 finds.2 finds.5 (lit≤ tt) (lit≤ tt) same-records.2 (record {
    pairs = (row_of sampled 0, row_of alteration 2) ∷ (row_of sampled 1, row_of alteration 3) ∷ (row_of sampled 2, row_of alteration 1) ∷ [];
    firsts = Permᴰ.refl _;
    seconds = last-first _ _ _;
    related = (agrees-own _ _, (agrees-own _ _, (agrees_4, tt)));
  }),
)
