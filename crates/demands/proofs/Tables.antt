-- The tables of the starred cases and the witnesses as they are read: their bytes are bytes, and their rows are these. Assumes nothing.
use Prim.Native.Nat.{ℕ, zero, suc}
use mathlib.Core.Path.{◌≡◌, refl, ap}
use mathlib.Core.Bool.{Bool, true, ◌&&◌}
use mathlib.Core.List.{List, [], ◌∷◌, map}
use native.Mathlib.Omega.{arith}
use lib.Dec.{ltb}
use lib.ListN.{length, replicate}
use borrow.Author.Tests.{ltb-true}
use Rattle.search.specs.Choice.{◌when◌else◌}
use Rattle.search.specs.Find.{first}
use Rattle.search.proofs.Choice.{both_true}
use Rattle.table.specs.Limits.{max_distances, max_tasks}
use Rattle.table.specs.Bytes.{word, Bytes}
use Rattle.table.specs.Record.{gap_form, gap_at, flag_at, gap_width, known, spaced, pad, row_at, blank}
use Rattle.table.specs.Find.{find_of}
use Rattle.table.specs.Fault.{◌then◌, mark_of, identity_fault, times_fault, counts_fault, head_fault, fall_fault, last_fault, gap_short, gap_fault, distances_fault, list_fault, short_fault, largest_fault, task_mark_fault, values_fault, task_rest_fault, task_fault, tasks_fault, chain_fault, beside_fault, end_fault}
use Rattle.table.specs.Read.{Reading, accepted, unless, start, records, limit_of, read_table}
use Rattle.table.specs.declared.Row.{Row}
use Rattle.table.specs.declared.Table.{Table}
use Rattle.demands.specs.Chains.{IsTable}
use Rattle.demands.specs.Sieve.{twice}
use Rattle.demands.specs.Starred.{sample, edge, past}
use Rattle.demands.specs.Witness.{altered}

-- a chain of these distances, and of tasks as priority and cost
abbrev pub chain : ℕ → ℕ → ℕ → ℕ → ℕ → List ℕ → List (ℕ × ℕ) → Row
chain id kind overload deadline gap ds ts = record {
  form = gap_form;
  id = id;
  kind = kind;
  overload = overload;
  flag = 0;
  deadline = deadline;
  gap = gap;
  listed = length ds;
  tasks = length ts;
  list = pad max_distances ds;
  largest = replicate max_distances 0;
  priority = pad max_tasks (map (λ p. p.0) ts);
  cost = pad max_tasks (map (λ p. p.1) ts);
}

-- each number is a byte
pub small : List ℕ → Bool
small [] = true
small (a ∷ l) = ltb a 256 && small l

small_bytes : (l : List ℕ) → small l ≡ true → Bytes l
unfolding small
small_bytes [] e k = omega arith
small_bytes (a ∷ l) e zero = ltb-true a 256 (both_true (ltb a 256) (small l) e).0
small_bytes (a ∷ l) e (suc k) = small_bytes l (both_true (ltb a 256) (small l) e).1 k

-- the bytes are read as the table
pub record Reads (s : List ℕ) (t : Table) : Type 0 where
  pub are : small s ≡ true
  pub reads : read_table s ≡ accepted t

pub read_table_lem : {s : List ℕ} {t : Table} → Reads s t → IsTable s
read_table_lem {s} a = record { bytes = small_bytes s a.are; accepted = ap (λ (r : Reading). r.verdict) a.reads }

-- the sample, 'At the edge' and one tick more, the witness beside the sample, and the table on which the sieve differs
unfoldable pub sampled : Table
sampled = record {
  count = 4;
  tasks = 7;
  row =
      chain 1 0 0 40 100 (100 ∷ []) ((5, 10) ∷ (3, 10) ∷ [])
      ∷ chain 2 0 0 100 50 (50 ∷ []) ((9, 5) ∷ [])
      ∷ chain 3 1 1 500 0 (1000 ∷ []) ((8, 6) ∷ (1, 4) ∷ (7, 10) ∷ [])
      ∷ chain 4 0 1 300 0 (1000 ∷ []) ((6, 12) ∷ [])
      ∷ replicate 12 blank;
}

abbrev edge_chain : Row
edge_chain = chain 1 0 0 10000000 0 (10000000 ∷ []) (replicate 10 (5, 1000000))

unfoldable pub edge_table : Table
edge_table = record { count = 1; tasks = 10; row = edge_chain ∷ replicate 15 blank }

unfoldable pub past_table : Table
past_table = record { count = 2; tasks = 11; row = edge_chain ∷ chain 2 0 0 1 0 (10000000 ∷ []) ((9, 1) ∷ []) ∷ replicate 14 blank }

unfoldable pub alteration : Table
alteration = record {
  count = 4;
  tasks = 8;
  row =
      chain 4 0 1 300 0 (1000 ∷ []) ((6, 12) ∷ [])
      ∷ chain 7 1 1 600 2000 (1000 ∷ []) ((8, 3) ∷ (8, 3) ∷ (1, 4) ∷ (7, 10) ∷ [])
      ∷ chain 1 0 0 40 100 (100 ∷ []) ((5, 10) ∷ (3, 10) ∷ [])
      ∷ chain 2 0 0 100 50 (50 ∷ []) ((9, 5) ∷ [])
      ∷ replicate 12 blank;
}

unfoldable pub twice_table : Table
twice_table = record {
  count = 3;
  tasks = 4;
  row =
      chain 1 0 0 10 100 (100 ∷ []) ((5, 2) ∷ [])
      ∷ chain 2 0 0 100 0 (8 ∷ []) ((9, 5) ∷ [])
      ∷ chain 3 1 1 100 0 (1000 ∷ []) ((8, 1) ∷ (1, 1) ∷ [])
      ∷ replicate 13 blank;
}

pub sample-reads : Reads sample sampled
unfolding small sample sampled read_table limit_of records start unless beside_fault gap_at flag_at gap_width known chain_fault head_fault identity_fault times_fault counts_fault list_fault distances_fault fall_fault last_fault gap_fault gap_short largest_fault short_fault tasks_fault task_fault task_mark_fault task_rest_fault values_fault end_fault ◌then◌ mark_of word spaced row_at find_of first ◌when◌else◌
sample-reads = record { are = refl; reads = refl }

pub edge-reads : Reads edge edge_table
unfolding small edge edge_table read_table limit_of records start unless beside_fault gap_at flag_at gap_width known chain_fault head_fault identity_fault times_fault counts_fault list_fault distances_fault fall_fault last_fault gap_fault gap_short largest_fault short_fault tasks_fault task_fault task_mark_fault task_rest_fault values_fault end_fault ◌then◌ mark_of word spaced row_at find_of first ◌when◌else◌
edge-reads = record { are = refl; reads = refl }

pub past-reads : Reads past past_table
unfolding small past past_table read_table limit_of records start unless beside_fault gap_at flag_at gap_width known chain_fault head_fault identity_fault times_fault counts_fault list_fault distances_fault fall_fault last_fault gap_fault gap_short largest_fault short_fault tasks_fault task_fault task_mark_fault task_rest_fault values_fault end_fault ◌then◌ mark_of word spaced row_at find_of first ◌when◌else◌
past-reads = record { are = refl; reads = refl }

pub altered-reads : Reads altered alteration
unfolding small altered alteration read_table limit_of records start unless beside_fault gap_at flag_at gap_width known chain_fault head_fault identity_fault times_fault counts_fault list_fault distances_fault fall_fault last_fault gap_fault gap_short largest_fault short_fault tasks_fault task_fault task_mark_fault task_rest_fault values_fault end_fault ◌then◌ mark_of word spaced row_at find_of first ◌when◌else◌
altered-reads = record { are = refl; reads = refl }

pub twice-reads : Reads twice twice_table
unfolding small twice twice_table read_table limit_of records start unless beside_fault gap_at flag_at gap_width known chain_fault head_fault identity_fault times_fault counts_fault list_fault distances_fault fall_fault last_fault gap_fault gap_short largest_fault short_fault tasks_fault task_fault task_mark_fault task_rest_fault values_fault end_fault ◌then◌ mark_of word spaced row_at find_of first ◌when◌else◌
twice-reads = record { are = refl; reads = refl }
