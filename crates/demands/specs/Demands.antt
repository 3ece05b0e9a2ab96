-- What the customer demands: each demand is one record, its fields his sentences in his order and what his requests add, over definitions
-- that stand in the files imported here. proofs/Demands.antt closes each record by one theorem, `demand-1`, `demand-2`, `demand-3`.
use Rattle.std.specs.Prelude.{ℕ, ◌≤◌, ◌<◌, ◌≡◌, List, length, get_or, Ok, Err}
use Rattle.table.specs.Bytes.{Bytes}
use Rattle.table.specs.Record.{id_at, distances}
use Rattle.table.specs.Read.{read_table}
use Rattle.table.specs.Field.{Blames, Placed}
use Rattle.table.specs.Refusal.{numbered}
use Rattle.table.specs.declared.Part.{Part}
use Rattle.table.specs.declared.refusal.Refusal.{Refusal}
use Rattle.segments.specs.Query.{segment_of, part_of, TaskRecords}
use Rattle.windows.specs.Latency.{latency_of, Answer as Latency}
use Rattle.misses.specs.Misses.{misses_of, Answer as Missed}
use Rattle.saving.specs.Later.{State, stored, Edit, after}
use Rattle.report_text.specs.Numbers.{decimal, value_from}
use Rattle.report_text.specs.Report.{miss_run, missed_text}
use Rattle.editor.specs.Entry.{LatencyEntry, MissesEntry}
use Rattle.demands.specs.Chains.{Has, chain_of, others_of}
use Rattle.demands.specs.Entries.{EveryEntry, RefusalNumbers}
use Rattle.demands.specs.Saves.{AcceptedEdit, SeenRecords}
use Rattle.demands.specs.Merges.{MergeOfCopies}
use Rattle.demands.specs.Rows.{RowsAndTables}
use Rattle.demands.specs.Converts.{Conversions}
use Rattle.demands.specs.Salvages.{Salvaging}
use Rattle.demands.specs.Arrivals.{ArrivalRules, FormerRules, LargestRules}
use Rattle.demands.specs.Figures.{Exactly}
use Rattle.demands.specs.Misses.{MeansOf, SaysMissed, LastColumn, Right}
use Rattle.demands.specs.Sieve.{SecondWays}
use Rattle.demands.specs.Former.{NoneGrows}
use Rattle.demands.specs.Others.{Besides, SameBesides, Unmoved, Reordered, SameWork, RegroupedTasks, DeadlineOrLargest, SameCall}
use Rattle.demands.specs.Starred.{sample}
use Rattle.demands.specs.Witness.{altered}

pub record Demand1 : Type 0 where
  -- every entry takes every input without help from its caller: it is taken, or gets the one refusal the rules name, and a refused call
  -- changes no byte it was lent
  pub entries : EveryEntry
  -- a refusal is given by the number that the documents have for it
  pub numbers : RefusalNumbers
  -- a table's refusal says where the table broke (02, request 1): its place lies within the table, or is its length or 0; and there stands
  -- the field that the number names, which is wrong
  pub places : (s : List ℕ) {n : Refusal} {place : ℕ} → (read_table s).verdict ≡ Err (n, place) → Placed s (numbered n) place × Blames s (numbered n) place
  -- a save that starts from a record other than the stored one is refused; a record changed away and back counts as the one seen
  pub saves : SeenRecords
  -- a merge of two edited copies loses no edit of either, or is refused; the copies can be swapped (02, request 4)
  pub merges : MergeOfCopies
  -- a table is written from rows, and read into rows: what is written reads back, and writing what was read gives the same bytes (02,
  -- request 2)
  pub writes : RowsAndTables
  -- a table is converted to the other form: every figure stays, and back gives the old bytes (02, request 7)
  pub converts : Conversions
  -- a damaged table is salvaged: what is kept is an accepted table of its own records, and all that is skipped is told (02, request 8)
  pub salvages : Salvaging

-- every figure equals the published chain analysis as document 01 fixes it
pub record Demand2 : Type 0 where
  -- arrivals are those of distances that add up, and η(t) is the greatest n with δ(n) < t (02, request 9)
  pub arrivals : {s : List ℕ} {id : ℕ} → Has s id → ArrivalRules (distances (chain_of s id))
  -- the former δ, which stays for largest distances and for what is promised beside it
  pub former_rule : {s : List ℕ} {id : ℕ} → Has s id → FormerRules (distances (chain_of s id))
  -- the largest distance is (k − 1) times the gap, or the largest listed, which go on by that rule (02, request 7)
  pub largest : {s : List ℕ} {id : ℕ} → Has s id → LargestRules (chain_of s id)
  -- each window is the least solution of its demand equation up to the horizon, refused exactly when there is none; K, latency, late and
  -- margin are those of these windows
  pub windows : {s : List ℕ} {id : ℕ} → Has s id → MeansOf s id (latency_of s id)
  -- and no other answer is
  pub only : {s : List ℕ} {id : ℕ} → Has s id → (a : Latency) → MeansOf s id a → a ≡ latency_of s id
  -- the miss count is the smaller of k and the late activations per window times the greatest feasible packing of bad combinations; it is
  -- k where a deadline is missed without any overload (02, request 3)
  pub misses : {s : List ℕ} {id : ℕ} → Has s id → (k : ℕ) (a : Missed) → Exactly (misses_of s id k ≡ a) (SaysMissed (chain_of s id) (others_of s id) k a)
  -- so it never exceeds the run, nor 10 in the report's last column, and never falls as the run grows
  pub within_run : (s : List ℕ) (id k : ℕ) {n : ℕ} → misses_of s id k ≡ Ok n → n ≤ k
  pub last_column : (s : List ℕ) (id : ℕ) → LastColumn (missed_text (misses_of s id miss_run))
  pub longer_run : (s : List ℕ) → Bytes s → (id : ℕ) {k long n r : ℕ} → k ≤ long → misses_of s id k ≡ Ok n → misses_of s id long ≡ Ok r → n ≤ r
  -- and it comes out the same by the plain engine; the sieve is never below it, refused alike (02, request 6)
  pub second_ways : SecondWays
  -- distances add up: no figure is greater than by the rule that 01 had before, and none is lost (02, request 9)
  pub none_grows : NoneGrows
  -- the report prints a figure in decimal: the digits read back as the figure, and the first is no 0 but in 0 itself
  pub printed : (n : ℕ) → (value_from 0 (decimal n) ≡ n) × (0 < n → 48 < get_or (decimal n) 0 0)
  -- an active segment is handed back as the records of its tasks
  pub segment : (s : List ℕ) → Bytes s → (id against number : ℕ) (part : Part) → segment_of s id against number ≡ Ok part → TaskRecords s id against number (part_of s (Ok part))

pub record Demand3 : Type 0 where
  -- take two accepted tables with the same record for one chain, their other chains paired off one to one. If each pair agrees against
  -- that chain, then its latency and miss figures and refusals are the same in both, for every run length
  pub same : {s r : List ℕ} {id : ℕ} → SameBesides s r id → Unmoved s r id
  -- and are those of demand 2
  pub right : {s r : List ℕ} {id : ℕ} → SameBesides s r id → Right s id × Right r id
  -- row order moves nothing, for any id
  pub order : {s r : List ℕ} → Reordered s r → (id : ℕ) → Unmoved s r id
  -- nor do other chains' names, deadlines and largest gaps or distances
  pub names_deadlines_largest : {s r : List ℕ} {id : ℕ} → Besides SameWork s r id → Unmoved s r id
  -- nor, where the active-segment costs stay the same, how an active segment is split into tasks
  pub splits : {s r : List ℕ} {id : ℕ} → Besides (RegroupedTasks (chain_of s id)) s r id → Unmoved s r id
  -- so an accepted save that changes a record's deadline, gap or largest distances alone leaves every other id's answers
  pub saved : (x : State) (e : Edit) → AcceptedEdit x e → DeadlineOrLargest e.old e.new → (id : ℕ) → (id_at e.old 0 ≡ id → ⊥) → Unmoved (stored x) (stored (after x e)) id
  -- and two calls of the latency entry, or of the miss entry, with equally long answer buffers, are the same
  pub latency_calls : {s r : List ℕ} {id : ℕ} → Unmoved s r id → {before before' : List ℕ} → length before ≡ length before'
      → {after after' : List ℕ} {n m : ℕ} → LatencyEntry s id before after n → LatencyEntry r id before' after' m → SameCall 4 before after n before' after' m
  pub misses_calls : {s r : List ℕ} {id : ℕ} → Unmoved s r id → (k : ℕ) {before before' : List ℕ} → length before ≡ length before'
      → {after after' : List ℕ} {n m : ℕ} → MissesEntry s id k before after n → MissesEntry r id k before' after' m → SameCall 1 before after n before' after' m
  -- two different tables meet the hypothesis, for chains 1, 2 and 4 of the sample
  pub witness : (sample ≡ altered → ⊥) × SameBesides sample altered 1 × SameBesides sample altered 2 × SameBesides sample altered 4
