-- What the code finds of rows by their values. The laws say that it is what the reader finds of their bytes.
use Rattle.std.specs.Prelude.{ℕ, ◌+◌, ◌*◌, ◌<◌, ◌≤◌, ◌≡◌, List, [], ◌∷◌, Bool, false, not, ◌||◌, length, get_or, take, replicate, eqb, ltb, ⊤, Ok, Err}
use Rattle.std.specs.declared.result.Result.{Result}
use Rattle.search.specs.Choice.{◌when◌else◌}
use Rattle.search.specs.Find.{first}
use Rattle.table.specs.Limits.{max_chains, max_tasks, max_all_tasks, max_distances, max_deadline, max_gap, max_cost}
use Rattle.table.specs.Record.{largest_form, distances, largests}
use Rattle.table.specs.Fault.{outside, distances_fault, short_fault}
use Rattle.table.specs.Place.{length_of}
use Rattle.table.specs.Read.{refused_by}
use Rattle.table.specs.Refusal.{answering}
use Rattle.table.specs.declared.Row.{Row}
use Rattle.table.specs.declared.refusal.Refusal.{Refusal}
use Rattle.table.specs.declared.refusal.Refusal.TheVariants.{BadMark, BadId, BadKind, BadDeadline, BadGap, BadTaskCount, BadTask, BadChainCount, BadListLength, BadLargest}
use Rattle.writing.specs.Rows.{is_form, gap_of, flag_of, Typed}
use Rattle.writing.specs.declared.judged.Tally.{Tally}

-- why something is refused, if it is
abbrev pub Refused : Type 0
Refused = Result ⊤ Refusal

-- the first of two refusals; what follows the first may be an answer
abbrev pub first_refusal : {A : Type 0} → Refused → Result A Refusal → Result A Refusal
first_refusal (Ok u) a = a
first_refusal (Err n) a = Err n

-- The first fault of a row

-- what stands for the form before the first row: no row has it
abbrev pub no_form : ℕ
no_form = 65536

-- the form is not that of the rows before; the first row's may be either
unfoldable pub form_wrong : ℕ → ℕ → Bool
form_wrong before form = not (is_form form) when eqb before no_form else not (eqb form before)

-- one of the ids is this one
unfoldable pub bears : List ℕ → ℕ → Bool
bears [] id = false
bears (n ∷ ids) id = eqb n id || bears ids id

-- the id is 0 or one of the ids; the kind, the overload mark
unfoldable pub identity_refusal : List ℕ → ℕ → ℕ → ℕ → Refused
identity_refusal ids id kind overload =
    Err BadId when eqb id 0 || bears ids id else
    Err BadKind when ltb 1 kind else
    Err BadKind when ltb 1 overload else
    Ok tt

unfoldable pub times_refusal : ℕ → ℕ → Refused
times_refusal deadline gap = Err BadDeadline when outside 1 max_deadline deadline else Err BadGap when ltb max_gap gap else Ok tt

-- the counts, after so many tasks
unfoldable pub counts_refusal : ℕ → ℕ → ℕ → Refused
counts_refusal before listed tasks =
    Err BadListLength when outside 1 max_distances listed else
    Err BadTaskCount when outside 1 max_tasks tasks || ltb max_all_tasks (before + tasks) else
    Ok tt

unfoldable pub list_refusal : ℕ → List ℕ → Refused
list_refusal gap ds = refused_by (distances_fault gap ds 0 0)

-- the flag, and the largest distances beside the smallest
unfoldable pub largest_refusal : Row → Refused
largest_refusal r = Err BadLargest when ltb 1 (flag_of r.form r.flag) else refused_by (short_fault 0 (distances r) (largests r) 0)

-- task i has a wrong value; one of n tasks has
abbrev pub task_wrong : List ℕ → List ℕ → ℕ → Bool
task_wrong priority cost i = eqb (get_or priority i 0) 0 || outside 1 max_cost (get_or cost i 0)

unfoldable pub tasks_refusal : List ℕ → List ℕ → ℕ → Refused
tasks_refusal priority cost n = Err BadTask when ltb (first (task_wrong priority cost) 0 n) n else Ok tt

-- of a row's lists and tasks, and of all of it but its form, after those judged
unfoldable pub lists_refusal : Row → Refused
lists_refusal r =
    first_refusal (list_refusal (gap_of r.form r.gap) (distances r))
    (first_refusal (largest_refusal r)
    (tasks_refusal r.priority r.cost r.tasks))

unfoldable pub row_refusal : Tally → Row → Refused
row_refusal j r =
    first_refusal (identity_refusal j.ids r.id r.kind r.overload)
    (first_refusal (times_refusal r.deadline (gap_of r.form r.gap))
    (first_refusal (counts_refusal j.tasks r.listed r.tasks)
    (lists_refusal r)))

-- Rows one after the other

-- nothing judged yet
abbrev pub unjudged : Tally
unjudged = record { form = no_form; count = 0; tasks = 0; bytes = 0; ids = replicate max_chains 0 }

-- one good row more, its id the first; 16 ids have places, so none is lost
abbrev pub counted : Tally → Row → Tally
counted j r =
    record {
      form = r.form;
      count = j.count + 1;
      tasks = j.tasks + r.tasks;
      bytes = j.bytes + length_of r;
      ids = r.id ∷ take 15 j.ids;
    }

-- what is known of good rows, or why rows are refused
abbrev pub Judgement : Type 0
Judgement = Result Tally Refusal

-- with one row more: a wrong form is 3, a 17th row 11
unfoldable pub judged_with : Tally → Row → Judgement
judged_with j r =
    Err BadMark when form_wrong j.form r.form else
    Err BadChainCount when eqb j.count max_chains else
    answering (row_refusal j r) (counted j r)

-- the first fault decides
unfoldable pub judged_all : Judgement → List Row → Judgement
judged_all (Err n) rs = Err n
judged_all (Ok j) [] = Ok j
judged_all (Ok j) (r ∷ rs) = judged_all (judged_with j r) rs

-- why the rows are refused, if they are: 11 where there is none
abbrev pub refusal_of : Judgement → Refused
refusal_of (Ok j) = Err BadChainCount when eqb j.count 0 else Ok tt
refusal_of (Err n) = Err n

-- each row up to the first fault has its fields' widths
unfoldable pub Fits : Judgement → List Row → Type 0
Fits (Err n) rs = ⊤
Fits (Ok j) [] = ⊤
Fits (Ok j) (r ∷ rs) = Typed r × Fits (judged_with j r) rs

-- what is judged stays within the limits: a record has at most 77 bytes beside its tasks, one with a gap 48
pub record Small (j : Tally) : Type 0 where
  pub count : j.count ≤ max_chains
  pub tasks : j.tasks ≤ max_all_tasks
  pub bytes : j.bytes ≤ 77 * j.count + 8 * j.tasks
  pub gap_bytes_holds : (j.form ≡ largest_form → ⊥) → j.bytes ≤ 48 * j.count + 8 * j.tasks
  pub places : length j.ids ≡ max_chains

-- there is room for one row more
pub record CountedRoom (j : Tally) (r : Row) : Type 0 where
  pub count : j.count < max_chains
  pub tasks : j.tasks ≤ max_all_tasks
  pub bytes : j.bytes ≤ 4096
  pub of_listed : r.listed ≤ max_distances
  pub of_tasks : r.tasks ≤ max_tasks
  pub places : length j.ids ≡ max_chains

-- what is known of good rows is
abbrev pub SmallIn : Judgement → Type 0
SmallIn (Ok j) = Small j
SmallIn (Err n) = ⊤

-- v is what was judged with the row
pub record JudgedWith (j : Tally) (r : Row) (v : Judgement) : Type 0 where
  pub fits : Typed r
  pub small : SmallIn v
  pub is : v ≡ judged_with j r

-- so many rows are looked at: a 17th decides
abbrev pub most_judged : ℕ
most_judged = max_chains + 1

-- v is what was judged of the rows
pub record JudgedRows (rs : List Row) (v : Judgement) : Type 0 where
  pub fits : Fits (Ok unjudged) (take most_judged rs)
  pub small : SmallIn v
  pub is : v ≡ judged_all (Ok unjudged) (take most_judged rs)
