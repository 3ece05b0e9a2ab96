-- The rows of a table, decoded one after the other, and what a reading can be. Assumes nothing.
use Prim.Native.Nat.{ℕ, zero, suc, ◌+◌, ◌*◌, ◌≤◌, ◌<◌}
use native.Mathlib.Omega.{arith}
use native.Mathlib.Numerals.{add-one}
use mathlib.Core.Path.{◌≡◌, refl, ap, ap₂, sym, ◌∙◌}
use mathlib.Core.List.{List}
use mathlib.Core.Bool.{◌||◌}
use mathlib.Core.Logic.{⊎_elim}
use borrow.Author.Count.{below_more}
use lib.ListN.{length, take, length-set, length-replicate, get_or-replicate}
use lib.Dec.{eqb, ltb}
use lib.Seq.{ext_get_or, get_or-set_same, get_or-set_other, take-suc}
use Rattle.search.specs.Lists.{sum_of}
use Rattle.search.proofs.Choice.{when_cases, lt_or_le}
use Rattle.search.proofs.Lists.{sum_append}
use Rattle.table.specs.Limits.{max_chains, max_tasks}
use Rattle.table.specs.Bytes.{word}
use Rattle.table.specs.Record.{blank, form_at, length_at, row_at}
use Rattle.table.specs.Find.{row_of}
use Rattle.table.specs.Fault.{mark_of, beside_fault, end_fault}
use Rattle.table.specs.Read.{empty, plus, refusal, accepted, unless, by_mark, start, records, limit_of, read_table}
use Rattle.table.specs.Code.Good.{GoodTable}
use Rattle.table.specs.declared.Row.{Row}
use Rattle.table.specs.declared.Table.{Table}
use Rattle.table.specs.declared.Mark.{Mark}
use Rattle.table.specs.declared.Mark.TheVariants.{Chain, Task, End, Unknown}
use Rattle.table.specs.Refusal.{Verdict}
use Rattle.std.specs.declared.result.Result.TheVariants.{Ok, Err}
use Rattle.table.specs.declared.refusal.Refusal.TheVariants.{BadLength, BytesMissing, BadMark, BadChainCount}
use Rattle.table.specs.declared.refusal.Refusal.{Refusal}
use Rattle.table.specs.Read.{Reading}
use Rattle.table.proofs.Firsts.{not-accepted}

-- t has the first rows of all, and blank ones after them
pub record Decoded (all t : Table) : Type 0 where
  pub few : t.count ≤ all.count
  pub size : length t.row ≡ max_chains
  pub total : t.tasks ≡ sum_of (λ r. r.tasks) (take t.count all.row)
  pub small : t.tasks ≤ max_tasks * t.count
  pub row : (chain : ℕ) → chain < t.count → row_of t chain ≡ row_of all chain
  pub rest : (chain : ℕ) → t.count ≤ chain → chain < max_chains → row_of t chain ≡ blank

module _ {all : Table} (good : GoodTable all) where
  pub decoded_none : Decoded all empty
  unfolding sum_of
  decoded_none = record {
    few = omega arith;
    size = length-replicate max_chains blank;
    total = refl;
    small = omega arith;
    row = λ chain h. absurd (omega (arith, h));
    rest = λ chain h l. get_or-replicate max_chains chain blank blank l;
  }

  module _ {t : Table} (d : Decoded all t) where
    -- one row more
    pub decoded_on : t.count < all.count → (r : Row) → r ≡ row_of all t.count → Decoded all (plus t r)
    unfolding sum_of
    decoded_on h r e =
        let few : r.tasks ≤ max_tasks = omega (arith, ap (λ (x : Row). x.tasks) e, (good.row t.count h).tasks.few) in
        let sums : sum_of (λ r. r.tasks) (take (t.count + 1) all.row) ≡ sum_of (λ r. r.tasks) (take t.count all.row) + (row_of all t.count).tasks =
        rw (add-one, take-suc all.row t.count blank (omega (arith, good.few, good.size)), sum_append (λ (x : Row). x.tasks)) (omega arith) in
        record {
          few = omega arith;
          size = length-set t.row t.count r ∙ d.size;
          total = omega (arith, d.total, sums, ap (λ (x : Row). x.tasks) e);
          small = omega (arith, d.small, few);
          row = below_more (λ chain. row_of (plus t r) chain ≡ row_of all chain) t.count
              (λ chain l. get_or-set_other t.row t.count chain r blank (λ q. omega (arith, l, q)) ∙ d.row chain l)
              (get_or-set_same t.row t.count r blank (omega (arith, d.size, good.few)) ∙ e);
          rest = λ chain l m. get_or-set_other t.row t.count chain r blank (λ q. omega (arith, l, q)) ∙ d.rest chain (omega (arith, l)) m;
        }

    -- all of them
    pub decoded_all : t.count ≡ all.count → t ≡ all
    decoded_all e =
        let rows : t.row ≡ all.row = ext_get_or blank t.row all.row (d.size ∙ sym good.size)
        (λ chain h. ⊎_elim (λ l. d.row chain l) (λ l. d.rest chain l (omega (arith, h, d.size)) ∙ sym (good.past chain (omega (arith, l)) (omega (arith, h, d.size)))) (lt_or_le chain t.count)) in
        let tasks : t.tasks ≡ all.tasks = d.total ∙ ap (λ n. sum_of (λ r. r.tasks) (take n all.row)) e ∙ sym good.tasks in
        ap (λ n. record { count = n; tasks = t.tasks; row = t.row }) e ∙ ap₂ (λ n l. record { count = all.count; tasks = n; row = l }) tasks rows

-- what a reading can be: the empty table with a refusal, or a table that is accepted
module _ (P : Reading → Type 0) (faulty : (n : Refusal) (place : ℕ) → P (refusal n place)) (right : (t : Table) → P (accepted t)) where
  unless-is : (v : Verdict) (r : Reading) → P r → P (unless refusal v r)
  unfolding unless
  unless-is (Ok u) r p = p
  unless-is (Err f) r p = faulty f.0 f.1

  mark-is : (at : ℕ) (m : Mark) (chain end : Reading) → P chain → P end → P (by_mark at m chain end)
  mark-is at Chain chain end p q = p
  mark-is at Task chain end p q = faulty BadMark at
  mark-is at End chain end p q = q
  mark-is at Unknown chain end p q = faulty BadMark at

  start_is : (s : List ℕ) (at : ℕ) (t : Table) (next : Reading) → P next → P (start s at t next)
  unfolding start
  start_is s at t next p =
      when_cases P (ltb (length s) (at + 2)) (λ e. faulty BytesMissing (length s))
      (λ e. mark-is at (mark_of (word 2 s at)) (unless refusal (beside_fault s at (form_at s 0) t) next) (unless refusal (end_fault s at t) (accepted t))
      (unless-is (beside_fault s at (form_at s 0) t) next p) (unless-is (end_fault s at t) (accepted t) (right t)))

  records_is : (left : ℕ) (s : List ℕ) (at : ℕ) (t : Table) → P (records left s at t)
  unfolding records
  records_is zero s at t = start_is s at t (refusal BadChainCount at) (faulty BadChainCount at)
  records_is (suc left) s at t = start_is s at t _ (records_is left s (at + length_at s at) (plus t (row_at s at)))

  pub reading_is : (s : List ℕ) → P (read_table s)
  unfolding read_table
  reading_is s = when_cases P (eqb (length s) 0 || ltb (limit_of (word 2 s 0)) (length s)) (λ e. faulty BadLength 0) (λ e. records_is max_chains s 0 empty)

pub refused_reading : (s : List ℕ) (n : Refusal) (place : ℕ) → (read_table s).verdict ≡ Err (n, place) → read_table s ≡ refusal n place
refused_reading s n place =
    reading_is (λ r. r.verdict ≡ Err (n, place) → r ≡ refusal n place) (λ m at e. ap (λ (v : Verdict). record { verdict = v; table = empty }) e)
    (λ t e. absurd (not-accepted (sym e))) s
