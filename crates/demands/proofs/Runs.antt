-- The misses and the run, over stored tables: never more than k, and never fewer in a longer run. Assumes nothing.
use Prim.Native.Nat.{ℕ, ◌≤◌}
use mathlib.Core.Path.{◌≡◌, refl, subst}
use mathlib.Core.Bool.{Bool, true, false}
use mathlib.Core.List.{List}
use mathlib.Core.Logic.{inl, inr}
use native.Mathlib.Omega.{arith}
use lib.Dec.{eqb}
use borrow.Author.Tests.{eqb-false}
use Rattle.search.specs.Choice.{◌when◌else◌}
use Rattle.table.specs.Bytes.{Bytes}
use Rattle.table.specs.Find.{row_of, find_of}
use Rattle.table.specs.Read.{by_verdict, read_table, table_of}
use Rattle.table.specs.declared.Row.{Row}
use Rattle.table.specs.Refusal.{Verdict}
use Rattle.std.specs.declared.result.Result.TheVariants.{Ok, Err}
use Rattle.table.specs.declared.refusal.Refusal.TheVariants.{NoChain}
use Rattle.table.proofs.Finds.{find_le}
use Rattle.arrivals.specs.Arrivals.{δ}
use Rattle.segments.specs.View.{View}
use Rattle.windows.specs.Demand.{views_of, others}
use Rattle.windows.proofs.Besides.{others-good}
use Rattle.misses.specs.Overloads.{Overload}
use Rattle.misses.specs.Bad.{Test, by_windows}
use Rattle.misses.specs.Misses.{Answer, overloads_of, tested_at, tested_in, tested_of, misses_at, misses_of}
use Rattle.misses.proofs.Runs.{Within, NoMore, good-lists, beside-within, beside-rises}
use Rattle.report_text.specs.Report.{miss_run, missed_text}
use Rattle.demands.specs.Misses.{LastColumn}
use Rattle.demands.proofs.Chains.{table-good}

-- the asked chain of a table, if there is one, the views of the others, and the overload chains among them
module _ (s : List ℕ) (id : ℕ) where
  abbrev chain : ℕ
  chain = find_of (table_of s) id

  abbrev b : Row
  b = row_of (table_of s) chain

  abbrev views : List View
  views = views_of (table_of s) chain

  abbrev os : List Overload
  os = overloads_of (table_of s) chain

  absent : Bool
  absent = eqb chain (table_of s).count

  -- never more than the run
  pub answer-within : (test : Test) (k : ℕ) → Within k (tested_of δ test s id k)
  unfolding tested_of tested_in tested_at ◌when◌else◌ absent
  answer-within test k = by (read_table s).verdict absent
    where
      by : (v : Verdict) (t : Bool) → Within k (by_verdict Err v (Err NoChain when t else tested_at δ test (table_of s) chain k))
      by (Ok u) true = tt
      by (Ok u) false = beside-within test b views os k
      by (Err g) t = tt

  -- never fewer in a longer run
  answer-rises : Bytes s → (k long : ℕ) → k ≤ long → NoMore (misses_of s id k) (misses_of s id long)
  unfolding tested_of tested_in tested_at ◌when◌else◌ absent
  answer-rises bytes k long longer = by (read_table s).verdict refl absent refl
    where
      by : (v : Verdict) → (read_table s).verdict ≡ v → (t : Bool) → absent ≡ t → NoMore (by_verdict Err v (Err NoChain when t else misses_at (table_of s) chain k)) (by_verdict Err v (Err NoChain when t else misses_at (table_of s) chain long))
      by (Ok u) e true f = tt
      by (Ok u) e false f =
          beside-rises by_windows b views os ((table-good (record { bytes = bytes; accepted = e })).row chain (omega (arith, find_le (table_of s) id, eqb-false chain (table_of s).count f))) (good-lists b (others (table_of s) chain) (others-good (table_of s) (table-good (record { bytes = bytes; accepted = e })) chain)) k long longer
      by (Err g) e t f = tt

pub within_run : (s : List ℕ) (id k : ℕ) {n : ℕ} → misses_of s id k ≡ Ok n → n ≤ k
within_run s id k e = subst (Within k) e (answer-within s id by_windows k)

pub longer_run : (s : List ℕ) → Bytes s → (id : ℕ) {k long n r : ℕ} → k ≤ long → misses_of s id k ≡ Ok n → misses_of s id long ≡ Ok r → n ≤ r
longer_run s bytes id {k} {long} {n} {r} longer e f = subst (NoMore (Ok n)) f (subst (λ a. NoMore a (misses_of s id long)) e (answer-rises s id bytes k long longer))

-- the report's last column
pub last_column : (s : List ℕ) (id : ℕ) → LastColumn (missed_text (misses_of s id miss_run))
last_column s id = by (misses_of s id miss_run) (answer-within s id by_windows miss_run)
  where
    by : (a : Answer) → Within miss_run a → LastColumn (missed_text a)
    by (Ok n) h = inl (n, h, refl)
    by (Err n) h = inr (n, refl)
