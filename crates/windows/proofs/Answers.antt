-- What the latency query answers, case by case. Assumes nothing.
use Prim.Native.Nat.{ℕ}
use mathlib.Core.Path.{◌≡◌, ap, ap₂, fun_ext}
use mathlib.Core.List.{List}
use borrow.Author.Tests.{eq-eqb, ne_eqb}
use Rattle.search.proofs.Choice.{when_yes, when_no}
use Rattle.table.specs.Record.{distances}
use Rattle.table.specs.Find.{find_of}
use Rattle.table.specs.Read.{by_verdict, read_table}
use Rattle.table.specs.declared.Row.{Row}
use Rattle.table.specs.declared.Table.{Table}
use Rattle.std.specs.declared.result.Result.TheVariants.{Ok, Err}
use Rattle.table.specs.declared.refusal.Refusal.{Refusal}
use Rattle.table.specs.declared.refusal.Refusal.TheVariants.{NoChain}
use Rattle.arrivals.specs.Arrivals.{Rule, δ}
use Rattle.segments.specs.View.{View}
use Rattle.windows.specs.Latency.{windows_of, figures_of, bound_of, bound_at, latency_in, latency_by}
use Rattle.windows.specs.Code.Load.{Load, windows_in, Loads}

-- a load of b gives b's figures
pub loads_bound : {b : Row} {vs : List View} {l : Load} → Loads b vs l → windows_in l ≡ bound_of δ b vs
unfolding bound_of
loads_bound {l = l} a =
    ap₂ (λ d (r : Row). windows_of d (δ (distances r)) r.deadline) (fun_ext (λ q. fun_ext (λ t. a.demand q t))) a.chain

module _ (rule : Rule) (t : Table) (id : ℕ) where
  pub chain-none : find_of t id ≡ t.count → latency_in rule t id ≡ Err NoChain
  unfolding latency_in
  chain-none e = when_yes _ _ (eq-eqb _ _ e)

  pub chain-found : (find_of t id ≡ t.count → ⊥) → latency_in rule t id ≡ figures_of (bound_at rule t (find_of t id))
  unfolding latency_in
  chain-found h = when_no _ _ (ne_eqb _ _ h)

module _ (rule : Rule) (s : List ℕ) (id : ℕ) where
  pub latency-refused : {n : Refusal} {place : ℕ} → (read_table s).verdict ≡ Err (n, place) → latency_by rule s id ≡ Err n
  unfolding latency_by
  latency-refused e = ap (λ v. by_verdict Err v (latency_in rule (read_table s).table id)) e

  pub latency-accepted : (read_table s).verdict ≡ Ok tt → latency_by rule s id ≡ latency_in rule (read_table s).table id
  unfolding latency_by
  latency-accepted e = ap (λ v. by_verdict Err v (latency_in rule (read_table s).table id)) e
