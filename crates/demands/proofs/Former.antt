-- By δ no figure is greater than by the rule that 01 had before, and none is lost: the two analyses of one chain compared. Assumes nothing.
use Prim.Native.Nat.{ℕ, ◌≤◌}
use mathlib.Core.Path.{◌≡◌, refl, ap, sym, subst, ◌∙◌}
use mathlib.Core.List.{List}
use mathlib.Core.Logic.{⊎_elim}
use native.Mathlib.Omega.{arith}
use native.Mathlib.Nat.{le_refl}
use Rattle.table.specs.Bytes.{Bytes}
use Rattle.table.specs.Read.{read_table, table_of}
use Rattle.table.specs.declared.Row.{Row}
use Rattle.table.specs.Refusal.{Verdict}
use Rattle.std.specs.declared.result.Result.{Result}
use Rattle.std.specs.declared.result.Result.TheVariants.{Ok, Err}
use Rattle.table.specs.declared.refusal.Refusal.{Refusal}
use Rattle.arrivals.specs.Arrivals.{repeated, δ}
use Rattle.arrivals.proofs.Distances.{δ_slower}
use Rattle.segments.specs.View.{View}
use Rattle.windows.specs.Demand.{views_of}
use Rattle.windows.specs.Latency.{figures_of, bound_of, latency_by, latency_of}
use Rattle.windows.specs.declared.Figures.{Figures}
use Rattle.windows.specs.declared.Windows.{Windows}
use Rattle.windows.proofs.Besides.{others-good, others-paced}
use Rattle.windows.proofs.Easing.{Relieved, slower_relieved, bound-less}
use Rattle.windows.proofs.Answers.{latency-refused}
use Rattle.misses.specs.Bad.{windows_by}
use Rattle.misses.specs.Misses.{misses_by, misses_of}
use Rattle.misses.proofs.Answers.{tested-refused}
use Rattle.misses.proofs.Runs.{good-lists}
use Rattle.misses.proofs.Relief.{Spared, rarer_same, beside-less}
use Rattle.demands.specs.Chains.{IsTable, Has, chain_number, chain_of, others_of}
use Rattle.demands.specs.Misses.{marked}
use Rattle.demands.specs.Former.{NoGreater, NoneGrows}
use Rattle.demands.proofs.Chains.{table-good, latency-is, tested-are, latency-absent, tested-absent, absent_or_there}
use Rattle.demands.proofs.Equation.{viewed}

-- of a chain of an accepted table
module _ {s : List ℕ} {id : ℕ} (h : Has s id) where
  abbrev b : Row
  b = chain_of s id

  abbrev views : List View
  views = viewed b (others_of s id)

  relieved : Relieved δ repeated b b views views
  unfolding views_of
  relieved =
      let good = table-good h.table in
      slower_relieved δ_slower b views (good.row (chain_number s id) h.there) (others-paced (table_of s) good (chain_number s id))

  -- figures are those of some windows
  windows-are : (r : Result Windows Refusal) {f : Figures} → figures_of r ≡ Ok f → (w : Windows) × (r ≡ Ok w) × (w.figures ≡ f)
  windows-are (Ok w) e = (w, refl, cc)
  windows-are (Err n) e = let z : ◌≡◌ {A = ℕ} 0 1 = cc in absurd (omega arith)

  figures-less : {f : Figures} → latency_by repeated s id ≡ Ok f → NoGreater (latency_of s id) (Ok f)
  figures-less {f} e =
      let x = windows-are (bound_of repeated b views) (sym (latency-is h repeated) ∙ e) in
      let w = bound-less relieved x.1 in
      subst (λ a. NoGreater a (Ok f)) (sym (latency-is h δ ∙ ap figures_of w.is))
      (subst (λ g. NoGreater (Ok w.found.figures) (Ok g)) x.2 (NoGreater.figures w.close_less w.latency_less w.late_less w.margin_more))

  misses-less : (k : ℕ) {n : ℕ} → misses_by repeated s id k ≡ Ok n → (r : ℕ) × (misses_of s id k ≡ Ok r) × (r ≤ n)
  misses-less k {n} e =
      let lists = good-lists b (others_of s id) (others-good (table_of s) (table-good h.table) (chain_number s id)) in
      let r = beside-less k relieved (rarer_same δ_slower (marked b (others_of s id)) lists) refl (le_refl _) in
      let m = subst (Spared _) (sym (tested-are h repeated (windows_by repeated) k) ∙ e) r in
      (m.0, tested-are h δ (windows_by δ) k ∙ m.1, m.2)

-- bytes are refused, have no chain with the id, or have it
cases : {A : Type 0} (s : List ℕ) → Bytes s → (id : ℕ) → ((n : Refusal) (place : ℕ) → (read_table s).verdict ≡ Err (n, place) → A) → ((t : IsTable s) → chain_number s id ≡ (table_of s).count → A)
    → (Has s id → A) → A
cases {A} s bytes id refused absent there = by (read_table s).verdict refl
  where
    by : (v : Verdict) → (read_table s).verdict ≡ v → A
    by (Ok u) e = let t : IsTable s = record { bytes = bytes; accepted = e } in ⊎_elim (absent t) (λ h. there (record { table = t; there = h })) (absent_or_there t id)
    by (Err f) e = refused f.0 f.1 e

-- where the former rule answers, it is the last
pub none_grows : NoneGrows
none_grows = record {
  latency = λ s bytes id e. cases s bytes id
      (λ n place f. absurd (let g = latency-refused repeated s id f in let z : ◌≡◌ {A = ℕ} 0 1 = cc in omega arith))
      (λ t n. absurd (let g = latency-absent t id n repeated in let z : ◌≡◌ {A = ℕ} 0 1 = cc in omega arith))
      (λ h. figures-less h e);
  misses = λ s bytes id k e. cases s bytes id
      (λ n place f. absurd (let g = tested-refused repeated (windows_by repeated) s id k f in let z : ◌≡◌ {A = ℕ} 0 1 = cc in omega arith))
      (λ t n. absurd (let g = tested-absent t id n repeated (windows_by repeated) k in let z : ◌≡◌ {A = ℕ} 0 1 = cc in omega arith))
      (λ h. misses-less h k e);
}
