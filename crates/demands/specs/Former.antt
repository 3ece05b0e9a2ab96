-- Request 9 of document 02, distances that add up: beside what the rule for δ that 01 had before gives, no figure grows, and none is lost.
use Rattle.std.specs.Prelude.{ℕ, ◌≤◌, ◌≡◌, List, ◌≤ℤ◌, Ok}
use Rattle.table.specs.Bytes.{Bytes}
use Rattle.arrivals.specs.Arrivals.{repeated}
use Rattle.windows.specs.Latency.{Answer, latency_by, latency_of}
use Rattle.windows.specs.declared.Figures.{Figures}
use Rattle.misses.specs.Misses.{misses_by, misses_of}

-- two answers of the latency query, both figures: in the first K, latency and late are no greater, and the margin is no smaller
pub data NoGreater : Answer → Answer → Type 0 where
  figures : {f g : Figures} → f.close ≤ g.close → f.latency ≤ g.latency → f.late ≤ g.late → g.margin ≤ℤ f.margin → NoGreater (Ok f) (Ok g)

-- where the former rule gives figures, or a number of misses, so does δ, and none of them is greater: a refusal may become a figure, never the
-- reverse
pub record NoneGrows : Type 0 where
  pub latency : (s : List ℕ) → Bytes s → (id : ℕ) {f : Figures} → latency_by repeated s id ≡ Ok f → NoGreater (latency_of s id) (Ok f)
  pub misses : (s : List ℕ) → Bytes s → (id k : ℕ) {n : ℕ} → misses_by repeated s id k ≡ Ok n → (r : ℕ) × (misses_of s id k ≡ Ok r) × (r ≤ n)
