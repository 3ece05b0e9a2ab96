-- The sufficient test of document 000, section V.C (02, request 6): demand is worked out once, where an activation is due, and no window is
-- looked for.
use Rattle.std.specs.Prelude.{ℕ, ◌+◌, Bool, ltb}
use Rattle.search.specs.Lists.{some}
use Rattle.windows.specs.Latency.{up_to}

-- when the activation q is due: δ(q) + deadline, which may lie above the horizon
abbrev pub due : (ℕ → ℕ) → ℕ → ℕ → ℕ
due distance deadline q = distance q + deadline

-- for some q ≤ K, which is `close`, the demand at the t where q is due is above t
abbrev pub any_above : (ℕ → ℕ → ℕ) → (ℕ → ℕ) → ℕ → ℕ → Bool
any_above demand distance deadline close = some (λ q. ltb (due distance deadline q) (demand q (due distance deadline q))) (up_to close)
