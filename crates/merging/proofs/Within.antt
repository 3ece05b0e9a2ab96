-- What an accepted merge has used is within its buffer. Assumes nothing.
use Prim.Native.Nat.{ℕ, zero, suc, ◌≤◌}
use native.Mathlib.Omega.{arith}
use mathlib.Core.Path.{◌≡◌, refl, sym, ap, subst, ◌∙◌}
use mathlib.Core.List.{List, ◌++◌}
use lib.Dec.{ltb}
use lib.ListN.{length, drop, length-append}
use Rattle.std.specs.Prelude.{is_ok}
use Rattle.search.specs.Choice.{by_number}
use Rattle.search.proofs.Choice.{when_yes, when_cases}
use Rattle.table.specs.Read.{unless, read_table}
use Rattle.table.specs.Refusal.{Verdict}
use Rattle.table.specs.declared.refusal.Refusal.{Refusal}
use Rattle.std.specs.declared.result.Result.TheVariants.{Ok, Err}
use Rattle.merging.specs.Versions.{Versions}
use Rattle.merging.specs.Rule.{conflict_above}
use Rattle.merging.specs.Merge.{Answer, of_ancestor, of_first, of_second, of_merged, result_of, fitted, merged_of, Merges}
use Rattle.merging.specs.declared.Unmerged.TheVariants.{Conflict}

-- an answer that uses so many bytes, or refuses
abbrev UsesOnly : ℕ → Answer → Type 0
UsesOnly m (Ok n) = n ≡ m
UsesOnly m (Err e) = Unit

-- after a verdict, and after a number
module _ (m : ℕ) (rest : Answer) (uses : UsesOnly m rest) where
  unless-uses : (refuse : Refusal → ℕ → Answer) → ((n : Refusal) (place : ℕ) → UsesOnly m (refuse n place)) → (v : Verdict) → UsesOnly m (unless refuse v rest)
  unfolding unless
  unless-uses refuse h (Ok u) = uses
  unless-uses refuse h (Err f) = h f.0 f.1

  conflict-uses : (id : ℕ) → UsesOnly m (by_number (λ i. Err (Conflict i)) id rest)
  unfolding by_number
  conflict-uses zero = uses
  conflict-uses (suc id) = tt

fitted-uses : (room : ℕ) (result : List ℕ) → UsesOnly (length result) (fitted room result)
unfolding fitted
fitted-uses room result =
    when_cases (UsesOnly (length result)) (ltb room (length result)) (λ e. tt)
    (λ e. unless-uses (length result) (Ok (length result)) refl of_merged (λ n place. tt) (read_table result).verdict)

merged-uses : (room : ℕ) (v : Versions) → UsesOnly (length (result_of v)) (merged_of room v)
unfolding merged_of
merged-uses room v =
    let m = length (result_of v) in
    unless-uses m _ (unless-uses m _ (unless-uses m _ (conflict-uses m _ (fitted-uses room (result_of v)) (conflict_above v 0))
    of_second (λ n place. tt) (read_table v.second).verdict)
    of_first (λ n place. tt) (read_table v.first).verdict)
    of_ancestor (λ n place. tt) (read_table v.ancestor).verdict

-- so many bytes as the result has, which the buffer holds
module _ {v : Versions} {buffer after : List ℕ} {answer : Answer} (merges : Merges v buffer answer after) (n : ℕ) (e : answer ≡ Ok n) where
  pub used-length : n ≡ length (result_of v)
  used-length = subst (UsesOnly (length (result_of v))) (sym merges.answers ∙ e) (merged-uses (length buffer) v)

  pub used-within : n ≤ length after
  used-within =
      let result = result_of v in
      let left : after ≡ result ++ drop (length result) buffer = merges.leaves ∙ when_yes _ _ (ap is_ok e) in
      omega (arith, used-length, ap length left, length-append result (drop (length result) buffer))
