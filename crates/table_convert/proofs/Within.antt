-- What an accepted conversion has used is within its buffer. Assumes nothing.
use Prim.Native.Nat.{ℕ, ◌≤◌}
use native.Mathlib.Omega.{arith}
use mathlib.Core.Path.{◌≡◌, refl, sym, ap, subst, ◌∙◌}
use mathlib.Core.List.{List, ◌++◌}
use lib.ListN.{length, drop, length-append}
use Rattle.search.proofs.Choice.{when_yes, when_cases}
use Rattle.table.specs.Read.{by_verdict, read_table}
use Rattle.table.specs.declared.Row.{Row}
use Rattle.std.specs.declared.result.Result.TheVariants.{Ok, Err}
use Rattle.table.specs.Refusal.{Verdict}
use Rattle.writing.specs.Rows.{table_bytes}
use Rattle.writing.specs.Write.{Written, verdict_on, written_of, buffer_after}
use Rattle.converting.specs.Convert.{rows_in, converted_of, Converts}
use Rattle.converting.specs.declared.To.{To}

-- an answer that uses so many bytes, or refuses
abbrev UsesOnly : ℕ → Written → Type 0
UsesOnly m (Ok n) = n ≡ m
UsesOnly m (Err n) = Unit

-- after a verdict
verdict_uses : (m : ℕ) (rest : Written) → UsesOnly m rest → (v : Verdict) → UsesOnly m (by_verdict Err v rest)
verdict_uses m rest uses (Ok u) = uses
verdict_uses m rest uses (Err f) = tt

written-uses : (room : ℕ) (rs : List Row) → UsesOnly (length (table_bytes rs)) (written_of room rs)
unfolding written_of
written-uses room rs =
    let m = length (table_bytes rs) in
    verdict_uses m _ (when_cases (UsesOnly m) _ (λ e. tt) (λ e. refl)) (verdict_on rs)

converted-uses : (to : To) (room : ℕ) (s : List ℕ) → UsesOnly (length (table_bytes (rows_in to s))) (converted_of to room s)
unfolding converted_of
converted-uses to room s =
    let m = length (table_bytes (rows_in to s)) in
    verdict_uses m _ (when_cases (UsesOnly m) _ (λ e. tt) (λ e. written-uses room (rows_in to s))) (read_table s).verdict

-- so many bytes as the table has in the form asked, which the buffer holds
pub used-within : {to : To} {s buffer after : List ℕ} {answer : Written} → Converts to s buffer answer after → (n : ℕ) → answer ≡ Ok n → n ≤ length after
used-within {to} {s} {buffer} {after} {answer} converts n e =
    let made = table_bytes (rows_in to s) in
    let used : n ≡ length made = subst (UsesOnly (length made)) (sym converts.answers ∙ e) (converted-uses to (length buffer) s) in
    let left : after ≡ made ++ drop (length made) buffer = converts.leaves ∙ ap (λ (a : Written). buffer_after a (rows_in to s) buffer) e ∙ when_yes _ _ refl in
    omega (arith, used, ap length left, length-append made (drop (length made) buffer))
