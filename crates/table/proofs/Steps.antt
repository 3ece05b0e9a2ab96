-- Laws of `records`: what the record at a place does. Assumes nothing.
use Prim.Native.Nat.{ℕ, zero, suc, ◌+◌, ◌-◌, ◌<◌, ◌≤◌}
use native.Mathlib.Omega.{arith}
use mathlib.Core.Path.{◌≡◌, refl, ◌∙◌}
use mathlib.Core.List.{List}
use mathlib.Core.Bool.{true, false, ◌||◌}
use lib.ListN.{length}
use lib.Dec.{ltb, eqb}
use borrow.Author.Tests.{lt-ltb, le-ltb}
use Rattle.search.specs.Choice.{◌when◌else◌}
use Rattle.table.specs.Limits.{max_chains}
use Rattle.table.specs.Bytes.{word}
use Rattle.table.specs.Record.{form_at, row_at, length_at}
use Rattle.table.specs.Fault.{mark_of, beside_fault, end_fault}
use Rattle.table.specs.Read.{empty, plus, refusal, accepted, unless, by_mark, start, records, limit_of, read_table}
use Rattle.table.specs.declared.Table.{Table}
use Rattle.table.specs.declared.Mark.{Mark}
use Rattle.table.specs.declared.Mark.TheVariants.{Chain, Task, End, Unknown}
use Rattle.std.specs.declared.result.Result.TheVariants.{Ok, Err}
use Rattle.table.specs.declared.refusal.Refusal.TheVariants.{BadLength, BytesMissing, BadChainCount}
use Rattle.table.specs.declared.refusal.Refusal.{Refusal}
use Rattle.table.proofs.Firsts.{unless-none}

-- the length is judged first
pub read-long : (s : List ℕ) → (eqb (length s) 0 || ltb (limit_of (word 2 s 0)) (length s)) ≡ true → read_table s ≡ refusal BadLength 0
unfolding read_table ◌when◌else◌
read-long s e = rw e

pub read-on : (s : List ℕ) → (eqb (length s) 0 || ltb (limit_of (word 2 s 0)) (length s)) ≡ false → read_table s ≡ records max_chains s 0 empty
unfolding read_table ◌when◌else◌
read-on s e = rw e

module _ (s : List ℕ) (at : ℕ) (t : Table) where
  pub records-short : (left : ℕ) → length s < at + 2 → records left s at t ≡ refusal BytesMissing (length s)
  unfolding records start ◌when◌else◌
  records-short zero h = rw (lt-ltb _ _ h)
  records-short (suc left) h = rw (lt-ltb _ _ h)

  module _ (there : at + 2 ≤ length s) where
    -- where the mark leads does not depend on the room, but for a chain
    pub records-mark : (left : ℕ) (m : Mark) → mark_of (word 2 s at) ≡ m → (m ≡ Chain → ⊥)
        → records left s at t ≡ by_mark at m (refusal BadChainCount at) (unless refusal (end_fault s at t) (accepted t))
    unfolding records start ◌when◌else◌
    records-mark left Chain e h = absurd (h refl)
    records-mark zero Task e h = rw (le-ltb _ _ there, e)
    records-mark (suc left) Task e h = rw (le-ltb _ _ there, e)
    records-mark zero End e h = rw (le-ltb _ _ there, e)
    records-mark (suc left) End e h = rw (le-ltb _ _ there, e)
    records-mark zero Unknown e h = rw (le-ltb _ _ there, e)
    records-mark (suc left) Unknown e h = rw (le-ltb _ _ there, e)

    module _ (chain : mark_of (word 2 s at) ≡ Chain) where
      pub records-refused : (left : ℕ) {n : Refusal} {place : ℕ} → beside_fault s at (form_at s 0) t ≡ Err (n, place) → records left s at t ≡ refusal n place
      unfolding records start unless ◌when◌else◌
      records-refused zero h = rw (le-ltb _ _ there, chain, h)
      records-refused (suc left) h = rw (le-ltb _ _ there, chain, h)

      pub records-chain : t.count < max_chains
          → records (max_chains - t.count) s at t ≡ unless refusal (beside_fault s at (form_at s 0) t) (records (max_chains - (t.count + 1)) s (at + length_at s at) (plus t (row_at s at)))
      unfolding records start ◌when◌else◌
      records-chain l =
          let e : max_chains - t.count ≡ suc (max_chains - (t.count + 1)) = omega arith in
          rw (e, le-ltb _ _ there, chain)

      pub records-beside : beside_fault s at (form_at s 0) t ≡ Ok tt → t.count < max_chains
          → records (max_chains - t.count) s at t ≡ records (max_chains - (t.count + 1)) s (at + length_at s at) (plus t (row_at s at))
      records-beside h l = records-chain l ∙ unless-none refusal (beside_fault s at (form_at s 0) t) _ h
