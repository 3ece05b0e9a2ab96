-- Request 6 of document 02: the miss count a second way, and the sieve beside it.
use Rattle.std.specs.Prelude.{ℕ, ◌≤◌, ◌≡◌, List, [], ◌∷◌, Ok, Err}
use Rattle.table.specs.Bytes.{Bytes}
use Rattle.table.specs.declared.refusal.Refusal.{Refusal}
use Rattle.misses.specs.Misses.{Answer, misses_of}
use Rattle.misses.specs.Sieve.{at_most_of, as_sieved}
use Rattle.misses.specs.declared.AtMost.{AtMost}
use Rattle.editor.specs.Entry.{MissesEntry, PlainEntry}
use Rattle.demands.specs.Chains.{Has, chain_of, others_of}
use Rattle.demands.specs.Figures.{Exactly}
use Rattle.demands.specs.Misses.{IsBad, IsCalled, Figured, SaysAtMost}

-- a table on which the two differ: chain 1 takes 2 of its deadline 10; chain 2 comes every 8 and takes 5, so that it comes twice before the
-- deadline, though chain 1 ends at 7 where no overload is; the overload chain 3 counts twice in the full analysis, 14 in all, and once in a
-- combination, 8 in all
unfoldable pub twice : List ℕ
twice =
    67 ∷ 72 ∷ 1 ∷ 0 ∷ 0 ∷ 0 ∷ 10 ∷ 0 ∷ 0 ∷ 0 ∷ 100 ∷ 0 ∷ 0 ∷ 0 ∷ 1 ∷ 1 ∷ 100 ∷ 0 ∷ 0 ∷ 0 ∷
    84 ∷ 75 ∷ 5 ∷ 0 ∷ 2 ∷ 0 ∷ 0 ∷ 0 ∷
    67 ∷ 72 ∷ 2 ∷ 0 ∷ 0 ∷ 0 ∷ 100 ∷ 0 ∷ 0 ∷ 0 ∷ 0 ∷ 0 ∷ 0 ∷ 0 ∷ 1 ∷ 1 ∷ 8 ∷ 0 ∷ 0 ∷ 0 ∷
    84 ∷ 75 ∷ 9 ∷ 0 ∷ 5 ∷ 0 ∷ 0 ∷ 0 ∷
    67 ∷ 72 ∷ 3 ∷ 0 ∷ 1 ∷ 1 ∷ 100 ∷ 0 ∷ 0 ∷ 0 ∷ 0 ∷ 0 ∷ 0 ∷ 0 ∷ 1 ∷ 2 ∷ 232 ∷ 3 ∷ 0 ∷ 0 ∷
    84 ∷ 75 ∷ 8 ∷ 0 ∷ 1 ∷ 0 ∷ 0 ∷ 0 ∷
    84 ∷ 75 ∷ 1 ∷ 0 ∷ 1 ∷ 0 ∷ 0 ∷ 0 ∷
    69 ∷ 78 ∷ 3 ∷ 0 ∷ []

pub record SecondWays : Type 0 where
  -- the two engines' answers are equal for all bytes, ids and k: the calls of their entries return the same and leave the same bytes
  pub engines : (s : List ℕ) (id k : ℕ) {before after after' : List ℕ} {n m : ℕ} → MissesEntry s id k before after n → PlainEntry s id k before after' m
      → (after ≡ after') × (n ≡ m)
  -- the sieve's answer is the miss query's, with the combinations that it calls bad in the place of the bad ones
  pub at_most : {s : List ℕ} {id : ℕ} → Has s id → (k : ℕ) (a : Answer) → Exactly (at_most_of s id k ≡ as_sieved a) (SaysAtMost (chain_of s id) (others_of s id) k a)
  -- what is bad is called bad
  pub calls : {s : List ℕ} {id : ℕ} → Has s id → {k : ℕ} (f : Figured (chain_of s id) (others_of s id) k) (m : ℕ)
      → IsBad (chain_of s id) (others_of s id) f.close m → IsCalled (chain_of s id) (others_of s id) f.close m
  -- so where both answer, the miss count is no greater
  pub never_below : (s : List ℕ) → Bytes s → (id k : ℕ) {n : ℕ} {r : AtMost} → misses_of s id k ≡ Ok n → at_most_of s id k ≡ Ok r → n ≤ r.most
  -- the refusals are the same
  pub refusals : (s : List ℕ) → Bytes s → (id k : ℕ) (n : Refusal) → Exactly (misses_of s id k ≡ Err n) (at_most_of s id k ≡ Err n)
  -- and it never exceeds the run
  pub within_run : (s : List ℕ) (id k : ℕ) {r : AtMost} → at_most_of s id k ≡ Ok r → r.most ≤ k
  -- on some table they differ: none is missed in a run of 1, and the sieve says at most 1
  pub differ : (misses_of twice 1 1 ≡ Ok 0) × (at_most_of twice 1 1 ≡ Ok (record { most = 1 }))
