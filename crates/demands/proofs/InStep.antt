-- Two accepted tables whose rows are in step, each row of the one made from that of the other and bearing its id. Assumes nothing.
use Prim.Native.Nat.{ℕ}
use mathlib.Core.Path.{◌≡◌, ap, sym, ◌∙◌}
use mathlib.Core.Bool.{Bool, not}
use mathlib.Core.List.{List, [], ◌∷◌, map}
use mathlib.Core.Logic.{⊎_elim}
use native.Mathlib.Omega.{arith}
use lib.Dec.{eqb}
use lib.ListN.{length, get_or}
use Rattle.search.specs.Lists.{All, keep}
use Rattle.search.proofs.Keeping.{keep-map}
use Rattle.table.specs.Record.{blank}
use Rattle.table.specs.Find.{rows}
use Rattle.table.specs.Read.{table_of}
use Rattle.table.specs.declared.Row.{Row}
use Rattle.demands.specs.Chains.{IsTable, Has, chain_number, chain_of, others_of}
use Rattle.demands.proofs.Chains.{bears, absent_or_there, none-bears, one-bears, others-bear}

module _ {s r : List ℕ} (one : IsTable s) (two : IsTable r) (f : Row → Row) (ids : (a : Row) → (f a).id ≡ a.id)
    (step : rows (table_of r) ≡ map f (rows (table_of s))) (id : ℕ) where
  alike : (l : List Row) (p : Bool → Bool) → All (λ a. p (bears id (f a)) ≡ p (bears id a)) l
  alike [] p = tt
  alike (a ∷ l) p = (ap (λ n. p (eqb n id)) (ids a), alike l p)

  kept : (p : Bool → Bool) → keep (λ a. p (bears id a)) (rows (table_of r)) ≡ map f (keep (λ a. p (bears id a)) (rows (table_of s)))
  kept p = ap (keep (λ a. p (bears id a))) step ∙ keep-map f (λ a. p (bears id a)) (λ a. p (bears id a)) (rows (table_of s)) (alike (rows (table_of s)) p)

  -- the id is in both or in neither
  pub step-none : chain_number s id ≡ (table_of s).count → chain_number r id ≡ (table_of r).count
  step-none e = ⊎_elim (λ n. n)
      (λ there. absurd (let z = sym (one-bears two id there) ∙ kept (λ b. b) ∙ ap (map f) (none-bears one id e) in omega (arith, ap length z)))
      (absent_or_there two id)

  module _ (h : Has s id) where
    pub step-has : Has r id
    step-has = record {
      table = two;
      there = ⊎_elim
          (λ e. absurd (let z = sym (none-bears two id e) ∙ kept (λ b. b) ∙ ap (map f) (one-bears one id h.there) in omega (arith, ap length z)))
          (λ there. there) (absent_or_there two id);
    }

    pub step-chain : chain_of r id ≡ f (chain_of s id)
    step-chain = ap (λ (l : List Row). get_or l 0 blank) (sym (one-bears two id step-has.there) ∙ kept (λ b. b) ∙ ap (map f) (one-bears one id h.there))

    pub step-others : others_of r id ≡ map f (others_of s id)
    step-others = sym (others-bear two id step-has.there) ∙ kept not ∙ ap (map f) (others-bear one id h.there)
