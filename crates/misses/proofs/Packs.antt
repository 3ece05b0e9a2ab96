-- The flags that the packing goes by: a set is bad exactly where its price is, once the empty set is not. Assumes nothing.
use Prim.Native.Nat.{ℕ, zero, suc, ◌+◌, ◌*◌, ◌≤◌, ◌<◌}
use mathlib.Core.Path.{◌≡◌, refl, ap, sym, ◌∙◌}
use mathlib.Core.Bool.{Bool, true, false, ◌&&◌}
use mathlib.Core.List.{List, [], ◌∷◌}
use native.Mathlib.Omega.{arith}
use lib.Dec.{eqb}
use lib.ListN.{length, get_or}
use lib.Pow.{pow_pos}
use Rattle.search.specs.Choice.{◌when◌else◌}
use Rattle.search.specs.Lists.{sum_of}
use Rattle.search.proofs.Choice.{when_cases}
use Rattle.table.specs.Limits.{max_overloads}
use Rattle.packing.specs.Packing.{combinations}
use Rattle.packing.specs.Most.{flagged}
use Rattle.misses.specs.Overloads.{Piece}
use Rattle.misses.specs.Sets.{members, together, allowed, set_cost}
use Rattle.misses.specs.Bad.{bad}
use Rattle.misses.specs.Code.Held.{pieces_at, price_of}
use Rattle.segments.specs.Code.Held.{dearest}
use Rattle.misses.specs.Code.Settling.{beyond}
use Rattle.misses.proofs.Prices.{allowed-below, price-allowed, price-none}
use Rattle.misses.proofs.Covers.{members-sum}

-- no set costs more than six chains can
at-near : (chains segments costs : List ℕ) → ((i : ℕ) → get_or costs i 0 ≤ dearest) → (n i : ℕ) → set_cost (pieces_at chains segments costs n i) ≤ n * dearest
unfolding pieces_at sum_of
at-near chains segments costs cheap zero i = omega arith
at-near chains segments costs cheap (suc n) i = omega (arith, cheap i, at-near chains segments costs cheap n (i + 1))

price-near : (ps : List Piece) (m : ℕ) → price_of ps m ≤ set_cost ps
unfolding price_of
price-near ps m = when_cases (λ n. n ≤ set_cost ps) (allowed ps m) (λ e. members-sum (λ p. p.cost) ps m) (λ e. omega arith)

pub price-within : (chains segments costs : List ℕ) (n m : ℕ) → ((i : ℕ) → get_or costs i 0 ≤ dearest) → n ≤ max_overloads → price_of (pieces_at chains segments costs n 0) m < beyond
price-within chains segments costs n m cheap few =
    omega (arith, price-near (pieces_at chains segments costs n 0) m, at-near chains segments costs cheap n 0)

-- the empty set is a combination, and costs nothing
members-none : (ps : List Piece) → members ps 0 ≡ []
unfolding members ◌when◌else◌
members-none [] = refl
members-none (p ∷ ps) = members-none ps

-- a flag is 1 where its test holds
flag-tells : (b : Bool) → eqb (1 when b else 0) 1 ≡ b
unfolding ◌when◌else◌
flag-tells true = refl
flag-tells false = refl

module _ (over : ℕ → Bool) (ps : List Piece) where
  pub bad-none : bad over ps 0 ≡ over 0
  unfolding bad together sum_of
  bad-none =
      let e = members-none ps in
      let a : allowed ps 0 ≡ true = allowed-below ps 0 (pow_pos (length ps)) ∙ ap together e in
      rw (a, e)

  module _ (fine : over 0 ≡ false) where
    -- a set that is no combination has the price 0, which is not bad
    pub bad-price : (m : ℕ) → bad over ps m ≡ over (price_of ps m)
    unfolding bad
    bad-price m = go (allowed ps m) refl
      where
        go : (b : Bool) → allowed ps m ≡ b → (allowed ps m && over (set_cost (members ps m))) ≡ over (price_of ps m)
        go true e = rw e (ap over (sym (price-allowed ps m e)))
        go false e = rw e (sym fine ∙ ap over (sym (price-none ps m e)))

-- flags that tell which costs are bad
pub flags_tell : (flags : List ℕ) (costly : ℕ → Bool) → ((m : ℕ) → m < combinations → get_or flags m 0 ≡ (1 when costly m else 0)) → (m : ℕ) → m < combinations → flagged flags m ≡ costly m
flags_tell flags costly given m h = ap (λ x. eqb x 1) (given m h) ∙ flag-tells (costly m)
