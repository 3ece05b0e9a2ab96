-- What a set costs, one active segment at a time. Assumes nothing.
use Prim.Native.Nat.{ℕ, ◌+◌, ◌*◌, ◌^◌, ◌≤◌, ◌<◌}
use mathlib.Core.Path.{◌≡◌, refl, ap, sym, ◌∙◌}
use mathlib.Core.Bool.{true, false, and-false}
use mathlib.Core.List.{List, ◌∷◌}
use native.Mathlib.Omega.{arith}
use lib.Dec.{ltb}
use lib.ListN.{length, get_or}
use borrow.Author.Tests.{lt-ltb, le-ltb}
use Rattle.search.specs.Lists.{sum_of, every}
use Rattle.search.proofs.Choice.{when_yes, when_no}
use Rattle.packing.specs.Packing.{bit}
use Rattle.misses.specs.Overloads.{Piece}
use Rattle.misses.specs.Sets.{members, agree, together, allowed, set_cost}
use Rattle.misses.specs.Code.Held.{piece_at, pieces_at, members_at, price_of}
use Rattle.segments.specs.Code.Held.{dearest}
use Rattle.misses.proofs.Bools.{and_right}
use Rattle.misses.proofs.Masks.{at_in, at_out, at-end, at-start, at_length}

-- the definitions of a set, one more at the front
module _ (p : Piece) (ps : List Piece) where
  pub cost-cons : set_cost (p ∷ ps) ≡ p.cost + set_cost ps
  unfolding sum_of
  cost-cons = refl

  pub together-yes : every (agree p) ps ≡ true → together (p ∷ ps) ≡ together ps
  unfolding together
  together-yes e = rw e

  pub together_no : every (agree p) ps ≡ false → together (p ∷ ps) ≡ false
  unfolding together
  together_no e = rw e

-- a mask has a bit past the last active segment's, or it has not
module _ (ps : List Piece) (m : ℕ) where
  pub allowed-below : m < 2 ^ length ps → allowed ps m ≡ together (members ps m)
  unfolding allowed
  allowed-below h = rw (lt-ltb m (2 ^ length ps) h)

  pub allowed-past : 2 ^ length ps ≤ m → allowed ps m ≡ false
  unfolding allowed
  allowed-past h = rw (le-ltb m (2 ^ length ps) h)

  pub allowed-apart : together (members ps m) ≡ false → allowed ps m ≡ false
  unfolding allowed
  allowed-apart e = rw e (and-false (ltb m (2 ^ length ps)))

  pub allowed-together : allowed ps m ≡ true → together (members ps m) ≡ true
  unfolding allowed
  allowed-together e = and_right (ltb m (2 ^ length ps)) (together (members ps m)) e

  pub price-allowed : allowed ps m ≡ true → price_of ps m ≡ set_cost (members ps m)
  unfolding price_of
  price-allowed e = when_yes _ _ e

  pub price-none : allowed ps m ≡ false → price_of ps m ≡ 0
  unfolding price_of
  price-none e = when_no _ _ e

module _ (chains segments costs : List ℕ) (n m : ℕ) where
  abbrev all : List Piece
  all = pieces_at chains segments costs n 0

  abbrev from : ℕ → List Piece
  from i = members_at chains segments costs n m i

  pub price-past : 2 ^ n ≤ m → price_of all m ≡ 0
  price-past h = price-none all m (allowed-past all m (rw (at_length chains segments costs n 0) h))

  -- the active segments up to i are gone through
  pub record Priced (sum i : ℕ) : Type 0 where
    pub inside : i ≤ n
    pub stand : together (from 0) ≡ together (from i)
    pub cost : set_cost (from 0) ≡ sum + set_cost (from i)
    pub fits : sum ≤ i * dearest

  pub priced_none : Priced 0 0
  priced_none = record { inside = omega arith; stand = refl; cost = omega arith; fits = omega arith }

  module _ (sum i : ℕ) (at : Priced sum i) (more : i < n) where
    pub priced_out : (bit i m ≡ 1 → ⊥) → Priced sum (i + 1)
    priced_out b =
        let e = at_out chains segments costs n m i more b in
        record { inside = omega arith; stand = at.stand ∙ ap together e; cost = omega (arith, at.cost, ap set_cost e); fits = omega (arith, at.fits) }

    pub priced_in : bit i m ≡ 1 → get_or costs i 0 ≤ dearest → true ≡ every (agree (piece_at chains segments costs i)) (from (i + 1)) → Priced (sum + get_or costs i 0) (i + 1)
    priced_in b d f =
        let e = at_in chains segments costs n m i more b in
        record {
          inside = omega arith;
          stand = at.stand ∙ ap together e ∙ together-yes _ _ (sym f);
          cost = omega (arith, at.cost, ap set_cost e, cost-cons (piece_at chains segments costs i) (from (i + 1)));
          fits = omega (arith, at.fits);
        }

    pub priced_never : bit i m ≡ 1 → false ≡ every (agree (piece_at chains segments costs i)) (from (i + 1)) → price_of all m ≡ 0
    priced_never b f =
        let e = at_in chains segments costs n m i more b in
        price-none all m (allowed-apart all m
        (ap together (sym (at-start chains segments costs n m)) ∙ at.stand ∙ ap together e ∙ together_no _ _ (sym f)))

  pub priced_all : (sum i : ℕ) → Priced sum i → n ≤ i → m < 2 ^ n → sum ≡ price_of all m
  unfolding together sum_of
  priced_all sum i at h l =
      let e = at-end chains segments costs n m i h in
      let s = sym (at-start chains segments costs n m) in
      let a : allowed all m ≡ true = allowed-below all m (rw (at_length chains segments costs n 0) l) ∙ ap together s ∙ at.stand ∙ ap together e in
      omega (arith, price-allowed all m a, ap set_cost s, at.cost, ap set_cost e)
