-- How often a kept combination is tried: the uses that come into question, fewer with each try that fails. Assumes nothing.
use Prim.Native.Nat.{ℕ, zero, suc, ◌+◌, ◌-◌, ◌*◌, ◌≤◌, ◌<◌, min}
use mathlib.Core.Path.{◌≡◌, refl, ap, subst}
use mathlib.Core.List.{List}
use mathlib.Core.Logic.{⊎_elim}
use native.Mathlib.Omega.{arith}
use native.Mathlib.Nat.{eq-or-lt_of_le, mul-le-mul_right}
use lib.Dec.{eqb}
use borrow.Author.Tests.{eq-eqb, ne_eqb}
use Rattle.search.specs.Choice.{◌when◌else◌}
use Rattle.search.proofs.Choice.{when_yes, when_no}
use Rattle.packing.specs.Packing.{bit, sum_to}
use Rattle.packing.specs.Code.Engine.{nth, Fitting, Packed, HasRoom, Ceiling, Choices}
use Rattle.packing.proofs.Sums.{sum_to_ext, sum_to-mono, sum_to-zero, sum_to-at}

-- no use always has room
pub none-fit : (kept : List ℕ) (n : ℕ) (room : ℕ → ℕ) → HasRoom kept n room 0
none-fit kept n room = record {
  uses = λ j. 0;
  packed = record { within = λ i l. omega (arith, sum_to-zero n (λ j. 0 * bit i (nth kept j)) (λ j s. omega arith)) };
  total = sum_to-zero n (λ j. 0) (λ j s. refl);
}

-- so what has no room is some use
pub some_fit : {kept : List ℕ} {n : ℕ} {room : ℕ → ℕ} (k : ℕ) → (HasRoom kept n room k → ⊥) → 0 < k
some_fit {kept} {n} {room} zero h = absurd (h (none-fit kept n room))
some_fit (suc k) h = omega arith

-- no combination has no use
pub empty-fit : {kept : List ℕ} {n k : ℕ} {room : ℕ → ℕ} → n ≡ 0 → HasRoom kept n room k → k ≡ 0
unfolding sum_to
empty-fit e g = let h = rw e at g in omega (arith, h.total)

-- the first uses of a packing, up to `most` in all
abbrev first_uses : ℕ → (ℕ → ℕ) → ℕ → ℕ
first_uses most u j = min (u j) (most - sum_to j u)

first-total : (most : ℕ) (u : ℕ → ℕ) (n : ℕ) → sum_to n (first_uses most u) ≡ min most (sum_to n u)
unfolding sum_to
first-total most u zero = omega arith
first-total most u (suc n) = omega (arith, first-total most u n)

-- so what has room has room with fewer uses
pub fewer-fit : {kept : List ℕ} {n k : ℕ} {room : ℕ → ℕ} (most : ℕ) → most ≤ k → HasRoom kept n room k → HasRoom kept n room most
fewer-fit {kept} {n} {k} {room} most l h = record {
  uses = first_uses most h.uses;
  packed = record {
    within = λ i s. omega (arith, h.packed.within i s, sum_to-mono n (λ j. first_uses most h.uses j * bit i (nth kept j)) (λ j. h.uses j * bit i (nth kept j)) (λ j t. mul-le-mul_right (bit i (nth kept j)) (fewer j)));
  };
  total = omega (arith, first-total most h.uses n, h.total);
}
  where
    fewer : (j : ℕ) → first_uses most h.uses j ≤ h.uses j
    fewer j = omega arith

-- no more than `limit`
pub ceiling-start : {kept : List ℕ} {n limit : ℕ} {room : ℕ → ℕ} → Ceiling kept n room limit limit
ceiling-start = record { few = omega arith; bound = λ k l h. l }

-- one use less
pub ceiling-fewer : {kept : List ℕ} {n r limit : ℕ} {room : ℕ → ℕ} → Ceiling kept n room limit r → (HasRoom kept n room r → ⊥)
    → Ceiling kept n room limit (r - 1)
ceiling-fewer {kept} {n} {r} {limit} {room} c none = record {
  few = omega (arith, c.few);
  bound = λ k l h. ⊎_elim (λ e. absurd (none (rw e at h))) (λ l. omega arith) (eq-or-lt_of_le (c.bound k l h));
}

module _ {m : ℕ} {room : ℕ → ℕ} {need : ℕ} where
  pub fitting_start : Fitting m room need 0 need
  fitting_start = record { few = omega arith; enough = λ i l. absurd (omega arith); most = λ y l h. l }

  -- one active segment more
  pub fitting_on : {i x r : ℕ} → Fitting m room need i x → r ≤ x → r * bit i m ≤ room i → ((y : ℕ) → y ≤ x → y * bit i m ≤ room i → y ≤ r) → Fitting m room need (i + 1) r
  fitting_on {i} {x} {r} f l h most = record {
    few = omega (arith, f.few);
    enough = λ j s. ⊎_elim
        (λ e. rw e h)
        (λ t. omega (arith, f.enough j t, mul-le-mul_right (bit j m) l))
        (eq-or-lt_of_le (let t : j ≤ i = omega arith in t));
    most = λ y a b. most y (f.most y a (λ j s. b j (omega arith))) (b i (omega arith));
  }

-- what a packing uses of a kept combination has room
own_room : {kept : List ℕ} {n : ℕ} {room : ℕ → ℕ} (j : ℕ) (u : ℕ → ℕ) → Packed kept n room u → j < n → (i : ℕ) → i < 6 → u j * bit i (nth kept j) ≤ room i
own_room {kept} {n} j u p s i l = omega (arith, p.within i l, sum_to-at n (λ x. u x * bit i (nth kept x)) j s)

module _ {kept : List ℕ} {last : ℕ} {room : ℕ → ℕ} {need : ℕ} where
  pub choices_start : {r : ℕ} → Fitting (nth kept last) room need 6 r → Choices kept last room need (r + 1)
  choices_start {r} f = record {
    few = omega (arith, f.few);
    enough = λ y s i l. let h : y ≤ r = omega arith in omega (arith, f.enough i l, mul-le-mul_right (bit i (nth kept last)) h);
    fewer = λ u p t. omega (arith, f.most (u last) (omega (arith, t, sum_to-at (suc last) u last (omega arith))) (own_room last u p (omega arith)));
  }

  -- fewer come into question
  pub choices_less : {x r : ℕ} → r ≤ x → ((u : ℕ → ℕ) → Packed kept (suc last) room u → sum_to (suc last) u ≡ need → u last < r)
      → Choices kept last room need x → Choices kept last room need r
  choices_less l h c = record { few = omega (arith, c.few); enough = λ y s. c.enough y (omega arith); fewer = h }

  -- x - 1 uses were tried, and there is no room for the rest: r is one less at most
  pub choices_tried : {x r : ℕ} (left : ℕ → ℕ) → r ≤ x → x ≤ r + 1 → ((i : ℕ) → i < 6 → left i ≡ room i - (x - 1) * bit i (nth kept last))
      → (HasRoom kept last left (need - (x - 1)) → ⊥) → Choices kept last room need x → Choices kept last room need r
  unfolding sum_to
  choices_tried {x} {r} left less one e none c = choices_less less
      (λ u p t. ⊎_elim
      (λ q. absurd (none record {
        uses = u;
        packed = record { within = λ i l. omega (arith, p.within i l, e i l, ap (λ z. z * bit i (nth kept last)) q) };
        total = omega (arith, t);
      }))
      (λ q. omega arith)
      (eq-or-lt_of_le (let h : u last ≤ x - 1 = omega (arith, c.fewer u p t) in h)))
      c

  -- nothing is left
  pub choices_end : {n x : ℕ} → n ≡ suc last → x ≤ 0 → Choices kept last room need x → HasRoom kept n room need → ⊥
  choices_end e l c g = let h = rw e at g in omega (arith, c.fewer h.uses h.packed h.total)

  -- there is room for the rest
  pub choices_found : {n : ℕ} (y : ℕ) (left : ℕ → ℕ) → n ≡ suc last → y ≤ need → ((i : ℕ) → i < 6 → y * bit i (nth kept last) ≤ room i)
      → ((i : ℕ) → i < 6 → left i ≡ room i - y * bit i (nth kept last)) → HasRoom kept last left (need - y) → HasRoom kept n room need
  unfolding sum_to
  choices_found y left size few enough e h =
      rw size record {
        uses = uses;
        packed = record {
          within = λ i l. omega (arith, h.packed.within i l, e i l, enough i l, ap (λ z. z * bit i (nth kept last)) at_last, rest i);
        };
        total = omega (arith, h.total, at_last, sum_to_ext last uses h.uses before);
      }
    where
      uses : ℕ → ℕ
      uses j = y when eqb last j else h.uses j

      at_last : uses last ≡ y
      at_last = when_yes y (h.uses last) (eq-eqb last last refl)

      before : (j : ℕ) → j < last → uses j ≡ h.uses j
      before j s = when_no y (h.uses j) (ne_eqb last j (λ q. omega arith))

      rest : (i : ℕ) → sum_to last (λ j. uses j * bit i (nth kept j)) ≡ sum_to last (λ j. h.uses j * bit i (nth kept j))
      rest i = sum_to_ext last _ _ (λ j s. ap (λ z. z * bit i (nth kept j)) (before j s))

-- some uses were tried, of the combinations from n on: whatever has room beside them, of the first n in what is left, has room with them
pub record Tried (kept : List ℕ) (count : ℕ) (room : ℕ → ℕ) (n : ℕ) (left : ℕ → ℕ) (found : ℕ) : Type 0 where
  pub rest : (more : ℕ) → HasRoom kept n left more → HasRoom kept count room (found + more)

module _ {kept : List ℕ} {count : ℕ} {room : ℕ → ℕ} where
  pub tried_start : Tried kept count room count room 0
  tried_start = record { rest = λ more h. subst (HasRoom kept count room) (omega arith) h }

  -- x uses of the one before
  pub tried_on : {n last found x need : ℕ} {left next : ℕ → ℕ} → n ≡ suc last → Fitting (nth kept last) left need 6 x
      → ((i : ℕ) → i < 6 → next i ≡ left i - x * bit i (nth kept last)) → Tried kept count room n left found → Tried kept count room last next (found + x)
  tried_on {n} {last} {found} {x} {need} {left} {next} size fit e t = record {
    rest = λ more h.
        let one : HasRoom kept n left (x + more) = choices_found x next size (omega arith) fit.enough e (subst (HasRoom kept last next) (omega arith) h) in
        subst (HasRoom kept count room) (omega arith) (t.rest (x + more) one);
  }

  pub tried_end : {n found : ℕ} {left : ℕ → ℕ} → Tried kept count room n left found → HasRoom kept count room found
  tried_end {n} {found} {left} t = subst (HasRoom kept count room) (omega arith) (t.rest 0 (none-fit kept n left))
