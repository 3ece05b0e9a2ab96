-- The next packing: what is known while digits go back to 0, when one is raised, and where none can be. Assumes nothing.
use Prim.Native.Nat.{ℕ, ◌+◌, ◌*◌, ◌≤◌, ◌<◌, max}
use mathlib.Core.Path.{◌≡◌, refl, sym, ap, subst, ◌∙◌}
use mathlib.Core.Bool.{Bool, true, false}
use mathlib.Core.Logic.{◌⊎◌, inl, inr, ⊎_elim}
use native.Mathlib.Omega.{arith}
use native.Mathlib.Nat.{eq-or-lt_of_le, mul-le-mul_right}
use Rattle.search.proofs.Choice.{true-not-false, lt_or_le}
use Rattle.packing.specs.Packing.{bit, sum_to, usable, Packing, Reached, IsMost}
use Rattle.packing.specs.Most.{most_uses}
use Rattle.packing.proofs.Sums.{sum_to_ext, sum_to-mono, sum_to-at, sum_to-zero}
use Rattle.packing.proofs.Bits.{some-bit}
use Rattle.packing.proofs.Linear.{usable-some}
use Rattle.packing.proofs.Laws.{usable-bad, bad-usable}
use Rattle.packing.proofs.Most.{most-is, reached-room}
use Rattle.odometer.specs.declared.Odometer.{Odometer}
use Rattle.odometer.specs.Code.Gone.{uses_of, left_of, Before, Gone}
use Rattle.odometer.specs.Code.Steps.{Fits, Raisable, Resettable, Changed}
use Rattle.odometer.proofs.Digits.{sum-above, sum_change}

-- whoever has gone through all has found the most uses
pub gone-most : {bad : ℕ → Bool} {room : ℕ → ℕ} {o : Odometer} → Gone bad room o → o.over ≡ true → o.most ≡ most_uses bad room
gone-most {bad} {room} g e = sym (most-is bad room (g.all e))

-- the empty combination has no use
none-empty : {bad : ℕ → Bool} {room v : ℕ → ℕ} → Packing bad room v → v 0 ≡ 0
none-empty {bad} {v = v} p = ⊎_elim (λ l. absurd (omega (arith, usable-some bad 0 (p.only 0 (omega arith) l)))) (λ l. omega arith) (lt_or_le 0 (v 0))

-- nothing is used, and nothing comes before that
pub gone-start : (bad : ℕ → Bool) (o : Odometer) → ((i : ℕ) → left_of o i ≤ 255) → ((m : ℕ) → m < 64 → uses_of o m ≡ 0) → o.total ≡ 0 → o.most ≡ 0 → o.over ≡ false
    → Gone bad (left_of o) o
gone-start bad o small none t k e =
    let room : (i : ℕ) → i < 6 → sum_to 64 (λ m. uses_of o m * bit i m) ≡ 0 = λ i l. sum_to-zero 64 (λ m. uses_of o m * bit i m) (λ m s. rw (none m s) (omega arith)) in
    let total : sum_to 64 (uses_of o) ≡ 0 = sum_to-zero 64 (uses_of o) none in
    let packing : Packing bad (left_of o) (uses_of o) = record { only = λ m l s. absurd (omega (arith, none m l)); within = λ i l. omega (arith, room i l) } in
    record {
      bytes = λ i l. small i;
      packing = packing;
      leaves = λ i l. omega (arith, room i l);
      total = total ∙ sym t;
      reached = record { uses = uses_of o; packing = packing; total = total ∙ sym k };
      own = omega arith;
      passed = λ v p b. absurd (omega (arith, b.fewer, none b.at b.there));
      all = λ q. absurd (true-not-false q e);
    }

-- the digits below m are 0, and every packing that has the same digits from m on has been gone through
pub record Turning (bad : ℕ → Bool) (room : ℕ → ℕ) (m : ℕ) (o : Odometer) : Type 0 where
  pub gone : Gone bad room o
  pub none : (x : ℕ) → x < m → uses_of o x ≡ 0
  pub behind : (v : ℕ → ℕ) → Packing bad room v → ((x : ℕ) → m ≤ x → x < 64 → v x ≡ uses_of o x) → sum_to 64 v ≤ o.most

-- the first turn is that of combination 1: the empty one has no use in any packing
pub turning_start : {bad : ℕ → Bool} {m : ℕ} {o : Odometer} → m ≤ 1 → (room : ℕ → ℕ) → Gone bad room o → Turning bad room m o
turning_start {bad} {m} {o} first room g = record {
  gone = g;
  none = λ x l. let e : x ≡ 0 = omega arith in ap (uses_of o) e ∙ none-empty g.packing;
  behind = λ v p h. omega (arith, g.total, g.own, sum_to_ext 64 v (uses_of o) (λ x l. same v p h x l (lt_or_le 0 x)));
}
  where
    same : (v : ℕ → ℕ) → Packing bad room v → ((x : ℕ) → m ≤ x → x < 64 → v x ≡ uses_of o x) → (x : ℕ) → x < 64 → (0 < x) ⊎ (x ≤ 0) → v x ≡ uses_of o x
    same v p h x l d = ⊎_elim (λ s. h x (omega arith) l) (λ s. let e : x ≡ 0 = omega arith in ap v e ∙ none-empty p ∙ sym (ap (uses_of o) e ∙ none-empty g.packing)) d

-- two numbers are equal or not
same_or_not : (a b : ℕ) → (a ≡ b) ⊎ (a ≡ b → ⊥)
same_or_not a b = ⊎_elim (λ l. inr (λ e. omega arith)) (λ l. ⊎_elim (λ k. inr (λ e. omega arith)) (λ k. inl (omega arith)) (lt_or_le b a)) (lt_or_le a b)

-- the digits above the one that changes
changed-above : {m n : ℕ} {o r : Odometer} → Changed m n o r → (x : ℕ) → m < x → x < 64 → uses_of r x ≡ uses_of o x
changed-above c x a q = c.others x q (λ e. omega (arith, e))

-- a combination m that is used n times instead
module _ {bad : ℕ → Bool} {room : ℕ → ℕ} {m n : ℕ} {o r : Odometer} (g : Gone bad room o) (l : m < 64) (c : Changed m n o r) where
  changed-leaves : (i : ℕ) → i < 6 → sum_to 64 (λ x. uses_of r x * bit i x) + left_of r i ≡ room i
  changed-leaves i s =
      let a = sum_change 64 m (λ x. uses_of r x * bit i x) (λ x. uses_of o x * bit i x) l (λ x k d. ap (λ y. y * bit i x) (c.others x k d)) in
      omega (arith, a, ap (λ y. y * bit i m) c.here, c.left i s, g.leaves i s)

  changed-total : sum_to 64 (uses_of r) ≡ r.total
  changed-total = omega (arith, sum_change 64 m (uses_of r) (uses_of o) l c.others, c.here, c.total, g.total)

  changed-packing : (0 < n → usable bad m ≡ true) → Packing bad room (uses_of r)
  changed-packing h = record {
    only = λ x k s. ⊎_elim
        (λ e. subst (λ y. usable bad y ≡ true) (sym e) (h (omega (arith, s, ap (uses_of r) e, c.here))))
        (λ d. g.packing.only x k (omega (arith, s, c.others x k d)))
        (same_or_not x m);
    within = λ i s. omega (arith, changed-leaves i s);
  }

-- what is not used need not go back to 0
pub unchanged : {m : ℕ} {o : Odometer} → uses_of o m ≡ 0 → Changed m 0 o o
unchanged {m} {o} e = record {
  here = e;
  others = λ x l d. refl;
  left = λ i l. ap (λ n. left_of o i + n * bit i m) (sym e);
  total = omega arith;
  over = refl;
}

-- the most room there can be
six-bytes : sum_to 6 (λ i. 255) ≡ 1530
unfolding sum_to
six-bytes = refl

-- numbers that stay small
module _ {bad : ℕ → Bool} {room : ℕ → ℕ} {o : Odometer} (g : Gone bad room o) where
  -- the room of m's uses, and what is left
  used-room : (m : ℕ) → m < 64 → (i : ℕ) → i < 6 → left_of o i + uses_of o m * bit i m ≤ 255
  used-room m l i s = omega (arith, sum_to-at 64 (λ x. uses_of o x * bit i x) m l, g.leaves i s, g.bytes i s)

  -- an active segment of m, whose room has m's uses and what is left
  some-room : (m : ℕ) → 0 < m → m < 64 → (i : ℕ) × (i < 6) × (bit i m ≡ 1) × (left_of o i + uses_of o m ≤ 255)
  some-room m s l =
      let b = some-bit 6 m s l in
      let u = rw b.2 at (used-room m l b.0 b.1) in
      (b.0, b.1, b.2, omega (arith, u))

  pub gone-few : (m : ℕ) → m < 64 → uses_of o m ≤ 255
  gone-few m l = ⊎_elim
      (λ s. omega (arith, (some-room m s l).3))
      (λ s. let e : m ≡ 0 = omega arith in omega (arith, ap (uses_of o) e, none-empty g.packing))
      (lt_or_le 0 m)

  gone-small : o.total ≤ 1530
  gone-small =
      let all : Reached bad room o.total = record { uses = uses_of o; packing = g.packing; total = g.total } in
      omega (arith, reached-room bad room all, sum_to-mono 6 room (λ i. 255) g.bytes, six-bytes)

  pub gone_raisable : {m : ℕ} → 0 < m → m < 64 → Fits bad (left_of o) m → Raisable m o
  gone_raisable {m} s l f = record {
    there = l;
    room = f.room;
    few = let b = some-room m s l in omega (arith, b.3, b.2, f.room b.0 b.1);
    small = gone-small;
  }

  pub gone_resettable : {m : ℕ} → m < 64 → Resettable m o
  gone_resettable {m} l = record { there = l; counted = omega (arith, sum_to-at 64 (uses_of o) m l, g.total); room = used-room m l }

-- the turn of m
module _ {bad : ℕ → Bool} {room : ℕ → ℕ} {m : ℕ} {o : Odometer} (t : Turning bad room m o) (l : m < 64) where
  -- a packing that uses m more often than o, and all above it as often, needs room that o leaves
  more-fits : (v : ℕ → ℕ) → Packing bad room v → ((x : ℕ) → m < x → x < 64 → v x ≡ uses_of o x) → uses_of o m < v m → Fits bad (left_of o) m
  more-fits v p h k = record {
    marked = usable-bad bad m (p.only m l (omega arith));
    room = λ i j.
        let a = sum-above 64 m (λ x. uses_of o x * bit i x) (λ x. v x * bit i x) l (λ x q d. mul-le-mul_right (bit i x) (no_more x q d (lt_or_le x m))) in
        omega (arith, a, mul-le-mul_right (bit i m) k, p.within i j, t.gone.leaves i j);
  }
    where
      no_more : (x : ℕ) → x < 64 → (x ≡ m → ⊥) → (x < m) ⊎ (m ≤ x) → uses_of o x ≤ v x
      no_more x q d c = ⊎_elim (λ b. omega (arith, t.none x b)) (λ b. ⊎_elim (λ e. absurd (d (sym e))) (λ a. omega (arith, h x a q)) (eq-or-lt_of_le b)) c

  -- a packing that uses all above m as often, and m no more often than o
  up_to : (v : ℕ → ℕ) → Packing bad room v → ((x : ℕ) → m < x → x < 64 → v x ≡ uses_of o x) → v m ≤ uses_of o m → sum_to 64 v ≤ o.most
  up_to v p h k = ⊎_elim
      (λ e. t.behind v p (λ x b q. ⊎_elim (λ d. ap v (sym d) ∙ e ∙ ap (uses_of o) d) (λ a. h x a q) (eq-or-lt_of_le b)))
      (λ f. t.gone.passed v p record { at = m; there = l; fewer = f; alike = h })
      (eq-or-lt_of_le k)

  -- a packing that comes before r, where that differs from o in m alone: by what it uses above m, or of m
  before-changed : {n : ℕ} {r : Odometer} → Changed m n o r → (v : ℕ → ℕ) → Packing bad room v → Before v (uses_of r) → (v m < n → ((x : ℕ) → m < x → x < 64 → v x ≡ uses_of o x) → sum_to 64 v ≤ o.most) → sum_to 64 v ≤ o.most
  before-changed {n} {r} c v p b here =
      let same = changed-above c in
      ⊎_elim
      (λ a. t.gone.passed v p record { at = b.at; there = b.there; fewer = omega (arith, b.fewer, same b.at a b.there); alike = λ x d q. b.alike x d q ∙ same x (omega arith) q })
      (λ a. ⊎_elim
      (λ e. here (omega (arith, b.fewer, ap v e, ap (uses_of r) e, c.here)) (λ x d q. b.alike x (omega (arith, e)) q ∙ same x d q))
      (λ d. absurd (omega (arith, b.fewer, c.others b.at b.there (λ e. omega (arith, e)), t.none b.at d)))
      (eq-or-lt_of_le a))
      (lt_or_le m b.at)

  -- it can't be raised, and goes back to 0
  pub turning_reset : {r : Odometer} → (Fits bad (left_of o) m → ⊥) → Changed m 0 o r → r.most ≡ o.most → Turning bad room (m + 1) r
  turning_reset {r} full c e =
      let g = t.gone in
      let above = changed-above c in
      record {
        gone = record {
          bytes = g.bytes;
          packing = changed-packing g l c (λ h. absurd (omega arith));
          leaves = changed-leaves g l c;
          total = changed-total g l c;
          reached = subst (Reached bad room) (sym e) g.reached;
          own = omega (arith, c.total, g.own);
          passed = λ v p b. omega (arith, before-changed c v p b (λ h. absurd (omega arith)));
          all = λ q. subst (IsMost bad room) (sym e) (g.all (sym c.over ∙ q));
        };
        none = λ x k. ⊎_elim (λ d. c.others x (omega arith) (λ q. omega (arith, q)) ∙ t.none x d) (λ d. let q : x ≡ m = omega arith in ap (uses_of r) q ∙ c.here) (lt_or_le x m);
        behind = λ v p h. ⊎_elim
            (λ k. absurd (full (more-fits v p (λ x a q. h x (omega arith) q ∙ above x a q) k)))
            (λ k. omega (arith, up_to v p (λ x a q. h x (omega arith) q ∙ above x a q) k))
            (lt_or_le (uses_of o m) (v m));
      }

  -- it can be raised: that is the next packing
  pub turning_raise : {r : Odometer} → 0 < m → Fits bad (left_of o) m → Changed m (uses_of o m + 1) o r → r.most ≡ max o.most r.total → o.over ≡ false → Gone bad room r
  turning_raise {r} s f c e going =
      let g = t.gone in
      let p = changed-packing g l c (λ h. bad-usable bad m s f.marked) in
      record {
        bytes = g.bytes;
        packing = p;
        leaves = changed-leaves g l c;
        total = changed-total g l c;
        reached = ⊎_elim
            (λ k. let q : r.total ≡ r.most = omega (arith, e) in record { uses = uses_of r; packing = p; total = changed-total g l c ∙ q })
            (λ k. let q : o.most ≡ r.most = omega (arith, e) in subst (Reached bad room) q g.reached)
            (lt_or_le o.most r.total);
        own = omega (arith, e);
        passed = λ v p b. omega (arith, e, before-changed c v p b (λ h d. up_to v p d (omega arith)));
        all = λ q. absurd (true-not-false q (c.over ∙ going));
      }

-- no digit can be raised: every packing has been gone through
pub turning_end : {bad : ℕ → Bool} {room : ℕ → ℕ} {m : ℕ} {o : Odometer} → Turning bad room m o → 64 ≤ m
    → Gone bad room record { uses = o.uses; left = o.left; total = o.total; most = o.most; over = true }
turning_end {o = o} t l =
    let g = t.gone in
    record {
      bytes = g.bytes;
      packing = g.packing;
      leaves = g.leaves;
      total = g.total;
      reached = g.reached;
      own = g.own;
      passed = g.passed;
      all = λ q. record { holds = g.reached; above = λ n r. omega (arith, r.total, t.behind r.uses r.packing (λ x a b. absurd (omega arith))) };
    }
