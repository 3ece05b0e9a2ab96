-- Floor and tail; the tasks before the first at the floor; deferred or free. Assumes nothing.
use Prim.Native.Nat.{ℕ, zero, suc, ◌+◌, ◌-◌, ◌≤◌, min}
use native.Mathlib.Omega.{arith}
use native.Mathlib.Nat.{eq-or-lt_of_le}
use mathlib.Core.Path.{◌≡◌, refl, ap, ap₂, sym, ◌∙◌}
use mathlib.Core.Logic.{⊎_elim}
use mathlib.Core.List.{List, [], ◌∷◌}
use mathlib.Core.Bool.{Bool, true, false, not, ◌||◌}
use borrow.Author.Tests.{lt-ltb, le-ltb, eq-eqb, ne_eqb, not-true}
use lib.Dec.{eqb, eqb-suc-suc}
use lib.ListN.{length, get_or}
use Rattle.search.specs.Choice.{◌when◌else◌}
use Rattle.search.specs.Lists.{All, some}
use Rattle.search.proofs.Choice.{lt_or_le}
use Rattle.table.specs.declared.Row.{Row}
use Rattle.segments.specs.Tasks.{Task, tasks_from, tasks_of, cost_of, chain_cost, lowest, floor_of, tail_of, below, at_level, before, own_part}
use Rattle.segments.specs.Code.Held.{stretch_of}
use Rattle.segments.specs.declared.tasks.Stretch.{Stretch}
use Rattle.segments.proofs.Steps.{rest-each, ahead_of, ahead-first}

-- the lowest is one of them, and none lies below it
pub lowest_hit : (ps : List ℕ) (n : ℕ) → (i : ℕ) × (i ≤ n) × (get_or ps i 0 ≡ lowest ps n)
unfolding lowest
lowest_hit ps zero = (0, omega arith, refl)
lowest_hit ps (suc n) =
    let r = lowest_hit ps n in
    ⊎_elim (λ l. (suc n, omega arith, omega arith)) (λ l. (r.0, omega (arith, r.1), omega (arith, r.2))) (lt_or_le (get_or ps (suc n) 0) (lowest ps n))

pub lowest_le : (ps : List ℕ) (n i : ℕ) → i ≤ n → lowest ps n ≤ get_or ps i 0
unfolding lowest
lowest_le ps zero i h = let e : i ≡ 0 = omega arith in omega (arith, ap (λ j. get_or ps j 0) e)
lowest_le ps (suc n) i h =
    ⊎_elim (λ e. omega (arith, ap (λ j. get_or ps j 0) e)) (λ l. omega (arith, lowest_le ps n i (omega arith))) (eq-or-lt_of_le h)

pub lowest-on : (ps : List ℕ) (i : ℕ) → 1 ≤ i → lowest ps (i + 1 - 1) ≡ min (lowest ps (i - 1)) (get_or ps i 0)
unfolding lowest
lowest-on ps i h =
    let e : i + 1 - 1 ≡ suc (i - 1) = omega arith in
    let f : suc (i - 1) ≡ i = omega arith in
    rw (e, f)

-- floor ≤ tail: the tail is one of the priorities
pub floor_tail : (b : Row) → floor_of b ≤ tail_of b
floor_tail b = lowest_le b.priority (b.tasks - 1) (b.tasks - 1) (omega arith)

pub lowest-one : (ps : List ℕ) → lowest ps (1 - 1) ≡ get_or ps 0 0
unfolding lowest
lowest-one ps = refl

-- where no task lies below a level, the first at it is the first below the next
before_at : (f : ℕ) (ts : List Task) → All (λ t. f ≤ t.priority) ts → before (at_level f) ts ≡ before (below (f + 1)) ts
unfolding before
before_at f [] h = refl
before_at f (t ∷ ts) h = ap₂ (λ b r. [] when b else t ∷ r) same (before_at f ts h.1)
  where
    same : at_level f t ≡ below (f + 1) t
    same = ⊎_elim
        (λ l. ne_eqb t.priority f (λ e. omega arith) ∙ sym (le-ltb t.priority (f + 1) (omega arith)))
        (λ l. eq-eqb t.priority f (omega (arith, h.0)) ∙ sym (lt-ltb t.priority (f + 1) (omega arith)))
        (lt_or_le f t.priority)

own-before : (ps cs : List ℕ) (n : ℕ)
    → before (at_level (lowest ps (n - 1))) (tasks_from ps cs n 0) ≡ before (below (lowest ps (n - 1) + 1)) (tasks_from ps cs n 0)
own-before ps cs n =
    before_at (lowest ps (n - 1)) (tasks_from ps cs n 0) (rest-each _ ps cs n 0 (λ j l. lowest_le ps (n - 1) j (omega arith)))

-- no task lies below the level 0
before-zero : (ts : List Task) → before (below 0) ts ≡ ts
unfolding before ◌when◌else◌
before-zero [] = refl
before-zero (t ∷ ts) = rw (le-ltb t.priority 0 (omega arith)) (ap (λ r. t ∷ r) (before-zero ts))

-- where none passes, all come before the first that does; and only there
module _ (p : Task → Bool) where
  pub some-before : (ts : List Task) → not (some p ts) ≡ eqb (length (before p ts)) (length ts)
  unfolding some before ◌when◌else◌
  some-before [] = refl
  some-before (t ∷ ts) = go (p t) (some-before ts)
    where
      go : (b : Bool) → not (some p ts) ≡ eqb (length (before p ts)) (length ts)
          → not (b || some p ts) ≡ eqb (length ([] when b else t ∷ before p ts)) (suc (length ts))
      go true e = sym (ne_eqb 0 (suc (length ts)) (λ z. omega arith))
      go false e = e ∙ sym (eqb-suc-suc (length (before p ts)) (length ts))

  pub all-before : (ts : List Task) → length (before p ts) ≡ length ts → some p ts ≡ false
  all-before ts h = not-true (some p ts) (some-before ts ∙ eq-eqb _ _ h)

  pub none_before : (ts : List Task) → some p ts ≡ false → before p ts ≡ ts
  unfolding some before ◌when◌else◌
  none_before [] h = refl
  none_before (t ∷ ts) h = go (p t) h (none_before ts)
    where
      go : (b : Bool) → b || some p ts ≡ false → (some p ts ≡ false → before p ts ≡ ts) → ([] when b else t ∷ before p ts) ≡ t ∷ ts
      go true e r = let z : ◌≡◌ {A = ℕ} 0 1 = cc in absurd (omega arith)
      go false e r = ap (λ l. t ∷ l) (r e)

-- up to the level 0: the whole chain; and up to the level above b's floor: its own first part
pub whole_is : (a : Row) (r : Stretch) → r ≡ stretch_of (ahead_of a.priority a.cost a.tasks 0 0) → r.cost ≡ chain_cost a
whole_is a r d = ap (λ s. s.cost) d ∙ ap cost_of (ahead-first a.priority a.cost a.tasks 0 ∙ before-zero (tasks_of a))

pub own_is : (b : Row) (floor : ℕ) (r : Stretch) → floor ≡ floor_of b → r ≡ stretch_of (ahead_of b.priority b.cost b.tasks (floor + 1) 0)
    → r.cost ≡ own_part b
own_is b floor r e d =
    ap (λ s. s.cost) d ∙ ap cost_of (ahead-first b.priority b.cost b.tasks (floor + 1))
    ∙ ap (λ f. cost_of (before (below (f + 1)) (tasks_of b))) e ∙ ap cost_of (sym (own-before b.priority b.cost b.tasks))
