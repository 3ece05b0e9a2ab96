-- What segments cost: from the list of tasks to the loops that sum it up. Assumes nothing.
use Prim.Native.Nat.{ℕ, suc, ◌+◌, ◌*◌, ◌-◌, ◌<◌, ◌≤◌, max}
use native.Mathlib.Omega.{arith}
use mathlib.Core.Path.{◌≡◌, refl, ap, ap₂, sym, ◌∙◌}
use mathlib.Core.List.{List, [], ◌∷◌, ◌++◌}
use mathlib.Core.Bool.{Bool, true, false}
use borrow.Author.Tests.{lt-ltb, le-ltb}
use lib.ListN.{length, get_or, drop}
use Rattle.search.specs.Choice.{◌when◌else◌}
use Rattle.search.specs.Lists.{sum_of, most_of}
use Rattle.search.proofs.Choice.{when_yes, when_no}
use Rattle.search.proofs.Lists.{sum_append}
use Rattle.table.specs.Limits.{max_cost}
use Rattle.table.specs.declared.Row.{Row}
use Rattle.segments.specs.Tasks.{Task, tasks_from, tasks_of, cost_of, below, before}
use Rattle.segments.specs.Segments.{◌on◌, stretches, onward, around, segments}
use Rattle.segments.specs.Code.Held.{FirstOf, sides_of}
use Rattle.segments.specs.declared.tasks.Stretch.{Stretch}
use Rattle.segments.specs.declared.tasks.Sides.{Sides}
use Rattle.segments.proofs.Steps.{rest-on, rest_end, rest_all, rest-drop, rest-length, cost_nil}
use Rattle.segments.proofs.Lists.{sum-on, full-sum, full-most, around-sum}
use Rattle.segments.proofs.Stretches.{stretches-some, stretches-split}

-- what the tasks that do not pass cost
abbrev pub kept : (Task → Bool) → List Task → ℕ
kept p ts = sum_of (λ t. 0 when p t else t.cost) ts

pub stretches-cost : (p : Task → Bool) (ts : List Task) → sum_of cost_of (stretches p ts) ≡ kept p ts
unfolding stretches sum_of ◌when◌else◌
stretches-cost p [] = refl
stretches-cost p (t ∷ ts) = go (p t) (stretches-cost p ts)
  where
    go : (b : Bool) → sum_of cost_of (stretches p ts) ≡ kept p ts
        → sum_of cost_of ([] ∷ stretches p ts when b else t on stretches p ts) ≡ (0 when b else t.cost) + kept p ts
    go true e = omega (arith, e)
    go false e = sum-on (λ u. u.cost) t (stretches p ts) ∙ ap (λ n. t.cost + n) e

pub all-kept : (floor : ℕ) (ts : List Task) → sum_of cost_of (segments floor ts) ≡ kept (below floor) ts
unfolding segments
all-kept floor ts =
    full-sum cost_of cost_nil (around ◌++◌ (stretches (below floor) ts))
    ∙ around-sum ◌++◌ cost_of (sum_append (λ t. t.cost)) (stretches (below floor) ts)
    ∙ stretches-cost (below floor) ts

most-around : (floor : ℕ) (ts : List Task) → most_of cost_of (segments floor ts) ≡ most_of cost_of (around ◌++◌ (stretches (below floor) ts))
unfolding segments
most-around floor ts = full-most cost_of cost_nil (around ◌++◌ (stretches (below floor) ts))

-- the loop of `both_sides`: at the task i, after `low` tasks below the level and `cost` for the others, what is left makes up the whole
module _ (ps cs : List ℕ) (n level : ℕ) where
  abbrev left : ℕ → Sides
  left i = sides_of level (tasks_from ps cs (n - i) i)

  pub record Sided (i low cost : ℕ) : Type 0 where
    pub inside : i ≤ n
    pub few : low ≤ i
    pub fits : cost ≤ max_cost * i
    pub lows : (left 0).low ≡ low + (left i).low
    pub costs : (left 0).cost ≡ cost + (left i).cost

  pub sided_start : Sided 0 0 0
  sided_start = record { inside = omega arith; few = omega arith; fits = omega arith; lows = omega arith; costs = omega arith }

  pub sided_low : (i low cost : ℕ) → Sided i low cost → i < n → get_or ps i 0 < level → Sided (i + 1) (low + 1) cost
  unfolding sum_of ◌when◌else◌
  sided_low i low cost s h l =
      let e : left i ≡ record { low = 1 + (left (i + 1)).low; cost = 0 + (left (i + 1)).cost } = rw (rest-on ps cs n i h, lt-ltb (get_or ps i 0) level l) in
      record {
        inside = omega arith;
        few = omega (arith, s.few);
        fits = omega (arith, s.fits);
        lows = omega (arith, s.lows, ap (λ r. r.low) e);
        costs = omega (arith, s.costs, ap (λ r. r.cost) e);
      }

  pub sided_high : (i low cost : ℕ) → Sided i low cost → i < n → level ≤ get_or ps i 0 → get_or cs i 0 ≤ max_cost → Sided (i + 1) low (cost + get_or cs i 0)
  unfolding sum_of ◌when◌else◌
  sided_high i low cost s h l m =
      let e : left i ≡ record { low = 0 + (left (i + 1)).low; cost = get_or cs i 0 + (left (i + 1)).cost } = rw (rest-on ps cs n i h, le-ltb (get_or ps i 0) level l) in
      record {
        inside = omega arith;
        few = omega (arith, s.few);
        fits = omega (arith, s.fits);
        lows = omega (arith, s.lows, ap (λ r. r.low) e);
        costs = omega (arith, s.costs, ap (λ r. r.cost) e);
      }

  pub sided_end : (i low cost : ℕ) → Sided i low cost → n ≤ i → ◌≡◌ {A = Sides} (record { low = low; cost = cost }) (sides_of level (tasks_from ps cs n 0))
  unfolding sum_of
  sided_end i low cost s h =
      let e = ap (sides_of level) (rest_end ps cs n i h) in
      let f = ap (sides_of level) (rest_all ps cs n) in
      let x : low ≡ (sides_of level (tasks_from ps cs n 0)).low = omega (arith, s.lows, ap (λ r. r.low) e, ap (λ r. r.low) f) in
      let y : cost ≡ (sides_of level (tasks_from ps cs n 0)).cost = omega (arith, s.costs, ap (λ r. r.cost) e, ap (λ r. r.cost) f) in
      rw (x, y)

-- the dearest segment of a deferred chain whose first stretch costs f: `run` is the cost so far of the stretch at hand
unfoldable pub dear : (Task → Bool) → ℕ → ℕ → List Task → ℕ
dear p f run [] = run + f
dear p f run (t ∷ ts) = max run (dear p f 0 ts) when p t else dear p f (run + t.cost) ts

-- the same, once the stretches are known
from : ℕ → ℕ → List (List Task) → ℕ
from f run [] = run + f
from f run (s ∷ []) = run + cost_of s + f
from f run (s ∷ r ∷ rs) = max (run + cost_of s) (from f 0 (r ∷ rs))

onward-most : (s : List Task) (ss : List (List Task)) → most_of cost_of (onward ◌++◌ s ss) ≡ from (cost_of s) 0 ss
unfolding onward most_of from
onward-most s [] = omega arith
onward-most s (r ∷ []) = omega (arith, sum_append (λ t. t.cost) r s)
onward-most s (r ∷ q ∷ rs) = omega (arith, onward-most s (q ∷ rs))

from_on : (f run : ℕ) (t : Task) (ss : List (List Task)) → from f run (t on ss) ≡ from f (run + t.cost) ss
unfolding from sum_of
from_on f run t [] = omega arith
from_on f run t (s ∷ []) = omega arith
from_on f run t (s ∷ r ∷ rs) = ap (λ n. max n (from f 0 (r ∷ rs))) (omega arith)

from_next : (f run : ℕ) (ss : List (List Task)) → 1 ≤ length ss → from f run ([] ∷ ss) ≡ max run (from f 0 ss)
unfolding from sum_of
from_next f run [] h = absurd (omega arith)
from_next f run (s ∷ ss) h = ap (λ n. max n (from f 0 (s ∷ ss))) (omega arith)

dear-from : (p : Task → Bool) (f run : ℕ) (ts : List Task) → dear p f run ts ≡ from f run (stretches p ts)
unfolding dear stretches from sum_of ◌when◌else◌
dear-from p f run [] = omega arith
dear-from p f run (t ∷ ts) = go (p t) (dear-from p f 0 ts) (dear-from p f (run + t.cost) ts)
  where
    go : (b : Bool) → dear p f 0 ts ≡ from f 0 (stretches p ts) → dear p f (run + t.cost) ts ≡ from f (run + t.cost) (stretches p ts)
        → (max run (dear p f 0 ts) when b else dear p f (run + t.cost) ts) ≡ from f run ([] ∷ stretches p ts when b else t on stretches p ts)
    go true d e = ap (max run) d ∙ sym (from_next f run (stretches p ts) (stretches-some p ts))
    go false d e = e ∙ sym (from_on f run t (stretches p ts))

module _ (floor : ℕ) (ts : List Task) where
  dearest-deferred : length (before (below floor) ts) < length ts
      → most_of cost_of (segments floor ts) ≡ dear (below floor) (cost_of (before (below floor) ts)) 0 (drop (suc (length (before (below floor) ts))) ts)
  unfolding around
  dearest-deferred h =
      let us = drop (suc (length (before (below floor) ts))) ts in
      most-around floor ts ∙ ap (λ l. most_of cost_of (around ◌++◌ l)) (stretches-split (below floor) ts h)
      ∙ onward-most (before (below floor) ts) (stretches (below floor) us)
      ∙ sym (dear-from (below floor) (cost_of (before (below floor) ts)) 0 us)

-- the loop of `dearest_cost` from the task `from` on: at the task i the dearest segment is the dearer of `best` and what the tasks
-- left make it, where the stretch at hand costs `sum` so far
module _ (ps cs : List ℕ) (n floor f : ℕ) where
  abbrev pub dear_from : ℕ → ℕ → ℕ
  dear_from run i = dear (below floor) f run (tasks_from ps cs (n - i) i)

  pub record Compared (from best sum i : ℕ) : Type 0 where
    pub inside : i ≤ n
    pub low : from ≤ i
    pub fits : sum ≤ max_cost * (i - from)
    pub is : dear_from 0 from ≡ max best (dear_from sum i)

  pub compared_start : (from : ℕ) → from ≤ n → Compared from 0 0 from
  compared_start from h = record { inside = h; low = omega arith; fits = omega arith; is = omega arith }

  pub compared_low : (from best sum i : ℕ) → Compared from best sum i → i < n → get_or ps i 0 < floor → Compared from (max best sum) 0 (i + 1)
  unfolding dear
  compared_low from best sum i c h l =
      let e : dear_from sum i ≡ max sum (dear_from 0 (i + 1)) = rw (rest-on ps cs n i h) (when_yes _ _ (lt-ltb (get_or ps i 0) floor l)) in
      record { inside = omega arith; low = omega (arith, c.low); fits = omega arith; is = omega (arith, c.is, e) }

  pub compared_high : (from best sum i : ℕ) → Compared from best sum i → i < n → floor ≤ get_or ps i 0 → get_or cs i 0 ≤ max_cost → Compared from best (sum + get_or cs i 0) (i + 1)
  unfolding dear
  compared_high from best sum i c h l m =
      let e : dear_from sum i ≡ dear_from (sum + get_or cs i 0) (i + 1) = rw (rest-on ps cs n i h) (when_no _ _ (le-ltb (get_or ps i 0) floor l)) in
      record { inside = omega arith; low = omega (arith, c.low); fits = omega (arith, c.low, c.fits); is = c.is ∙ ap (max best) e }

  pub compared_end : (from best sum i : ℕ) → Compared from best sum i → n ≤ i → dear_from 0 from ≡ max best (sum + f)
  unfolding dear
  compared_end from best sum i c h = c.is ∙ ap (λ us. max best (dear (below floor) f sum us)) (rest_end ps cs n i h)

-- from the first stretch on
pub dearest-more : (a : Row) (floor : ℕ) (r : Stretch) → FirstOf a floor r
    → most_of cost_of (segments floor (tasks_of a)) ≡ dear_from a.priority a.cost a.tasks floor r.cost 0 (r.len + 1)
dearest-more a floor r f =
    let ts = tasks_of a in
    let len : r.len ≡ length (before (below floor) ts) = ap (λ s. s.len) f.is in
    let l : length (before (below floor) ts) < length ts = omega (arith, len, f.deferred, rest-length a.priority a.cost a.tasks 0) in
    dearest-deferred floor ts l
    ∙ ap₂ (λ c us. dear (below floor) c 0 us) (sym (ap (λ s. s.cost) f.is))
    (rest-drop a.priority a.cost a.tasks 0 (suc (length (before (below floor) ts))) ∙ ap₂ (tasks_from a.priority a.cost) (omega (arith, len)) (omega (arith, len)))
