-- The tasks of a chain one by one, and the tasks before the first below a level. Assumes nothing.
use Prim.Native.Nat.{ℕ, zero, suc, ◌+◌, ◌*◌, ◌-◌, ◌<◌, ◌≤◌}
use native.Mathlib.Omega.{arith}
use mathlib.Core.Path.{◌≡◌, refl, ap}
use mathlib.Core.List.{List, [], ◌∷◌}
use mathlib.Core.Bool.{Bool}
use borrow.Author.Tests.{lt-ltb, le-ltb}
use lib.ListN.{length, get_or, drop}
use Rattle.search.specs.Lists.{sum_of, All}
use Rattle.search.proofs.Choice.{when_yes, when_no, when_cases}
use Rattle.search.proofs.Lists.{sum_bound}
use Rattle.table.specs.Limits.{max_cost}
use Rattle.segments.specs.Tasks.{Task, tasks_from, cost_of, below, before}
use Rattle.segments.specs.Code.Held.{stretch_of}
use Rattle.segments.specs.declared.tasks.Stretch.{Stretch}

-- the task after i others, and the tasks from it on
abbrev pub task : List ℕ → List ℕ → ℕ → Task
task ps cs i = record { place = i; priority = get_or ps i 0; cost = get_or cs i 0 }

pub rest-on : (ps cs : List ℕ) (n i : ℕ) → i < n → tasks_from ps cs (n - i) i ≡ task ps cs i ∷ tasks_from ps cs (n - (i + 1)) (i + 1)
unfolding tasks_from
rest-on ps cs n i h = let e : n - i ≡ suc (n - (i + 1)) = omega arith in rw e

pub rest_end : (ps cs : List ℕ) (n i : ℕ) → n ≤ i → tasks_from ps cs (n - i) i ≡ []
unfolding tasks_from
rest_end ps cs n i h = let e : n - i ≡ 0 = omega arith in rw e

pub rest_all : (ps cs : List ℕ) (n : ℕ) → tasks_from ps cs (n - 0) 0 ≡ tasks_from ps cs n 0
rest_all ps cs n = let e : n - 0 ≡ n = omega arith in rw e

pub rest-drop : (ps cs : List ℕ) (n i j : ℕ) → drop j (tasks_from ps cs n i) ≡ tasks_from ps cs (n - j) (i + j)
unfolding tasks_from
rest-drop ps cs n i zero = let e : i + 0 ≡ i = omega arith in let f : n - 0 ≡ n = omega arith in rw (e, f)
rest-drop ps cs zero i (suc j) = let e : 0 - suc j ≡ 0 = omega arith in rw e
rest-drop ps cs (suc n) i (suc j) =
    let e : i + 1 + j ≡ i + suc j = omega arith in
    let f : suc n - suc j ≡ n - j = omega arith in
    rw (f, ← e) (rest-drop ps cs n (i + 1) j)

pub rest-length : (ps cs : List ℕ) (n i : ℕ) → length (tasks_from ps cs n i) ≡ n
unfolding tasks_from
rest-length ps cs zero i = refl
rest-length ps cs (suc n) i = ap suc (rest-length ps cs n (i + 1))

pub cost-cons : (t : Task) (ts : List Task) → cost_of (t ∷ ts) ≡ t.cost + cost_of ts
unfolding sum_of
cost-cons t ts = refl

pub cost_nil : cost_of [] ≡ 0
unfolding sum_of
cost_nil = refl

-- what holds of each task of a chain
module _ (P : Task → Type 0) where
  pub rest-each : (ps cs : List ℕ) (n i : ℕ) → ((j : ℕ) → j < i + n → P (task ps cs j)) → All P (tasks_from ps cs n i)
  unfolding tasks_from
  rest-each ps cs zero i h = tt
  rest-each ps cs (suc n) i h = (h i (omega arith), rest-each ps cs n (i + 1) (λ j l. h j (omega arith)))

  pub before-each : (p : Task → Bool) (ts : List Task) → All P ts → All P (before p ts)
  unfolding before
  before-each p [] h = tt
  before-each p (t ∷ ts) h = when_cases (All P) (p t) (λ e. tt) (λ e. (h.0, before-each p ts h.1))

-- no task costs more than the limit, so neither does any number of them
abbrev pub Cheap : List Task → Type 0
Cheap ts = All (λ t. t.cost ≤ max_cost) ts

pub cheap : (ts : List Task) → Cheap ts → cost_of ts ≤ length ts * max_cost
cheap ts h = sum_bound (λ t. t.cost) max_cost ts h

pub before-length : (p : Task → Bool) (ts : List Task) → length (before p ts) ≤ length ts
unfolding before
before-length p [] = omega arith
before-length p (t ∷ ts) = when_cases {x = []} {y = t ∷ before p ts} (λ l. length l ≤ suc (length ts)) (p t) (λ e. omega arith) (λ e. omega (arith, before-length p ts))

-- the tasks after i others, up to the first below the level
module _ (ps cs : List ℕ) (n level : ℕ) where
  abbrev pub ahead_of : ℕ → List Task
  ahead_of i = before (below level) (tasks_from ps cs (n - i) i)

  pub ahead-stop : (i : ℕ) → i < n → get_or ps i 0 < level → ahead_of i ≡ []
  unfolding before
  ahead-stop i h l = rw (rest-on ps cs n i h) (when_yes _ _ (lt-ltb _ _ l))

  pub ahead-end : (i : ℕ) → n ≤ i → ahead_of i ≡ []
  unfolding before
  ahead-end i h = rw (rest_end ps cs n i h)

  pub ahead-on : (i : ℕ) → i < n → level ≤ get_or ps i 0 → ahead_of i ≡ task ps cs i ∷ ahead_of (i + 1)
  unfolding before
  ahead-on i h l = rw (rest-on ps cs n i h) (when_no _ _ (le-ltb _ _ l))

  -- what `ahead` finds lies inside the chain, and costs no more than so many tasks may
  pub ahead-inside : (i : ℕ) (r : Stretch) → r ≡ stretch_of (ahead_of i) → i ≤ n → i + r.len ≤ n
  ahead-inside i r d h = omega (arith, ap (λ s. s.len) d, before-length (below level) (tasks_from ps cs (n - i) i), rest-length ps cs (n - i) i)

  pub ahead-fits : (i : ℕ) (r : Stretch) → r ≡ stretch_of (ahead_of i) → ((j : ℕ) → get_or cs j 0 ≤ max_cost) → r.cost ≤ r.len * max_cost
  ahead-fits i r d h =
      let all = before-each _ (below level) _ (rest-each (λ t. t.cost ≤ max_cost) ps cs (n - i) i (λ j l. h j)) in
      rw d (cheap (ahead_of i) all)

  -- from the first task on
  pub ahead-first : ahead_of 0 ≡ before (below level) (tasks_from ps cs n 0)
  ahead-first = ap (before (below level)) (rest_all ps cs n)

  -- the loop of `ahead`, at i with the cost sum: what is left makes up the whole
  pub record Going (from i sum : ℕ) : Type 0 where
    pub low : from ≤ i
    pub high : i ≤ n
    pub len : length (ahead_of from) ≡ (i - from) + length (ahead_of i)
    pub cost : cost_of (ahead_of from) ≡ sum + cost_of (ahead_of i)
    pub fits : sum ≤ max_cost * (i - from)

  pub going_start : (from : ℕ) → from ≤ n → Going from from 0
  going_start from h = record { low = omega arith; high = h; len = omega arith; cost = omega arith; fits = omega arith }

  pub going_on : (from i sum : ℕ) → Going from i sum → i < n → level ≤ get_or ps i 0 → get_or cs i 0 ≤ max_cost
      → Going from (i + 1) (sum + get_or cs i 0)
  going_on from i sum g h l f =
      let e = ahead-on i h l in
      record {
        low = omega arith;
        high = omega arith;
        len = omega (arith, ap length e);
        cost = omega (arith, ap cost_of e, cost-cons (task ps cs i) (ahead_of (i + 1)));
        fits = omega arith;
      }

  pub going_done : (from i sum : ℕ) → Going from i sum → ahead_of i ≡ []
      → ◌≡◌ {A = Stretch} (record { len = i - from; cost = sum }) (stretch_of (ahead_of from))
  going_done from i sum g e =
      let a : i - from ≡ length (ahead_of from) = omega (arith, g.len, ap length e) in
      let b : sum ≡ cost_of (ahead_of from) = omega (arith, g.cost, ap cost_of e, cost_nil) in
      rw (a, b)
