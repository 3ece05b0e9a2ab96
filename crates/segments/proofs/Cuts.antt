-- The active segments one by one, as `active_segments` finds them. Assumes nothing.
use Prim.Native.Nat.{ℕ, suc, ◌+◌, ◌-◌, ◌<◌, ◌≤◌}
use native.Mathlib.Omega.{arith}
use mathlib.Core.Path.{◌≡◌, refl, ap, ap₂, sym, ◌∙◌}
use mathlib.Core.List.{List, [], ◌∷◌, ◌++◌, append_assoc, append-nil, map, map-append}
use mathlib.Core.Bool.{Bool, true, false}
use lib.Dec.{eqb}
use borrow.Author.Tests.{lt-ltb, le-ltb, ltb-false, eq-eqb, ne_eqb}
use lib.ListN.{length, get_or, drop, set, replicate, length-append, length-map}
use lib.Seq.{set_at}
use Rattle.search.specs.Choice.{◌when◌else◌}
use Rattle.search.proofs.Choice.{when_yes, when_no}
use Rattle.table.specs.Limits.{max_tasks}
use Rattle.table.specs.Record.{pad}
use Rattle.segments.specs.Tasks.{Task, tasks_from, cost_of, below, before}
use Rattle.segments.specs.Segments.{◌on◌, stretches, cuts, parts}
use Rattle.segments.specs.Actives.{Active, active, start_of, numbered, in_order, actives}
use Rattle.segments.specs.Code.Held.{stretch_of, arrays_of}
use Rattle.segments.specs.declared.tasks.Stretch.{Stretch}
use Rattle.segments.specs.declared.Actives.{Actives}
use Rattle.segments.proofs.Steps.{task, rest-on, rest_end, rest_all, rest-drop, cost-cons, ahead_of, ahead-inside}
use Rattle.segments.proofs.Stretches.{cuts-some}

-- a task in front of the first active segment of the first stretch
abbrev push : Task → List (List (List Task)) → List (List (List Task))
push t [] = []
push t ([] ∷ ps) = [] ∷ ps
push t ((a ∷ p) ∷ ps) = ((t ∷ a) ∷ p) ∷ ps

push-on : (t : Task) (a : List Task) (ps : List (List (List Task))) → push t (a on ps) ≡ (t ∷ a) on ps
push-on t a [] = refl
push-on t a (p ∷ ps) = refl

module _ (p : Task → Bool) where
  -- a task that is not cut off goes on with the one before it
  cuts-on : (t u : Task) (ss : List (List Task)) → p u ≡ false → map (cuts p) (t on (u on ss)) ≡ push t (map (cuts p) (u on ss))
  unfolding cuts ◌when◌else◌
  cuts-on t u [] e = rw e
  cuts-on t u (s ∷ ss) e = rw e (go (cuts p (u ∷ s)) (cuts-some p u s))
    where
      go : (ls : List (List Task)) → 1 ≤ length ls → (t on ls) ∷ map (cuts p) ss ≡ push t (ls ∷ map (cuts p) ss)
      go [] h = absurd (omega arith)
      go (l ∷ ls) h = refl

  -- one that is cut off starts another active segment
  cuts_off : (t u : Task) (ss : List (List Task)) → p u ≡ true → map (cuts p) (t on (u on ss)) ≡ (t ∷ []) on map (cuts p) (u on ss)
  unfolding cuts ◌when◌else◌
  cuts_off t u [] e = rw e
  cuts_off t u (s ∷ ss) e = rw e

module _ (floor tail : ℕ) (h : floor ≤ tail) where
  after : List Task → List Task
  after us = drop (length (before (below tail) us)) us

  -- an active segment that starts at t goes on up to the first task below the tail
  parts-on : (t : Task) (us : List Task)
      → map (cuts (below tail)) (t on stretches (below floor) us) ≡ (t ∷ before (below tail) us) on parts floor tail (after us)
  unfolding parts stretches before after cuts ◌when◌else◌
  parts-on t [] = refl
  parts-on t (u ∷ us) = go (below tail u) (below floor u) refl refl (parts-on u us)
    where
      go : (b c : Bool) → below tail u ≡ b → below floor u ≡ c
          → map (cuts (below tail)) (u on stretches (below floor) us) ≡ (u ∷ before (below tail) us) on parts floor tail (after us)
          → map (cuts (below tail)) (t on stretches (below floor) (u ∷ us)) ≡ (t ∷ before (below tail) (u ∷ us)) on parts floor tail (after (u ∷ us))
      go true true e f r = rw (e, f)
      go true false e f r = rw (e, f) (cuts_off (below tail) t u (stretches (below floor) us) e)
      go false c e f r =
          let high : below floor u ≡ false = le-ltb u.priority floor (omega (arith, ltb-false u.priority tail e)) in
          rw (e, high) (cuts-on (below tail) t u (stretches (below floor) us) e ∙ ap (push t) r ∙ push-on t (u ∷ before (below tail) us) (parts floor tail (after us)))

-- the active segments of the stretches from that one on, where the number of the last stretch is known
pub tagged : ℕ → ℕ → List (List (List Task)) → List Active
tagged last stretch [] = []
tagged last stretch (p ∷ ps) = map (active (last when eqb stretch 0 else stretch)) p ++ tagged last (stretch + 1) ps

tagged-numbered : (last stretch : ℕ) (ps : List (List (List Task))) → 1 ≤ stretch → tagged last stretch ps ≡ numbered stretch ps
unfolding tagged numbered
tagged-numbered last stretch [] h = refl
tagged-numbered last stretch (p ∷ ps) h =
    rw (when_no last stretch (ne_eqb stretch 0 (λ e. omega arith))) (ap (λ r. map (active stretch) p ++ r) (tagged-numbered last (stretch + 1) ps (omega arith)))

tagged-order : (last : ℕ) (ps : List (List (List Task))) → last + 1 ≡ length ps → tagged last 0 ps ≡ in_order ps
unfolding tagged in_order
tagged-order last [] h = refl
tagged-order last (p ∷ ps) h =
    let e : last ≡ length ps = omega arith in
    rw (when_yes last 0 (eq-eqb 0 0 refl), e) (ap (λ r. map (active (length ps)) p ++ r) (tagged-numbered last 1 ps (omega arith)))

tagged-put : (last stretch : ℕ) (a : List Task) (ps : List (List (List Task))) → tagged last stretch (a on ps) ≡ active (last when eqb stretch 0 else stretch) a ∷ tagged last stretch ps
unfolding tagged
tagged-put last stretch a [] = refl
tagged-put last stretch a (p ∷ ps) = refl

module _ (floor tail last stretch : ℕ) (t : Task) (us : List Task) where
  tagged-low : t.priority < floor → tagged last stretch (parts floor tail (t ∷ us)) ≡ tagged last (stretch + 1) (parts floor tail us)
  unfolding tagged parts stretches cuts ◌when◌else◌
  tagged-low l = rw (lt-ltb t.priority floor l)

  tagged-on : floor ≤ tail → floor ≤ t.priority
      → tagged last stretch (parts floor tail (t ∷ us)) ≡ active (last when eqb stretch 0 else stretch) (t ∷ before (below tail) us) ∷ tagged last stretch (parts floor tail (drop (length (before (below tail) us)) us))
  unfolding parts stretches ◌when◌else◌ after
  tagged-on h l = rw (le-ltb t.priority floor l) (ap (tagged last stretch) (parts-on floor tail h t us) ∙ tagged-put last stretch (t ∷ before (below tail) us) (parts floor tail (after floor tail h us)))

-- one active segment more in the arrays
abbrev pub plus : Actives → ℕ → ℕ → ℕ → ℕ → Actives
plus a start len cost segment =
    record {
      count = a.count + 1;
      start = set a.start a.count start;
      len = set a.len a.count len;
      cost = set a.cost a.count cost;
      segment = set a.segment a.count segment;
    }

pad-put : (m : ℕ) (l : List ℕ) (x : ℕ) → length l < m → pad m (l ++ (x ∷ [])) ≡ set (pad m l) (length l) x
pad-put m l x h =
    let e : m - length l ≡ suc (m - (length l + 1)) = omega arith in
    rw (length-append, e, set_at l 0 (replicate (m - (length l + 1)) 0) x (length l) refl, append_assoc) refl

map-put : (f : Active → ℕ) (l : List Active) (a : Active) → length l < max_tasks
    → pad max_tasks (map f (l ++ (a ∷ []))) ≡ set (pad max_tasks (map f l)) (length l) (f a)
map-put f l a h =
    let e : length (map f l) < max_tasks = rw length-map h in
    ap (pad max_tasks) (map-append f l (a ∷ [])) ∙ pad-put max_tasks (map f l) (f a) e ∙ ap (λ n. set (pad max_tasks (map f l)) n (f a)) (length-map l f)

put : (l : List Active) (a : Active) → length l < max_tasks → arrays_of (l ++ (a ∷ [])) ≡ plus (arrays_of l) a.start a.len a.cost a.segment
put l a h = rw (map-put (λ b. b.start) l a h, map-put (λ b. b.len) l a h, map-put (λ b. b.cost) l a h, map-put (λ b. b.segment) l a h, length-append)

-- the loop of `active_segments`
module _ (ps cs : List ℕ) (n floor tail last : ℕ) where
  pub left : ℕ → ℕ → List Active
  left stretch i = tagged last stretch (parts floor tail (tasks_from ps cs (n - i) i))

  -- at the task i, after `stretch` tasks below the floor: those found and those left are all of them
  pub record Cutting (out : Actives) (stretch i : ℕ) : Type 0 where
    pub found : List Active
    pub is : out ≡ arrays_of found
    pub whole : found ++ left stretch i ≡ left 0 0
    pub inside : i ≤ n
    pub few : length found ≤ i
    pub low : stretch ≤ i

  pub cutting_start : (out : Actives) → out ≡ arrays_of [] → Cutting out 0 0
  cutting_start out e = record { found = []; is = e; whole = refl; inside = omega arith; few = omega arith; low = omega arith }

  pub cutting_low : (out : Actives) (stretch i : ℕ) → Cutting out stretch i → i < n → get_or ps i 0 < floor → Cutting out (stretch + 1) (i + 1)
  unfolding left
  cutting_low out stretch i c h l = record {
    found = c.found;
    is = c.is;
    whole = ap (λ r. c.found ++ r) (sym (ap (λ r. tagged last stretch (parts floor tail r)) (rest-on ps cs n i h) ∙ tagged-low floor tail last stretch (task ps cs i) _ l)) ∙ c.whole;
    inside = omega arith;
    few = omega (arith, c.few);
    low = omega (arith, c.low);
  }

  pub cutting_on : (out : Actives) (stretch i : ℕ) (r : Stretch) → Cutting out stretch i → i < n → n ≤ max_tasks → floor ≤ tail → floor ≤ get_or ps i 0
      → r ≡ stretch_of (ahead_of ps cs n tail (i + 1))
      → Cutting (plus out i (r.len + 1) (get_or cs i 0 + r.cost) (last when eqb stretch 0 else stretch)) stretch (i + 1 + r.len)
  unfolding left start_of
  cutting_on out stretch i r c h m g l d = record {
    found = c.found ++ (a ∷ []);
    is = ap (λ o. plus o i (r.len + 1) (get_or cs i 0 + r.cost) j) c.is ∙ ap₂ (λ x y. plus (arrays_of c.found) i x y j) size price ∙ sym (put c.found a (omega (arith, c.few)));
    whole = append_assoc c.found (a ∷ []) (left stretch (i + 1 + r.len)) ∙ ap (λ q. c.found ++ q) (sym step) ∙ c.whole;
    inside = ahead-inside ps cs n tail (i + 1) r d (omega arith);
    few = omega (arith, c.few, length-append c.found (a ∷ []));
    low = omega (arith, c.low);
  }
    where
      us : List Task
      us = tasks_from ps cs (n - (i + 1)) (i + 1)

      j : ℕ
      j = last when eqb stretch 0 else stretch

      a : Active
      a = active j (task ps cs i ∷ before (below tail) us)

      len : r.len ≡ length (before (below tail) us)
      len = ap (λ s. s.len) d

      size : r.len + 1 ≡ suc (length (before (below tail) us))
      size = omega (arith, len)

      price : get_or cs i 0 + r.cost ≡ cost_of (task ps cs i ∷ before (below tail) us)
      price = omega (arith, ap (λ s. s.cost) d, cost-cons (task ps cs i) (before (below tail) us))

      next : drop (length (before (below tail) us)) us ≡ tasks_from ps cs (n - (i + 1 + r.len)) (i + 1 + r.len)
      next = rest-drop ps cs (n - (i + 1)) (i + 1) (length (before (below tail) us)) ∙ ap₂ (tasks_from ps cs) (omega (arith, len)) (omega (arith, len))

      step : left stretch i ≡ a ∷ left stretch (i + 1 + r.len)
      step = ap (λ q. tagged last stretch (parts floor tail q)) (rest-on ps cs n i h) ∙ tagged-on floor tail last stretch (task ps cs i) us g l ∙ ap (λ q. a ∷ tagged last stretch (parts floor tail q)) next

  pub cutting_end : (out : Actives) (stretch i : ℕ) → Cutting out stretch i → n ≤ i → last + 1 ≡ length (stretches (below floor) (tasks_from ps cs n 0))
      → out ≡ arrays_of (actives floor tail (tasks_from ps cs n 0))
  unfolding left tagged actives parts stretches cuts
  cutting_end out stretch i c h e =
      let f : c.found ≡ left 0 0 = sym (append-nil c.found) ∙ ap (λ r. c.found ++ tagged last stretch (parts floor tail r)) (sym (rest_end ps cs n i h)) ∙ c.whole in
      let g : last + 1 ≡ length (parts floor tail (tasks_from ps cs n 0)) = rw length-map e in
      c.is ∙ ap arrays_of (f ∙ ap (λ r. tagged last 0 (parts floor tail r)) (rest_all ps cs n) ∙ tagged-order last (parts floor tail (tasks_from ps cs n 0)) g)
