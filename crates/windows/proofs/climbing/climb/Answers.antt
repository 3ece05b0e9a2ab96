-- `climb` meets its contract. The loop's invariant: t is under every s in which its demand fits, and no more arrivals are counted than
-- there are in t. The measure is what is left up to the horizon.
use Prim.Native.Nat.{ℕ, ◌≤◌, ◌-◌, ◌+◌, ◌*◌}
use mathlib.Core.Path.{◌≡◌, ap, sym, subst, ◌∙◌}
use native.Mathlib.Omega.{arith}
use native.Mathlib.Nat.{le_trans, le_of_eq}
use lib.ListN.{get_or}
use lib.Dec.{eqb}
use lib.Seq.{get_or-set_same}
use Rattle.search.specs.Choice.{◌when◌else◌}
use Rattle.table.specs.Limits.{max_chains}
use Rattle.arrivals.specs.Arrivals.{η}
use Rattle.arrivals.proofs.Counts.{η-mono}
use Rattle.windows.specs.Code.Climb.{Under, Counted}
use Rattle.windows.specs.Code.Load.{latest, Load, load_of, own_of, demand_in}
use Rattle.windows.specs.Latency.{long}
use Rattle.windows.proofs.Least.{Grows, under_climbs, under_next, under-solves, under_none}
use Rattle.windows.proofs.Growth.{load-growing}
use Rattle.windows.proofs.Bounds.{busiest, fixed_le, own-counted, more_le, sum_le, demand-is}
use Rattle.windows.proofs.Counting.{own-list, own-lists, behind-own, behind-later}
use Rattle.windows.proofs.climbing.climb.Goals as goal
use Rattle.windows.proofs.climbing.climb.Goals.{After-held_sum, After-own_count-mine, Start}

-- the load, and its demand
abbrev load : (c : Start) → Load
load c = load_of c.args.s.now c.args.own c.args.held.now

abbrev demand : (c : Start) → ℕ → ℕ
demand c = demand_in (load c) c.args.q

grows : (c : Start) → Grows (demand c)
grows c = (load-growing (load c) c.requires.sound).grows c.args.q c.requires.some

fixed : (c : Start) → c.args.q * c.args.own.cost + c.args.own.once ≤ 100000000000
fixed c = fixed_le (load c) c.requires.sound c.args.q 0 c.requires.few (omega arith)

pub overflow_mul-fixed : goal.overflow_mul-fixed
overflow_mul-fixed c = omega (arith, fixed (goal.at.overflow_mul-fixed c).Start)

pub overflow_add-fixed : goal.overflow_add-fixed
overflow_add-fixed c = omega (arith, fixed (goal.at.overflow_add-fixed c).Start)

pub loop-t-init : goal.loop-t-init
loop-t-init c = (c.requires.under, c.requires.counted)

pub bounds-counts-16 : goal.bounds-counts-16
bounds-counts-16 c = omega (arith, c.loop-t.invariant.1.held.size)

pub own_count-mine-requires : goal.own_count-mine-requires
own_count-mine-requires c = let ok = c.requires.sound in
    (own-lists (load (goal.at.own_count-mine-requires c).Start) ok, c.loop-t-test.true, subst (λ ds. get_or c.loop-t.counts max_chains 0 ≤ η ds c.loop-t.t) (own-list (load (goal.at.own_count-mine-requires c).Start) ok) c.loop-t.invariant.1.own)

pub bounds-counts-16-in-loop-t : goal.bounds-counts-16-in-loop-t
bounds-counts-16-in-loop-t c = omega (arith, c.loop-t.invariant.1.held.size)

abbrev q : (c : After-own_count-mine) → ℕ
q c = c.args.q

abbrev t : (c : After-own_count-mine) → ℕ
t c = c.loop-t.t

near : (c : After-own_count-mine) → (t c) ≤ latest
near c = omega (arith, c.loop-t-test.true)

told : (c : After-own_count-mine) → c.own_count-mine.result ≡ (get_or c.loop-t.counts max_chains 0 when eqb c.args.own.part 0 else η (own_of ((load_of c.args.s.now c.args.own c.args.held.now))) (t c))
told c = c.own_count-mine.ensures ∙ ap (λ ds. get_or c.loop-t.counts max_chains 0 when eqb c.args.own.part 0 else η ds (t c)) (sym (own-list ((load_of c.args.s.now c.args.own c.args.held.now)) c.requires.sound))

counted-own : (c : After-own_count-mine) → c.own_count-mine.result ≤ η (own_of ((load_of c.args.s.now c.args.own c.args.held.now))) (t c)
counted-own c = own-counted ((load_of c.args.s.now c.args.own c.args.held.now)) c.requires.sound (q c) (t c) c.requires.few (near c) c.loop-t.invariant.1.own (told c)

more : (c : After-own_count-mine) → (c.own_count-mine.result - (q c)) * c.args.own.part ≤ busiest
more c = more_le ((load_of c.args.s.now c.args.own c.args.held.now)) c.requires.sound (q c) (t c) c.requires.few (near c) c.loop-t.invariant.1.own (told c)

pub overflow_mul-more : goal.overflow_mul-more
overflow_mul-more c = rw c.saturating_sub.ensures (omega (arith, more (goal.at.overflow_mul-more c).After-own_count-mine))

pub overflow_add-d : goal.overflow_add-d
overflow_add-d c = rw c.saturating_sub.ensures (omega (arith, more (goal.at.overflow_add-d c).After-own_count-mine, fixed (goal.at.overflow_add-d c).Start))

pub held_sum-requires : goal.held_sum-requires
held_sum-requires c = let ok = c.requires.sound in
    (ok.held, c.loop-t-test.true, behind-own c.loop-t.invariant.1.held ok.held.few _)

abbrev past : (c : After-held_sum) → ℕ
past c = c.saturating_sub.result

sums : (c : After-held_sum) → c.held_sum.result ≤ max_chains * busiest
sums c = sum_le ((load_of c.args.s.now c.args.own c.args.held.now)) c.requires.sound (c.args.q) (c.loop-t.t) c.requires.few ((let it : (c.loop-t.t) ≤ latest = omega (arith, c.loop-t-test.true) in it)) c.held_sum.ensures.0

-- what the loop makes is the demand in t
made : (c : After-held_sum) → c.args.q * c.args.own.cost + c.args.own.once + (past c) * c.args.own.part + c.held_sum.result ≡ (demand_in ((load_of c.args.s.now c.args.own c.args.held.now)) c.args.q) (c.loop-t.t)
made c = demand-is ((load_of c.args.s.now c.args.own c.args.held.now)) c.requires.sound (c.args.q) (c.loop-t.t) c.requires.few ((let it : (c.loop-t.t) ≤ latest = omega (arith, c.loop-t-test.true) in it)) c.loop-t.invariant.1.own ((let it : c.own_count-mine.result ≡ (get_or c.loop-t.counts max_chains 0 when eqb c.args.own.part 0 else η (own_of ((load_of c.args.s.now c.args.own c.args.held.now))) (c.loop-t.t)) = c.own_count-mine.ensures ∙ ap (λ ds. get_or c.loop-t.counts max_chains 0 when eqb c.args.own.part 0 else η ds (c.loop-t.t)) (sym (own-list ((load_of c.args.s.now c.args.own c.args.held.now)) c.requires.sound)) in it))
    c.saturating_sub.ensures c.held_sum.ensures.0

pub overflow_add-d-in-loop-t : goal.overflow_add-d-in-loop-t
overflow_add-d-in-loop-t c = rw c.saturating_sub.ensures (omega (arith, more (goal.at.overflow_add-d-in-loop-t c).After-own_count-mine, fixed (goal.at.overflow_add-d-in-loop-t c).Start, sums c))

-- t grows
climbs : (c : After-held_sum) → c.loop-t.t ≤ (demand_in ((load_of c.args.s.now c.args.own c.args.held.now)) c.args.q) c.loop-t.t
climbs c = let l = c.loop-t in under_climbs ((demand_in ((load_of c.args.s.now c.args.own c.args.held.now)) c.args.q)) ((let it : Grows ((demand_in ((load_of c.args.s.now c.args.own c.args.held.now)) c.args.q)) = (load-growing ((load_of c.args.s.now c.args.own c.args.held.now)) c.requires.sound).grows c.args.q c.requires.some in it)) l.t l.invariant.0

-- what is counted is no more than there is in t, and later
caught : (c : After-held_sum) → (u : ℕ) → c.loop-t.t ≤ u → Counted ((load_of c.args.s.now c.args.own c.args.held.now)) u c.held_sum.new.counts
caught c u h = let ok = c.requires.sound in
    let l = c.loop-t in
    let e : get_or c.held_sum.new.counts max_chains 0 ≡ c.own_count-mine.result =
    c.held_sum.ensures.1.own ∙ get_or-set_same l.counts max_chains c.own_count-mine.result 0 (omega (arith, l.invariant.1.held.size)) in
    record {
      own = le_trans (le_of_eq e) (le_trans ((let it : c.own_count-mine.result ≤ η (own_of ((load_of c.args.s.now c.args.own c.args.held.now))) (c.loop-t.t) = own-counted ((load_of c.args.s.now c.args.own c.args.held.now)) c.requires.sound (c.args.q) (c.loop-t.t) c.requires.few ((let it : (c.loop-t.t) ≤ latest = omega (arith, c.loop-t-test.true) in it)) c.loop-t.invariant.1.own ((let it : c.own_count-mine.result ≡ (get_or c.loop-t.counts max_chains 0 when eqb c.args.own.part 0 else η (own_of ((load_of c.args.s.now c.args.own c.args.held.now))) (c.loop-t.t)) = c.own_count-mine.ensures ∙ ap (λ ds. get_or c.loop-t.counts max_chains 0 when eqb c.args.own.part 0 else η ds (c.loop-t.t)) (sym (own-list ((load_of c.args.s.now c.args.own c.args.held.now)) c.requires.sound)) in it)) in it)) (η-mono ok.stands.good.list l.t u h));
      held = behind-later c.held_sum.ensures.1.all (λ j k. (ok.held.lists j k).good) h;
    }

pub returns-then-d-t : goal.returns-then-d-t
returns-then-d-t c = let d = demand (goal.at.returns-then-d-t c).Start in
    record {
      window = under-solves d (grows (goal.at.returns-then-d-t c).Start) c.loop-t.t c.loop-t.invariant.0 c.loop-t-test.true (sym c.if-d-t.true ∙ made (goal.at.returns-then-d-t c).After-held_sum);
      counted = λ u f. caught (goal.at.returns-then-d-t c).After-held_sum u (le_of_eq (ap long f));
    }

pub loop-t-smaller : goal.loop-t-smaller
loop-t-smaller c = omega (arith, climbs (goal.at.loop-t-smaller c).After-held_sum, made (goal.at.loop-t-smaller c).After-held_sum, c.if-d-t.false, c.loop-t-test.true)

pub loop-t-preserved : goal.loop-t-preserved
loop-t-preserved c = let d = demand (goal.at.loop-t-preserved c).Start in (
  subst (Under d) (sym (made (goal.at.loop-t-preserved c).After-held_sum)) (under_next d (grows (goal.at.loop-t-preserved c).Start) c.loop-t.t c.loop-t.invariant.0),
  caught (goal.at.loop-t-preserved c).After-held_sum _ (le_trans (climbs (goal.at.loop-t-preserved c).After-held_sum) (le_of_eq (sym (made (goal.at.loop-t-preserved c).After-held_sum)))),
)

pub returns : goal.returns
returns c = record {
  window = under_none (demand (goal.at.returns c).Start) (grows (goal.at.returns c).Start) c.loop-t.t c.loop-t.invariant.0 c.loop-t-test.false;
  counted = λ u e. absurd (let z : ◌≡◌ {A = ℕ} 0 1 = cc in omega arith);
}
