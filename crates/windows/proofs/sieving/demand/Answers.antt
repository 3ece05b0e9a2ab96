-- `demand` meets its contract: its parts fit, and their sum is the demand.
use Prim.Native.Nat.{◌+◌, ◌*◌, ◌≤◌}
use mathlib.Core.Path.{◌≡◌, refl, ap, sym, ◌∙◌}
use native.Mathlib.Omega.{arith}
use native.Mathlib.Nat.{le_refl}
use lib.Dec.{eqb}
use Rattle.search.specs.Choice.{◌when◌else◌}
use Rattle.search.proofs.Choice.{when_cases}
use Rattle.arrivals.specs.Arrivals.{η}
use Rattle.windows.specs.Code.Load.{Load, load_of, own_of}
use Rattle.windows.proofs.Bounds.{busiest, fixed_le, past_le, sum_le, demand-is}
use Rattle.windows.proofs.Counting.{own-list, own-lists}
use Rattle.windows.proofs.sieving.demand.Goals as goal
use Rattle.windows.proofs.sieving.demand.Goals.{After-eta_from, After-saturating_sub, Start}

abbrev load : (c : Start) → Load
load c = load_of c.args.s.now c.args.own c.args.held.now

fixed : (c : Start) → c.args.q * c.args.own.cost + c.args.own.once ≤ 100000000000
fixed c = fixed_le (load c) c.requires.0 c.args.q c.args.t c.requires.1 c.requires.2

-- the chain's arrivals, by its own list
counts : (c : After-eta_from) → c.eta_from.result ≡ η (own_of ((load_of c.args.s.now c.args.own c.args.held.now))) c.args.t
counts c = c.eta_from.ensures ∙ ap (λ ds. η ds c.args.t) (sym (own-list ((load_of c.args.s.now c.args.own c.args.held.now)) c.requires.0))

-- all arrivals of the chain are counted, whether its part is 0 or not
counted : (c : After-eta_from) → c.eta_from.result ≡ (η (own_of ((load_of c.args.s.now c.args.own c.args.held.now))) c.args.t when eqb c.args.own.part 0 else η (own_of ((load_of c.args.s.now c.args.own c.args.held.now))) c.args.t)
counted c = let all = η (own_of ((load_of c.args.s.now c.args.own c.args.held.now))) c.args.t in
    counts c ∙ when_cases (λ n. all ≡ n) (eqb c.args.own.part 0) (λ e. refl) (λ e. refl)

-- what is counted past q fits
more : (c : After-saturating_sub) → c.saturating_sub.result * c.args.own.part ≤ busiest
more c = past_le ((load_of c.args.s.now c.args.own c.args.held.now)) c.requires.0 c.args.q c.args.t c.requires.1 c.requires.2 (le_refl _) ((let it : c.eta_from.result ≡ (η (own_of ((load_of c.args.s.now c.args.own c.args.held.now))) c.args.t when eqb c.args.own.part 0 else η (own_of ((load_of c.args.s.now c.args.own c.args.held.now))) c.args.t) = let all = η (own_of ((load_of c.args.s.now c.args.own c.args.held.now))) c.args.t in
    (let it : c.eta_from.result ≡ η (own_of ((load_of c.args.s.now c.args.own c.args.held.now))) c.args.t = c.eta_from.ensures ∙ ap (λ ds. η ds c.args.t) (sym (own-list ((load_of c.args.s.now c.args.own c.args.held.now)) c.requires.0)) in it) ∙ when_cases (λ n. all ≡ n) (eqb c.args.own.part 0) (λ e. refl) (λ e. refl) in it)) c.saturating_sub.ensures

pub eta_from-requires : goal.eta_from-requires
eta_from-requires c = (own-lists (load (goal.at.eta_from-requires c).Start) c.requires.0, omega (arith, c.requires.2), omega arith)

pub overflow_mul-more : goal.overflow_mul-more
overflow_mul-more c = omega (arith, more (goal.at.overflow_mul-more c).After-saturating_sub)

pub overflow_mul-fixed : goal.overflow_mul-fixed
overflow_mul-fixed c = omega (arith, fixed (goal.at.overflow_mul-fixed c).Start)

pub overflow_add-fixed : goal.overflow_add-fixed
overflow_add-fixed c = omega (arith, fixed (goal.at.overflow_add-fixed c).Start)

pub overflow_add-result : goal.overflow_add-result
overflow_add-result c = omega (arith, fixed (goal.at.overflow_add-result c).Start, more (goal.at.overflow_add-result c).After-saturating_sub)

pub held_at-requires : goal.held_at-requires
held_at-requires c = (c.requires.0.held, c.requires.2)

pub overflow_add-result-2 : goal.overflow_add-result-2
overflow_add-result-2 c = omega (arith, fixed (goal.at.overflow_add-result-2 c).Start, more (goal.at.overflow_add-result-2 c).After-saturating_sub, sum_le (load (goal.at.overflow_add-result-2 c).Start) c.requires.0 c.args.q c.args.t c.requires.1 c.requires.2 c.held_at.ensures)

pub returns : goal.returns
returns c = demand-is (load (goal.at.returns c).Start) c.requires.0 c.args.q c.args.t c.requires.1 c.requires.2 (le_refl _) (counted (goal.at.returns c).After-eta_from) c.saturating_sub.ensures c.held_at.ensures
