-- `delta` meets its contract: by one distance, or by a list of more.
use Prim.Native.Nat.{◌+◌, ◌*◌, ◌-◌}
use mathlib.Core.Path.{◌≡◌, ap, sym, ◌∙◌}
use native.Mathlib.Omega.{arith}
use Rattle.table.specs.Code.Listed.{distances_from}
use Rattle.arrivals.specs.Arrivals.{δ}
use Rattle.arrivals.proofs.Distances.{δ-near}
use Rattle.arrivals.proofs.Heads.{δ-single}
use Rattle.arrivals.proofs.Rows.{lists_length}
use Rattle.arrivals.proofs.delta.Goals as goal
use Rattle.arrivals.proofs.delta.Goals.{After-as_listed}

-- the one distance, so many times
all : (c : After-as_listed) → (c.args.n - 1) * c.as_listed.result ≡ δ (distances_from c.args.s.now c.args.list) c.args.n
all c = let e : c.args.n - 1 + 1 ≡ c.args.n = omega (arith, c.requires.1) in
    ap (λ d. (c.args.n - 1) * d) c.as_listed.ensures
    ∙ sym (δ-single c.requires.0.good (lists_length c.requires.0 ∙ sym c.listed_from.ensures.0 ∙ c.if-listed_from-eq1.true) (c.args.n - 1))
    ∙ ap (δ (distances_from c.args.s.now c.args.list)) e

pub overflow_mul-result : goal.overflow_mul-result
overflow_mul-result c = omega (arith, all c, δ-near c.requires.0.good c.args.n, c.requires.2)

pub returns-then-listed_from-eq1 : goal.returns-then-listed_from-eq1
returns-then-listed_from-eq1 c = all c

pub returns : goal.returns
returns c = let e : c.args.n - 1 + 1 ≡ c.args.n = omega (arith, c.requires.1) in
    c.delta_by_list.ensures ∙ ap (δ (distances_from c.args.s.now c.args.list)) e
