-- `repeated_to` meets its contract: the rule in the first list, and in the second.
use Prim.Native.Nat.{ℕ, ◌+◌, ◌-◌}
use mathlib.Core.Path.{◌≡◌, ap, ap₂, sym, ◌∙◌}
use mathlib.Core.List.{List}
use native.Mathlib.Omega.{arith}
use lib.ListN.{length}
use Rattle.table.specs.Code.Listed.{listed_from, distances_from}
use Rattle.arrivals.specs.Arrivals.{as_listed, repeated}
use Rattle.arrivals.proofs.Lists.{rising, repeated_in_first, repeated_in_second}
use Rattle.arrivals.proofs.Repeating.{repeated-bounded}
use Rattle.arrivals.proofs.Rows.{lists_length, lists-inside}
use Rattle.arrivals.proofs.head.repeated_to.Goals as goal
use Rattle.arrivals.proofs.head.repeated_to.Goals.{After-as_listed-3, Start}

abbrev ds : (c : Start) → List ℕ
ds c = distances_from c.args.s.now c.args.list

long : (c : Start) → length (ds c) ≡ listed_from c.args.s.now c.args.list
long c = lists_length c.requires.0

pub listed_from-listed-requires : goal.listed_from-listed-requires
listed_from-listed-requires c = lists-inside c.requires.0

pub as_listed-requires : goal.as_listed-requires
as_listed-requires c = (c.requires.0, omega (arith, c.listed_from-listed.ensures.0, c.if-m-listed.true))

pub returns-then-m-listed : goal.returns-then-m-listed
returns-then-m-listed c =
    let b = (goal.at.returns-then-m-listed c).Start in
    c.as_listed.ensures ∙ sym (repeated_in_first (rising c.requires.0.good) c.args.m (omega (arith, long b, c.listed_from-listed.ensures.0, c.if-m-listed.true)))

pub as_listed-requires-2 : goal.as_listed-requires-2
as_listed-requires-2 c = (c.requires.0, omega (arith, c.listed_from-listed.ensures.0))

pub overflow_sub-m : goal.overflow_sub-m
overflow_sub-m c = omega (arith, c.if-m-listed.false)

pub as_listed-requires-3 : goal.as_listed-requires-3
as_listed-requires-3 c = (c.requires.0, omega (arith, c.listed_from-listed.ensures.0, c.requires.1))

-- what the two add up to
all : (c : After-as_listed-3) → c.as_listed-2.result + c.as_listed-3.result ≡ repeated (distances_from c.args.s.now c.args.list) (c.args.m + 1)
all c =
    let d = distances_from c.args.s.now c.args.list in
    let listed : c.listed_from-listed.result ≡ length d = c.listed_from-listed.ensures.0 ∙ sym (lists_length c.requires.0) in
    ap₂ (λ x y. x + y) (c.as_listed-2.ensures ∙ ap (as_listed d) listed) (c.as_listed-3.ensures ∙ ap (λ n. as_listed d (c.args.m - n)) listed)
    ∙ sym (repeated_in_second (rising c.requires.0.good) c.args.m (omega (arith, listed, c.if-m-listed.false)) (omega (arith, c.requires.1, lists_length c.requires.0)))

pub overflow_add-result : goal.overflow_add-result
overflow_add-result c =
    let b = (goal.at.overflow_add-result c).Start in
    omega (arith, all c, repeated-bounded (rising c.requires.0.good) (c.args.m + 1), c.requires.1, long b, c.requires.0.good.few)

pub returns : goal.returns
returns c = all c
