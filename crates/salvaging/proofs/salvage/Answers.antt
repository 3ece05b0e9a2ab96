-- The places found are those of the records kept.
use Prim.Native.Nat.{ℕ, ◌≤◌}
use native.Mathlib.Omega.{arith}
use mathlib.Core.Path.{◌≡◌, ap, sym, subst, ◌∙◌}
use mathlib.Core.List.{List}
use lib.ListN.{length, take}
use lib.Seq.{length-take-le}
use Rattle.table.specs.Read.{empty}
use Rattle.salvaging.specs.Code.Walk.{InOrder, Walked, Fits}
use Rattle.salvaging.proofs.Walks.{kept-order}
use Rattle.salvaging.proofs.Fits.{salvages-long, salvages-none, salvages-fit}
use Rattle.salvaging.proofs.salvage.Goals as goal
use Rattle.salvaging.proofs.salvage.Goals.{After-walk-n}

abbrev bytes : (c : After-walk-n) → List ℕ
bytes c = c.args.s.now

abbrev found : (c : After-walk-n) → List ℕ
found c = take c.walk-n.result c.walk-n.new.places

walked : (c : After-walk-n) → Walked (bytes c) c.walk-n.new.places c.walk-n.result
walked c = c.walk-n.ensures

many : (c : After-walk-n) → length (found c) ≡ c.walk-n.result
many c = length-take-le c.walk-n.result c.walk-n.new.places (walked c).few

short : (c : After-walk-n) → length (bytes c) ≤ 4096
short c = omega (arith, c.if-s-gt-INPUT.false)

pub returns-then-s-gt-INPUT : goal.returns-then-s-gt-INPUT
returns-then-s-gt-INPUT c = salvages-long c.args.s.now c.args.table.now c.args.list.now (omega (arith, c.if-s-gt-INPUT.true))

pub returns-then-n-eq0 : goal.returns-then-n-eq0
returns-then-n-eq0 c = let p = (goal.at.returns-then-n-eq0 c).After-walk-n in
    salvages-none c.args.s.now c.args.table.now c.args.list.now (short p) (ap length (sym (walked p).numbers) ∙ many p ∙ c.if-n-eq0.true)

pub slice_bounds-fit-end : goal.slice_bounds-fit-end
slice_bounds-fit-end c = sym (many (goal.at.slice_bounds-fit-end c).After-walk-n)

pub fit-requires : goal.fit-requires
fit-requires c = let p = (goal.at.fit-requires c).After-walk-n in (
  subst (InOrder c.args.s.now 0) (sym (walked p).numbers) (kept-order c.args.s.now (length c.args.s.now) 0 empty (omega arith)),
  omega (arith, many p, (walked p).few, (walked p).long),
  short p,
)

pub returns : goal.returns
returns c = let p = (goal.at.returns c).After-walk-n in
    salvages-fit c.args.s.now c.args.table.now c.args.list.now (short p) (omega (arith, many p, ap length (walked p).numbers, c.if-n-eq0.false))
    (subst (λ places. Fits c.args.s.now places c.args.table.now c.args.list.now c.fit.result c.fit.new.table c.fit.new.list) (walked p).numbers c.fit.ensures)
