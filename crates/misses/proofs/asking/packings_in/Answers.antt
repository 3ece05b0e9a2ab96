-- No chain bears the id, what is refused before any window or by the windows, or what these leave.
use Prim.Native.Nat.{◌<◌}
use mathlib.Core.Path.{◌≡◌, ap, sym, ◌∙◌}
use native.Mathlib.Omega.{arith}
use Rattle.table.specs.Find.{row_of, find_of}
use Rattle.table.specs.declared.Table.{Table}
use Rattle.table.specs.declared.refusal.Refusal.TheVariants.{NoChain}
use Rattle.table.specs.Read.{table_of}
use Rattle.table.proofs.Finds.{asked-there, asked-none}
use Rattle.table.proofs.Firsts.{handed_on}
use Rattle.table.proofs.Stands.{row-there, stands}
use Rattle.arrivals.specs.Arrivals.{δ}
use Rattle.windows.specs.Demand.{views_of}
use Rattle.misses.specs.Misses.{early_of, tested_at, tested_in}
use Rattle.misses.specs.Code.Packings.{test_of}
use Rattle.misses.proofs.Answers.{at-early, at_bound, chain-none, chain-found}
use Rattle.misses.proofs.Leading.{leads_refused, leads_same}
use Rattle.misses.proofs.Limits.{asked}
use Rattle.misses.proofs.asking.packings_in.Goals as goal
use Rattle.misses.proofs.asking.packings_in.Goals.{After-early, In_ok-chain, Start}

abbrev t : (c : Start) → Table
t c = table_of c.args.s.now

-- the chain is there
there : (c : In_ok-chain) → (c.in_ok-chain.chain ≡ find_of (table_of c.args.s.now) c.args.id) × (c.in_ok-chain.chain < (table_of c.args.s.now).count)
there c = asked-there (table_of c.args.s.now) c.args.id NoChain c.find.ensures c.ok_or.ensures.value c.in_ok-chain.was

-- and what is asked is asked of it
found : (c : In_ok-chain) → tested_at δ (test_of c.args.how) (table_of c.args.s.now) c.in_ok-chain.chain c.args.k ≡ tested_in δ (test_of c.args.how) (table_of c.args.s.now) c.args.id c.args.k
found c = let test = test_of c.args.how in
    ap (λ j. tested_at δ test (table_of c.args.s.now) j c.args.k) (there c).0
    ∙ sym (chain-found δ test (table_of c.args.s.now) c.args.id c.args.k (λ e. omega (arith, e, there c)))

-- what is refused of it before any window
judged : (c : After-early) → c.in_ok-chain.chain < (table_of c.args.s.now).count → c.early.result ≡ early_of (row_of (table_of c.args.s.now) c.in_ok-chain.chain) c.args.k
judged c h = c.early.ensures ∙ ap (λ r. early_of r c.args.k) (row-there c.requires c.place.ensures h)

pub find-requires : goal.find-requires
find-requires c = c.requires

pub returns-in_err-chain : goal.returns-in_err-chain
returns-in_err-chain c =
    let table = t (goal.at.returns-in_err-chain c).Start in
    let n = asked-none table c.args.id NoChain {q = c.in_err-chain.field-0.0} c.find.ensures c.ok_or.ensures.value c.in_err-chain.was in
    leads_refused (handed_on _ c.from_residual.ensures.1) (rw n.1 (sym (chain-none δ (test_of c.args.how) table c.args.id c.args.k n.0)))

pub place-requires : goal.place-requires
place-requires c = (c.requires, omega (arith, there c))

pub early-requires : goal.early-requires
early-requires c = omega (arith, (stands c.requires c.place.ensures (there (goal.at.early-requires c).In_ok-chain).1).there)

pub returns-in_err-early : goal.returns-in_err-early
returns-in_err-early c =
    let p = (goal.at.returns-in_err-early c).In_ok-chain in
    let e = sym (judged (goal.at.returns-in_err-early c).After-early (there p).1) ∙ c.in_err-early.was in
    leads_refused (handed_on _ c.from_residual-in_err-early.ensures.1)
    (sym (at-early (test_of c.args.how) (t (goal.at.returns-in_err-early c).Start) c.in_ok-chain.chain c.args.k e) ∙ found p)

pub bound-requires : goal.bound-requires
bound-requires c = (c.requires, (there (goal.at.bound-requires c).In_ok-chain).1)

pub returns-in_err-bound : goal.returns-in_err-bound
returns-in_err-bound c =
    let p = (goal.at.returns-in_err-bound c).In_ok-chain in
    let e = sym (judged (goal.at.returns-in_err-bound c).After-early (there p).1) ∙ c.in_ok-early.was in
    leads_refused (handed_on _ c.from_residual-in_err-bound.ensures.1)
    (sym (at_bound (test_of c.args.how) (t (goal.at.returns-in_err-bound c).Start) c.in_ok-chain.chain c.args.k e (sym c.bound.ensures ∙ c.in_err-bound.was)) ∙ found p)

pub by_figures-requires : goal.by_figures-requires
by_figures-requires c =
    let table = t (goal.at.by_figures-requires c).Start in
    let h = (there (goal.at.by_figures-requires c).In_ok-chain).1 in
    let e = sym (judged (goal.at.by_figures-requires c).After-early h) ∙ c.in_ok-early.was in
    (c.requires, h, asked (row_of table c.in_ok-chain.chain) (c.requires.good.row c.in_ok-chain.chain h) (views_of table c.in_ok-chain.chain) c.args.k _ e (sym c.bound.ensures ∙ c.in_ok-bound.was))

pub returns : goal.returns
returns c =
    let p = (goal.at.returns c).In_ok-chain in
    let e = sym (judged (goal.at.returns c).After-early (there p).1) ∙ c.in_ok-early.was in
    leads_same c.by_figures.ensures
    (sym (at_bound (test_of c.args.how) (t (goal.at.returns c).Start) c.in_ok-chain.chain c.args.k e (sym c.bound.ensures ∙ c.in_ok-bound.was)) ∙ found p)
