-- `latency_in` meets its contract: a chain was found, or none bears the id.
use Prim.Native.Nat.{◌<◌}
use mathlib.Core.Path.{◌≡◌, ap, sym, ◌∙◌}
use native.Mathlib.Omega.{arith}
use Rattle.table.specs.Find.{find_of}
use Rattle.table.specs.Read.{table_of}
use Rattle.table.proofs.Finds.{asked-there, asked-none}
use Rattle.table.specs.declared.refusal.Refusal.TheVariants.{NoChain}
use Rattle.table.proofs.Firsts.{handed_on}
use Rattle.arrivals.specs.Arrivals.{δ}
use Rattle.windows.specs.Latency.{figures_of, bound_at, latency_in}
use Rattle.windows.proofs.Answers.{chain-none, chain-found}
use Rattle.windows.proofs.query.latency_in.Goals as goal
use Rattle.windows.proofs.query.latency_in.Goals.{In_ok-chain}

found : (c : In_ok-chain) → (c.in_ok-chain.chain ≡ find_of (table_of c.args.s.now) c.args.id) × (c.in_ok-chain.chain < (table_of c.args.s.now).count)
found c = asked-there _ _ NoChain c.find.ensures c.ok_or.ensures.value c.in_ok-chain.was

answers : (c : In_ok-chain) → figures_of (bound_at δ (table_of c.args.s.now) c.in_ok-chain.chain) ≡ latency_in δ (table_of c.args.s.now) c.args.id
answers c = ap (λ j. figures_of (bound_at δ (table_of c.args.s.now) j)) (found c).0 ∙ sym (chain-found δ (table_of c.args.s.now) c.args.id (λ e. omega (arith, e, found c)))

pub returns-in_err-chain : goal.returns-in_err-chain
returns-in_err-chain c = let t = table_of c.args.s.now in
    let none = asked-none t c.args.id NoChain c.find.ensures c.ok_or.ensures.value c.in_err-chain.was in
    rw (handed_on _ c.from_residual.ensures.1, none.1) (sym (chain-none δ t c.args.id none.0))

pub bound-requires : goal.bound-requires
bound-requires c = (c.requires, (found (goal.at.bound-requires c).In_ok-chain).1)

pub returns-in_err-windows : goal.returns-in_err-windows
returns-in_err-windows c = handed_on _ c.from_residual-in_err-windows.ensures.1 ∙ ap figures_of (sym c.in_err-windows.was ∙ c.bound.ensures) ∙ answers (goal.at.returns-in_err-windows c).In_ok-chain

pub returns : goal.returns
returns c = ap figures_of (sym c.in_ok-windows.was ∙ c.bound.ensures) ∙ answers (goal.at.returns c).In_ok-chain
