-- All k where the empty set is called bad; else the sets from the least cost called bad on are packed.
use Prim.Native.Nat.{ℕ, ◌<◌}
use mathlib.Core.Path.{◌≡◌, sym, ◌∙◌}
use mathlib.Core.Bool.{false}
use native.Mathlib.Omega.{arith}
use borrow.Author.Tests.{le-leb, lt-leb}
use lib.Dec.{leb}
use lib.ListN.{get_or}
use Rattle.table.specs.Find.{row_of}
use Rattle.table.specs.Read.{table_of}
use Rattle.table.specs.declared.Table.{Table}
use Rattle.windows.specs.Demand.{views_of}
use Rattle.windows.specs.Code.Load.{Load, load_of}
use Rattle.windows.specs.Code.Called.{above_in}
use Rattle.packing.specs.Most.{flagged}
use Rattle.misses.specs.Sieve.{by_sieve}
use Rattle.misses.specs.Code.Settling.{beyond}
use Rattle.misses.proofs.Packs.{flags_tell}
use Rattle.misses.proofs.Missed.{missed_few, missed_starts, missed_called, missed_within, missed_without, missed_counts, missed_sized}
use Rattle.misses.proofs.testing.by_sieve.Goals as goal
use Rattle.misses.proofs.testing.by_sieve.Goals.{After-least_called-lowest, After-load-own}

abbrev table : (c : After-load-own) → Table
table c = table_of c.args.s.now

abbrev load : (c : After-load-own) → Load
load c = load_of c.args.s.now c.load-own.result c.load-own.new.held

same : (c : After-load-own) → (cost : ℕ) → above_in (load c) c.args.w.figures.close cost ≡ by_sieve (row_of (table c) c.args.chain) (views_of (table c) c.args.chain) c.args.w.figures.close cost
same c = missed_called c.requires c.load-own.ensures

from : (c : After-least_called-lowest) → (cost : ℕ) → cost < beyond → leb c.least_called-lowest.result cost ≡ above_in ((load_of c.args.s.now c.load-own.result c.load-own.new.held)) c.args.w.figures.close cost
from c = c.least_called-lowest.ensures.tells

fine : (c : After-least_called-lowest) → (c.least_called-lowest.result ≡ 0 → ⊥) → above_in ((load_of c.args.s.now c.load-own.result c.load-own.new.held)) c.args.w.figures.close 0 ≡ false
fine c h = sym ((from c) 0 (omega arith)) ∙ lt-leb c.least_called-lowest.result 0 (omega arith)

pub least_called-lowest-requires : goal.least_called-lowest-requires
least_called-lowest-requires c = missed_starts c.requires c.load-own.ensures

pub returns-then-lowest-eq-NO_COST : goal.returns-then-lowest-eq-NO_COST
returns-then-lowest-eq-NO_COST c = record {
  is = missed_without c.requires by_sieve (same (goal.at.returns-then-lowest-eq-NO_COST c).After-load-own)
      (sym (from (goal.at.returns-then-lowest-eq-NO_COST c).After-least_called-lowest 0 (omega arith)) ∙ le-leb c.least_called-lowest.result 0 (omega (arith, c.if-lowest-eq-NO_COST.true)));
  within = tt;
}

pub prices-requires : goal.prices-requires
prices-requires c = missed_few c.requires

pub returns : goal.returns
returns c = let flags = c.flags-bad in
    let prices = c.prices in
    record {
      is = missed_counts c.requires by_sieve (same (goal.at.returns c).After-load-own) (fine (goal.at.returns c).After-least_called-lowest c.if-lowest-eq-NO_COST.false) prices.result prices.ensures (flagged flags.result)
          (λ m h. flags_tell flags.result (λ m. leb c.least_called-lowest.result (get_or prices.result m 0)) flags.ensures m h
          ∙ from (goal.at.returns c).After-least_called-lowest (get_or prices.result m 0) (missed_within c.requires prices.result prices.ensures m h));
      within = missed_sized c.requires;
    }
