-- All k where the empty set is bad; else the flags are those of the bad sets, either way.
use Prim.Native.Nat.{ℕ}
use mathlib.Core.Path.{◌≡◌, sym, ◌∙◌}
use mathlib.Core.Bool.{false}
use native.Mathlib.Omega.{arith}
use lib.Dec.{leb}
use lib.ListN.{get_or}
use Rattle.table.specs.Find.{row_of}
use Rattle.table.specs.Read.{table_of}
use Rattle.table.specs.declared.Table.{Table}
use Rattle.windows.specs.Demand.{views_of}
use Rattle.windows.specs.Code.Load.{Load, load_of}
use Rattle.packing.specs.Most.{flagged}
use Rattle.misses.specs.Bad.{by_windows}
use Rattle.misses.specs.Code.Held.{Few}
use Rattle.misses.specs.Code.Settling.{over_with, Costs, Tries}
use Rattle.misses.proofs.Packs.{flags_tell}
use Rattle.misses.proofs.Missed.{missed_few, missed_tries, missed_over, missed_costs, missed_without, missed_counts, missed_sized}
use Rattle.misses.proofs.testing.by_windows.Goals as goal
use Rattle.misses.proofs.testing.by_windows.Goals.{After-load-own, After-sets_of-sets, Else-over, in-Each, in_default}

abbrev table : (c : After-load-own) → Table
table c = table_of c.args.s.now

abbrev load : (c : After-load-own) → Load
load c = load_of c.args.s.now c.load-own.result c.load-own.new.held

tries : (c : After-load-own) → Tries (load c) c.args.w.figures.close
tries c = missed_tries c.requires c.load-own.ensures

few : (c : After-load-own) → Few c.args.p
few c = missed_few c.requires

same : (c : After-load-own) → (cost : ℕ) → over_with (load c) c.args.w.figures.close cost ≡ by_windows (row_of (table c) c.args.chain) (views_of (table c) c.args.chain) c.args.w.figures.close cost
same c = missed_over c.requires c.load-own.ensures

fine : (c : Else-over) → over_with ((load_of c.args.s.now c.load-own.result c.load-own.new.held)) c.args.w.figures.close 0 ≡ false
fine c = sym c.over.ensures ∙ c.if-over.false

costs : (c : After-sets_of-sets) → Costs c.prices-costs.result c.sets_of-sets.result
costs c = missed_costs c.requires _ c.prices-costs.ensures _ c.sets_of-sets.ensures

pub over-requires : goal.over-requires
over-requires c = (tries (goal.at.over-requires c).After-load-own, omega arith)

pub returns-then-over : goal.returns-then-over
returns-then-over c = record { is = missed_without c.requires by_windows (same (goal.at.returns-then-over c).After-load-own) (sym c.over.ensures ∙ c.if-over.true); within = tt }

pub prices-costs-requires : goal.prices-costs-requires
prices-costs-requires c = few (goal.at.prices-costs-requires c).After-load-own

pub sets_of-sets-requires : goal.sets_of-sets-requires
sets_of-sets-requires c = (few (goal.at.sets_of-sets-requires c).After-load-own).few

pub flags_by_windows-bad-requires : goal.flags_by_windows-bad-requires
flags_by_windows-bad-requires c = (tries (goal.at.flags_by_windows-bad-requires c).After-load-own, fine (goal.at.flags_by_windows-bad-requires c).Else-over, costs (goal.at.flags_by_windows-bad-requires c).After-sets_of-sets)

pub lowest_bad-requires : goal.lowest_bad-requires
lowest_bad-requires c = (tries (goal.at.lowest_bad-requires c).After-load-own, fine (goal.at.lowest_bad-requires c).Else-over, costs (goal.at.lowest_bad-requires c).After-sets_of-sets)

pub returns : goal.returns
returns c = let p = (goal.at.returns c).After-load-own in
    let prices = c.prices-costs in
    let costly = over_with (load p) c.args.w.figures.close in
    record {
      is = missed_counts c.requires by_windows (same p) (fine (goal.at.returns c).Else-over) prices.result prices.ensures (flagged c.match-how.bad)
          (elim c.match-how.branch [
            | in-Each w ↦ rw w.bad-is (flags_tell w.flags_by_windows-bad.result (λ m. costly (get_or prices.result m 0)) w.flags_by_windows-bad.ensures)
            | in_default w ↦ rw w.bad-is
                (λ m h. flags_tell w.flags-bad.result (λ m. leb w.lowest_bad.result (get_or prices.result m 0)) w.flags-bad.ensures m h ∙ w.lowest_bad.ensures m h)
          ]);
      within = missed_sized c.requires;
    }
