-- The load of a chain beside those without overload mark: it gives the demand that a combination's costs are added to. Assumes nothing.
use Prim.Native.Nat.{ℕ, ◌+◌, ◌≤◌, ◌<◌}
use mathlib.Core.Path.{◌≡◌, ap, ap₂, fun_ext}
use mathlib.Core.List.{List}
use native.Mathlib.Omega.{arith}
use lib.ListN.{length, length-append}
use Rattle.table.specs.Find.{row_of}
use Rattle.table.specs.Code.Good.{GoodTable}
use Rattle.table.specs.declared.Row.{Row}
use Rattle.table.specs.declared.Table.{Table}
use Rattle.table.specs.Record.{distances}
use Rattle.arrivals.specs.Arrivals.{δ}
use Rattle.segments.specs.View.{View}
use Rattle.windows.specs.Demand.{demand_of}
use Rattle.windows.specs.Code.Load.{once_limit, views_at, views_between, Load, Loads}
use Rattle.windows.specs.Code.Called.{above_in}
use Rattle.windows.specs.declared.Others.TheVariants.{Typical}
use Rattle.windows.proofs.Besides.{views-length, views-others}
use Rattle.misses.specs.Bad.{over}
use Rattle.misses.specs.Sieve.{called}
use Rattle.misses.specs.Code.Settling.{over_with, beyond}

-- what is over, by the load, is over by the demand
pub loads_over : {b : Row} {vs : List View} {l : Load} → Loads b vs l → (close cost : ℕ)
    → over_with l close cost ≡ over (demand_of δ b vs) (δ (distances b)) b.deadline close cost
loads_over a close cost =
    ap₂ (λ d (r : Row). over d (δ (distances r)) r.deadline close cost) (fun_ext (λ q. fun_ext (λ t. a.demand q t))) a.chain

-- and so what is called bad
pub loads_called : {b : Row} {vs : List View} {l : Load} → Loads b vs l → (close cost : ℕ)
    → above_in l close cost ≡ called (demand_of δ b vs) (δ (distances b)) b.deadline close cost
unfolding called
loads_called a close cost =
    ap₂ (λ d (r : Row). called d (δ (distances r)) r.deadline close cost) (fun_ext (λ q. fun_ext (λ t. a.demand q t))) a.chain

-- and it has room for any set's cost
pub loads_room : (t : Table) → GoodTable t → (chain : ℕ) → chain < t.count → (l : Load) → Loads (row_of t chain) (views_at Typical t chain) l → l.once + beyond ≤ once_limit
loads_room t good chain h l a =
    let b = row_of t chain in
    let before = views_between Typical t b 0 chain in
    let after = views_between Typical t b (chain + 1) t.count in
    omega (
      arith,
      a.once,
      ap length (views-others Typical t chain),
      length-append before after,
      views-length Typical t b good 0 chain (omega arith),
      views-length Typical t b good (chain + 1) t.count (omega arith),
      good.few,
    )
