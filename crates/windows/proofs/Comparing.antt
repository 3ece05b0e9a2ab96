-- Two demands compared: those of two chains, each by a rule for distances, beside other chains that are matched one by one. Assumes nothing.
use Prim.Native.Nat.{ℕ, ◌+◌, ◌*◌, ◌-◌, ◌≤◌}
use mathlib.Core.Path.{◌≡◌, refl, ap}
use mathlib.Core.List.{List, [], ◌∷◌}
use mathlib.Core.Bool.{Bool, true, false}
use native.Mathlib.Omega.{arith}
use native.Mathlib.Nat.{mul-le-mul, mul-le-mul_left, le_refl}
use lib.Dec.{eqb}
use Rattle.search.specs.Choice.{◌when◌else◌}
use Rattle.search.specs.Lists.{All}
use Rattle.search.proofs.Choice.{when_cases, true-not-false}
use Rattle.search.proofs.Matching.{Matched, matched_same, matched_sum}
use Rattle.table.specs.Record.{distances}
use Rattle.table.specs.Code.Good.{GoodRow, GoodDistances}
use Rattle.table.specs.declared.Row.{Row}
use Rattle.arrivals.specs.Arrivals.{Rule, count_by}
use Rattle.arrivals.proofs.Rules.{Fewer, Slower, slower_fewer}
use Rattle.segments.specs.Tasks.{chain_cost}
use Rattle.segments.specs.View.{View, all_of, dearest_of}
use Rattle.windows.specs.Demand.{asynchronous, term_of, counted_part, demand_of, typical}

-- two views, each by its rule: they add in the same way, and no part of the first is greater
pub record Lesser (rule other : Rule) (v w : View) : Type 0 where
  pub free : v.free ≡ w.free
  pub kind : v.kind ≡ w.kind
  pub overload : v.overload ≡ w.overload
  pub first : v.first ≤ w.first
  pub all : all_of v ≤ all_of w
  pub dearest : dearest_of v ≤ dearest_of w
  pub count : Fewer rule v.list other w.list

-- two chains, each by its rule: the first costs no more, nor does its own first part, and it comes no more often
pub record Lighter (rule other : Rule) (b c : Row) : Type 0 where
  pub cost : chain_cost b ≤ chain_cost c
  pub part : counted_part b ≤ counted_part c
  pub count : Fewer rule (distances b) other (distances c)

module _ {rule other : Rule} where
  -- what the first view adds is no more than what the second adds in no less time
  term-less : {v w : View} → Lesser rule other v w → (s t : ℕ) → s ≤ t → term_of rule v s ≤ term_of other w t
  unfolding term_of ◌when◌else◌
  term-less {v} {w} l s t h = rw (l.free, l.kind) (go w.free (asynchronous w.kind))
    where
      go : (free async : Bool)
          → (count_by rule v.list s * all_of v when free else count_by rule v.list s * v.first + all_of v when async else dearest_of v)
          ≤ (count_by other w.list t * all_of w when free else count_by other w.list t * w.first + all_of w when async else dearest_of w)
      go true async = mul-le-mul (l.count s t h) l.all
      go false true = omega (arith, mul-le-mul (l.count s t h) l.first, l.all)
      go false false = l.dearest

  -- and so is the demand
  pub demand-less : {b c : Row} {vs ws : List View} → Lighter rule other b c → Matched (Lesser rule other) vs ws
      → (q s t : ℕ) → s ≤ t → demand_of rule b vs q s ≤ demand_of other c ws q t
  unfolding demand_of
  demand-less {b} {c} own besides q s t h =
      let past : count_by rule (distances b) s - q ≤ count_by other (distances c) t - q = omega (arith, own.count s t h) in
      omega (
        arith,
        mul-le-mul_left q own.cost,
        mul-le-mul past own.part,
        matched_sum (λ v. term_of rule v s) (λ w. term_of other w t) (λ v w l. term-less l s t h) besides,
      )

  -- without those that have an overload mark they are matched still
  pub typical-less : {vs ws : List View} → Matched (Lesser rule other) vs ws → Matched (Lesser rule other) (typical vs) (typical ws)
  unfolding typical ◌when◌else◌
  typical-less Matched.none = Matched.none
  typical-less (Matched.more {a = v} {b = w} {l = vs} {r = ws} h m) = go (eqb v.overload 0) (eqb w.overload 0) (ap (λ n. eqb n 0) h.overload) (typical-less m)
    where
      go : (t u : Bool) → t ≡ u → Matched (Lesser rule other) (typical vs) (typical ws)
          → Matched (Lesser rule other) (v ∷ typical vs when t else typical vs) (w ∷ typical ws when u else typical ws)
      go true true e r = Matched.more h r
      go true false e r = absurd (true-not-false refl e)
      go false true e r = absurd (true-not-false e refl)
      go false false e r = r

-- each view has distances of an accepted table
abbrev pub Paced : List View → Type 0
Paced vs = All (λ v. GoodDistances v.list) vs

pub typical-paced : (vs : List View) → Paced vs → Paced (typical vs)
unfolding typical
typical-paced [] h = tt
typical-paced (v ∷ vs) h = when_cases Paced _ (λ e. (h.0, typical-paced vs h.1)) (λ e. typical-paced vs h.1)

-- one chain beside the same others, by two rules
module _ {rule other : Rule} (slower : Slower rule other) where
  pub row-less : (b : Row) → GoodRow b → Lighter rule other b b
  row-less b good = record { cost = le_refl _; part = le_refl _; count = slower_fewer slower good.list }

  pub views-less : (vs : List View) → Paced vs → Matched (Lesser rule other) vs vs
  views-less = matched_same (λ v good. record {
    free = refl;
    kind = refl;
    overload = refl;
    first = le_refl _;
    all = le_refl _;
    dearest = le_refl _;
    count = slower_fewer slower good;
  })
