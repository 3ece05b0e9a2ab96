-- Two analyses compared: where in the first every demand is no greater, every distance no shorter and the deadline no earlier, no figure of the
-- first is worse, and it has figures where the second has. Assumes nothing.
use Prim.Native.Nat.{ℕ, zero, suc, zero-le, ◌+◌, ◌≤◌}
use mathlib.Core.Path.{◌≡◌, refl, ap, sym, subst, ◌∙◌}
use mathlib.Core.List.{List}
use mathlib.Core.Logic.{⊎_elim}
use native.Mathlib.Omega.{arith}
use native.Mathlib.Nat.{le_refl, le_trans, le_of_eq, eq-or-lt_of_le}
use borrow.Author.Tests.{le-leb, lt-ltb, ltb-true}
use lib.Dec.{ltb}
use lib.Signed.{◌≤ℤ◌}
use Rattle.search.specs.Lists.{sum_of}
use Rattle.search.proofs.Choice.{when_cases, when_yes, true-not-false, lt_or_le}
use Rattle.search.proofs.Find.{first_ge, first_miss}
use Rattle.table.specs.Limits.{max_activations}
use Rattle.table.specs.Record.{distances}
use Rattle.table.specs.Code.Good.{GoodRow}
use Rattle.table.specs.declared.Row.{Row}
use Rattle.arrivals.specs.Arrivals.{Rule}
use Rattle.arrivals.proofs.Rules.{count-fewer, GoodRule, Slower}
use Rattle.segments.specs.Tasks.{chain_cost}
use Rattle.segments.specs.View.{View}
use Rattle.windows.specs.Demand.{counted_part, demand_of, typical}
use Rattle.windows.specs.Window.{window_of}
use Rattle.windows.specs.Latency.{ends, close_of, latency_at, latency_to, up_to, over_of, late_to, margin_of, figures, windows_of, bound_of}
use Rattle.std.specs.declared.option.Option.TheVariants.{Some}
use Rattle.windows.specs.declared.Windows.{Windows}
use Rattle.std.specs.declared.result.Result.{Result}
use Rattle.std.specs.declared.result.Result.TheVariants.{Ok}
use Rattle.table.specs.declared.refusal.Refusal.{Refusal}
use Rattle.windows.proofs.Least.{window-less}
use Rattle.search.proofs.Matching.{Matched}
use Rattle.windows.proofs.Comparing.{Lesser, Lighter, demand-less, typical-less, Paced, typical-paced, views-less}
use Rattle.windows.proofs.Growth.{Growing, demand-growing}
use Rattle.windows.proofs.Latencies.{latency-is, latency-greatest}
use Rattle.windows.proofs.Closing.{Closes, closes-found, closes-answer, answer-closed, windows-there}
use Rattle.windows.proofs.Margins.{margin-rises}

-- the first of two analyses, each a demand, the distance of n activations and a deadline, is no harder than the second
pub record Easier (demand harder : ℕ → ℕ → ℕ) (distance nearer : ℕ → ℕ) (deadline earlier : ℕ) : Type 0 where
  pub grows : Growing demand
  pub demands : (q t : ℕ) → demand q t ≤ harder q t
  pub apart : (n : ℕ) → nearer n ≤ distance n
  pub deadlines : earlier ≤ deadline

-- figures none of which is greater than these, with a margin no smaller and a last window no longer
pub record NoWorse (r : Result Windows Refusal) (w : Windows) : Type 0 where
  pub found : Windows
  pub is : r ≡ Ok found
  pub close_less : found.figures.close ≤ w.figures.close
  pub latency_less : found.figures.latency ≤ w.figures.latency
  pub late_less : found.figures.late ≤ w.figures.late
  pub last_less : found.last ≤ w.last
  pub margin_more : w.figures.margin ≤ℤ found.figures.margin

over-less : (x y deadline earlier : ℕ) → x ≤ y → earlier ≤ deadline → over_of x deadline ≤ over_of y earlier
over-less x y deadline earlier h l = when_cases (λ n. n ≤ over_of y earlier) (ltb deadline x)
    (λ e. omega (arith, when_yes {A = ℕ} 1 0 (lt-ltb earlier y (omega (arith, ltb-true deadline x e)))))
    (λ e. zero-le)

-- late up to K: where no latency up to there is greater, and the other goes on as far
late-up : (demand harder : ℕ → ℕ → ℕ) (distance nearer : ℕ → ℕ) (deadline earlier : ℕ) → earlier ≤ deadline → (close far : ℕ) → close ≤ far
    → ((q : ℕ) → 1 ≤ q → q ≤ close → latency_at demand distance q ≤ latency_at harder nearer q) → late_to demand distance deadline close ≤ late_to harder nearer earlier far
unfolding late_to up_to sum_of
late-up demand harder distance nearer deadline earlier h zero far l less = zero-le
late-up demand harder distance nearer deadline earlier h (suc close) zero l less = absurd (omega arith)
late-up demand harder distance nearer deadline earlier h (suc close) (suc far) l less = ⊎_elim
    (λ e. omega (
      arith,
      over-less (latency_at demand distance (suc close)) (latency_at harder nearer (suc close)) deadline earlier (less (suc close) (omega arith) (le_refl _)) h,
      ap (λ q. over_of (latency_at harder nearer q) earlier) e,
      late-up demand harder distance nearer deadline earlier h close far (omega arith) (λ q m n. less q m (omega arith)),
    ))
    (λ k. omega (arith, late-up demand harder distance nearer deadline earlier h (suc close) far (omega arith) less))
    (eq-or-lt_of_le l)

module _ {demand harder : ℕ → ℕ → ℕ} {distance nearer : ℕ → ℕ} {deadline earlier : ℕ} (easier : Easier demand harder distance nearer deadline earlier)
    (growing : Growing harder) (one : nearer 1 ≡ 0) where
  abbrev found : ℕ
  found = close_of demand distance

  found-low : 1 ≤ found
  unfolding close_of
  found-low = first_ge _ 1 max_activations

  module _ {close last : ℕ} (closes : Closes harder nearer close last) where
    -- each window up to the second's K is there in the first too, and no longer, and so are the latencies
    shorter : (q : ℕ) → 1 ≤ q → q ≤ close → (t : ℕ) × (window_of (demand q) ≡ Some t) × (t ≤ last) × (latency_at demand distance q ≤ latency_at harder nearer q)
    shorter q l h =
        let r = windows-there growing one closes q l h in
        let w = window-less (demand q) (easier.grows.grows q l) (harder q) (easier.demands q) r.0 r.1 in
        (w.0, w.1, omega (arith, w.2, r.3), omega (arith, latency-is demand distance q w.0 w.1, latency-is harder nearer q r.0 r.1, w.2, easier.apart q))

    -- it closes there at the latest
    found-less : found ≤ close
    unfolding close_of
    found-less = ⊎_elim
        (λ h. let w = window-less (demand close) (easier.grows.grows close closes.low) (harder close) (easier.demands close) last closes.last in
        absurd (true-not-false
        (ap (λ x. ends x (distance (close + 1))) w.1 ∙ le-leb w.0 (distance (close + 1)) (omega (arith, w.2, closes.shut, easier.apart (close + 1))))
        (first_miss (λ q. ends (window_of (demand q)) (distance (q + 1))) 1 max_activations close closes.low h)))
        (λ h. h)
        (lt_or_le close found)

  pub figures-less : {w : Windows} → windows_of harder nearer earlier ≡ Ok w → NoWorse (windows_of demand distance deadline) w
  figures-less {w} e =
      let c = answer-closed harder nearer earlier e in
      let k = found-less c.closes in
      let s = shorter c.closes found found-low k in
      let each : (q : ℕ) → 1 ≤ q → q ≤ found → latency_at demand distance q ≤ latency_at harder nearer q = λ q l h. (shorter c.closes q l (le_trans h k)).3 in
      let g = (latency-greatest demand distance found found-low).holds in
      let less : latency_to demand distance found ≤ latency_to harder nearer w.figures.close =
      omega (arith, g.3, each g.0 g.1 g.2, (latency-greatest harder nearer w.figures.close c.closes.low).above _ (g.0, g.1, le_trans g.2 k, refl)) in
      record {
        found = record {
          figures = figures found (latency_to demand distance found) (late_to demand distance deadline found) (margin_of deadline (latency_to demand distance found));
          last = s.0;
        };
        is = closes-answer demand distance deadline (closes-found demand distance (le_trans k c.closes.high) s.1);
        close_less = k;
        latency_less = omega (arith, less, c.greatest);
        late_less = le_trans (late-up demand harder distance nearer deadline earlier easier.deadlines found w.figures.close k each) (le_of_eq (sym c.count));
        last_less = s.2;
        margin_more = subst (λ m. m ≤ℤ margin_of deadline (latency_to demand distance found)) (sym c.rest)
            (margin-rises deadline earlier (latency_to demand distance found) w.figures.latency easier.deadlines (omega (arith, less, c.greatest)));
      }

-- what is analysed by a rule: a chain of an accepted table beside others
pub record Analysed (rule : Rule) (b : Row) (vs : List View) : Type 0 where
  pub lawful : GoodRule rule
  pub good : GoodRow b
  pub paced : Paced vs

-- two such: the first one's distances are no shorter, its deadline no earlier, its costs no greater, and the others, matched one by one, add no
-- more
pub record Relieved (rule other : Rule) (b c : Row) (vs ws : List View) : Type 0 where
  pub first : Analysed rule b vs
  pub second : Analysed other c ws
  pub apart : (n : ℕ) → other (distances c) n ≤ rule (distances b) n
  pub deadline : c.deadline ≤ b.deadline
  pub cost : chain_cost b ≤ chain_cost c
  pub part : counted_part b ≤ counted_part c
  pub others : Matched (Lesser rule other) vs ws

analysed_growing : {rule : Rule} {b : Row} {vs : List View} → Analysed rule b vs → Growing (demand_of rule b vs)
analysed_growing {b = b} {vs = vs} a = demand-growing a.lawful b vs a.good a.paced

analysed_typical : {rule : Rule} {b : Row} {vs : List View} → Analysed rule b vs → Analysed rule b (typical vs)
analysed_typical {vs = vs} a = record { lawful = a.lawful; good = a.good; paced = typical-paced vs a.paced }

module _ {rule other : Rule} {b c : Row} {vs ws : List View} (r : Relieved rule other b c vs ws) where
  lighter : Lighter rule other b c
  lighter = record {
    cost = r.cost;
    part = r.part;
    count = count-fewer (r.first.lawful.law r.first.good.list) (r.second.lawful.law r.second.good.list) r.apart;
  }

  pub relieved_easier : Easier (demand_of rule b vs) (demand_of other c ws) (rule (distances b)) (other (distances c)) b.deadline c.deadline
  relieved_easier = record {
    grows = analysed_growing r.first;
    demands = λ q t. demand-less lighter r.others q t t (le_refl t);
    apart = r.apart;
    deadlines = r.deadline;
  }

  -- and so without the overload chains
  pub relieved-typical : Relieved rule other b c (typical vs) (typical ws)
  relieved-typical = record {
    first = analysed_typical r.first;
    second = analysed_typical r.second;
    apart = r.apart;
    deadline = r.deadline;
    cost = r.cost;
    part = r.part;
    others = typical-less r.others;
  }

  -- the figures
  pub bound-less : {w : Windows} → bound_of other c ws ≡ Ok w → NoWorse (bound_of rule b vs) w
  unfolding bound_of
  bound-less = figures-less relieved_easier (analysed_growing r.second) (r.second.lawful.law r.second.good.list).one

-- one chain beside the same others, by two rules
pub slower_relieved : {rule other : Rule} → Slower rule other → (b : Row) (vs : List View) → GoodRow b → Paced vs → Relieved rule other b b vs vs
slower_relieved w b vs good paced = record {
  first = record { lawful = w.first; good = good; paced = paced };
  second = record { lawful = w.second; good = good; paced = paced };
  apart = w.longer good.list;
  deadline = le_refl b.deadline;
  cost = le_refl (chain_cost b);
  part = le_refl (counted_part b);
  others = views-less w vs paced;
}
