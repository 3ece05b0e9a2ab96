-- Request 6: the two engines answer alike; what is bad is called bad, so that the sieve is refused alike and its figure is never below the miss
-- count. Assumes nothing.
use Prim.Native.Nat.{ℕ, ◌≤◌, ◌<◌}
use mathlib.Core.Path.{◌≡◌, refl, ap, sym, subst, ◌∙◌}
use mathlib.Core.Bool.{Bool, true, false}
use mathlib.Core.List.{List}
use native.Mathlib.Omega.{arith}
use borrow.Author.Tests.{eqb-false}
use lib.Dec.{eqb}
use Rattle.search.specs.Choice.{◌when◌else◌}
use Rattle.search.specs.Lists.{All}
use Rattle.table.specs.Bytes.{Bytes}
use Rattle.table.specs.Find.{row_of, find_of}
use Rattle.table.specs.Read.{by_verdict, read_table, table_of}
use Rattle.table.specs.Code.Good.{GoodRow}
use Rattle.table.specs.declared.Row.{Row}
use Rattle.table.specs.Refusal.{Verdict}
use Rattle.std.specs.declared.result.Result.{Result}
use Rattle.std.specs.declared.result.Result.TheVariants.{Ok, Err}
use Rattle.table.specs.declared.refusal.Refusal.{Refusal}
use Rattle.table.specs.declared.refusal.Refusal.TheVariants.{NoChain}
use Rattle.table.proofs.Finds.{find_le}
use Rattle.arrivals.specs.Arrivals.{δ}
use Rattle.windows.specs.Demand.{views_of, others}
use Rattle.windows.specs.Window.{window_of}
use Rattle.std.specs.declared.option.Option.TheVariants.{Some}
use Rattle.windows.proofs.Besides.{others-good, others-paced}
use Rattle.windows.proofs.Comparing.{Paced, typical-paced}
use Rattle.windows.proofs.Least.{window-only}
use Rattle.misses.specs.Bad.{Test, by_windows}
use Rattle.misses.specs.Misses.{Answer, tested_at, tested_in, tested_of, misses_of}
use Rattle.misses.specs.Sieve.{by_sieve, as_sieved, at_most_of}
use Rattle.misses.specs.declared.AtMost.{AtMost}
use Rattle.misses.proofs.Runs.{Within}
use Rattle.misses.proofs.Sieve.{Bounded, bad-called, sieve_bounded}
use Rattle.demands.specs.Chains.{Has, chain_number, chain_of, others_of}
use Rattle.demands.specs.Figures.{Exactly}
use Rattle.demands.specs.Misses.{full, IsBad, IsCalled, Figured, SaysAtMost}
use Rattle.demands.specs.Sieve.{SecondWays}
use Rattle.demands.proofs.Chains.{table-good}
use Rattle.demands.proofs.Entries.{every-entry}
use Rattle.demands.proofs.Equation.{viewed, equation-is}
use Rattle.demands.proofs.Sets.{bad_means, called_means}
use Rattle.demands.proofs.Misses.{sieve_means}
use Rattle.demands.proofs.Runs.{answer-within}
use Rattle.demands.proofs.Twice.{twice-misses, twice-at-most}

-- an answer and what the sieve tells of it are the same thing
unsieved : Result AtMost Refusal → Answer
unsieved (Ok a) = Ok a.most
unsieved (Err n) = Err n

unsieved-is : (a : Answer) → unsieved (as_sieved a) ≡ a
unfolding unsieved
unsieved-is (Ok n) = refl
unsieved-is (Err n) = refl

same_answer : (a c : Answer) → as_sieved a ≡ as_sieved c → a ≡ c
same_answer a c e = sym (unsieved-is a) ∙ ap unsieved e ∙ unsieved-is c

at_most : {s : List ℕ} {id : ℕ} → Has s id → (k : ℕ) (a : Answer) → Exactly (at_most_of s id k ≡ as_sieved a) (SaysAtMost (chain_of s id) (others_of s id) k a)
unfolding at_most_of
at_most h k a = let e = sieve_means h k a in (λ f. e.0 (same_answer _ a f), λ x. ap as_sieved (e.1 x))

-- what is bad is called bad
module _ (b : Row) (l : List Row) (good : GoodRow b) (rows : All GoodRow l) (paced : Paced (viewed b l)) {k : ℕ} (f : Figured b l k) where
  called : (m : ℕ) → IsBad b l f.close m → IsCalled b l f.close m
  called m h =
      let c = f.figures in
      (called_means b l f.close m).0
      (bad-called b l good rows (typical-paced (viewed b l) paced)
      (λ q low high. (c.B q, ap (λ d. window_of (d q)) (equation-is b l) ∙ sym (window-only (full b l q) (Some (c.B q)) (c.windows q low high))))
      m ((bad_means b l good rows paced c m).1 h))

calls : {s : List ℕ} {id : ℕ} → Has s id → {k : ℕ} (f : Figured (chain_of s id) (others_of s id) k) (m : ℕ)
    → IsBad (chain_of s id) (others_of s id) f.close m → IsCalled (chain_of s id) (others_of s id) f.close m
unfolding views_of
calls {s} {id} h f m =
    let t = table-good h.table in
    called (chain_of s id) (others_of s id) (t.row (chain_number s id) h.there) (others-good (table_of s) t (chain_number s id)) (others-paced (table_of s) t (chain_number s id)) f m

-- over stored tables
module _ (s : List ℕ) (bytes : Bytes s) (id k : ℕ) where
  abbrev chain : ℕ
  chain = find_of (table_of s) id

  absent : Bool
  absent = eqb chain (table_of s).count

  bounded : Bounded (misses_of s id k) (tested_of δ by_sieve s id k)
  unfolding tested_of tested_in tested_at views_of ◌when◌else◌ absent
  bounded = by (read_table s).verdict refl absent refl
    where
      either : Test → Bool → Answer
      either test t = Err NoChain when t else tested_at δ test (table_of s) chain k

      by : (v : Verdict) → (read_table s).verdict ≡ v → (t : Bool) → absent ≡ t → Bounded (by_verdict Err v (either by_windows t)) (by_verdict Err v (either by_sieve t))
      by (Ok u) e true f = Bounded.alike
      by (Ok u) e false f =
          let good = table-good (record { bytes = bytes; accepted = e }) in
          let h : chain < (table_of s).count = omega (arith, find_le (table_of s) id, eqb-false chain (table_of s).count f) in
          sieve_bounded (row_of (table_of s) chain) (others (table_of s) chain) (good.row chain h) (others-good (table_of s) good chain)
          (typical-paced (views_of (table_of s) chain) (others-paced (table_of s) good chain)) k
      by (Err g) e t f = Bounded.alike

  sieved : (a : Answer) → at_most_of s id k ≡ as_sieved a → tested_of δ by_sieve s id k ≡ a
  unfolding at_most_of
  sieved a e = same_answer _ a e

  -- where both answer
  below : {n : ℕ} {r : AtMost} → misses_of s id k ≡ Ok n → at_most_of s id k ≡ Ok r → n ≤ r.most
  below {n} {r} e f = by (subst (λ x. Bounded x (Ok r.most)) e (subst (Bounded (misses_of s id k)) (sieved (Ok r.most) f) bounded))
    where
      by : {n r : ℕ} → Bounded (Ok n) (Ok r) → n ≤ r
      by (Bounded.both h) = h

  -- where one is refused
  alike : (n : Refusal) → Exactly (misses_of s id k ≡ Err n) (at_most_of s id k ≡ Err n)
  unfolding at_most_of
  alike n = (
    λ e. ap as_sieved (to (subst (λ x. Bounded x (tested_of δ by_sieve s id k)) e bounded)),
    λ f. from (subst (Bounded (misses_of s id k)) (sieved (Err n) f) bounded),
  )
    where
      to : {n : Refusal} {a : Answer} → Bounded (Err n) a → a ≡ Err n
      to Bounded.alike = refl

      from : {n : Refusal} {a : Answer} → Bounded a (Err n) → a ≡ Err n
      from Bounded.alike = refl

within_run : (s : List ℕ) (id k : ℕ) {r : AtMost} → at_most_of s id k ≡ Ok r → r.most ≤ k
unfolding at_most_of
within_run s id k {r} e = let f : tested_of δ by_sieve s id k ≡ Ok r.most = same_answer _ (Ok r.most) e in subst (Within k) f (answer-within s id by_sieve k)

pub second_ways : SecondWays
second_ways = record {
  engines = λ s id k x y. (every-entry.misses_entry s id k _).one x (record { answers = y.answers });
  at_most = at_most;
  calls = calls;
  never_below = below;
  refusals = alike;
  within_run = within_run;
  differ = (twice-misses, twice-at-most);
}
