-- Bad combinations in words: any two active segments of one chain are of one segment, and some window is late. Assumes nothing.
use Prim.Native.Nat.{ℕ, zero, suc, ◌+◌, ◌/◌, ◌%◌, ◌^◌, ◌<◌}
use mathlib.Core.Path.{◌≡◌, refl, ap, ap₂, sym, ◌∙◌, subst}
use mathlib.Core.Bool.{Bool, true, ◌&&◌}
use mathlib.Core.List.{List, [], ◌∷◌}
use native.Mathlib.Omega.{arith}
use native.Mathlib.Decide.{ℕ_discrete}
use lib.Dec.{ltb}
use lib.ListN.{length}
use borrow.Author.Tests.{ltb-true, lt-ltb, eq-eqb, ne_eqb, eqb-true}
use Rattle.search.specs.Lists.{All, every}
use Rattle.search.proofs.Choice.{when_yes, when_no}
use Rattle.table.specs.Code.Good.{GoodRow}
use Rattle.table.specs.declared.Row.{Row}
use Rattle.arrivals.specs.Arrivals.{δ}
use Rattle.table.specs.Record.{distances}
use Rattle.windows.specs.Demand.{demand_of, typical}
use Rattle.windows.specs.Window.{Solution, window_of}
use Rattle.windows.specs.Latency.{longer}
use Rattle.windows.specs.Sieve.{due}
use Rattle.std.specs.declared.option.Option.TheVariants.{Some}
use Rattle.windows.proofs.Comparing.{Paced, typical-paced}
use Rattle.windows.proofs.Least.{window-only, window-at}
use Rattle.packing.specs.Packing.{bit}
use Rattle.packing.proofs.Bits.{bit-suc}
use Rattle.misses.specs.Overloads.{Piece}
use Rattle.misses.specs.Sets.{members, agree, together, allowed, set_cost}
use Rattle.misses.specs.Bad.{with_cost, over, bad, by_windows}
use Rattle.misses.specs.Misses.{bad_of}
use Rattle.misses.specs.Sieve.{called, by_sieve}
use Rattle.misses.proofs.Bools.{and_left, and_right}
use Rattle.misses.proofs.Masks.{members_in, members-out}
use Rattle.misses.proofs.Together.{agree-turn}
use Rattle.misses.proofs.Turning.{bit-zero}
use Rattle.windows.proofs.Sweeps.{some_one, some-found}
use Rattle.misses.proofs.Existence.{combination-window}
use Rattle.demands.specs.Figures.{Exactly, Closes}
use Rattle.demands.specs.Misses.{piece_of, Combination, marked, pieces, full, without, IsBad, IsCalled}
use Rattle.demands.proofs.Equation.{viewed, equation-is, unmarked-is}

-- two of one chain are of one segment
agree-one : (p r : Piece) → agree p r ≡ true → p.chain ≡ r.chain → p.segment ≡ r.segment
agree-one p r a e = eqb-true _ _ (sym (when_yes _ _ (eq-eqb _ _ e)) ∙ a)

one-agree : (p r : Piece) → (p.chain ≡ r.chain → p.segment ≡ r.segment) → agree p r ≡ true
one-agree p r f = elim (ℕ_discrete p.chain r.chain) [
  | yes e ↦ when_yes _ _ (eq-eqb _ _ e) ∙ eq-eqb _ _ (f e)
  | no e ↦ when_no _ _ (ne_eqb _ _ e)
]

-- a test of those in a mask, by their bits
module _ (test : Piece → Bool) where
  every-at : (ps : List Piece) (m : ℕ) → every test (members ps m) ≡ true → (i : ℕ) → i < length ps → bit i m ≡ 1 → test (piece_of ps i) ≡ true
  unfolding every
  every-at [] m e i h b = absurd (omega arith)
  every-at (p ∷ ps) m e zero h b = and_left (test p) _ (sym (ap (every test) (members_in p ps m (sym (bit-zero m) ∙ b))) ∙ e)
  every-at (p ∷ ps) m e (suc i) h b = every-at ps (m / 2) rest i (omega arith) (sym (bit-suc i m) ∙ b)
    where
      rest : every test (members ps (m / 2)) ≡ true
      rest = elim (ℕ_discrete (m % 2) 1) [
        | yes o ↦ and_right (test p) _ (sym (ap (every test) (members_in p ps m o)) ∙ e)
        | no o ↦ sym (ap (every test) (members-out p ps m o)) ∙ e
      ]

  every-all : (ps : List Piece) (m : ℕ) → ((i : ℕ) → i < length ps → bit i m ≡ 1 → test (piece_of ps i) ≡ true) → every test (members ps m) ≡ true
  unfolding every members
  every-all [] m f = refl
  every-all (p ∷ ps) m f =
      let rest = every-all ps (m / 2) (λ i h b. f (suc i) (omega arith) (bit-suc i m ∙ b)) in
      elim (ℕ_discrete (m % 2) 1) [
        | yes o ↦ ap (every test) (members_in p ps m o) ∙ ap₂ ◌&&◌ (f 0 (omega arith) (bit-zero m ∙ o)) rest
        | no o ↦ ap (every test) (members-out p ps m o) ∙ rest
      ]

together_at : (ps : List Piece) (m : ℕ) → together (members ps m) ≡ true → (i j : ℕ) → i < length ps → j < length ps → bit i m ≡ 1 → bit j m ≡ 1
    → agree (piece_of ps i) (piece_of ps j) ≡ true
unfolding together
together_at [] m e i j h k x y = absurd (omega arith)
together_at (p ∷ ps) m e zero zero h k x y = one-agree p p (λ q. refl)
together_at (p ∷ ps) m e zero (suc j) h k x y =
    every-at (agree p) ps (m / 2) (and_left (every (agree p) (members ps (m / 2))) _ (sym (ap together (members_in p ps m (sym (bit-zero m) ∙ x))) ∙ e)) j (omega arith) (sym (bit-suc j m) ∙ y)
together_at (p ∷ ps) m e (suc i) zero h k x y =
    agree-turn (piece_of ps i) p
    ∙ every-at (agree p) ps (m / 2) (and_left (every (agree p) (members ps (m / 2))) _ (sym (ap together (members_in p ps m (sym (bit-zero m) ∙ y))) ∙ e)) i (omega arith) (sym (bit-suc i m) ∙ x)
together_at (p ∷ ps) m e (suc i) (suc j) h k x y = together_at ps (m / 2) rest i j (omega arith) (omega arith) (sym (bit-suc i m) ∙ x) (sym (bit-suc j m) ∙ y)
  where
    rest : together (members ps (m / 2)) ≡ true
    rest = elim (ℕ_discrete (m % 2) 1) [
      | yes o ↦ and_right (every (agree p) (members ps (m / 2))) _ (sym (ap together (members_in p ps m o)) ∙ e)
      | no o ↦ sym (ap together (members-out p ps m o)) ∙ e
    ]

together-all : (ps : List Piece) (m : ℕ) → ((i j : ℕ) → i < length ps → j < length ps → bit i m ≡ 1 → bit j m ≡ 1 → agree (piece_of ps i) (piece_of ps j) ≡ true)
    → together (members ps m) ≡ true
unfolding together members
together-all [] m f = refl
together-all (p ∷ ps) m f =
    let rest = together-all ps (m / 2) (λ i j h k x y. f (suc i) (suc j) (omega arith) (omega arith) (bit-suc i m ∙ x) (bit-suc j m ∙ y)) in
    elim (ℕ_discrete (m % 2) 1) [
      | yes o ↦
          ap together (members_in p ps m o)
          ∙ ap₂ ◌&&◌ (every-all (agree p) ps (m / 2) (λ i h x. f 0 (suc i) (omega arith) (omega arith) (bit-zero m ∙ o) (bit-suc i m ∙ x))) rest
      | no o ↦ ap together (members-out p ps m o) ∙ rest
    ]

-- an allowed mask is a combination
pub allowed-combination : (ps : List Piece) (m : ℕ) → allowed ps m ≡ true → Combination ps m
unfolding allowed
allowed-combination ps m a =
    let w = and_right (ltb m (2 ^ length ps)) (together (members ps m)) a in
    record {
      below = ltb-true _ _ (and_left (ltb m (2 ^ length ps)) _ a);
      one = λ i j h k x y. agree-one (piece_of ps i) (piece_of ps j) (together_at ps m w i j h k x y);
    }

pub combination-allowed : (ps : List Piece) (m : ℕ) → Combination ps m → allowed ps m ≡ true
unfolding allowed
combination-allowed ps m c = ap₂ ◌&&◌ (lt-ltb _ _ c.below) (together-all ps m (λ i j h k x y. one-agree (piece_of ps i) (piece_of ps j) (c.one i j h k x y)))

-- where the figures close at K, each combination has its windows up to K, and bad is what it says
module _ (b : Row) (l : List Row) (good : GoodRow b) (rows : All GoodRow l) (paced : Paced (viewed b l)) {deadline close latency late : ℕ} {margin : _}
    (c : Closes (full b l) (distances b) deadline close latency late margin) where
  abbrev cost : ℕ → ℕ
  cost m = set_cost (members (pieces b l) m)

  is-bad : (m : ℕ) → bad_of by_windows b (viewed b l) (marked b l) close m ≡ true → IsBad b l close m
  unfolding bad_of bad over
  is-bad m e =
      let a = and_left (allowed (pieces b l) m) _ e in
      let f = some-found _ close (and_right (allowed (pieces b l) m) _ e) in
      let q = f.0 in
      let w = combination-window b l good rows (typical-paced (viewed b l) paced) q m (c.B q) f.1 (ap (λ d. window_of (d q)) (equation-is b l) ∙ sym (window-only (full b l q) (Some (c.B q)) (c.windows q f.1 f.2))) a in
      record {
        combination = allowed-combination (pieces b l) m a;
        q = q;
        low = f.1;
        high = f.2;
        t = w.0;
        window = subst (λ d. Solution (with_cost d (cost m) q) w.0) (unmarked-is b l) (window-at _ w.0 w.1);
        late = ltb-true _ _ (sym (ap (λ x. longer x (δ (distances b) q + b.deadline)) w.1) ∙ f.3);
      }

  bad-is : (m : ℕ) → IsBad b l close m → bad_of by_windows b (viewed b l) (marked b l) close m ≡ true
  unfolding bad_of bad over
  bad-is m h =
      let d : ℕ → ℕ → ℕ = demand_of δ b (typical (viewed b l)) in
      let w : window_of (with_cost d (cost m) h.q) ≡ Some h.t = ap (λ e. window_of (with_cost e (cost m) h.q)) (unmarked-is b l) ∙ sym (window-only _ (Some h.t) h.window) in
      ap₂ ◌&&◌ (combination-allowed (pieces b l) m h.combination)
      (some_one (λ q. longer (window_of (with_cost d (cost m) q)) (δ (distances b) q + b.deadline)) close h.q h.low h.high
      (ap (λ x. longer x (δ (distances b) h.q + b.deadline)) w ∙ lt-ltb _ _ h.late))

  pub bad_means : (m : ℕ) → Exactly (bad_of by_windows b (viewed b l) (marked b l) close m ≡ true) (IsBad b l close m)
  bad_means m = (is-bad m, bad-is m)

-- and called bad is what it says
module _ (b : Row) (l : List Row) (close : ℕ) where
  abbrev demand : ℕ → ℕ → ℕ → ℕ
  demand m = with_cost (demand_of δ b (typical (viewed b l))) (set_cost (members (pieces b l) m))

  abbrev passes : ℕ → ℕ → Bool
  passes m q = ltb (due (δ (distances b)) b.deadline q) (demand m q (due (δ (distances b)) b.deadline q))

  pub called_means : (m : ℕ) → Exactly (bad_of by_sieve b (viewed b l) (marked b l) close m ≡ true) (IsCalled b l close m)
  unfolding bad_of bad called
  called_means m = (is-called, called_is)
    where
      same : demand_of δ b (typical (viewed b l)) ≡ without b l
      same = unmarked-is b l

      is-called : bad_of by_sieve b (viewed b l) (marked b l) close m ≡ true → IsCalled b l close m
      is-called e =
          let a = and_left (allowed (pieces b l) m) _ e in
          let f = some-found (passes m) close (and_right (allowed (pieces b l) m) _ e) in
          let t = due (δ (distances b)) b.deadline f.0 in
          record {
            combination = allowed-combination (pieces b l) m a;
            q = f.0;
            low = f.1;
            within = f.2;
            above = subst (λ d. t < with_cost d (set_cost (members (pieces b l) m)) f.0 t) same (ltb-true _ _ f.3);
          }

      called_is : IsCalled b l close m → bad_of by_sieve b (viewed b l) (marked b l) close m ≡ true
      called_is h =
          let t = due (δ (distances b)) b.deadline h.q in
          ap₂ ◌&&◌ (combination-allowed (pieces b l) m h.combination)
          (some_one (passes m) close h.q h.low h.within (lt-ltb _ _ (subst (λ d. t < with_cost d (set_cost (members (pieces b l) m)) h.q t) (sym same) h.above)))
