-- What demand 3 says, and what follows from it: a chain's answers go by its own record and by what it sees of the others. Assumes nothing.
use Prim.Native.Nat.{ℕ}
use mathlib.Core.Path.{◌≡◌, refl, ap, ap₂, sym, subst, ◌∙◌}
use mathlib.Core.Bool.{Bool, not}
use mathlib.Core.List.Permᴰ
use mathlib.Core.List.{List, [], ◌∷◌, map, flatten, Permᴰ}
use mathlib.Core.Logic.{⊎_elim}
use native.Mathlib.Omega.{arith}
use lib.ListN.{length, take}
use borrow.Author.Tests.{eqb-true}
use Rattle.search.specs.Lists.{sum_of, Paired, some, keep}
use Rattle.search.proofs.Pairing.{paired_keep, paired_weaker, paired_cons, paired_map, paired_order, paired_length, paired_single}
use Rattle.table.specs.Find.{rows}
use Rattle.table.specs.declared.Row.{Row}
use Rattle.arrivals.specs.Arrivals.{δ}
use Rattle.segments.specs.Tasks.{Task, tasks_of, cost_of, floor_of, tail_of, below, before}
use Rattle.segments.specs.Segments.{cut_segments, cut_segments_of}
use Rattle.segments.specs.View.{view_of}
use Rattle.segments.proofs.Views.{Alike}
use Rattle.segments.proofs.Lists.{sum-map, sum-flatten}
use Rattle.windows.specs.Latency.{bound_of}
use Rattle.windows.specs.Latency.{figures_of}
use Rattle.windows.proofs.Views.{alike-bound}
use Rattle.misses.specs.Overloads.{overloads}
use Rattle.misses.specs.Bad.{by_windows}
use Rattle.misses.specs.Misses.{misses_beside}
use Rattle.misses.proofs.Views.{alike-misses}
use Rattle.table.specs.Read.{table_of}
use Rattle.slices.proofs.Parts.{row_in}
use Rattle.demands.specs.Chains.{IsTable, Has, chain_of, others_of}
use Rattle.demands.specs.Others.{SameSegment, Agrees, Besides, SameBesides, Unmoved, Reordered, SameWork, RegroupedTasks}
use Rattle.demands.proofs.Regroupings.{grouped_actives, grouped_defers, grouped_first}
use Rattle.demands.proofs.Chains.{own_row, latency-is, tested-are, latency-absent, tested-absent, bears, absent_or_there, none-bears, own-bears, one-bears, others-bear}

-- chains that agree against b are alike to it
agrees-alike : (b : Row) {a c : Row} → Agrees b a c → Alike (view_of a b) (view_of c b)
unfolding view_of
agrees-alike b h = record {
  kind = h.kind;
  overload = h.overload;
  list = h.arrivals;
  free = ap not h.defers;
  first = h.first;
  segments = paired_map h.segments (map cost_of) (map cost_of) (λ x y e. e.actives);
}

-- the same row, and other chains that agree against it
module _ {s r : List ℕ} {id : ℕ} (one : Has s id) (two : Has r id) (row : chain_of s id ≡ chain_of r id) (others : Paired (Agrees (chain_of s id)) (others_of s id) (others_of r id)) where
  abbrev b : Row
  b = chain_of s id

  alike : Paired (λ a c. Alike (view_of a b) (view_of c b)) (others_of s id) (others_of r id)
  alike = paired_weaker others (λ a c h. agrees-alike b h)

  rows-unmoved : Unmoved s r id
  rows-unmoved = record {
    latency =
        latency-is one δ
        ∙ ap figures_of (alike-bound (paired_map alike (λ a. view_of a b) (λ a. view_of a b) (λ a c h. h)) b)
        ∙ ap (λ x. figures_of (bound_of δ x (map (λ a. view_of a x) (others_of r id)))) row
        ∙ sym (latency-is two δ);
    misses = λ k.
        tested-are one δ by_windows k ∙ alike-misses b alike k
        ∙ ap (λ x. misses_beside x (map (λ a. view_of a x) (others_of r id)) (overloads x (others_of r id)) k) row
        ∙ sym (tested-are two δ by_windows k);
  }

-- the latency answers are equal, and the miss answers are equal for every k, refusals included
pub same-besides : {s r : List ℕ} {id : ℕ} → SameBesides s r id → Unmoved s r id
same-besides h = rows-unmoved h.one h.two (sym (own_row h.one) ∙ ap row_in h.own ∙ own_row h.two) h.others

-- other chains' ids, deadlines and largest gaps or distances changed
tasks-same : {a c : Row} → SameWork a c → tasks_of a ≡ tasks_of c
tasks-same h = rw (h.priority, h.cost, h.tasks)

segment-own : (x : List (List Task)) → SameSegment x x
segment-own x = record { cost = refl; actives = Permᴰ.refl (map cost_of x) }

pub work-agrees : (b : Row) {a c : Row} → SameWork a c → Agrees b a c
work-agrees b {a} {c} h =
    let e = tasks-same h in
    record {
      kind = h.kind;
      overload = h.overload;
      arrivals = ap₂ take h.listed h.list;
      defers = ap (some (below (floor_of b))) e;
      first = ap (λ ts. cost_of (before (below (floor_of b)) ts)) e;
      segments = subst (λ ts. Paired SameSegment (cut_segments_of a b) (cut_segments (floor_of b) (tail_of b) ts)) e (paired_order segment-own (Permᴰ.refl (cut_segments_of a b)));
    }

pub agrees-own : (b a : Row) → Agrees b a a
agrees-own b a = work-agrees b (record { kind = refl; overload = refl; listed = refl; list = refl; tasks = refl; priority = refl; cost = refl })

pub ids-deadlines-largest : {s r : List ℕ} {id : ℕ} → Besides SameWork s r id → Unmoved s r id
ids-deadlines-largest {s} {r} {id} h =
    same-besides (record { one = h.one; two = h.two; own = h.own; others = paired_weaker h.others (λ a c e. work-agrees (chain_of s id) e) })

-- segments with the same active-segment costs pair off
pub pairs_off : (x y : List (List (List Task))) → map (map cost_of) x ≡ map (map cost_of) y → Paired SameSegment x y
pairs_off [] [] e = paired_order segment-own (Permᴰ.refl [])
pairs_off [] (y ∷ ys) e = let z : ◌≡◌ {A = ℕ} 0 1 = cc in absurd (omega arith)
pairs_off (x ∷ xs) [] e = let z : ◌≡◌ {A = ℕ} 0 1 = cc in absurd (omega arith)
pairs_off (x ∷ xs) (y ∷ ys) e =
    let f : map cost_of x ≡ map cost_of y = cc in
    let g : map (map cost_of) xs ≡ map (map cost_of) ys = cc in
    paired_cons (pairs_off xs ys g) (record { cost = whole x ∙ ap (sum_of (λ c. c)) f ∙ sym (whole y); actives = subst (Permᴰ (map cost_of x)) f (Permᴰ.refl (map cost_of x)) })
  where
    whole : (x : List (List Task)) → cost_of (flatten x) ≡ sum_of (λ c. c) (map cost_of x)
    whole x = sum-flatten (λ t. t.cost) x ∙ sym (sum-map cost_of (λ c. c) x)

-- tasks regrouped within active segments
pub regrouped : {s r : List ℕ} {id : ℕ} → Besides (RegroupedTasks (chain_of s id)) s r id → Unmoved s r id
regrouped {s} {r} {id} h =
    same-besides (record {
      one = h.one;
      two = h.two;
      own = h.own;
      others = paired_weaker h.others (λ a c e. record {
        kind = e.kind;
        overload = e.overload;
        arrivals = e.arrivals;
        defers = grouped_defers (chain_of s id) a c e;
        first = grouped_first (chain_of s id) a c e;
        segments = pairs_off _ _ (grouped_actives (chain_of s id) a c e);
      });
    })

-- rows that pair off so: the one with the id is the same, and the others agree
pub record Beside (id : ℕ) (a c : Row) : Type 0 where
  pub bearing : bears id a ≡ bears id c
  pub own : a.id ≡ id → a ≡ c
  pub agrees : (b : Row) → Agrees b a c

pub beside-own : (id : ℕ) (a : Row) → Beside id a a
beside-own id a = record { bearing = refl; own = λ e. refl; agrees = λ b. agrees-own b a }

module _ {s r : List ℕ} (id : ℕ) (one : IsTable s) (two : IsTable r) (pairs : Paired (Beside id) (rows (table_of s)) (rows (table_of r))) where
  owns : Paired (Beside id) (keep (bears id) (rows (table_of s))) (keep (bears id) (rows (table_of r)))
  owns = paired_keep pairs (bears id) (bears id) (λ a c h. h.bearing)

  abbrev other : Row → Bool
  other a = not (bears id a)

  pub paired_unmoved : Unmoved s r id
  paired_unmoved = ⊎_elim
      (λ p. ⊎_elim
      (λ q. record { latency = latency-absent one id p δ ∙ sym (latency-absent two id q δ); misses = λ k. tested-absent one id p δ by_windows k ∙ sym (tested-absent two id q δ by_windows k) })
      (λ q. absurd (omega (arith, paired_length owns, ap length (none-bears one id p), ap length (one-bears two id q))))
      (absent_or_there two id))
      (λ p. ⊎_elim
      (λ q. absurd (omega (arith, paired_length owns, ap length (one-bears one id p), ap length (none-bears two id q))))
      (λ q. rows-unmoved (record { table = one; there = p }) (record { table = two; there = q })
      ((paired_single (rw (one-bears one id p, one-bears two id q) at owns)).own (eqb-true _ _ (own-bears one id p)))
      (rw (others-bear one id p, others-bear two id q) at (paired_weaker (paired_keep pairs other other (λ a c h. ap not h.bearing)) (λ a c h. h.agrees (chain_of s id)))))
      (absent_or_there two id))
      (absent_or_there one id)

-- rows in another order: every answer stays
pub reordered : {s r : List ℕ} → Reordered s r → (id : ℕ) → Unmoved s r id
reordered h id = paired_unmoved id h.one h.two (paired_order (beside-own id) h.rows)
