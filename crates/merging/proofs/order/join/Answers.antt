-- At the loop's head the ids of the chains before `chain` are joined: with those of the rest they give all.
use Prim.Native.Nat.{ℕ, ◌+◌, ◌<◌}
use mathlib.Core.Path.{◌≡◌, refl, ap, sym, ◌∙◌}
use mathlib.Core.List.{List, [], ◌∷◌, ◌++◌, append_assoc, append-nil}
use mathlib.Core.Bool.{Bool, not}
use lib.ListN.{length, take, drop}
use lib.Seq.{drop-length}
use native.Mathlib.Omega.{arith}
use Rattle.search.specs.Choice.{◌when◌else◌}
use Rattle.search.specs.Lists.{keep}
use Rattle.search.proofs.Keeping.{keep-first}
use Rattle.table.specs.Record.{row_at}
use Rattle.table.specs.Find.{row_of}
use Rattle.table.specs.Read.{table_of}
use Rattle.table.specs.Code.Taken.{Stands}
use Rattle.table.specs.declared.Row.{Row}
use Rattle.table.proofs.Standing.{place_none}
use Rattle.table.proofs.Stands.{row-there, stands, place-next}
use Rattle.merging.specs.Versions.{ids_of}
use Rattle.merging.specs.Rule.{among}
use Rattle.merging.proofs.Orders.{ids-length, ids-rest}
use Rattle.merging.proofs.order.join.Goals as goal
use Rattle.merging.proofs.order.join.Goals.{In-loop-chain}

-- `chain` is there, and its record stands at `at`
within : (c : In-loop-chain) → c.loop-chain.chain < (table_of c.args.s.now).count
within c = omega (arith, c.count-chain-end.ensures)

there : (c : In-loop-chain) → Stands c.args.s.now c.loop-chain.at
there c = stands c.requires.0 c.loop-chain.invariant.place (within c)

pub loop-chain-init : goal.loop-chain-init
loop-chain-init c = record { place = place_none (table_of c.args.s.now); least = omega arith; most = omega arith; long = refl; first = refl; numbers = refl }

pub id_at-requires : goal.id_at-requires
id_at-requires c = omega (arith, (there (goal.at.id_at-requires c).In-loop-chain).there)

pub add-end-requires : goal.add-end-requires
add-end-requires c = let l = c.loop-chain.invariant in
    (l.least, omega (arith, c.requires.1, c.requires.0.good.few, within (goal.at.add-end-requires c).In-loop-chain, l.most, l.long))

pub record_length-at-requires : goal.record_length-at-requires
record_length-at-requires c = omega (arith, (there (goal.at.record_length-at-requires c).In-loop-chain).there)

pub overflow_add-at : goal.overflow_add-at
overflow_add-at c = omega (arith, c.record_length-at.ensures, (there (goal.at.overflow_add-at c).In-loop-chain).there)

pub loop-chain-preserved : goal.loop-chain-preserved
unfolding row_at
loop-chain-preserved c = let a = c.args in
    let l = c.loop-chain in
    let d = c.add-end in
    let h = within (goal.at.loop-chain-preserved c).In-loop-chain in
    let p : ℕ → Bool = λ m. not (among (take a.n a.ids.now) m) in
    let id = c.from.result in
    let bears : id ≡ (row_of (table_of a.s.now) l.chain).id = c.from.ensures ∙ c.id_at.ensures ∙ ap (λ (r : Row). r.id) (row-there c.requires.0 l.invariant.place h) in
    let tested : (id ∷ [] when not (among (take a.n l.ids) id) else []) ≡ (id ∷ [] when p id else []) =
    ap (λ (k : List ℕ). id ∷ [] when not (among k id) else []) l.invariant.first in
    let rest = drop (l.chain + 1) (ids_of a.s.now) in
    let more = keep p rest in
    record {
      place = ap (λ k. l.at + k) c.record_length-at.ensures ∙ place-next c.requires.0 l.invariant.place h;
      least = omega (arith, d.ensures.least, l.invariant.least);
      most = omega (arith, d.ensures.most, l.invariant.most);
      long = d.ensures.long ∙ l.invariant.long;
      first = d.ensures.first ∙ l.invariant.first;
      numbers =
          ap (λ r. r ++ more) d.ensures.numbers
          ∙ append_assoc (take l.end l.ids) _ more
          ∙ ap (λ r. take l.end l.ids ++ (r ++ more)) tested
          ∙ ap (λ r. take l.end l.ids ++ r) (keep-first p id rest ∙ ap (keep p) (ap (λ n. n ∷ rest) bears ∙ sym (ids-rest c.requires.0 l.chain h)))
          ∙ l.invariant.numbers;
    }

pub returns : goal.returns
unfolding keep
returns c = let a = c.args in
    let l = c.loop-chain in
    let e : l.chain ≡ length (ids_of a.s.now) = omega (arith, c.count-chain-end.ensures, ids-length c.requires.0) in
    record {
      numbers =
          sym (append-nil (take l.end l.ids))
          ∙ ap (λ r. take l.end l.ids ++ keep (λ m. not (among (take a.n a.ids.now) m)) r) (sym (ap (λ k. drop k (ids_of a.s.now)) e ∙ drop-length (ids_of a.s.now)))
          ∙ l.invariant.numbers;
      few = omega (arith, l.invariant.most, c.count-chain-end.ensures, c.requires.0.good.few);
      long = l.invariant.long;
    }
