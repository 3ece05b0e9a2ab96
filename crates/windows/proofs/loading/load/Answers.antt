-- `load` meets its contract: the chain alone, then the chains before it, then those after it.
use Prim.Native.Nat.{ℕ, ◌+◌, ◌≤◌}
use mathlib.Core.Path.{◌≡◌, refl, ap, ap₂, sym, ◌∙◌}
use mathlib.Core.List.{List, [], ◌++◌}
use native.Mathlib.Omega.{arith}
use lib.ListN.{length}
use Rattle.table.specs.Record.{length_at, row_at}
use Rattle.table.specs.declared.Table.{Table}
use Rattle.table.specs.Find.{row_of}
use Rattle.table.specs.Place.{place_of}
use Rattle.table.specs.Code.Taken.{Stands}
use Rattle.table.specs.Read.{table_of}
use Rattle.table.proofs.Standing.{place_none}
use Rattle.table.proofs.Stands.{row-there, stands, place-next}
use Rattle.segments.specs.Tasks.{floor_of}
use Rattle.windows.specs.Code.Load.{views_between, load_of, Loads}
use Rattle.windows.proofs.Besides.{views-length, views-others}
use Rattle.windows.proofs.Joining.{loads_on, loads_same}
use Rattle.windows.proofs.loading.load.Goals as goal
use Rattle.windows.proofs.loading.load.Goals.{After-alone-own, After-join-first, After-place-at}

abbrev s : (c : After-place-at) → List ℕ
s c = c.args.s.now

abbrev t : (c : After-place-at) → Table
t c = table_of (s c)

abbrev chain : (c : After-place-at) → ℕ
chain c = c.args.chain

abbrev at : (c : After-place-at) → ℕ
at c = c.place-at.result

here : (c : After-place-at) → Stands (s c) (at c)
here c = stands c.requires.0 c.place-at.ensures c.requires.1

row_is : (c : After-place-at) → row_at (s c) (at c) ≡ row_of (t c) (chain c)
row_is c = row-there c.requires.0 c.place-at.ensures c.requires.1

next : (c : After-place-at) → (n : ℕ) → n ≡ (at c) + length_at (s c) (at c) → n ≡ place_of (t c) ((chain c) + 1)
next c n e = e ∙ place-next c.requires.0 c.place-at.ensures c.requires.1

alone_loads : (c : After-alone-own) → Loads (row_of ((table_of (c.args.s.now))) (c.args.chain)) [] (load_of (c.args.s.now) c.alone-own.result c.args.held.now)
alone_loads c = loads_same ((let it : row_at (c.args.s.now) (c.place-at.result) ≡ row_of ((table_of (c.args.s.now))) (c.args.chain) = row-there c.requires.0 c.place-at.ensures c.requires.1 in it)) refl
    (c.alone-own.ensures.0 c.args.held.now c.requires.2)

own_is : (c : After-alone-own) → row_at (c.args.s.now) c.alone-own.result.at ≡ row_at (c.args.s.now) (c.place-at.result)
own_is c = ap (row_at (c.args.s.now)) c.alone-own.ensures.1

floor_is : (c : After-alone-own) → c.floor_of-floor.result ≡ floor_of (row_at (c.args.s.now) c.alone-own.result.at)
floor_is c = c.floor_of-floor.ensures ∙ ap floor_of (sym (own_is c))

few : (c : After-join-first) → length (views_between c.args.others ((table_of (c.args.s.now))) (row_at (c.args.s.now) c.alone-own.result.at) 0 (c.args.chain)) ≤ c.args.chain
few c = omega (arith, views-length c.args.others ((table_of (c.args.s.now))) (row_at (c.args.s.now) c.alone-own.result.at) c.requires.0.good 0 (c.args.chain) (omega (arith, c.requires.1)))

pub floor_of-floor-requires : goal.floor_of-floor-requires
floor_of-floor-requires c = here (goal.at.floor_of-floor-requires c).After-place-at

pub alone-own-requires : goal.alone-own-requires
alone-own-requires c = (here (goal.at.alone-own-requires c).After-place-at, c.floor_of-floor.ensures)

pub join-first-requires : goal.join-first-requires
join-first-requires c = let p = c.requires in
    let l = alone_loads (goal.at.join-first-requires c).After-alone-own in
    record {
      taken = p.0;
      start = place_none (t (goal.at.join-first-requires c).After-place-at);
      order = omega arith;
      inside = omega (arith, p.1);
      floor_is = floor_is (goal.at.join-first-requires c).After-alone-own;
      sound = l.sound;
      few = omega (arith, p.1, p.0.good.few, l.count);
      room = omega (arith, p.1, p.0.good.few, l.once);
    }

pub record_length-requires : goal.record_length-requires
record_length-requires c = omega (arith, (here (goal.at.record_length-requires c).After-place-at).there)

pub overflow_add-next : goal.overflow_add-next
overflow_add-next c = omega (arith, c.record_length.ensures, (here (goal.at.overflow_add-next c).After-place-at).there)

pub join-requires : goal.join-requires
join-requires c = let p = c.requires in
    let l = alone_loads (goal.at.join-requires c).After-alone-own in
    let j = c.join-first.ensures in
    let chains = c.count-chains.ensures in
    record {
      taken = p.0;
      start = next (goal.at.join-requires c).After-place-at _ (ap (λ n. at (goal.at.join-requires c).After-place-at + n) c.record_length.ensures);
      order = omega (arith, p.1, chains);
      inside = omega (arith, chains);
      floor_is = floor_is (goal.at.join-requires c).After-alone-own ∙ ap (λ n. floor_of (row_at (s (goal.at.join-requires c).After-place-at) n)) (sym j.at);
      sound = j.sound;
      few = omega (arith, p.1, chains, p.0.good.few, l.count, j.count, few (goal.at.join-requires c).After-join-first);
      room = omega (arith, p.1, chains, p.0.good.few, l.once, j.once, few (goal.at.join-requires c).After-join-first);
    }

pub returns : goal.returns
returns c = let others = c.args.others in
    let own = own_is (goal.at.returns c).After-alone-own ∙ row_is (goal.at.returns c).After-place-at in
    let before = ap (λ r. views_between others (t (goal.at.returns c).After-place-at) r 0 (chain (goal.at.returns c).After-place-at)) own in
    let after = ap₂ (λ r n. views_between others (t (goal.at.returns c).After-place-at) r (chain (goal.at.returns c).After-place-at + 1) n) (ap (row_at (s (goal.at.returns c).After-place-at)) c.join-first.ensures.at ∙ own) c.count-chains.ensures in
    loads_same refl (ap₂ ◌++◌ before after ∙ views-others others (t (goal.at.returns c).After-place-at) (chain (goal.at.returns c).After-place-at)) (loads_on (loads_on (alone_loads (goal.at.returns c).After-alone-own) c.join-first.ensures) c.join.ensures)
