-- Two numbers, or nothing.
use Prim.Native.Nat.{ℕ, ◌+◌, ◌-◌, ◌≤◌}
use native.Mathlib.Omega.{arith}
use mathlib.Core.Path.{◌≡◌, refl, ap, sym, subst, ◌∙◌}
use mathlib.Core.List.{List, [], ◌∷◌, ◌++◌, flatten, append-nil}
use lib.ListN.{length}
use Rattle.slices.specs.Code.Wrote.{Wrote}
use Rattle.slices.proofs.Writes.{wrote_none, wrote_number, number-on}
use Rattle.table.specs.Bytes.{bytes_of}
use Rattle.salvaging.specs.Skipped.{Stretch, between}
use Rattle.salvaging.proofs.Stretches.{list_of, list_long, between-some, between_none}
use Rattle.salvaging.proofs.put.put_stretch.Goals as goal
use Rattle.salvaging.proofs.put.put_stretch.Goals.{After-put_u32, Then-at-to}

-- there is room for eight bytes
room : (c : Then-at-to) → c.args.end + 8 ≤ length c.args.out.now
room c = let a = c.args in
    omega (arith, c.requires.1, list_long (between a.at a.to), ap (λ (l : List Stretch). length l) (between-some a.at a.to c.if-at-to.true))

-- the bytes of the stretch
bytes-are : (at to : ℕ) → list_of (record { offset = at; size = to - at } ∷ []) ≡ bytes_of 4 at ++ bytes_of 4 (to - at)
unfolding flatten
bytes-are at to = append-nil (bytes_of 4 at ++ bytes_of 4 (to - at))

-- the first number
offset-put : (c : After-put_u32) → Wrote c.args.out.now c.args.end (bytes_of 4 c.args.at) c.put_u32.new.s (c.args.end + 4)
offset-put c = let a = c.args in
    wrote_number a.out.now a.end 4 a.at c.put_u32.new.s (a.end + 4) refl (omega (
      arith,
      (let it : c.args.end + 8 ≤ length c.args.out.now = let a = c.args in
          omega (arith, c.requires.1, list_long (between a.at a.to), ap (λ (l : List Stretch). length l) (between-some a.at a.to c.if-at-to.true)) in it),
    )) c.put_u32.ensures

pub put_u32-requires : goal.put_u32-requires
put_u32-requires c = omega (arith, room (goal.at.put_u32-requires c).Then-at-to)

pub put_u32-requires-then-at-to : goal.put_u32-requires-then-at-to
put_u32-requires-then-at-to c = omega (arith, room (goal.at.put_u32-requires-then-at-to c).Then-at-to, (offset-put (goal.at.put_u32-requires-then-at-to c).After-put_u32).long)

pub returns-then-at-to : goal.returns-then-at-to
returns-then-at-to c = let a = c.args in
    subst (λ text. Wrote a.out.now a.end text c.put_u32-then-at-to.new.s (a.end + 8))
    (sym (ap list_of (between-some a.at a.to c.if-at-to.true) ∙ bytes-are a.at a.to))
    (number-on (offset-put (goal.at.returns-then-at-to c).After-put_u32) 4 (a.to - a.at) (a.end + 8) (omega arith) (omega (arith, room (goal.at.returns-then-at-to c).Then-at-to)) c.put_u32-then-at-to.ensures)

pub returns : goal.returns
unfolding flatten
returns c = let a = c.args in
    subst (λ (l : List Stretch). Wrote a.out.now a.end (list_of l) a.out.now a.end) (sym (between_none a.at a.to (omega (arith, c.if-at-to.false))))
    (wrote_none a.out.now a.end (omega (arith, c.requires.1)))
