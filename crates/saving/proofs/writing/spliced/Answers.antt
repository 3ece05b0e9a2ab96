-- Each `put` goes on after what is there.
use Prim.Native.Nat.{◌≤◌, ◌+◌, ◌-◌}
use mathlib.Core.Path.{◌≡◌, refl, ap, sym, ◌∙◌}
use mathlib.Core.List.{[], ◌++◌}
use lib.ListN.{length, take, drop, length-append, length-take, length-drop}
use lib.Seq.{length-take-le, take_all}
use native.Mathlib.Omega.{arith}
use Rattle.slices.specs.Code.Begins.{Begins}
use Rattle.slices.proofs.Splices.{splice-length, put-length, begins-none, begins-put}
use Rattle.saving.proofs.writing.spliced.Goals as goal
use Rattle.saving.proofs.writing.spliced.Goals.{After-put, After-put-2, Start}

-- the pieces fit
room : (c : Start) → length c.args.s.now - c.args.gone + length c.args.new.now ≤ length c.args.out.now
room c = omega (arith, c.requires.1, splice-length c.args.s.now c.args.at c.args.gone c.args.new.now c.requires.0)

-- the piece before
before : (c : Start) → length (take c.args.at c.args.s.now) ≡ c.args.at
before c = length-take-le c.args.at c.args.s.now (omega (arith, c.requires.0))

-- after the first put: as long as before, and what it begins with
first-length : (c : After-put) → length (take c.args.at c.args.s.now) ≡ c.args.at → length c.put.new.to ≡ length c.args.out.now
first-length c e = ap length c.put.ensures ∙ put-length c.args.out.now 0 (take c.args.at c.args.s.now)
    (omega (arith, e, splice-length c.args.s.now c.args.at c.args.gone c.args.new.now c.requires.0, c.requires.0, c.requires.1))

first : (c : After-put) → Begins c.put.new.to (take c.args.at c.args.s.now)
first c = rw c.put.ensures (begins-put c.args.out.now [] (take c.args.at c.args.s.now) 0 (begins-none c.args.out.now) refl)

-- and after the second
second-length : (c : After-put-2) → length c.put.new.to ≡ length c.args.out.now → length c.put-2.new.to ≡ length c.args.out.now
second-length c e = ap length c.put-2.ensures ∙ put-length c.put.new.to c.args.at c.args.new.now
    (omega (arith, e, splice-length c.args.s.now c.args.at c.args.gone c.args.new.now c.requires.0, c.requires.0, c.requires.1)) ∙ e

second : (c : After-put-2) → Begins c.put.new.to (take c.args.at c.args.s.now) → length (take c.args.at c.args.s.now) ≡ c.args.at
    → Begins c.put-2.new.to (take c.args.at c.args.s.now ++ c.args.new.now)
second c b e = rw c.put-2.ensures (begins-put c.put.new.to (take c.args.at c.args.s.now) c.args.new.now c.args.at b e)

pub slice_bounds-put-end : goal.slice_bounds-put-end
slice_bounds-put-end c = sym (before (goal.at.slice_bounds-put-end c).Start)

pub put-requires : goal.put-requires
put-requires c = omega (arith, before (goal.at.put-requires c).Start, room (goal.at.put-requires c).Start, c.requires.0)

pub put-requires-2 : goal.put-requires-2
put-requires-2 c = let at = goal.at.put-requires-2 c in
    omega (arith, first-length at.After-put (before at.Start), room at.Start, c.requires.0)

pub put-requires-3 : goal.put-requires-3
put-requires-3 c = let at = goal.at.put-requires-3 c in
    simp (length-take, length-drop) (omega (arith, second-length at.After-put-2 (first-length at.After-put (before at.Start)), room at.Start, c.requires.0))

pub returns : goal.returns
returns c = let here = goal.at.returns c in
    let front = take c.args.at c.args.s.now ++ c.args.new.now in
    let at = c.args.at + length c.args.new.now in
    let rest = drop (c.args.at + c.args.gone) c.args.s.now in
    let e : length front ≡ at = omega (arith, length-append (take c.args.at c.args.s.now) c.args.new.now, before here.Start) in
    let f : take (length c.args.s.now - (c.args.at + c.args.gone)) rest ≡ rest = take_all (length c.args.s.now - (c.args.at + c.args.gone)) rest (omega (arith, length-drop (c.args.at + c.args.gone) c.args.s.now)) in
    rw (c.put-3.ensures, f) (begins-put c.put-2.new.to front rest at (second here.After-put-2 (first here.After-put) (before here.Start)) e)
