-- The first i figures stand at the start of the buffer, and its rest is as it was.
use Prim.Native.Nat.{ℕ, ◌+◌}
use mathlib.Core.Path.{◌≡◌, refl, ap, sym, ◌∙◌}
use mathlib.Core.List.{List, [], ◌∷◌, ◌++◌}
use lib.ListN.{length, take, get_or}
use lib.Seq.{take-suc, take-length, length-take-le}
use native.Mathlib.Omega.{arith}
use native.Mathlib.Numerals.{add-one}
use Rattle.editor.specs.Entry.{figure_bytes, starting_with}
use Rattle.editor.proofs.Writing.{figures-none, stored_next}
use Rattle.editor.proofs.put_figures.Goals as goal

pub loop-i-init : goal.loop-i-init
loop-i-init c = (omega arith, sym (figures-none c.args.answer.now), refl)

pub loop-i-preserved : goal.loop-i-preserved
loop-i-preserved c = let l = c.loop-i in
    let a = c.args in
    let figures : List ℕ = a.figures.now in
    let n : length (take l.i figures) ≡ l.i = length-take-le l.i figures (omega arith) in
    let more : take (l.i + 1) figures ≡ take l.i figures ++ (get_or figures l.i 0 ∷ []) = rw add-one (take-suc figures l.i 0 (omega arith)) in (
      omega arith,
      rw more (stored_next (take l.i figures) (get_or figures l.i 0) a.answer.now l.answer c.put_u32.new.s l.invariant.1 (rw n c.put_u32.ensures)),
      omega arith,
    )

pub returns : goal.returns
returns c = let a = c.args in
    let done : c.loop-i.i ≡ length a.figures.now = omega arith in
    let all : take c.loop-i.i a.figures.now ≡ a.figures.now = rw done (take-length a.figures.now) in
    c.loop-i.invariant.1 ∙ ap (λ l. starting_with (figure_bytes l) a.answer.now) all
