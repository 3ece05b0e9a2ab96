-- What is left of the two lists, after `before`, has the first fault of all.
use Prim.Native.Nat.{ℕ, max, ◌+◌, ◌*◌, ◌-◌}
use native.Mathlib.Omega.{arith}
use mathlib.Core.Path.{◌≡◌, ap, ap₂, sym, ◌∙◌}
use mathlib.Core.List.{List, ◌∷◌}
use Rattle.table.specs.Limits.{max_largest}
use Rattle.table.specs.Bytes.{word}
use Rattle.table.specs.Record.{spaced}
use Rattle.table.specs.Fault.{outside, short_fault}
use Rattle.table.proofs.Lists.{spaced-start, spaced-on, spaced-end}
use Rattle.table.proofs.Forms.{short-here, short_on, short-end}
use Rattle.table.proofs.fault.short_fault.Goals as goal
use Rattle.table.proofs.fault.short_fault.Goals.{After-outside}

abbrev s : (c : After-outside) → List ℕ
s c = c.args.s.now

abbrev n : (c : After-outside) → ℕ
n c = c.args.n

abbrev from : (c : After-outside) → ℕ
from c = c.args.from

abbrev at : (c : After-outside) → ℕ
at c = c.args.at

abbrev i : (c : After-outside) → ℕ
i c = c.loop-i.i

abbrev least : (c : After-outside) → ℕ
least c = max c.loop-i.before (word 4 (s c) ((from c) + 4 * (i c)))

abbrev d : (c : After-outside) → ℕ
d c = word 4 (s c) ((at c) + 4 * (i c))

abbrev smallest : (c : After-outside) → List ℕ
smallest c = spaced (word 4 (s c)) 4 ((n c) - ((i c) + 1)) ((from c) + 4 * ((i c) + 1))

abbrev largest : (c : After-outside) → List ℕ
largest c = spaced (word 4 (s c)) 4 ((n c) - ((i c) + 1)) ((at c) + 4 * ((i c) + 1))

test : (c : After-outside) → outside (least c) max_largest (d c) ≡ c.outside.result
test c = let high = c.max-least.ensures ∙ ap (max c.loop-i.before) c.u32_at.ensures in
    sym (c.outside.ensures ∙ ap₂ (λ m x. outside m max_largest x) high c.u32_at-d.ensures)

opened : (c : After-outside) → short_fault c.loop-i.before (word 4 (s c) ((from c) + 4 * (i c)) ∷ (smallest c)) ((d c) ∷ (largest c)) ((at c) + 4 * (i c)) ≡ short_fault 0 (spaced (word 4 (s c)) 4 (n c) (from c)) (spaced (word 4 (s c)) 4 (n c) (at c)) (at c)
opened c = rw (← spaced-on (word 4 (s c)) 4 (n c) (i c) (from c) (omega arith), ← spaced-on (word 4 (s c)) 4 (n c) (i c) (at c) (omega arith)) c.loop-i.invariant.1

pub loop-i-init : goal.loop-i-init
loop-i-init c = let a = c.args in
    let e : a.at + 4 * 0 ≡ a.at = omega arith in
    (omega arith, rw (spaced-start (word 4 a.s.now) 4 a.n a.at, spaced-start (word 4 a.s.now) 4 a.n a.from, e))

pub returns-then-outside : goal.returns-then-outside
returns-then-outside c = sym (short-here _ _ _ _ _ _ (test (goal.at.returns-then-outside c).After-outside ∙ c.if-outside.true)) ∙ opened (goal.at.returns-then-outside c).After-outside

pub loop-i-preserved : goal.loop-i-preserved
loop-i-preserved c = let next : at (goal.at.loop-i-preserved c).After-outside + 4 * i (goal.at.loop-i-preserved c).After-outside + 4 ≡ at (goal.at.loop-i-preserved c).After-outside + 4 * (i (goal.at.loop-i-preserved c).After-outside + 1) = omega arith in
    (omega arith, ap₂ (λ x place. short_fault x (smallest (goal.at.loop-i-preserved c).After-outside) (largest (goal.at.loop-i-preserved c).After-outside) place) c.u32_at-d.ensures (sym next) ∙ sym (short_on _ _ _ _ _ _ (test (goal.at.loop-i-preserved c).After-outside ∙ c.if-outside.false)) ∙ opened (goal.at.loop-i-preserved c).After-outside)

pub returns : goal.returns
returns c = let a = c.args in
    let l = c.loop-i in
    cc (spaced-end (word 4 a.s.now) 4 a.n l.i (a.at + 4 * l.i) (omega arith), short-end l.before (spaced (word 4 a.s.now) 4 (a.n - l.i) (a.from + 4 * l.i)) (a.at + 4 * l.i))
