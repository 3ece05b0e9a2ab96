-- The digits below m went back to 0, those from m on are as they were (`Turning`).
use Prim.Native.Nat.{ℕ, ◌+◌, ◌≤◌, ◌<◌}
use mathlib.Core.Bool.{Bool, false}
use mathlib.Core.Path.{◌≡◌, refl, sym, ◌∙◌}
use mathlib.Core.Logic.{inl, inr}
use native.Mathlib.Omega.{arith}
use Rattle.odometer.specs.Code.Steps.{Fits, Changed}
use Rattle.odometer.specs.declared.Odometer.{Odometer}
use Rattle.odometer.specs.Code.Gone.{uses_of, left_of, Gone}
use Rattle.odometer.proofs.Turns.{Turning, turning_start, turning_reset, turning_raise, turning_end, unchanged, gone_raisable, gone_resettable}
use borrow.Author.Rules.{rules}
use Rattle.odometer.proofs.Odometer.next.Goals as goal

pub loop-m-init : goal.loop-m-init
loop-m-init c = (c.requires.0, λ x a l. refl, turning_start (omega arith))

pub raise-requires : goal.raise-requires
raise-requires c = let g = c.requires.1 in
    gone_raisable (c.loop-m.invariant.2 g.room g.gone).gone (search rules) (search rules) (c.fits.ensures.so c.if-fits.true)

pub returns-then-fits : goal.returns-then-fits
returns-then-fits c = let l = c.loop-m in
    let f = c.fits.ensures.so c.if-fits.true in
    let r = c.raise.ensures in
    record {
      still = λ room g. turning_raise (l.invariant.2 room g) (search rules) (search rules) f r.0 r.1 l.invariant.0;
      later = λ z. inr record {
        at = l.m;
        there = search rules;
        fewer = omega (arith, r.0.here, l.invariant.1 l.m (omega arith) (search rules));
        alike = λ x a q. sym (r.0.others x q (λ e. omega (arith, e)) ∙ l.invariant.1 x (omega arith) q);
      };
    }

pub reset-o-requires : goal.reset-o-requires
reset-o-requires c = let g = c.requires.1 in
    gone_resettable (c.loop-m.invariant.2 g.room g.gone).gone (search rules)

-- m can't be raised and is not used any more: the digit after it is next
further : {bad : ℕ → Bool} {m : ℕ} {s o r : Odometer}
    → (o.over ≡ false) × ((x : ℕ) → m ≤ x → x < 64 → uses_of o x ≡ uses_of s x) × ((room : ℕ → ℕ) → Gone bad room s → Turning bad room m o)
    → m < 64 → (Fits bad (left_of o) m → ⊥) → Changed m 0 o r × (r.most ≡ o.most)
    → (r.over ≡ false) × ((x : ℕ) → m + 1 ≤ x → x < 64 → uses_of r x ≡ uses_of s x) × ((room : ℕ → ℕ) → Gone bad room s → Turning bad room (m + 1) r)
further i l full r = (
  r.0.over ∙ i.0,
  λ x a q. r.0.others x q (λ e. omega (arith, e)) ∙ i.1 x (omega arith) q,
  λ room g. turning_reset (i.2 room g) l full r.0 r.1,
)

-- where m was used it is not any more, and else it was not anyhow
pub loop-m-preserved : goal.loop-m-preserved
loop-m-preserved c = let l = c.loop-m in
    further l.invariant (omega arith) (c.fits.ensures.not c.if-fits.false) (search (rules, unchanged {m = l.m} {o = l.o}))

pub returns : goal.returns
returns c = record { still = λ room g. turning_end (c.loop-m.invariant.2 room g) (search rules); later = λ z. inl refl }
