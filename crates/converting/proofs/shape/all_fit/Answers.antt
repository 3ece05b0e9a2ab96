-- At the loop's head all chains fit exactly where those from `chain` on do; its record starts at `at`.
use Prim.Native.Nat.{ℕ, ◌+◌, ◌<◌}
use native.Mathlib.Omega.{arith}
use mathlib.Core.Path.{◌≡◌, refl, ap, sym, ◌∙◌}
use mathlib.Core.Bool.{Bool, true, false, ◌&&◌}
use lib.ListN.{drop}
use Rattle.search.specs.Lists.{every}
use Rattle.table.specs.Find.{rows}
use Rattle.table.specs.Read.{table_of}
use Rattle.table.specs.Code.Taken.{Stands}
use Rattle.table.proofs.Standing.{place_none}
use Rattle.table.proofs.Stands.{row-there, stands, place-next}
use Rattle.converting.specs.Forms.{fits_form}
use Rattle.converting.proofs.Walks.{rows-from, rows_end}
use Rattle.converting.proofs.shape.all_fit.Goals as goal
use Rattle.converting.proofs.shape.all_fit.Goals.{After-fits_form, In-loop}

-- the chain is there
within : (c : In-loop) → c.loop.counter < (table_of c.args.s.now).count
within c = omega (arith, c.count-end.ensures, c.loop-test.true)

there : (c : In-loop) → Stands c.args.s.now c.loop.at
there c = stands c.requires c.loop.invariant.1 (within c)

abbrev left : (c : After-fits_form) → ℕ → Bool
left c chain = every (fits_form c.args.to) (drop chain (rows (table_of c.args.s.now)))

on : (c : After-fits_form) → left c c.loop.counter ≡ (c.fits_form.result && left c (c.loop.counter + 1))
unfolding every
on c = let l = c.loop in
    let h : l.counter < (table_of c.args.s.now).count = omega (arith, c.count-end.ensures, c.loop-test.true) in
    ap (every (fits_form c.args.to)) (rows-from c.requires.good l.counter h)
    ∙ ap (λ b. b && left c (l.counter + 1)) (ap (fits_form c.args.to) (sym (row-there c.requires l.invariant.1 h)) ∙ sym c.fits_form.ensures)

on-no : (c : After-fits_form) → c.fits_form.result ≡ false → left c c.loop.counter ≡ false
on-no c e = on c ∙ ap (λ b. b && left c (c.loop.counter + 1)) e

on-yes : (c : After-fits_form) → c.fits_form.result ≡ true → left c c.loop.counter ≡ left c (c.loop.counter + 1)
on-yes c e = on c ∙ ap (λ b. b && left c (c.loop.counter + 1)) e

pub count-end-requires : goal.count-end-requires
count-end-requires c = c.requires

pub loop-init : goal.loop-init
loop-init c = (omega arith, place_none (table_of c.args.s.now), refl)

pub fits_form-requires : goal.fits_form-requires
fits_form-requires c = there c

pub returns-then-not-fits_form : goal.returns-then-not-fits_form
returns-then-not-fits_form c = sym (on-no (goal.at.returns-then-not-fits_form c).After-fits_form c.if-not-fits_form.true) ∙ c.loop.invariant.2

pub record_length-at-requires : goal.record_length-at-requires
record_length-at-requires c = omega (arith, (there (goal.at.record_length-at-requires c).In-loop).there)

pub overflow_add-at : goal.overflow_add-at
overflow_add-at c = omega (arith, c.record_length-at.ensures, (there (goal.at.overflow_add-at c).In-loop).there)

pub loop-preserved : goal.loop-preserved
loop-preserved c = let l = c.loop in
    let h = within (goal.at.loop-preserved c).In-loop in (
      omega (arith, h),
      ap (λ n. l.at + n) c.record_length-at.ensures ∙ place-next c.requires l.invariant.1 h,
      sym (on-yes (goal.at.loop-preserved c).After-fits_form c.if-not-fits_form.false) ∙ l.invariant.2,
    )

pub returns : goal.returns
unfolding every
returns c = let l = c.loop in
    sym (ap (every (fits_form c.args.to)) (rows_end c.requires.good l.counter (omega (arith, c.count-end.ensures, c.loop-test.false)))) ∙ l.invariant.2
