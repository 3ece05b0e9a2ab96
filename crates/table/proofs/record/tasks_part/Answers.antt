-- What its form has, where that form has it.
use Prim.Native.Nat.{ℕ, ◌+◌}
use native.Mathlib.Omega.{arith}
use mathlib.Core.Path.{◌≡◌, ap, sym, ◌∙◌}
use mathlib.Core.List.{List}
use lib.ListN.{get_or}
use lib.Dec.{eqb}
use borrow.Author.Tests.{eqb-true, eqb-false}
use Rattle.table.specs.Record.{largest_form, form_at, gap_width, known_at, listed_place, listed_at, tasks_place}
use Rattle.table.proofs.Forms.{wide, narrow, known-lacks}
use Rattle.table.proofs.record.tasks_part.Goals as goal
use Rattle.table.proofs.record.tasks_part.Goals.{After-count_at, After-has_flag, Else-has_flag, Then-has_flag}

abbrev s : (c : After-has_flag) → List ℕ
s c = c.args.s.now

abbrev at : (c : After-has_flag) → ℕ
at c = c.args.at

tested : (c : After-has_flag) → c.has_flag.result ≡ eqb (form_at (s c) (at c)) largest_form
tested c = c.has_flag.ensures ∙ ap (λ n. eqb n largest_form) c.form_at.ensures

-- the bytes of its gap or flag, its list length where that leaves it, and no largest distances without a flag
one : (c : Then-has_flag) → gap_width (form_at (c.args.s.now) (c.args.at)) ≡ 1
one c = narrow (form_at (c.args.s.now) (c.args.at)) (eqb-true _ _ (sym ((let it : c.has_flag.result ≡ eqb (form_at (c.args.s.now) (c.args.at)) largest_form = c.has_flag.ensures ∙ ap (λ n. eqb n largest_form) c.form_at.ensures in it)) ∙ c.if-has_flag.true))

listed : (c : After-count_at) → c.count_at.result ≡ listed_at (c.args.s.now) (c.args.at)
listed c = let place : c.args.at + 11 ≡ listed_place (c.args.s.now) (c.args.at) = omega (arith, (let it : gap_width (form_at (c.args.s.now) (c.args.at)) ≡ 1 = narrow (form_at (c.args.s.now) (c.args.at)) (eqb-true _ _ (sym ((let it : c.has_flag.result ≡ eqb (form_at (c.args.s.now) (c.args.at)) largest_form = c.has_flag.ensures ∙ ap (λ n. eqb n largest_form) c.form_at.ensures in it)) ∙ c.if-has_flag.true)) in it)) in
    c.count_at.ensures.0 ∙ ap (λ i. get_or (c.args.s.now) i 0) place

four : (c : Else-has_flag) → gap_width (form_at (c.args.s.now) (c.args.at)) ≡ 4
four c = wide (form_at (c.args.s.now) (c.args.at)) (eqb-false _ _ (sym ((let it : c.has_flag.result ≡ eqb (form_at (c.args.s.now) (c.args.at)) largest_form = c.has_flag.ensures ∙ ap (λ n. eqb n largest_form) c.form_at.ensures in it)) ∙ c.if-has_flag.false))

none : (c : Else-has_flag) → known_at (c.args.s.now) (c.args.at) ≡ 0
none c = known-lacks _ _ _ (eqb-false _ _ (sym ((let it : c.has_flag.result ≡ eqb (form_at (c.args.s.now) (c.args.at)) largest_form = c.has_flag.ensures ∙ ap (λ n. eqb n largest_form) c.form_at.ensures in it)) ∙ c.if-has_flag.false))

pub overflow_mul-result-then-has_flag : goal.overflow_mul-result-then-has_flag
overflow_mul-result-then-has_flag c = omega (arith, c.known_at.ensures.1, listed (goal.at.overflow_mul-result-then-has_flag c).After-count_at, c.count_at.ensures.1)

pub overflow_add-result-then-has_flag : goal.overflow_add-result-then-has_flag
overflow_add-result-then-has_flag c = omega (arith, c.known_at.ensures.1, listed (goal.at.overflow_add-result-then-has_flag c).After-count_at, c.count_at.ensures.1)

pub count_at-requires-then-has_flag : goal.count_at-requires-then-has_flag
count_at-requires-then-has_flag c = omega (arith, c.requires, one (goal.at.count_at-requires-then-has_flag c).Then-has_flag)

pub returns-then-has_flag : goal.returns-then-has_flag
returns-then-has_flag c = let tasks : at (goal.at.returns-then-has_flag c).After-has_flag + 12 ≡ tasks_place (s (goal.at.returns-then-has_flag c).After-has_flag) (at (goal.at.returns-then-has_flag c).After-has_flag) = omega (arith, one (goal.at.returns-then-has_flag c).Then-has_flag) in (
  omega (arith, one (goal.at.returns-then-has_flag c).Then-has_flag, listed (goal.at.returns-then-has_flag c).After-count_at, c.known_at.ensures.0),
  c.count_at-then-has_flag.ensures.0 ∙ ap (λ i. get_or (s (goal.at.returns-then-has_flag c).After-has_flag) i 0) tasks,
  omega (arith, c.known_at.ensures.1, listed (goal.at.returns-then-has_flag c).After-count_at, c.count_at.ensures.1),
  c.count_at-then-has_flag.ensures.1,
)

pub count_at-requires-2 : goal.count_at-requires-2
count_at-requires-2 c = omega (arith, c.requires, four c)

pub count_at-requires-3 : goal.count_at-requires-3
count_at-requires-3 c = omega (arith, c.requires, four (goal.at.count_at-requires-3 c).Else-has_flag)

pub returns : goal.returns
returns c = let list : at (goal.at.returns c).After-has_flag + 14 ≡ listed_place (s (goal.at.returns c).After-has_flag) (at (goal.at.returns c).After-has_flag) = omega (arith, four (goal.at.returns c).Else-has_flag) in
    let tasks : at (goal.at.returns c).After-has_flag + 15 ≡ tasks_place (s (goal.at.returns c).After-has_flag) (at (goal.at.returns c).After-has_flag) = omega (arith, four (goal.at.returns c).Else-has_flag) in
    let listed = c.count_at-2.ensures.0 ∙ ap (λ i. get_or (s (goal.at.returns c).After-has_flag) i 0) list in (
      omega (arith, four (goal.at.returns c).Else-has_flag, listed, none (goal.at.returns c).Else-has_flag),
      c.count_at-3.ensures.0 ∙ ap (λ i. get_or (s (goal.at.returns c).After-has_flag) i 0) tasks,
      omega (arith, c.count_at-2.ensures.1),
      c.count_at-3.ensures.1,
    )
