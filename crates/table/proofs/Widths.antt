-- What the two forms have, by their numbers: the width of the gap or flag, the largest distances, the fields that a form lacks. Assumes
-- nothing.
use Prim.Native.Nat.{ℕ, ◌≤◌, ◌<◌}
use native.Mathlib.Omega.{arith}
use mathlib.Core.Path.{◌≡◌}
use mathlib.Core.List.{List}
use mathlib.Core.Bool.{true, ◌&&◌}
use lib.ListN.{length}
use lib.Dec.{eqb, ltb}
use borrow.Author.Tests.{eq-eqb, ne_eqb, lt-ltb}
use Rattle.search.proofs.Choice.{when_cases, when_yes, when_no}
use Rattle.table.specs.Limits.{max_bytes, max_gap_bytes}
use Rattle.table.specs.Record.{gap_form, largest_form, form_at, gap_at, flag_at, gap_width, known}
use Rattle.table.specs.Read.{limit_of}

pub width-most : (form : ℕ) → gap_width form ≤ 4
unfolding gap_width
width-most form = when_cases (λ n. n ≤ 4) (eqb form largest_form) (λ e. omega arith) (λ e. omega arith)

pub width-least : (form : ℕ) → 1 ≤ gap_width form
unfolding gap_width
width-least form = when_cases (λ n. 1 ≤ n) (eqb form largest_form) (λ e. omega arith) (λ e. omega arith)

pub known-most : (form flag listed : ℕ) → known form flag listed ≤ listed
unfolding known
known-most form flag listed = when_cases (λ n. n ≤ listed) (eqb form largest_form && eqb flag 1) (λ e. omega arith) (λ e. omega arith)

-- `CG` has no gap, `CH` no flag
pub gap-lacks : (s : List ℕ) (at : ℕ) → form_at s at ≡ largest_form → gap_at s at ≡ 0
unfolding gap_at
gap-lacks s at e = when_yes _ _ (eq-eqb _ _ e)

pub flag-lacks : (s : List ℕ) (at : ℕ) → form_at s at ≡ gap_form → flag_at s at ≡ 0
unfolding flag_at
flag-lacks s at e = when_no _ _ (ne_eqb (form_at s at) largest_form (λ h. omega (arith, e, h)))

-- how many bytes a table may have: those of `CG`, and the least and the most
pub limit-largest : (mark : ℕ) → mark ≡ largest_form → limit_of mark ≡ max_bytes
unfolding limit_of
limit-largest mark e = when_yes max_bytes max_gap_bytes (eq-eqb mark largest_form e)

pub limit-least : (mark : ℕ) → max_gap_bytes ≤ limit_of mark
unfolding limit_of
limit-least mark = when_cases (λ n. max_gap_bytes ≤ n) (eqb mark largest_form) (λ e. omega arith) (λ e. omega arith)

pub limit-most : (mark : ℕ) → limit_of mark ≤ max_bytes
unfolding limit_of
limit-most mark = when_cases (λ n. n ≤ max_bytes) (eqb mark largest_form) (λ e. omega arith) (λ e. omega arith)

pub beyond-both : (s : List ℕ) (mark : ℕ) → max_bytes < length s → ltb (limit_of mark) (length s) ≡ true
beyond-both s mark h = lt-ltb (limit_of mark) (length s) (omega (arith, h, limit-most mark))
