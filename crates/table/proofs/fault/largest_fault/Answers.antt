-- At each return the tests so far, in order, are what the calls gave.
use Prim.Native.Nat.{◌+◌, ◌*◌}
use mathlib.Core.Path.{◌≡◌, ap, ap₂, sym, ◌∙◌}
use lib.ListN.{get_or}
use lib.Dec.{eqb}
use borrow.Author.Tests.{eqb-false, lt-ltb, le-ltb}
use Rattle.search.specs.Choice.{◌when◌else◌}
use Rattle.table.specs.Bytes.{word}
use Rattle.table.specs.Record.{largest_form, form_at, flag_at, listed_at, list_place, largest_place}
use Rattle.table.specs.Fault.{largest_fault}
use Rattle.table.proofs.Forms.{listed-before, largest-none, known-cases, short-known}
use Rattle.table.proofs.fault.largest_fault.Goals as goal
use Rattle.table.proofs.fault.largest_fault.Goals.{After-listed_from}

-- where the largest distances start
from : (c : After-listed_from) → c.args.list + 4 * c.listed_from.result ≡ largest_place c.args.s.now c.args.at
from c = ap₂ (λ m n. m + 4 * n) c.requires.1 (c.listed_from.ensures.0 ∙ ap (λ i. get_or c.args.s.now i 0) (listed-before _ _ c.args.at c.requires.1))

pub returns-then-not-has_flag : goal.returns-then-not-has_flag
returns-then-not-has_flag c = sym (largest-none c.args.s.now c.args.at (eqb-false _ _ (ap (λ n. eqb n largest_form) (sym c.form_at.ensures) ∙ sym c.has_flag.ensures ∙ c.if-not-has_flag.true)) c.requires.0)

pub returns-then-flag_at-gt1 : goal.returns-then-flag_at-gt1
unfolding largest_fault ◌when◌else◌
returns-then-flag_at-gt1 c = rw (← c.flag_at.ensures, lt-ltb _ _ c.if-flag_at-gt1.true)

pub returns-then-s-from : goal.returns-then-s-from
unfolding largest_fault ◌when◌else◌
returns-then-s-from c = rw (← c.known_at-n.ensures.0, ← from (goal.at.returns-then-s-from c).After-listed_from, ← c.flag_at.ensures, le-ltb _ _ c.if-flag_at-gt1.false, lt-ltb _ _ c.if-s-from.true)

pub returns : goal.returns
unfolding largest_fault ◌when◌else◌
returns c = let s = c.args.s.now in
    let n = c.known_at-n.result in
    let start = list_place s c.args.at + 4 * c.listed_from.result in
    rw (← c.known_at-n.ensures.0, ← from (goal.at.returns c).After-listed_from, ← c.flag_at.ensures, le-ltb _ _ c.if-flag_at-gt1.false, le-ltb _ _ c.if-s-from.false)
    (rw (c.short_fault.ensures, c.requires.1)
    (short-known (word 4 s) n (listed_at s c.args.at) (list_place s c.args.at) start (rw c.known_at-n.ensures.0 (known-cases (form_at s c.args.at) (flag_at s c.args.at) (listed_at s c.args.at)))))
