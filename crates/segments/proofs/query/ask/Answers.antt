-- By the tests, in the order of 01: 12, 25, and then the active segments.
use Prim.Native.Nat.{◌<◌}
use mathlib.Core.Path.{◌≡◌, ap₂, sym, ◌∙◌}
use mathlib.Core.Bool.{not, false, ◌||◌}
use borrow.Author.Tests.{eq-eqb, ne_eqb}
use Rattle.search.proofs.Choice.{when_yes, when_no}
use Rattle.table.specs.declared.Table.{Table}
use Rattle.table.specs.Find.{find_of, used}
use Rattle.table.specs.Read.{table_of}
use Rattle.table.proofs.Firsts.{handed_on, or_left, or_right, or_none}
use Rattle.table.proofs.Finds.{asked-there, asked-none}
use Rattle.table.specs.declared.refusal.Refusal.TheVariants.{NoChain}
use Rattle.segments.specs.Query.{nth_of, answer_of}
use Rattle.segments.proofs.Asking.{unknown, known}
use Rattle.segments.proofs.query.ask.Goals as goal
use Rattle.segments.proofs.query.ask.Goals.{In_ok-other, Start}

abbrev table : (c : Start) → Table
table c = table_of c.args.s.now

first : (c : In_ok-other) → (c.in_ok-chain.chain ≡ find_of (table_of c.args.s.now) c.args.id) × (c.in_ok-chain.chain < (table_of c.args.s.now).count)
first c = asked-there _ _ _ c.find.ensures c.ok_or.ensures.value c.in_ok-chain.was

second : (c : In_ok-other) → (c.in_ok-other.other ≡ find_of (table_of c.args.s.now) c.args.against) × (c.in_ok-other.other < (table_of c.args.s.now).count)
second c = asked-there _ _ _ c.find-2.ensures c.ok_or-2.ensures.value c.in_ok-other.was

named : (c : In_ok-other) → (not (used (table_of c.args.s.now) c.args.id) || not (used (table_of c.args.s.now) c.args.against)) ≡ false
named c = or_none _ _ (known _ _ (first c)) (known _ _ (second c))

pub returns-in_err-chain : goal.returns-in_err-chain
unfolding answer_of
returns-in_err-chain c =
    let t = table (goal.at.returns-in_err-chain c).Start in
    let u = asked-none t c.args.id NoChain c.find.ensures c.ok_or.ensures.value c.in_err-chain.was in
    rw (handed_on _ c.from_residual.ensures.1, u.1) (sym (when_yes _ _ (or_left _ _ (unknown t c.args.id u.0))))

pub returns-in_err-other : goal.returns-in_err-other
unfolding answer_of
returns-in_err-other c =
    let t = table (goal.at.returns-in_err-other c).Start in
    let u = asked-none t c.args.against NoChain c.find-2.ensures c.ok_or-2.ensures.value c.in_err-other.was in
    rw (handed_on _ c.from_residual-in_err-other.ensures.1, u.1) (sym (when_yes _ _ (or_right (not (used t c.args.id)) _ (unknown t c.args.against u.0))))

pub returns-then-id-against : goal.returns-then-id-against
unfolding answer_of
returns-then-id-against c = sym (when_no _ _ (named (goal.at.returns-then-id-against c).In_ok-other) ∙ when_yes _ _ (eq-eqb _ _ c.if-id-against.true))

pub nth-requires : goal.nth-requires
nth-requires c = let at = (goal.at.nth-requires c).In_ok-other in
    (c.requires, (first at).1, (second at).1)

pub returns : goal.returns
unfolding answer_of
returns c = let at = (goal.at.returns c).In_ok-other in
    c.nth.ensures
    ∙ ap₂ (λ chain other. nth_of (table (goal.at.returns c).Start) chain other c.args.number) (first at).0 (second at).0
    ∙ sym (when_no _ _ (named at) ∙ when_no _ _ (ne_eqb _ _ c.if-id-against.false))
