-- At each return the refusals so far, in order, are what the calls gave.
use Prim.Native.Nat.{ℕ, ◌<◌}
use mathlib.Core.Path.{◌≡◌, ap, sym, subst, ◌∙◌}
use lib.ListN.{length}
use native.Mathlib.Omega.{arith}
use Rattle.table.specs.Record.{row_at}
use Rattle.table.specs.declared.Row.{Row}
use Rattle.table.specs.Find.{row_of}
use Rattle.table.specs.Read.{refused_by, table_of}
use Rattle.table.specs.Place.{place_of}
use Rattle.table.specs.Code.Taken.{Taken}
use Rattle.std.specs.declared.result.Result.TheVariants.{Err}
use Rattle.table.specs.declared.refusal.Refusal.TheVariants.{StaleRecord}
use Rattle.table.proofs.Accepted.{taken}
use Rattle.table.proofs.Firsts.{handed_on}
use Rattle.table.proofs.Stands.{row-there, stands}
use Rattle.saving.specs.Save.{seen_of, unfit, result_fault}
use Rattle.slices.specs.Slices.{splice}
use Rattle.slices.specs.Code.Begins.{Begins}
use Rattle.saving.proofs.Verdicts.{not-none, read-accepted}
use Rattle.saving.proofs.Seen.{seen-there, seen-missing, seen-inside, result-is}
use Rattle.saving.proofs.Faults.{replace_unseen, replace_unfit, replace_result}
use Rattle.saving.proofs.judge.replaced.Goals as goal
use Rattle.saving.proofs.judge.replaced.Goals.{After-place-at, After-unfit, After-seen, In_ok-chain}

-- the table holds its records
held : (c : After-seen) → Taken c.args.s.now
held c = taken c.args.s.now (λ i. (c.type_inv.s i).fits) c.requires

-- and a stored record is the old one, in its place
found : (c : In_ok-chain) → (c.in_ok-chain.chain ≡ seen_of c.args.s.now c.args.old.now) × (seen_of c.args.s.now c.args.old.now < (table_of c.args.s.now).count)
found c = seen-there c.args.s.now c.args.old.now StaleRecord c.seen.ensures c.ok_or.ensures.value c.in_ok-chain.was

place : (c : After-place-at) → c.in_ok-chain.chain ≡ seen_of c.args.s.now c.args.old.now → c.place-at.result ≡ place_of (table_of c.args.s.now) (seen_of c.args.s.now c.args.old.now)
place c e = c.place-at.ensures ∙ ap (place_of (table_of c.args.s.now)) e

judged-fit : (c : After-unfit) → Taken c.args.s.now → c.place-at.result ≡ place_of (table_of c.args.s.now) (seen_of c.args.s.now c.args.old.now)
    → seen_of c.args.s.now c.args.old.now < (table_of c.args.s.now).count
    → c.unfit.result ≡ unfit c.args.new.now (row_of (table_of c.args.s.now) (seen_of c.args.s.now c.args.old.now)).id
unfolding row_at
judged-fit c t p h = c.unfit.ensures ∙ ap (unfit c.args.new.now) (c.id_at.ensures ∙ ap (λ (r : Row). r.id) (row-there t p h))

pub seen-requires : goal.seen-requires
seen-requires c = taken c.args.s.now (λ i. (c.type_inv.s i).fits) c.requires

pub returns-in_err-chain : goal.returns-in_err-chain
returns-in_err-chain c = let a = c.args in
    let e = handed_on _ c.from_residual.ensures.1 in
    let m = seen-missing a.s.now a.old.now StaleRecord c.seen.ensures c.ok_or.ensures.value c.in_err-chain.was in
    record { faulty = e ∙ ap Err m.1 ∙ sym (replace_unseen a.room a.s.now a.old.now a.new.now m.0); begins = λ z. not-none _ (sym e ∙ z) }

pub place-at-requires : goal.place-at-requires
place-at-requires c = let at = goal.at.place-at-requires c in
    (held at.After-seen, omega (arith, found at.In_ok-chain))

pub id_at-requires : goal.id_at-requires
id_at-requires c = let at = goal.at.id_at-requires c in
    let f = found at.In_ok-chain in
    omega (arith, (stands (held at.After-seen) (place c f.0) f.1).there)

pub returns-then-unfit : goal.returns-then-unfit
returns-then-unfit c = let a = c.args in
    let at = goal.at.returns-then-unfit c in
    let f = found at.In_ok-chain in
    let h = f.1 in
    let fit = judged-fit at.After-unfit (held at.After-seen) (place at.After-place-at f.0) h in
    record { faulty = sym (replace_unfit a.room a.s.now a.old.now a.new.now (λ z. omega (arith, h, z)) (sym fit ∙ c.if-unfit.true)); begins = λ z. not-none _ z }

pub result-requires : goal.result-requires
result-requires c = let a = c.args in
    let at = goal.at.result-requires c in
    let f = found at.In_ok-chain in
    let inside = seen-inside a.s.now a.old.now (read-accepted a.s.now (ap refused_by c.requires)) (λ i. (c.type_inv.s i).fits) f.1 in
    (omega (arith, place at.After-place-at f.0, inside), omega arith)

pub returns : goal.returns
returns c = let a = c.args in
    let at = goal.at.returns c in
    let f = found at.In_ok-chain in
    let h = f.1 in
    let fit = judged-fit at.After-unfit (held at.After-seen) (place at.After-place-at f.0) h in
    let there = ap (λ (p : ℕ). splice a.s.now p (length a.old.now) a.new.now) (place at.After-place-at f.0)
    ∙ result-is a.s.now a.old.now (read-accepted a.s.now (ap refused_by c.requires)) (λ i. (c.type_inv.s i).fits) h a.new.now in
    record {
      faulty =
          c.result.ensures.faulty
          ∙ ap (result_fault a.room) there
          ∙ sym (replace_result a.room a.s.now a.old.now a.new.now (λ z. omega (arith, h, z)) (sym fit ∙ c.if-unfit.false));
      begins = λ z. subst (Begins c.result.new.out) there (c.result.ensures.begins z);
    }
