-- The place is that of the chain that was found, and small enough for four bytes.
use Prim.Native.Nat.{◌*◌, ◌<◌, ◌≤◌}
use native.Mathlib.Omega.{arith}
use mathlib.Core.Path.{◌≡◌, ap, sym, ◌∙◌}
use borrow.Author.Tests.{lt-ltb, le-ltb}
use Rattle.search.proofs.Choice.{when_yes, when_no}
use Rattle.std.specs.declared.result.Result.TheVariants.{Err}
use Rattle.table.specs.Limits.{max_chains}
use Rattle.table.specs.Record.{length_at}
use Rattle.table.specs.Find.{row_of, find_of}
use Rattle.table.specs.Place.{length_of}
use Rattle.table.specs.Read.{table_of}
use Rattle.table.specs.Code.Taken.{Stands}
use Rattle.table.proofs.Firsts.{handed_on}
use Rattle.table.proofs.Finds.{asked-there, asked-none}
use Rattle.table.proofs.Standing.{longest_record, record_most, place-max}
use Rattle.table.proofs.Stands.{length-at, row-there, stands}
use Rattle.slices.specs.Locate.{record_in}
use Rattle.slices.proofs.record_in.Goals as goal
use Rattle.slices.proofs.record_in.Goals.{In_ok-chain, In_err-chain, After-place-at}

-- the chain that was found is there; or none bears the id
there : (c : In_ok-chain) → (c.in_ok-chain.chain ≡ find_of (table_of c.args.s.now) c.args.id) × (c.in_ok-chain.chain < (table_of c.args.s.now).count)
there c = asked-there _ _ _ c.find.ensures c.ok_or.ensures.value c.in_ok-chain.was

none : (c : In_err-chain) → find_of (table_of c.args.s.now) c.args.id ≡ (table_of c.args.s.now).count
none c = (asked-none _ _ _ c.find.ensures c.ok_or.ensures.value c.in_err-chain.was).0

module _ (c : After-place-at) (h : c.in_ok-chain.chain < (table_of c.args.s.now).count) where
  standing : Stands c.args.s.now c.place-at.result
  standing = stands c.requires c.place-at.ensures h

  size : length_at c.args.s.now c.place-at.result ≡ length_of (row_of (table_of c.args.s.now) c.in_ok-chain.chain)
  size = length-at c.args.s.now c.place-at.result ∙ ap length_of (row-there c.requires c.place-at.ensures h)

  near : c.place-at.result ≤ longest_record * max_chains
  near = let good = c.requires.good in
      omega (arith, c.place-at.ensures, place-max (table_of c.args.s.now) good c.in_ok-chain.chain (omega (arith, h)), h, good.few)

pub place-at-requires : goal.place-at-requires
place-at-requires c = (c.requires, omega (arith, (there c).1))

pub returns-in_err-chain : goal.returns-in_err-chain
unfolding record_in
returns-in_err-chain c = let l = (goal.at.returns-in_err-chain c).In_err-chain in
    handed_on _ c.from_residual.ensures.1 ∙ ap Err (asked-none _ _ _ c.find.ensures c.ok_or.ensures.value c.in_err-chain.was).1
    ∙ sym (when_no _ _ (le-ltb _ _ (omega (arith, none l))))

pub overflow_cast-result : goal.overflow_cast-result
overflow_cast-result c = let h = there (goal.at.overflow_cast-result c).In_ok-chain in
    omega (arith, near (goal.at.overflow_cast-result c).After-place-at h.1)

pub record_length-requires : goal.record_length-requires
record_length-requires c = omega (arith, (standing (goal.at.record_length-requires c).After-place-at (there (goal.at.record_length-requires c).In_ok-chain).1).there)

pub overflow_cast-result-2 : goal.overflow_cast-result-2
overflow_cast-result-2 c =
    let here = (goal.at.overflow_cast-result-2 c).After-place-at in
    let h = (there (goal.at.overflow_cast-result-2 c).In_ok-chain).1 in
    let row = row_of (table_of c.args.s.now) c.in_ok-chain.chain in
    omega (arith, c.record_length.ensures, size here h, record_most (c.requires.good.row c.in_ok-chain.chain h) row.form row.flag)

pub returns : goal.returns
unfolding record_in
returns c =
    let here = (goal.at.returns c).After-place-at in
    let h = there (goal.at.returns c).In_ok-chain in
    rw (c.place-at.ensures, c.record_length.ensures, size here h.1, h.0) (sym (when_yes _ _ (lt-ltb _ _ (omega (arith, h.0, h.1)))))
