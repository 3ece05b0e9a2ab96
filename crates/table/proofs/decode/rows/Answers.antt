-- The loop has decoded the first rows; the next record starts at `at`.
use Prim.Native.Nat.{◌+◌, ◌<◌}
use native.Mathlib.Omega.{arith}
use mathlib.Core.Path.{◌≡◌, refl, sym, ap, subst, ◌∙◌}
use lib.ListN.{set}
use Rattle.table.specs.Find.{row_of}
use Rattle.table.specs.Read.{table_of}
use Rattle.table.specs.declared.Row.{Row}
use Rattle.table.proofs.Standing.{place_none}
use Rattle.table.proofs.Stands.{row-there, stands, place-next}
use Rattle.table.proofs.Rows.{Decoded, decoded_none, decoded_on, decoded_all}
use Rattle.table.proofs.decode.rows.Goals as goal
use Rattle.table.proofs.decode.rows.Goals.{After-row_at-row, In-loop-chain}

-- there is a row more
within : (c : In-loop-chain) → c.loop-chain.chain < (table_of c.args.s.now).count
within c = omega (arith, c.count-chain-end.ensures, c.loop-chain-test.true)

-- it is decoded
next : (c : After-row_at-row) → c.row_at-row.result ≡ row_of (table_of c.args.s.now) c.loop-chain.chain
next c = c.row_at-row.ensures ∙ row-there c.requires c.loop-chain.invariant.0 (omega (arith, c.count-chain-end.ensures, c.loop-chain-test.true))

pub loop-chain-init : goal.loop-chain-init
loop-chain-init c = let s = c.args.s.now in
    rw c.empty-t.ensures (place_none (table_of s), decoded_none c.requires.good, refl)

pub row_at-row-requires : goal.row_at-row-requires
row_at-row-requires c = stands c.requires c.loop-chain.invariant.0 (within c)

pub record_length-at-requires : goal.record_length-at-requires
record_length-at-requires c = omega (arith, (stands c.requires c.loop-chain.invariant.0 (within (goal.at.record_length-at-requires c).In-loop-chain)).there)

pub overflow_add-at : goal.overflow_add-at
overflow_add-at c = omega (arith, c.record_length-at.ensures, (stands c.requires c.loop-chain.invariant.0 (within (goal.at.overflow_add-at c).In-loop-chain)).there)

pub overflow_add-t : goal.overflow_add-t
overflow_add-t c = let g = c.requires.good in
    let d = c.loop-chain.invariant.1 in
    omega (arith, d.small, d.few, g.few, ap (λ (r : Row). r.tasks) (next (goal.at.overflow_add-t c).After-row_at-row), (g.row c.loop-chain.chain (within (goal.at.overflow_add-t c).In-loop-chain)).tasks.few)

pub offset_bounds-t-chain : goal.offset_bounds-t-chain
offset_bounds-t-chain c = omega (arith, c.requires.good.few, within (goal.at.offset_bounds-t-chain c).In-loop-chain)

pub bounds-t-chain : goal.bounds-t-chain
bounds-t-chain c = omega (arith, c.requires.good.few, within (goal.at.bounds-t-chain c).In-loop-chain, c.loop-chain.invariant.1.size)

pub overflow_add-t-in-loop-chain : goal.overflow_add-t-in-loop-chain
overflow_add-t-in-loop-chain c = omega (arith, c.requires.good.few, within (goal.at.overflow_add-t-in-loop-chain c).In-loop-chain)

pub loop-chain-smaller : goal.loop-chain-smaller
loop-chain-smaller c = omega (arith, within (goal.at.loop-chain-smaller c).In-loop-chain)

pub loop-chain-preserved : goal.loop-chain-preserved
loop-chain-preserved c = (
  ap (λ n. c.loop-chain.at + n) c.record_length-at.ensures ∙ place-next c.requires c.loop-chain.invariant.0 (within (goal.at.loop-chain-preserved c).In-loop-chain),
  subst (λ n. Decoded (table_of c.args.s.now) (record { count = c.loop-chain.t.count + 1; tasks = c.loop-chain.t.tasks + c.row_at-row.result.tasks; row = set c.loop-chain.t.row n c.row_at-row.result })) c.loop-chain.invariant.2
      (decoded_on c.requires.good c.loop-chain.invariant.1 (rw c.loop-chain.invariant.2 (within (goal.at.loop-chain-preserved c).In-loop-chain)) c.row_at-row.result (next (goal.at.loop-chain-preserved c).After-row_at-row ∙ ap (row_of (table_of c.args.s.now)) (sym c.loop-chain.invariant.2))),
  ap (λ n. n + 1) c.loop-chain.invariant.2,
)

pub returns : goal.returns
returns c = let d = c.loop-chain.invariant.1 in
    decoded_all c.requires.good d (omega (arith, d.few, c.count-chain-end.ensures, c.loop-chain-test.false))
