-- A refusal comes before the first write; where there is none, the array begins with the result.
use Prim.Native.Nat.{ℕ, ◌+◌, ◌-◌, ◌<◌, ◌≤◌}
use mathlib.Core.Path.{◌≡◌, ap, sym, ◌∙◌}
use mathlib.Core.List.{List}
use lib.ListN.{length, take}
use lib.Seq.{length-take-le}
use native.Mathlib.Omega.{arith}
use Rattle.table.specs.Bytes.{Bytes}
use Rattle.table.specs.Read.{table_of}
use Rattle.table.proofs.Firsts.{handed_on}
use Rattle.saving.specs.Save.{seen_of, result_of, save_fault}
use Rattle.slices.specs.Code.Begins.{Begins}
use Rattle.slices.proofs.Splices.{begins-length}
use Rattle.saving.proofs.Verdicts.{read-accepted, read-within}
use Rattle.saving.proofs.Seen.{seen_le, seen-inside, result-length}
use Rattle.saving.proofs.Faults.{NoFault, passed, save-beyond, save-within, refuses, accepts}
use Rattle.slices.proofs.Bytes.{bytes_take}
use Rattle.saving.proofs.save.Goals as goal
use Rattle.saving.proofs.save.Goals.{After-judged, In_ok-judged}

-- the judgement is the save's
faulty : (c : After-judged) → c.judged.result ≡ (save_fault c.args.buffer.now c.args.used c.args.old.now c.args.new.now)
faulty c = let a = c.args in
    c.judged.ensures.faulty ∙ sym (save-within a.buffer.now a.used a.old.now a.new.now c.if-room-used.false)

abbrev s : (c : In_ok-judged) → List ℕ
s c = take c.args.used c.args.buffer.now

abbrev old : (c : In_ok-judged) → List ℕ
old c = c.args.old.now

abbrev new : (c : In_ok-judged) → List ℕ
new c = c.args.new.now

abbrev result : (c : In_ok-judged) → List ℕ
result c = result_of (s c) (old c) (new c)

passes : (c : In_ok-judged) → NoFault (length c.args.buffer.now) (s c) (old c) (new c)
passes c = passed _ _ _ _ (sym c.judged.ensures.faulty ∙ c.in_ok-judged.was)

found : (c : In_ok-judged) → seen_of (s c) (old c) < (table_of (s c)).count
found c = omega (arith, seen_le (s c) (old c), (passes c).seen)

bytes : (c : In_ok-judged) → Bytes (s c)
bytes c = bytes_take c.args.used c.args.buffer.now (λ i. omega (arith, c.slice_known-1.given i))

used-length : (c : In_ok-judged) → length (s c) ≡ c.args.used
used-length c = length-take-le c.args.used c.args.buffer.now c.if-room-used.false

old-inside : (c : In_ok-judged) → length (old c) ≤ c.args.used
old-inside c = omega (arith, used-length c, seen-inside (s c) (old c) (read-accepted (s c) (passes c).table) (bytes c) (found c))

abbrev n : (c : In_ok-judged) → ℕ
n c = c.args.used - length (old c) + length (new c)

result-long : (c : In_ok-judged) → length (result c) ≡ n c
result-long c = result-length (s c) (old c) (read-accepted (s c) (passes c).table) (bytes c) (found c) (new c) ∙ ap (λ (m : ℕ). m - length (old c) + length (new c)) (used-length c)

-- the array begins with the result, its first n bytes
begins : (c : In_ok-judged) → Begins c.judged.new.out (result c)
begins c = c.judged.ensures.begins c.in_ok-judged.was

first : (c : In_ok-judged) → take (n c) c.judged.new.out ≡ result c
first c = ap (λ (m : ℕ). take m c.judged.new.out) (sym (result-long c)) ∙ (begins c).first

pub returns-then-room-used : goal.returns-then-room-used
returns-then-room-used c = let a = c.args in
    refuses a.buffer.now a.used a.old.now a.new.now (save-beyond a.buffer.now a.used a.old.now a.new.now c.if-room-used.true)

pub slice_bounds-judged-end-2 : goal.slice_bounds-judged-end-2
slice_bounds-judged-end-2 c = sym (length-take-le c.args.used c.args.buffer.now c.if-room-used.false)

pub overflow_sub-n : goal.overflow_sub-n
overflow_sub-n c = old-inside c

pub slice_bounds-bytes-end : goal.slice_bounds-bytes-end
slice_bounds-bytes-end c = omega (arith, result-long (goal.at.slice_bounds-bytes-end c).In_ok-judged, begins-length c.judged.new.out (result (goal.at.slice_bounds-bytes-end c).In_ok-judged) (begins (goal.at.slice_bounds-bytes-end c).In_ok-judged))

pub slice_bounds-store-end : goal.slice_bounds-store-end
slice_bounds-store-end c = sym (result-long (goal.at.slice_bounds-store-end c).In_ok-judged) ∙ ap length (sym (first (goal.at.slice_bounds-store-end c).In_ok-judged))

pub store-requires : goal.store-requires
store-requires c = (c.if-room-used.false, rw (first (goal.at.store-requires c).In_ok-judged) (passes (goal.at.store-requires c).In_ok-judged).fits)

pub overflow_cast-result : goal.overflow_cast-result
overflow_cast-result c = omega (arith, result-long (goal.at.overflow_cast-result c).In_ok-judged, read-within (result (goal.at.overflow_cast-result c).In_ok-judged) (passes (goal.at.overflow_cast-result c).In_ok-judged).result)

pub returns-in_err-judged : goal.returns-in_err-judged
returns-in_err-judged c = let a = c.args in
    rw (handed_on _ c.from_residual.ensures.1) (refuses a.buffer.now a.used a.old.now a.new.now (sym (faulty (goal.at.returns-in_err-judged c).After-judged) ∙ c.in_err-judged.was))

pub returns : goal.returns
returns c = let a = c.args in
    let at = goal.at.returns c in
    rw (← result-long at.In_ok-judged, c.store.ensures, first at.In_ok-judged) (accepts a.buffer.now a.used a.old.now a.new.now (sym (faulty at.After-judged) ∙ c.in_ok-judged.was))
