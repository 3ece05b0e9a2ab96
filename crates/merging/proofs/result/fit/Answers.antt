-- The result is measured, and built only where no id is in conflict, it has room and is no longer than a table can be.
use Prim.Native.Nat.{ℕ, ◌+◌}
use mathlib.Core.Path.{◌≡◌, ap, sym, ◌∙◌}
use mathlib.Core.List.{List}
use lib.ListN.{length, take, length-map}
use native.Mathlib.Omega.{arith}
use Rattle.search.proofs.Keeping.{keep-length}
use Rattle.table.specs.Read.{read_table}
use Rattle.std.specs.Prelude.{Ok}
use Rattle.table.proofs.Firsts.{handed_on}
use Rattle.slices.proofs.Splices.{splice-first}
use Rattle.slices.specs.Slices.{splice}
use Rattle.slices.specs.Code.Begins.{Begins}
use Rattle.merging.specs.Versions.{Versions}
use Rattle.merging.specs.Rule.{taken_of}
use Rattle.merging.specs.Merge.{versions, is_record}
use Rattle.merging.specs.declared.Unmerged.TheVariants.{Merged}
use Rattle.merging.specs.declared.result.Size.{Size}
use Rattle.merging.specs.Code.Size.{states_of, least_of, result_from}
use Rattle.merging.proofs.Results.{result-length, states-short, fits-conflict, fits_not, fits-long, fits_refused, fits-accepted}
use Rattle.merging.proofs.Judgements.{mapped-ok, mapped-err}
use Rattle.merging.proofs.result.fit.Goals as goal
use Rattle.merging.proofs.result.fit.Goals.{After-build, After-size_of-size, Start}

-- as it was measured: the smallest id in conflict, and how long the result is
conflict : (c : After-size_of-size) → least_of (versions c.args.ancestor c.args.first c.args.second) c.args.ids.now ≡ c.size_of-size.result.conflict
conflict c = sym (ap (λ (x : Size). x.conflict) c.size_of-size.ensures)

long : (c : After-size_of-size) → length (result_from (states_of (versions c.args.ancestor c.args.first c.args.second) c.args.ids.now)) ≡ c.size_of-size.result.bytes + 4
long c = result-length (states_of (versions c.args.ancestor c.args.first c.args.second) c.args.ids.now) ∙ ap (λ (x : Size). x.bytes + 4) (sym c.size_of-size.ensures)

-- the three tables
abbrev of : (c : Start) → Versions
of c = versions c.args.ancestor c.args.first c.args.second

abbrev bytes : (c : After-build) → ℕ
bytes c = c.size_of-size.result.bytes

abbrev array : (c : After-build) → List ℕ
array c = c.build.new.out

abbrev whole : (c : After-build) → List ℕ
whole c = result_from (states_of (versions c.args.ancestor c.args.first c.args.second) c.args.ids.now)

whole_length : (c : After-build) → length (whole c) ≡ bytes c + 4
whole_length c = result-length (states_of (versions c.args.ancestor c.args.first c.args.second) c.args.ids.now) ∙ ap (λ (x : Size). x.bytes + 4) (sym c.size_of-size.ensures)

built : (c : After-build) → take (bytes c + 4) (array c) ≡ whole c
built c = let z = c.size_of-size in
    let begins : Begins (array c) (whole c) = rw (← ap (λ (x : Size). x.records) z.ensures) c.build.ensures in
    ap (λ n. take n (array c)) (sym (whole_length c)) ∙ begins.first

length-take-n : (c : After-build) → length (take (bytes c + 4) (array c)) ≡ bytes c + 4
length-take-n c = ap length (built c) ∙ whole_length c

pub returns-then-size-ne0 : goal.returns-then-size-ne0
returns-then-size-ne0 c =
    let here = goal.at.returns-then-size-ne0 c in
    fits-conflict (of here.Start) c.args.ids.now c.args.out.now c.size_of-size.result.conflict (conflict here.After-size_of-size) c.if-size-ne0.true

pub overflow_add-n : goal.overflow_add-n
overflow_add-n c = omega (arith, ap (λ (x : Size). x.bytes) c.size_of-size.ensures, states-short c.requires.0 c.args.ids.now, c.requires.1)

pub returns-then-out-n : goal.returns-then-out-n
returns-then-out-n c =
    let here = goal.at.returns-then-out-n c in
    let none = conflict here.After-size_of-size ∙ c.if-size-ne0.false in
    fits_not (of here.Start) c.args.ids.now c.args.out.now none (omega (arith, long here.After-size_of-size, c.if-out-n.true))

pub returns-then-n-gt-BYTES : goal.returns-then-n-gt-BYTES
returns-then-n-gt-BYTES c =
    let here = goal.at.returns-then-n-gt-BYTES c in
    let none = conflict here.After-size_of-size ∙ c.if-size-ne0.false in
    let size = long here.After-size_of-size in
    fits-long (of here.Start) c.args.ids.now c.args.out.now none (omega (arith, size, c.if-out-n.false)) (omega (arith, size, c.if-n-gt-BYTES.true))

pub build-requires : goal.build-requires
build-requires c = let v = of (goal.at.build-requires c).Start in
    let states = states_of v c.args.ids.now in
    let size = c.size_of-size.ensures in (
      c.requires.0,
      omega (arith, ap (λ (x : Size). x.bytes) size, c.if-n-gt-BYTES.false),
      omega (arith, ap (λ (x : Size). x.records) size, keep-length is_record states, length-map c.args.ids.now (taken_of v), c.requires.1),
    )

pub slice_bounds-judge-end : goal.slice_bounds-judge-end
slice_bounds-judge-end c = sym (length-take-n (goal.at.slice_bounds-judge-end c).After-build)

pub slice_bounds-put-end : goal.slice_bounds-put-end
slice_bounds-put-end c = sym (length-take-n (goal.at.slice_bounds-put-end c).After-build)

pub put-requires : goal.put-requires
put-requires c = omega (arith, length-take-n (goal.at.put-requires c).After-build, c.if-out-n.false)

pub returns-in_err-map_err : goal.returns-in_err-map_err
returns-in_err-map_err c =
    let here = goal.at.returns-in_err-map_err c in
    let made = here.After-build in
    let p = mapped-err Merged _ _ c.map_err.ensures.cases c.in_err-map_err.was in
    let is = ap (λ (l : List ℕ). (read_table l).verdict) (sym (built made)) ∙ sym c.judge.ensures ∙ p.1 in
    let none = conflict here.After-size_of-size ∙ c.if-size-ne0.false in
    rw (handed_on _ c.from_residual.ensures.1, p.2) (fits_refused (of here.Start) c.args.ids.now c.args.out.now none (omega (arith, whole_length made, c.if-out-n.false)) is)

pub returns : goal.returns
returns c =
    let here = goal.at.returns c in
    let made = here.After-build in
    let o = mapped-ok Merged _ _ c.map_err.ensures.cases c.in_ok-map_err.was in
    let is : (read_table (whole made)).verdict ≡ Ok tt = ap (λ (l : List ℕ). (read_table l).verdict) (sym (built made)) ∙ sym c.judge.ensures ∙ o in
    let left = c.put.ensures ∙ ap (λ (l : List ℕ). splice c.args.out.now 0 (length l) l) (built made) ∙ splice-first c.args.out.now (whole made) in
    let none = conflict here.After-size_of-size ∙ c.if-size-ne0.false in
    rw (← whole_length made, left) (fits-accepted (of here.Start) c.args.ids.now c.args.out.now none (omega (arith, whole_length made, c.if-out-n.false)) is)
