-- `split` meets its contract: quotient and remainder by 1 are the number itself and 0.
use Prim.Native.Nat.{◌/◌, ◌%◌}
use mathlib.Core.Path.{ap, sym, ◌∙◌}
use native.Mathlib.Nat.{div-one, mod-one}
use Rattle.arrivals.proofs.repetition.split.Goals as goal

pub returns-then-listed-eq1 : goal.returns-then-listed-eq1
returns-then-listed-eq1 c = let n = c.args.n in
    (sym (ap (λ l. n / l) c.if-listed-eq1.true ∙ div-one n), sym (ap (λ l. n % l) c.if-listed-eq1.true ∙ mod-one n))
