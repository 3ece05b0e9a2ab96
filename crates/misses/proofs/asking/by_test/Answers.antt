-- Each way of testing costs, by its name.
use mathlib.Core.Path.{◌≡◌, refl, subst}
use Rattle.table.specs.Read.{table_of}
use Rattle.misses.specs.Bad.{by_windows}
use Rattle.misses.specs.Code.Held.{missed_at}
use Rattle.misses.specs.Code.Packings.{test_of, Leaves}
use Rattle.misses.specs.declared.How.{How}
use Rattle.misses.specs.declared.How.TheVariants.{Lowest, Each, Sieve}
use Rattle.misses.proofs.asking.by_test.Goals as goal

-- but for the sieve it is by windows
by_name : (how : How) → (how ≡ Sieve → ⊥) → by_windows ≡ test_of how
by_name Lowest h = refl
by_name Each h = refl
by_name Sieve h = absurd (h refl)

pub returns-in-Sieve : goal.returns-in-Sieve
returns-in-Sieve c = rw c.in-Sieve.is c.by_sieve.ensures

pub returns-in_default : goal.returns-in_default
returns-in_default c = let a = c.args in
    subst (λ test. Leaves a.k (missed_at test (table_of a.s.now) a.chain a.k a.w) c.by_windows.result) (by_name a.how c.in_default.not-Sieve) c.by_windows.ensures
