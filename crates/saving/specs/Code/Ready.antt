-- What the code hands from its judgement to its writing: a judgement, and an array that begins with the result.
use Rattle.std.specs.Prelude.{ℕ, ◌≡◌, List, Ok}
use Rattle.slices.specs.Code.Begins.{Begins}
use Rattle.saving.specs.Save.{Judgement}

-- r is the judgement, and where there is no fault `out` begins with the result
pub record Ready (fault : Judgement) (result out : List ℕ) (r : Judgement) : Type 0 where
  pub faulty : r ≡ fault
  pub begins : r ≡ Ok tt → Begins out result
