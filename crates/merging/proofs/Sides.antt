-- What is taken by whose state is taken. Assumes nothing.
use Prim.Native.Nat.{ℕ}
use mathlib.Core.Path.{◌≡◌, ap, ap₂, ◌∙◌}
use mathlib.Core.List.{List}
use Rattle.merging.specs.Rule.{by_states}
use Rattle.merging.specs.declared.states.Side.{Side}
use Rattle.merging.specs.declared.states.Side.TheVariants.{First, Second, Neither}
use Rattle.merging.proofs.Rules.{by-given}

module _ {A : Type 0} (firsts seconds neither : A) where
  -- what is made of a side
  abbrev pub of_side : Side → A
  of_side First = firsts
  of_side Second = seconds
  of_side Neither = neither

  -- is by the rule, where the side was told from the states
  pub by_side : (was : List ℕ) {first second in_first in_second : List ℕ} {side : Side} → in_first ≡ first → in_second ≡ second
      → side ≡ by_states was in_first in_second First Second Neither → of_side side ≡ by_states was first second firsts seconds neither
  by_side was {first} {second} a b told =
      ap of_side (told ∙ ap₂ (λ x y. by_states was x y First Second Neither) a b) ∙ by-given of_side was first second First Second Neither
