-- Laws of the rule by which a state is taken. Assumes nothing.
use Prim.Native.Nat.{ℕ}
use mathlib.Core.Path.{◌≡◌, refl, ◌∙◌}
use mathlib.Core.List.{List}
use mathlib.Core.Bool.{Bool, true, false}
use Rattle.search.specs.Choice.{◌when◌else◌}
use Rattle.search.proofs.Choice.{when_yes, when_no}
use Rattle.slices.specs.Slices.{same}
use Rattle.merging.specs.Rule.{by_states}

module _ {A : Type 0} (was first second : List ℕ) (firsts seconds neither : A) where
  -- both copies alike
  pub by_alike : same first second ≡ true → by_states was first second firsts seconds neither ≡ firsts
  unfolding by_states
  by_alike e = when_yes _ _ e

  module _ (differ : same first second ≡ false) where
    -- only the second has changed
    pub by-second : same first was ≡ true → by_states was first second firsts seconds neither ≡ seconds
    unfolding by_states
    by-second e = when_no _ _ differ ∙ when_yes _ _ e

    module _ (changed : same first was ≡ false) where
      -- only the first has
      pub by_first : same second was ≡ true → by_states was first second firsts seconds neither ≡ firsts
      unfolding by_states
      by_first e = when_no _ _ differ ∙ when_no _ _ changed ∙ when_yes _ _ e

      -- both have
      pub by_neither : same second was ≡ false → by_states was first second firsts seconds neither ≡ neither
      unfolding by_states
      by_neither e = when_no _ _ differ ∙ when_no _ _ changed ∙ when_no _ _ e

-- the rule over what is made of each
pub by-given : {A B : Type 0} (f : A → B) (was first second : List ℕ) (firsts seconds neither : A)
    → f (by_states was first second firsts seconds neither) ≡ by_states was first second (f firsts) (f seconds) (f neither)
unfolding by_states ◌when◌else◌
by-given f was first second firsts seconds neither = by (same first second) (same first was) (same second was)
  where
    by : (a b c : Bool) → f (firsts when a else seconds when b else firsts when c else neither) ≡ (f firsts when a else f seconds when b else f firsts when c else f neither)
    by true b c = refl
    by false true c = refl
    by false false true = refl
    by false false false = refl
