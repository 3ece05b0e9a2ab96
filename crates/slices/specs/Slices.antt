-- Bytes compared, and some of them in the place of others.
use Rattle.std.specs.Prelude.{ℕ, ◌+◌, List, [], ◌∷◌, ◌++◌, Bool, true, false, ◌&&◌, take, drop, eqb}

-- the two have the same bytes
unfoldable pub same : List ℕ → List ℕ → Bool
same [] [] = true
same [] (b ∷ t) = false
same (a ∷ s) [] = false
same (a ∷ s) (b ∷ t) = eqb a b && same s t

-- the n bytes from `at` on give way to the new ones, and the rest follows in order
abbrev pub splice : List ℕ → ℕ → ℕ → List ℕ → List ℕ
splice s at n new = take at s ++ new ++ drop (at + n) s
