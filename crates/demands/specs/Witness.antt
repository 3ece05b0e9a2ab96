-- A table beside the sample that meets demand 3's hypothesis, so that it is not empty: the sample with its rows in another order, and
-- with chain 3 named 7, deadline 600 and gap 2,000, its first task 8/6 split into 8/3 and 8/3.
use Rattle.std.specs.Prelude.{ℕ, List, [], ◌∷◌}

unfoldable pub altered : List ℕ
altered =
    67 ∷ 72 ∷ 4 ∷ 0 ∷ 0 ∷ 1 ∷ 44 ∷ 1 ∷ 0 ∷ 0 ∷ 0 ∷ 0 ∷ 0 ∷ 0 ∷ 1 ∷ 1 ∷ 232 ∷ 3 ∷ 0 ∷ 0 ∷
    84 ∷ 75 ∷ 6 ∷ 0 ∷ 12 ∷ 0 ∷ 0 ∷ 0 ∷
    67 ∷ 72 ∷ 7 ∷ 0 ∷ 1 ∷ 1 ∷ 88 ∷ 2 ∷ 0 ∷ 0 ∷ 208 ∷ 7 ∷ 0 ∷ 0 ∷ 1 ∷ 4 ∷ 232 ∷ 3 ∷ 0 ∷ 0 ∷
    84 ∷ 75 ∷ 8 ∷ 0 ∷ 3 ∷ 0 ∷ 0 ∷ 0 ∷
    84 ∷ 75 ∷ 8 ∷ 0 ∷ 3 ∷ 0 ∷ 0 ∷ 0 ∷
    84 ∷ 75 ∷ 1 ∷ 0 ∷ 4 ∷ 0 ∷ 0 ∷ 0 ∷
    84 ∷ 75 ∷ 7 ∷ 0 ∷ 10 ∷ 0 ∷ 0 ∷ 0 ∷
    67 ∷ 72 ∷ 1 ∷ 0 ∷ 0 ∷ 0 ∷ 40 ∷ 0 ∷ 0 ∷ 0 ∷ 100 ∷ 0 ∷ 0 ∷ 0 ∷ 1 ∷ 2 ∷ 100 ∷ 0 ∷ 0 ∷ 0 ∷
    84 ∷ 75 ∷ 5 ∷ 0 ∷ 10 ∷ 0 ∷ 0 ∷ 0 ∷
    84 ∷ 75 ∷ 3 ∷ 0 ∷ 10 ∷ 0 ∷ 0 ∷ 0 ∷
    67 ∷ 72 ∷ 2 ∷ 0 ∷ 0 ∷ 0 ∷ 100 ∷ 0 ∷ 0 ∷ 0 ∷ 50 ∷ 0 ∷ 0 ∷ 0 ∷ 1 ∷ 1 ∷ 50 ∷ 0 ∷ 0 ∷ 0 ∷
    84 ∷ 75 ∷ 9 ∷ 0 ∷ 5 ∷ 0 ∷ 0 ∷ 0 ∷
    69 ∷ 78 ∷ 4 ∷ 0 ∷ []
