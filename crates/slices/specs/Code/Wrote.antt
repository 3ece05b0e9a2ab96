-- What is left of a buffer into which a piece is written.
use Rattle.std.specs.Prelude.{ℕ, ◌+◌, ◌≤◌, ◌≡◌, List, ◌++◌, length, take, drop}

-- the text stands from `at` on in the buffer that held `before`, and every other byte stays; `next` is the place after it
pub record Wrote (before : List ℕ) (at : ℕ) (text after : List ℕ) (next : ℕ) : Type 0 where
  pub fits : at + length text ≤ length before
  pub holds : after ≡ take at before ++ text ++ drop (at + length text) before
  pub long : length after ≡ length before
  pub ends : next ≡ at + length text
