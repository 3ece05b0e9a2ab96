-- Which records of a damaged table are kept (02, request 8).
use Rattle.std.specs.Prelude.{ℕ, zero, suc, ◌+◌, List, [], ◌∷◌, Bool, ◌&&◌, length, eqb, is_ok}
use Rattle.search.specs.Choice.{◌when◌else◌}
use Rattle.table.specs.Bytes.{word}
use Rattle.table.specs.Record.{form_at, row_at, length_at}
use Rattle.table.specs.Find.{row_of}
use Rattle.table.specs.Fault.{mark_of, is_chain, beside_fault}
use Rattle.table.specs.Read.{empty, plus}
use Rattle.table.specs.declared.Table.{Table}

-- the form that a record at `at` must have beside the rows of t: the first one's, its own where it is the first
unfoldable pub form_beside : List ℕ → ℕ → Table → ℕ
form_beside s at t = form_at s at when eqb t.count 0 else (row_of t 0).form

-- a whole chain record starts at `at` that is acceptable beside the rows of t, by the reader's own judgement: its form, whether it is one
-- too many, its own rules, an id that none of them bears, the tasks in all
unfoldable pub acceptable : List ℕ → ℕ → Table → Bool
acceptable s at t = is_chain (mark_of (word 2 s at)) && is_ok (beside_fault s at (form_beside s at t) t)

-- where the records stand that are kept from `at` on, beside the rows of t, in so many steps: if an acceptable one starts here, it is kept
-- and the walk goes on after it; otherwise it moves on one byte. Beside 16 rows none is acceptable
unfoldable pub kept : ℕ → List ℕ → ℕ → Table → List ℕ
kept zero s at t = []
kept (suc steps) s at t =
    (at ∷ kept steps s (at + length_at s at) (plus t (row_at s at))) when acceptable s at t else
    kept steps s (at + 1) t

-- of all bytes, from the first on; a step takes at least one
abbrev pub kept_places : List ℕ → List ℕ
kept_places s = kept (length s) s 0 empty
