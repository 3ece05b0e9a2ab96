-- The plain search that finds `mostUses`. Nobody has to believe it: the law `most-greatest` says what `mostUses` is.
use Rattle.std.specs.Prelude.{ℕ, zero, suc, ◌-◌, Bool, true, false, ◌&&◌, ◌||◌, ltb, eqb}
use Rattle.search.specs.Choice.{◌when◌else◌}
use Rattle.search.specs.Find.{first}
use Rattle.table.specs.Limits.{max_overloads}
use Rattle.packing.specs.Packing.{bit, usable}

-- the active segment i is in m and has no room
abbrev pub lacks : ℕ → (ℕ → ℕ) → ℕ → Bool
lacks m room i = ltb (room i) (bit i m)

-- each active segment of m has room
abbrev pub fits : ℕ → (ℕ → ℕ) → Bool
fits m room = eqb (first (lacks m room) 0 max_overloads) max_overloads

-- the room that one use of m leaves
abbrev pub less : ℕ → (ℕ → ℕ) → ℕ → ℕ
less m room i = room i - bit i m

-- n uses of bad combinations below `masks` have room: one of the last of these and n - 1 more, or n without it
unfoldable pub reach : (ℕ → Bool) → ℕ → ℕ → (ℕ → ℕ) → Bool
reach bad masks zero room = true
reach bad zero (suc n) room = false
reach bad (suc m) (suc n) room =
    let without = reach bad m (suc n) room in
    let once = reach bad (suc m) n (less m room) || without in
    once when usable bad m && fits m room else without
