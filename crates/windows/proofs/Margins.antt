-- A margin fits 32 bits with its sign, and is no smaller with a deadline no earlier and a latency no greater. Assumes nothing.
use Prim.Native.Nat.{ℕ, zero, suc, zero-le, ◌-◌, ◌≤◌}
use mathlib.Core.Path.{◌≡◌, refl, ap}
use mathlib.Core.Bool.{Bool, true, false, cond}
use lib.Dec.{T, ltb, le→leb}
use lib.IntN.{pos, negsuc}
use lib.Signed.{le_z, ◌≤ℤ◌, le_z_yes}
use borrow.Author.Tests.{ltb-true, ltb-false, le-ltb}
use mir.Val.{SFits}
use mir.Syntax.{w32}
use native.Mathlib.Omega.{arith}
use Rattle.table.specs.Limits.{horizon, max_deadline}
use Rattle.windows.specs.Latency.{margin_of}

pub margin-fits : (deadline latency : ℕ) → deadline ≤ max_deadline → latency ≤ horizon → SFits w32 (margin_of deadline latency)
margin-fits deadline zero h k = record { sfits = omega arith }
margin-fits deadline (suc latency) h k = go (ltb deadline (suc latency))
  where
    go : (t : Bool) → SFits w32 (cond t (negsuc (suc latency - suc deadline)) (pos (deadline - suc latency)))
    go true = record { sfits = omega arith }
    go false = record { sfits = omega arith }

margin-is : (deadline latency : ℕ) → margin_of deadline latency ≡ cond (ltb deadline latency) (negsuc (latency - suc deadline)) (pos (deadline - latency))
margin-is deadline zero = rw (le-ltb deadline 0 zero-le) (ap pos (omega arith))
margin-is deadline (suc latency) = refl

pub margin-rises : (deadline earlier latency longer : ℕ) → earlier ≤ deadline → latency ≤ longer → margin_of earlier longer ≤ℤ margin_of deadline latency
margin-rises deadline earlier latency longer h l =
    le_z_yes (rw (margin-is earlier longer, margin-is deadline latency) (go (ltb earlier longer) refl (ltb deadline latency) refl))
  where
    go : (t : Bool) → ltb earlier longer ≡ t → (u : Bool) → ltb deadline latency ≡ u
        → T (le_z (cond t (negsuc (longer - suc earlier)) (pos (earlier - longer))) (cond u (negsuc (latency - suc deadline)) (pos (deadline - latency))))
    go true e true f = le→leb (latency - suc deadline) (longer - suc earlier) (omega arith)
    go true e false f = tt
    go false e true f = absurd (omega (arith, ltb-false earlier longer e, ltb-true deadline latency f))
    go false e false f = le→leb (earlier - longer) (deadline - latency) (omega arith)
