-- No two refusals have the same number. Assumes nothing.
use Prim.Native.Nat.{ℕ}
use mathlib.Core.Path.{◌≡◌, refl, sym, ap, ◌∙◌}
use lib.Dec.{eqb}
use Rattle.search.specs.Choice.{◌when◌else◌}
use Rattle.table.specs.Refusal.{numbered}
use Rattle.table.specs.declared.refusal.Refusal.{Refusal}
use Rattle.table.specs.declared.refusal.Refusal.TheVariants.{BadLength, BytesMissing, BadMark, BadId, BadKind, BadDeadline, BadGap, BadTaskCount, BadTask, BadChainCount, NoChain, BadRun, OverloadAsked, GapUnknown, PastHorizon, StillOpen, TooManySegments, StartsAgain, CapacityAbove, StaleRecord, BadRecord, BufferShort, SameChain, NoSuchSegment, AnswerShort, BadListLength, BadDistance, LastIsZero, GapTooSmall, Conflicting, BadLargest, NoSuchForm, InputTooLong, NothingKept}

-- the refusal of a number
told : ℕ → Refusal
told n =
    BadLength when eqb n 1 else
    BytesMissing when eqb n 2 else
    BadMark when eqb n 3 else
    BadId when eqb n 4 else
    BadKind when eqb n 5 else
    BadDeadline when eqb n 6 else
    BadGap when eqb n 7 else
    BadTaskCount when eqb n 9 else
    BadTask when eqb n 10 else
    BadChainCount when eqb n 11 else
    NoChain when eqb n 12 else
    BadRun when eqb n 13 else
    OverloadAsked when eqb n 14 else
    GapUnknown when eqb n 15 else
    PastHorizon when eqb n 16 else
    StillOpen when eqb n 17 else
    TooManySegments when eqb n 18 else
    StartsAgain when eqb n 19 else
    CapacityAbove when eqb n 21 else
    StaleRecord when eqb n 22 else
    BadRecord when eqb n 23 else
    BufferShort when eqb n 24 else
    SameChain when eqb n 25 else
    NoSuchSegment when eqb n 26 else
    AnswerShort when eqb n 27 else
    BadListLength when eqb n 28 else
    BadDistance when eqb n 29 else
    LastIsZero when eqb n 30 else
    GapTooSmall when eqb n 31 else
    Conflicting when eqb n 32 else
    BadLargest when eqb n 33 else
    NoSuchForm when eqb n 34 else
    InputTooLong when eqb n 35 else
    NothingKept

back : (r : Refusal) → told (numbered r) ≡ r
unfolding told ◌when◌else◌
back BadLength = refl
back BytesMissing = refl
back BadMark = refl
back BadId = refl
back BadKind = refl
back BadDeadline = refl
back BadGap = refl
back BadTaskCount = refl
back BadTask = refl
back BadChainCount = refl
back NoChain = refl
back BadRun = refl
back OverloadAsked = refl
back GapUnknown = refl
back PastHorizon = refl
back StillOpen = refl
back TooManySegments = refl
back StartsAgain = refl
back CapacityAbove = refl
back StaleRecord = refl
back BadRecord = refl
back BufferShort = refl
back SameChain = refl
back NoSuchSegment = refl
back AnswerShort = refl
back BadListLength = refl
back BadDistance = refl
back LastIsZero = refl
back GapTooSmall = refl
back Conflicting = refl
back BadLargest = refl
back NoSuchForm = refl
back InputTooLong = refl
back NothingKept = refl

pub numbered_same : (r q : Refusal) → numbered r ≡ numbered q → r ≡ q
numbered_same r q e = sym (back r) ∙ ap told e ∙ back q
