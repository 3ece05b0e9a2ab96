-- Why something is refused, by the documents' numbers (01 and 02, 'Numbers given back'), and a table's verdict.
use Rattle.std.specs.Prelude.{ℕ, List, [], ◌∷◌, ⊤}
use Rattle.std.specs.declared.result.Result.{Result}
use Rattle.std.specs.declared.result.Result.TheVariants.{Ok, Err}
use Rattle.table.specs.declared.Part.{Part}
use Rattle.table.specs.declared.refusal.Fault.{Fault}
use Rattle.table.specs.declared.refusal.Refusal.{Refusal}
use Rattle.table.specs.declared.refusal.Refusal.TheVariants.{BadLength, BytesMissing, BadMark, BadId, BadKind, BadDeadline, BadGap, BadTaskCount, BadTask, BadChainCount, NoChain, BadRun, OverloadAsked, GapUnknown, PastHorizon, StillOpen, TooManySegments, StartsAgain, CapacityAbove, StaleRecord, BadRecord, BufferShort, SameChain, NoSuchSegment, AnswerShort, BadListLength, BadDistance, LastIsZero, GapTooSmall, Conflicting, BadLargest, NoSuchForm, InputTooLong, NothingKept}

-- the number that the documents give each
abbrev pub numbered : Refusal → ℕ
numbered BadLength = 1
numbered BytesMissing = 2
numbered BadMark = 3
numbered BadId = 4
numbered BadKind = 5
numbered BadDeadline = 6
numbered BadGap = 7
numbered BadTaskCount = 9
numbered BadTask = 10
numbered BadChainCount = 11
numbered NoChain = 12
numbered BadRun = 13
numbered OverloadAsked = 14
numbered GapUnknown = 15
numbered PastHorizon = 16
numbered StillOpen = 17
numbered TooManySegments = 18
numbered StartsAgain = 19
numbered CapacityAbove = 21
numbered StaleRecord = 22
numbered BadRecord = 23
numbered BufferShort = 24
numbered SameChain = 25
numbered NoSuchSegment = 26
numbered AnswerShort = 27
numbered BadListLength = 28
numbered BadDistance = 29
numbered LastIsZero = 30
numbered GapTooSmall = 31
numbered Conflicting = 32
numbered BadLargest = 33
numbered NoSuchForm = 34
numbered InputTooLong = 35
numbered NothingKept = 36

-- accepted, or the first fault
abbrev pub Verdict : Type 0
Verdict = Result ⊤ Fault

-- an answer, unless something was refused
abbrev pub answering : {A E : Type 0} → Result ⊤ E → A → Result A E
answering (Ok u) a = Ok a
answering (Err e) a = Err e

-- the values of a part of a table, offset and length, or none
abbrev pub part_values : Result Part Refusal → List ℕ
part_values (Ok part) = part.offset ∷ part.length ∷ []
part_values (Err n) = []

-- the value of an answer of one, or none
abbrev pub one_value : Result ℕ Refusal → List ℕ
one_value (Ok n) = n ∷ []
one_value (Err r) = []

-- the number of an answer, 0 where there is one
abbrev pub number_of : {A : Type 0} → Result A Refusal → ℕ
number_of (Ok a) = 0
number_of (Err r) = numbered r
