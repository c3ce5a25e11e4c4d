-- The number of every refusal, and of the two marks.
use Rattle.std.specs.Prelude.{◌≡◌, ℕ, ◌<◌, ◌≤◌, Bool, cond, Ok, Err, Result, MatchResult, ◌==◌}
use Rattle.elmd.specs.declared.refusal.Refusal.{Refusal}
use Rattle.elmd.specs.declared.refusal.Refusal.TheVariants.{OtherLabel, Interval, CheckLength, TagLength, SpareByte, HeadingLength, MessageLength, PieceTooLong, OutputShort, BytesMissing, NoChecks, StreamLength, Over, Spoiled, StreamComplete, RoomShort, BadCheck, StreamMissing, BadTag}
use Rattle.elmd.specs.declared.refusal.Mark.{Mark}
use Rattle.elmd.specs.declared.refusal.Mark.TheVariants.{Filled, Whole}
use Rattle.elmd.specs.declared.refusal.UnknownMark.{UnknownMark}

abbrev pub number : Refusal → ℕ
number OtherLabel = 11
number Interval = 12
number CheckLength = 13
number TagLength = 14
number SpareByte = 15
number HeadingLength = 21
number MessageLength = 22
number PieceTooLong = 23
number OutputShort = 24
number BytesMissing = 25
number NoChecks = 31
number StreamLength = 32
number Over = 34
number Spoiled = 35
number StreamComplete = 36
number RoomShort = 37
number (BadCheck j) = 38
number StreamMissing = 39
number BadTag = 40

abbrev pub mark_number : Mark → ℕ
mark_number Filled = 0
mark_number Whole = 1

abbrev pub mark_of : ℕ → Mark
mark_of k = cond (k == 1) Whole Filled

-- what a byte is read as: the mark of that number, or an error where no mark has it
abbrev pub Decodes : ℕ → Result Mark UnknownMark → Type 0
Decodes n r = MatchResult r (λ mark. (n ≤ 1) × (mark ≡ mark_of n)) (λ e. (e.0 ≡ n) × (1 < n))

-- a cause that comes before what follows
abbrev pub refuse : {A : Type 0} → Bool → Refusal → Result A Refusal → Result A Refusal
refuse b e rest = cond b (Err e) rest

-- an answer without its value
abbrev pub told : {A : Type 0} → Result A Refusal → Result Unit Refusal
told (Ok x) = Ok tt
told (Err e) = Err e

-- one answer after another: the first refusal is the answer
abbrev pub next : {A B : Type 0} → Result A Refusal → Result B Refusal → Result B Refusal
next (Ok x) rest = rest
next (Err e) rest = Err e
