-- The number of every refusal of a pay file, and answers of which the first refusal counts.
use Rattle.std.specs.Prelude.{ℕ, Bool, cond, Ok, Err, Result}
use Rattle.elmd.specs.declared.refusal.Refusal.{Refusal}
use Rattle.elmd.specs.Refusals.{number}
use Rattle.payfile.specs.declared.refusal.FileFault.{FileFault}
use Rattle.payfile.specs.declared.refusal.FileFault.TheVariants.{PracticeLabel, Shed, Week, FileShort, Version, MarkByte, HeadingTooLong, Lengths}
use Rattle.payfile.specs.declared.refusal.FileRefusal.{FileRefusal}
use Rattle.payfile.specs.declared.refusal.FileRefusal.TheVariants.{File, Seal}

abbrev pub fault_number : FileFault → ℕ
fault_number PracticeLabel = 41
fault_number Shed = 42
fault_number Week = 43
fault_number FileShort = 51
fault_number Version = 52
fault_number MarkByte = 53
fault_number HeadingTooLong = 54
fault_number Lengths = 55

abbrev pub file_number : FileRefusal → ℕ
file_number (File e) = fault_number e
file_number (Seal e) = number e

-- a fault of the file that comes before what follows
abbrev pub faulty : {A : Type 0} → Bool → FileFault → Result A FileRefusal → Result A FileRefusal
faulty b e rest = cond b (Err (File e)) rest

-- an answer of the seal, as one of the file
abbrev pub of_seal : {A : Type 0} → Result A Refusal → Result A FileRefusal
of_seal (Ok x) = Ok x
of_seal (Err e) = Err (Seal e)

-- one answer after another: the first refusal is the answer
abbrev pub after : {A B : Type 0} → Result A FileRefusal → Result B FileRefusal → Result B FileRefusal
after (Ok x) rest = rest
after (Err e) rest = Err e

-- an answer without its value
abbrev pub told : {A : Type 0} → Result A FileRefusal → Result Unit FileRefusal
told (Ok x) = Ok tt
told (Err e) = Err e
