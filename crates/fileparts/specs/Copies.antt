-- A file copied part by part.
use Rattle.std.specs.Prelude.{◌≡◌, ℕ, ◌<◌, ◌≤◌, List, ◌++◌, length, drop, Ok, Err, Result}
use Rattle.elmd.specs.declared.refusal.Refusal.TheVariants as why
use Rattle.payfile.specs.declared.refusal.FileRefusal.{FileRefusal}
use Rattle.payfile.specs.declared.refusal.FileRefusal.TheVariants.{Seal}
use Rattle.fileparts.specs.Reads.{early_answer, Possible, Impossible}

-- the reader's refusals, then one for want of room; a copy is the file itself
pub record Copies (file out : List ℕ) (r : Result ℕ FileRefusal) (out' : List ℕ) : Type 0 where
  pub early : (e : FileRefusal) → early_answer file ≡ Err e → (r ≡ Err e) × (out' ≡ out)
  pub no_length : early_answer file ≡ Ok tt → Impossible file → (r ≡ Err (Seal why.StreamLength)) × (out' ≡ out)
  pub no_room : early_answer file ≡ Ok tt → Possible file → length out < length file → (r ≡ Err (Seal why.OutputShort)) × (out' ≡ out)
  pub copied : early_answer file ≡ Ok tt → Possible file → length file ≤ length out → (r ≡ Ok (length file)) × (out' ≡ file ++ drop (length file) out)
