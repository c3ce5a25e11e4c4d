-- Which files are read, and what a reader then stands for.
use Rattle.std.specs.Prelude.{◌≡◌, ℕ, ◌+◌, List, length, Ok, Err, Result, slice_index}
use Rattle.elmd.specs.declared.refusal.Refusal.TheVariants as why
use Rattle.elmd.specs.Settings.{settings_answer}
use Rattle.elmd.specs.Stream.{Frame, t_of}
use Rattle.elmd.specs.Laws.{MessageOf}
use Rattle.elmd.specs.Shape.{Laid}
use Rattle.payfile.specs.declared.refusal.FileRefusal.{FileRefusal}
use Rattle.payfile.specs.declared.refusal.FileRefusal.TheVariants.{Seal}
use Rattle.payfile.specs.Refusals.{after, of_seal}
use Rattle.payfile.specs.Layout.{front_answer, settings_in, mark_in, heading_size, stream_size}
use Rattle.fileparts.specs.declared.reader.Reader.{Reader}
use Rattle.fileparts.specs.Parts.{Layout, layout_of}

-- the front and the settings, which are judged under their own label: the first cause first
abbrev pub early_answer : List ℕ → Result Unit FileRefusal
early_answer file = after (front_answer file) (of_seal (settings_answer (slice_index (settings_in file) 0) (settings_in file)))

-- some message of 1 to 16,777,216 bytes has the stream's length and mark under the file's settings; none has
abbrev pub Possible : List ℕ → Type 0
Possible file = (u : Frame) × (u.settings ≡ settings_in file) × (m : List ℕ) × MessageOf u (stream_size file) (mark_in file) m

abbrev pub Impossible : List ℕ → Type 0
Impossible file = (u : Frame) → u.settings ≡ settings_in file → (m : List ℕ) → MessageOf u (stream_size file) (mark_in file) m → ⊥

-- the layout of a file
pub record Lays (file : List ℕ) (y : Layout) : Type 0 where
  pub size : length file ≡ 26 + heading_size file + stream_size file
  pub heading_is : y.heading ≡ heading_size file
  pub interval_is : (u : Frame) → u.settings ≡ settings_in file → t_of u ≡ y.interval
  pub stream_is : (u : Frame) → u.settings ≡ settings_in file → Laid u (stream_size file) (mark_in file) y.shape

-- a reader of the file that has given no part yet
pub record Starts (file : List ℕ) (r : Reader) : Type 0 where
  pub file_is : r.file.now ≡ file
  pub none_given : r.given ≡ 0
  pub laid : Lays file (layout_of r)

-- which answer comes: front and settings first, then whether a message fits
abbrev pub Fitting : List ℕ → Result Unit FileRefusal → Type 0
Fitting file (Ok x) = Possible file
Fitting file (Err e) = (e ≡ Seal why.StreamLength) × Impossible file

pub record Answered (file : List ℕ) (r : Result Unit FileRefusal) : Type 0 where
  pub early : (e : FileRefusal) → early_answer file ≡ Err e → r ≡ Err e
  pub later : early_answer file ≡ Ok tt → Fitting file r
