-- The bytes of a pay file: version 1, the lengths of heading and stream in four bytes each, highest first, the nonce, the settings, the
-- mark, then heading and stream.
use Rattle.std.specs.Prelude.{◌≡◌, ℕ, ◌+◌, ◌≤◌, not, ◌||◌, List, [], ◌∷◌, ◌++◌, map, length, take, drop, Ok, Result, ◌==◌, nat_lt, slice_index}
use Rattle.std.specs.Int.Digits.{digits_of}
use Rattle.block.specs.Bytes.{of_bytes, bytes_by}
use Rattle.cipher.specs.Meaning.{Meaning}
use Rattle.elmd.specs.Stream.{Frame, mark, stream}
use Rattle.elmd.specs.Heading.{frame_of}
use Rattle.elmd.specs.Settings.{settings_answer}
use Rattle.elmd.specs.Refusals.{mark_number}
use Rattle.payfile.specs.declared.refusal.FileRefusal.{FileRefusal}
use Rattle.payfile.specs.declared.refusal.FileFault.TheVariants.{PracticeLabel, Shed, Week, FileShort, Version, MarkByte, HeadingTooLong, Lengths}
use Rattle.payfile.specs.declared.front.Front.{Front}
use Rattle.payfile.specs.Refusals.{faulty, after, of_seal}

abbrev pub front_bytes : (H S : ℕ) (nonce settings : List ℕ) (k : ℕ) → List ℕ
front_bytes H S nonce settings k = 1 ∷ (bytes_by 4 H ++ (bytes_by 4 S ++ (nonce ++ (settings ++ k ∷ []))))

unfoldable pub file_of : (nonce settings : List ℕ) (k : ℕ) (heading stream : List ℕ) → List ℕ
file_of nonce settings k heading s = front_bytes (length heading) (length s) nonce settings k ++ (heading ++ s)

-- the layout round the seal of m
abbrev pub pay_file : Frame → List ℕ → List ℕ
pay_file u m = file_of u.nonce u.settings (mark m) u.heading (stream u m)

-- decimal digits without leading zeros; of shed and week there is no mark between them
unfoldable pub digits : ℕ → List ℕ
digits n = map (λ d. 48 + d) (digits_of 10 n)

abbrev pub heading_of : (shed week : ℕ) → List ℕ
heading_of shed week = digits shed ++ digits week

-- sheds are 1 to 9,999, weeks 1 to 53
abbrev pub heading_answer : (shed week : ℕ) → Result Unit FileRefusal
heading_answer shed week = faulty (shed == 0 || nat_lt 9999 shed) Shed (faulty (week == 0 || nat_lt 53 week) Week (Ok tt))

-- what a file has in each place
unfoldable pub heading_size : List ℕ → ℕ
heading_size file = of_bytes (take 4 (drop 1 file))

unfoldable pub stream_size : List ℕ → ℕ
stream_size file = of_bytes (take 4 (drop 5 file))

abbrev pub nonce_in : List ℕ → List ℕ
nonce_in file = take 8 (drop 9 file)

abbrev pub settings_in : List ℕ → List ℕ
settings_in file = take 8 (drop 17 file)

abbrev pub mark_in : List ℕ → ℕ
mark_in file = slice_index file 25

abbrev pub heading_in : List ℕ → List ℕ
heading_in file = take (heading_size file) (drop 26 file)

abbrev pub stream_in : List ℕ → List ℕ
stream_in file = drop (26 + heading_size file) file

-- what its message is sealed under
abbrev pub frame_in : Meaning → List ℕ → Frame
frame_in c file = frame_of c (settings_in file) (nonce_in file) (heading_in file)

-- a file whose front is refused, the first cause first
abbrev pub front_answer : List ℕ → Result Unit FileRefusal
front_answer file =
    faulty (nat_lt (length file) 26) FileShort
    (faulty (not (slice_index file 0 == 1)) Version
    (faulty (nat_lt 1 (mark_in file)) MarkByte
    (faulty (nat_lt 65536 (heading_size file)) HeadingTooLong
    (faulty (not (length file == 26 + heading_size file + stream_size file)) Lengths (Ok tt)))))

-- what is read of a front that is not refused
pub record Fronts (file : List ℕ) (f : Front) : Type 0 where
  pub nonce_is : f.nonce ≡ nonce_in file
  pub settings_is : f.settings ≡ settings_in file
  pub mark_is : mark_number f.mark ≡ mark_in file
  pub heading_is : f.heading ≡ heading_size file
  pub stream_is : f.stream ≡ stream_size file
  pub size : length file ≡ 26 + f.heading + f.stream
  pub heading_most : f.heading ≤ 65536

-- settings for the cipher of a label, which may not be 255
abbrev pub label_answer : (label : ℕ) (settings : List ℕ) → Result Unit FileRefusal
label_answer label settings = after (of_seal (settings_answer label settings)) (faulty (slice_index settings 0 == 255) PracticeLabel (Ok tt))
