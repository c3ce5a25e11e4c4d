-- What a walk through a whole file gives, in the words of the mode.
use Rattle.std.specs.Prelude.{◌≡◌, ℕ, ◌+◌, ◌-◌, ◌*◌, ◌≤◌, List, [], ◌∷◌, map, length, take, drop, Some, None, Option}
use Rattle.std.specs.List.{slice_get, flat_map}
use Rattle.std.specs.Iterator.{Drains}
use Rattle.block.specs.Bytes.{Bytes, of_bytes}
use Rattle.elmd.specs.Stream.{Frame, t_of, blocks, checks, spot, check_spot, tag_spot, cipher_block, check_block, tag_bytes, x_at, stream}
use Rattle.elmd.specs.Opening.{blocks_of}
use Rattle.elmd.specs.Laws.{Sound}
use Rattle.payfile.specs.Layout.{settings_in, heading_size, stream_size, stream_in}
use Rattle.fileparts.specs.declared.part.Part.{Part}
use Rattle.fileparts.specs.declared.reader.Reader.{Reader}
use Rattle.fileparts.specs.Parts.{Kind, front_part, heading_part, block_part, check_part, tag_part, kind_of, place_of, bytes_of, Gives}
use Rattle.fileparts.specs.Reads.{Starts}

-- l: the blocks of a file's stream, under any frame of its settings
abbrev pub blocks_in : Frame → List ℕ → ℕ
blocks_in u file = blocks_of u (stream_size file)

-- where the place e of its stream begins
abbrev pub stream_place : List ℕ → ℕ → ℕ
stream_place file e = 26 + heading_size file + 16 * e

-- a part as it is given: what it is, its place, its bytes
pub record Cut : Type 0 where
  pub kind : Kind
  pub place : ℕ
  pub bytes : List ℕ

abbrev pub cut_of : Part → Cut
cut_of p = record { kind = kind_of p; place = place_of p; bytes = bytes_of p }

-- and as it stands in the file
abbrev pub cut : (file : List ℕ) → Kind → (place size : ℕ) → Cut
cut file k place size = record { kind = k; place = place; bytes = take size (drop place file) }

-- part n of those that were given, from 0
abbrev pub part_no : List Part → ℕ → Option Cut
part_no ps n = slice_get (map cut_of ps) n

-- the first part begins at `at`, each other where the one before ended, and each has the file's bytes there
abbrev pub Follows : (file : List ℕ) (at : ℕ) → List Part → Type 0
Follows file at [] = Unit {0}
Follows file at (p ∷ ps) = (place_of p ≡ at) × (bytes_of p ≡ take (length (bytes_of p)) (drop at file)) × Follows file (at + length (bytes_of p)) ps

-- all parts: front and heading, then each block and check where the mode puts it, then the tag
pub record Walk (u : Frame) (file : List ℕ) (ps : List Part) : Type 0 where
  pub count : length ps ≡ 3 + tag_spot u (blocks_in u file)
  pub front_at : part_no ps 0 ≡ Some (cut file front_part 0 26)
  pub heading_at : part_no ps 1 ≡ Some (cut file heading_part 26 (heading_size file))
  pub blocks_at : (i : ℕ) → 1 ≤ i → i ≤ blocks_in u file → part_no ps (2 + spot u i) ≡ Some (cut file (block_part i) (stream_place file (spot u i)) 16)
  pub checks_at : (j : ℕ) → 1 ≤ j → j ≤ checks u (blocks_in u file) → part_no ps (2 + check_spot u j) ≡ Some (cut file (check_part j) (stream_place file (check_spot u j)) 16)
  pub check_behind : (j : ℕ) → 1 ≤ j → j ≤ checks u (blocks_in u file) → check_spot u j ≡ spot u (j * t_of u) + 1
  pub tag_at : part_no ps (2 + tag_spot u (blocks_in u file))
      ≡ Some (cut file tag_part (stream_place file (tag_spot u (blocks_in u file))) (stream_size file - 16 * tag_spot u (blocks_in u file)))
  pub follows : Follows file 0 ps
  pub joined_are : flat_map bytes_of ps ≡ file

-- where the file's stream is that of m: the blocks are C[1] to C[l], the checks and the tag are those of m
pub record Holds (u : Frame) (m : List ℕ) (ps : List Part) : Type 0 where
  pub blocks_hold : (i : ℕ) → 1 ≤ i → i ≤ blocks m → (c : Cut) → part_no ps (2 + spot u i) ≡ Some c → of_bytes c.bytes ≡ cipher_block u (x_at u m) i
  pub checks_hold : (j : ℕ) → 1 ≤ j → j ≤ checks u (blocks m) → (c : Cut) → part_no ps (2 + check_spot u j) ≡ Some c → of_bytes c.bytes ≡ check_block u (x_at u m) j
  pub tag_holds : (c : Cut) → part_no ps (2 + tag_spot u (blocks m)) ≡ Some c → c.bytes ≡ tag_bytes u m

-- whatever calls of next give before none is such a walk
abbrev pub Walked : List ℕ → Reader → Type 0
Walked file r = (u : Frame) → u.settings ≡ settings_in file → (ps : List Part) → Drains Gives r ps → Walk u file ps

abbrev pub Walks : Type 0
Walks = (file : List ℕ) (r : Reader) → Starts file r → Walked file r

abbrev pub Contents : Type 0
Contents =
    (file : List ℕ) (r : Reader) → Starts file r → (u : Frame) → u.settings ≡ settings_in file → Sound u
    → (m : List ℕ) → Bytes m → 1 ≤ length m → stream_in file ≡ stream u m → (ps : List Part) → Drains Gives r ps → Holds u m ps

-- after none comes none
abbrev pub Ends : Type 0
Ends = (r s t : Reader) (o : Option Part) → Gives r None s → Gives s o t → o ≡ None
