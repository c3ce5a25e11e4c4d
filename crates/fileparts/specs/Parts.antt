-- The parts of a pay file by number: what each is, where it begins, how many bytes it has.
use Rattle.std.specs.Prelude.{◌≡◌, ℕ, ◌+◌, ◌-◌, ◌*◌, ◌/◌, ◌<◌, ◌≤◌, cond, List, length, take, drop, Some, None, Option, ◌==◌, nat_lt}
use Rattle.elmd.specs.declared.shape.Shape.{Shape}
use Rattle.fileparts.specs.declared.part.Part.{Part}
use Rattle.fileparts.specs.declared.part.Part.TheVariants.{Front, Heading, Block, Check, Tag}
use Rattle.fileparts.specs.declared.reader.Reader.{Reader}

-- what a part is; blocks and checks count from 1
pub data Kind : Type 0 where
  front_part : Kind
  heading_part : Kind
  block_part : ℕ → Kind
  check_part : ℕ → Kind
  tag_part : Kind

pub record Piece : Type 0 where
  pub kind : Kind
  pub place : ℕ
  pub size : ℕ

abbrev pub piece : Kind → (place size : ℕ) → Piece
piece k place size = record { kind = k; place = place; size = size }

-- how a file is laid out: t, the bytes of the heading, and of the stream l, h and the bytes of the tag
pub record Layout : Type 0 where
  pub interval : ℕ
  pub heading : ℕ
  pub shape : Shape

-- l + h, the stream's places before the tag
abbrev pub spots : Layout → ℕ
spots y = y.shape.blocks + y.shape.checks

abbrev pub parts : Layout → ℕ
parts y = 3 + spots y

-- the checks among the first e places of a stream: every place t + 1 is one, and none where t is 0
abbrev pub checks_before : (t e : ℕ) → ℕ
checks_before t e = cond (t == 0) 0 (e / (t + 1))

-- what stands at place e: a check where there is one more behind e than before it, else the next block
abbrev pub kind_in : (t e : ℕ) → Kind
kind_in t e = cond (nat_lt (checks_before t e) (checks_before t (e + 1))) (check_part (checks_before t (e + 1))) (block_part (e + 1 - checks_before t e))

abbrev pub stream_piece : Layout → ℕ → Piece
stream_piece y e =
    cond (nat_lt e (spots y)) (piece (kind_in y.interval e) (26 + y.heading + 16 * e) 16) (piece tag_part (26 + y.heading + 16 * e) y.shape.tag)

-- part n, from 0: the front, the heading, then the stream's places
abbrev pub piece_at : Layout → ℕ → Piece
piece_at y n = cond (n == 0) (piece front_part 0 26) (cond (n == 1) (piece heading_part 26 y.heading) (stream_piece y (n - 2)))

-- of a part as the code has it
abbrev pub bytes_of : Part → List ℕ
bytes_of (Front p b) = b.now
bytes_of (Heading p b) = b.now
bytes_of (Block i p b) = b.now
bytes_of (Check j p b) = b.now
bytes_of (Tag p b) = b.now

abbrev pub place_of : Part → ℕ
place_of (Front p b) = p
place_of (Heading p b) = p
place_of (Block i p b) = p
place_of (Check j p b) = p
place_of (Tag p b) = p

abbrev pub kind_of : Part → Kind
kind_of (Front p b) = front_part
kind_of (Heading p b) = heading_part
kind_of (Block i p b) = block_part i
kind_of (Check j p b) = check_part j
kind_of (Tag p b) = tag_part

abbrev pub piece_of : Part → Piece
piece_of p = piece (kind_of p) (place_of p) (length (bytes_of p))

-- it is this piece of the file, with its bytes
pub record IsPiece (file : List ℕ) (q : Piece) (p : Part) : Type 0 where
  pub piece_is : piece_of p ≡ q
  pub bytes_are : bytes_of p ≡ take q.size (drop q.place file)

-- the piece q, number n of so many, where there is one and it lies in the file
abbrev pub Taken : (file : List ℕ) (many n : ℕ) (q : Piece) → Option Part → Type 0
Taken file many n q (Some p) = (n < many) × (q.place + q.size ≤ length file) × IsPiece file q p
Taken file many n q None = n < many → q.place + q.size ≤ length file → ⊥

-- of a reader; the tag goes to the end of the file
abbrev pub layout_of : Reader → Layout
layout_of r = record { interval = r.settings.interval; heading = r.heading; shape = r.shape }

abbrev pub left_of : Reader → ℕ
left_of r = parts (layout_of r) - r.given

abbrev pub count : Option Part → ℕ
count (Some p) = 1
count None = 0

-- what one call of next does: it gives the next part and counts it
pub record Gives (s : Reader) (o : Option Part) (t : Reader) : Type 0 where
  pub taken : Taken s.file.now (parts (layout_of s)) s.given (piece_at (layout_of s) s.given) o
  pub counted : t.given ≡ s.given + count o
  pub file_kept : t.file.now ≡ s.file.now
  pub layout_kept : layout_of t ≡ layout_of s
