-- A line as a command: a letter, a space, and digits or a dash, which stands for no bytes.
use Rattle.std.specs.Prelude.{ℕ, ◌≤◌, cond, ◌&&◌, List, [], ◌∷◌, length, Some, None, Ok, Err, vec_items, Option, Result, ◌==◌, nat_le, slice_index}
use Rattle.elmd.specs.Refusals.{mark_number}
use Rattle.console.specs.declared.line.Line.{Line}
use Rattle.console.specs.declared.line.Line.TheVariants.{Key, Nonce, Settings, Heading, Message, Block, Stream}
use Rattle.console.specs.declared.line.LineFault.{LineFault}
use Rattle.console.specs.declared.line.LineFault.TheVariants.{UnknownLetter, Malformed}
use Rattle.console.specs.Hex.{from_hex}

pub data Command : Type 0 where
  key : List ℕ → Command
  nonce : List ℕ → Command
  settings : List ℕ → Command
  heading : List ℕ → Command
  message : List ℕ → Command
  block : List ℕ → Command
  stream : ℕ → List ℕ → Command
  unknown : Command
  malformed : Command

-- digits, or a dash (45) for no bytes
abbrev pub bytes_in : List ℕ → Option (List ℕ)
bytes_in text =
    cond (length text == 0) None
    (cond (length text == 1 && slice_index text 0 == 45) (Some []) (from_hex text))

-- one space (32), and then such bytes
abbrev pub field : List ℕ → Option (List ℕ)
field [] = None
field (c ∷ rest) = cond (c == 32) (bytes_in rest) None

abbrev pub sized : (least most : ℕ) → Option (List ℕ) → Option (List ℕ)
sized least most None = None
sized least most (Some b) = cond (nat_le least (length b) && nat_le (length b) most) (Some b) None

abbrev pub told : (List ℕ → Command) → Option (List ℕ) → Command
told f None = malformed
told f (Some b) = f b

-- a space, the mark 0 or 1, a space and the stream
abbrev pub marked_command : List ℕ → Command
marked_command [] = malformed
marked_command (c ∷ rest) =
    cond (c == 48) (told (stream 0) (field rest)) (cond (c == 49) (told (stream 1) (field rest)) malformed)

abbrev pub stream_command : List ℕ → Command
stream_command [] = malformed
stream_command (c ∷ rest) = cond (c == 32) (marked_command rest) malformed

-- the letters K, N, P, H, M, B and S
abbrev pub read_line : List ℕ → Command
read_line [] = unknown
read_line (c ∷ rest) =
    cond (c == 75) (told key (sized 16 16 (field rest)))
    (cond (c == 78) (told nonce (sized 8 8 (field rest)))
    (cond (c == 80) (told settings (sized 8 8 (field rest)))
    (cond (c == 72) (told heading (field rest))
    (cond (c == 77) (told message (sized 1 4096 (field rest)))
    (cond (c == 66) (told block (sized 16 16 (field rest)))
    (cond (c == 83) (stream_command rest) unknown))))))

-- a message that was read has at most 4,096 bytes
abbrev pub Sized : Command → Type 0
Sized (key b) = Unit {0}
Sized (nonce b) = Unit {0}
Sized (settings b) = Unit {0}
Sized (heading b) = Unit {0}
Sized (message b) = length b ≤ 4096
Sized (block b) = Unit {0}
Sized (stream m b) = Unit {0}
Sized unknown = Unit {0}
Sized malformed = Unit {0}

-- what the program holds of a command
abbrev pub command_of : Line → Command
command_of (Key b) = key b
command_of (Nonce b) = nonce b
command_of (Settings b) = settings b
command_of (Heading b) = heading (vec_items b)
command_of (Message b) = message (vec_items b)
command_of (Block b) = block b
command_of (Stream m b) = stream (mark_number m) (vec_items b)

-- and of what it read
abbrev pub command_read : Result Line LineFault → Command
command_read (Ok line) = command_of line
command_read (Err UnknownLetter) = unknown
command_read (Err Malformed) = malformed
