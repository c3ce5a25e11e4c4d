-- A seal in parts, by number: which answers come, and how much of the stream is handed over.
use Rattle.std.specs.Prelude.{ℕ, pred, ◌+◌, ◌-◌, ◌*◌, ◌/◌, ◌%◌, min, Bool, cond, ◌||◌, Ok, Result, ◌==◌, nat_lt}
use Rattle.elmd.specs.declared.refusal.Refusal.{Refusal}
use Rattle.elmd.specs.declared.refusal.Refusal.TheVariants.{MessageLength, PieceTooLong, OutputShort, BytesMissing}
use Rattle.elmd.specs.declared.refusal.Mark.{Mark}
use Rattle.elmd.specs.Refusals.{refuse, mark_of}
use Rattle.elmd.specs.Sizes.{blocks_in, stream_size}

abbrev pub begin_answer : ℕ → Result Unit Refusal
begin_answer n = refuse (n == 0 || nat_lt 16777216 n) MessageLength (Ok tt)

-- how many blocks are sealed when k of n bytes are in: the whole ones, but never the last
abbrev pub sealed_blocks : (n k : ℕ) → ℕ
sealed_blocks n k = min (k / 16) (pred (blocks_in n))

-- how many bytes of the stream are handed over then
abbrev pub handed_over : (t n k : ℕ) → ℕ
handed_over t n k = 16 * (sealed_blocks n k + sealed_blocks n k / t)

-- of a piece of so many bytes, with so much room
abbrev pub put_answer : (t n k size room : ℕ) → Result ℕ Refusal
put_answer t n k size room =
    refuse (nat_lt (n - k) size) PieceTooLong
    (refuse (nat_lt room (handed_over t n (k + size) - handed_over t n k)) OutputShort (Ok (handed_over t n (k + size) - handed_over t n k)))

abbrev pub finish_answer : (t : ℕ) (f : Bool) (n k room : ℕ) → Result (ℕ × Mark) Refusal
finish_answer t f n k room =
    refuse (nat_lt k n) BytesMissing
    (refuse (nat_lt room (stream_size t f n - handed_over t n n)) OutputShort (Ok (stream_size t f n - handed_over t n n, mark_of (cond (n % 16 == 0) 1 0))))
