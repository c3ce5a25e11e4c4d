-- Lengths by number.
use Rattle.std.specs.Prelude.{ℕ, pred, ◌+◌, ◌-◌, ◌*◌, ◌/◌, Bool, cond, ◌||◌, Ok, Result, ◌==◌, nat_lt}
use Rattle.block.specs.Field.{half, seven}
use Rattle.elmd.specs.declared.refusal.Refusal.{Refusal}
use Rattle.elmd.specs.declared.refusal.Refusal.TheVariants.{MessageLength}
use Rattle.elmd.specs.declared.refusal.Mark.{Mark}
use Rattle.elmd.specs.declared.refusal.Mark.TheVariants.{Filled, Whole}
use Rattle.elmd.specs.declared.settings.Settings.{Settings}
use Rattle.elmd.specs.Refusals.{refuse}

-- l, the number of blocks of n bytes
abbrev pub blocks_in : ℕ → ℕ
blocks_in n = (n + 15) / 16

-- l blocks, h checks and the tag; at f the tag is as long as the last block
unfoldable pub stream_size : (t : ℕ) (f : Bool) (n : ℕ) → ℕ
stream_size t f n = 16 * (blocks_in n + pred (blocks_in n) / t) + cond f (n - 16 * pred (blocks_in n)) 16

-- a message has 1 to 16,777,216 bytes
abbrev pub length_answer : Settings → ℕ → Result ℕ Refusal
length_answer s n = refuse (n == 0 || nat_lt 16777216 n) MessageLength (Ok (stream_size s.interval s.short_tag n))

-- the last two inputs of a message whose last block was filled have a mask of their own
abbrev pub last_mask : Mark → ℕ → ℕ
last_mask Whole a = a
last_mask Filled a = seven (half a)

-- how many bytes stand in a stream for a block, with the check behind it where one is due, by the blocks since the last check
abbrev pub stride : (t since : ℕ) → ℕ
stride t since = cond (since + 1 == t) 32 16
