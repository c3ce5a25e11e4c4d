-- The worked examples, by computation.
use Rattle.std.proofs.Common.{refl}
use Rattle.block.specs.Field.{dbl, half}
use Rattle.block.specs.Bytes.{bytes_of}
use Rattle.cipher.specs.Meaning.{base}
use Rattle.elmd.specs.Stream.{t_of, f_of, block_at, iv, out_mask, in_mask, cipher_block, check_block, tag_block, tag_size, mark, input, x_at, stream}
use Rattle.elmd.specs.Examples.{Worked}

pub worked_out : Worked
unfolding dbl half bytes_of base t_of f_of block_at iv out_mask in_mask cipher_block check_block tag_block tag_size mark input x_at stream
worked_out = refl
