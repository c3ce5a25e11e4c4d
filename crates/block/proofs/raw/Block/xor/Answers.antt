use Rattle.std.proofs.Common.{sym, ◌∙◌, rules}
use lib.Bits.{xor_block}
use Rattle.block.specs.Value.{value}
use Rattle.block.proofs.raw.Block.xor.Goals as goal

pub returns : goal.returns
unfolding value
returns c = c.new.ensures ∙ sym (xor_block 64 _ _ _ _ (search rules) (search rules))
