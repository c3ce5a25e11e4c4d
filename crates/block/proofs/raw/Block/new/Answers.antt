use Rattle.std.proofs.Common.{refl}
use Rattle.block.specs.Value.{value}
use Rattle.block.proofs.raw.Block.new.Goals as goal

pub returns : goal.returns
unfolding value
returns c = refl
