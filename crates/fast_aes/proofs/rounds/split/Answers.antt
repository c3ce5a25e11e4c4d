use Rattle.std.proofs.Common.{rules}
use lib.Bits.{and_mask}
use Rattle.block.specs.Value.{value}
use Rattle.fast_aes.proofs.Halving.{split_is}
use Rattle.fast_aes.proofs.rounds.split.Goals as goal

pub returns : goal.returns
unfolding value
returns c =
    let h = c.args.b.hi in
    let l = c.args.b.lo in
    rw (and_mask h 32, and_mask l 32) (split_is h l (search rules))
