use Rattle.block.specs.Value.{value}
use Rattle.block.proofs.Halves.{same_halves}
use Rattle.block.proofs.BlockPartialEq.eq.Goals as goal

pub returns : goal.returns
unfolding value
returns c =
    let a = c.args.self.now in
    let b = c.args.other.now in
    same_halves a.hi a.lo b.hi b.lo a.ok.1 b.ok.1
