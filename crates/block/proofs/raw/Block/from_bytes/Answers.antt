use Rattle.std.proofs.Common.{arith, rules}
use Rattle.block.specs.Value.{value}
use Rattle.block.proofs.Bytes.{of_bytes_listed}
use Rattle.block.proofs.raw.Block.from_bytes.Goals as goal

pub returns : goal.returns
unfolding value
returns c = omega (arith, c.new.ensures, c.from_be_bytes.ensures, c.from_be_bytes-2.ensures, of_bytes_listed c.args.b.now (search rules))
