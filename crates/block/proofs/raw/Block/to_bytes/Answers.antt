use Rattle.std.proofs.Common.{div-one, rules}
use Rattle.block.specs.Value.{value}
use Rattle.block.specs.Bytes.{bytes_of}
use Rattle.block.proofs.Bytes.{bytes_halves}
use Rattle.block.proofs.raw.Block.to_bytes.Goals as goal

pub returns : goal.returns
unfolding value bytes_of
returns c = rw (c.to_be_bytes-h.ensures, c.to_be_bytes-l.ensures) (simp div-one (simp div-one at (bytes_halves c.args.self.hi c.args.self.lo (search rules))))
