use Rattle.std.proofs.Common.{ap, rules, arith}
use Rattle.block.specs.Bytes.{of_bytes}
use Rattle.elmd.proofs.Eight.{eight_eight}
use Rattle.elmd.proofs.heading.first_block.Goals as goal

pub returns : goal.returns
returns c =
    let e = ap of_bytes (eight_eight c.args.n.now c.args.s.now (search rules) (search rules)) in
    omega (arith, c.new.ensures, c.from_be_bytes.ensures, c.from_be_bytes-2.ensures, e)
