use Rattle.std.proofs.Common.{arith}
use Rattle.opening.proofs.Standings.{blocks_low}
use Rattle.opening.proofs.place.Opener.admit_finish.Goals as goal

pub overflow_sub-self : goal.overflow_sub-self
overflow_sub-self c = let a = blocks_low c.args.self.now in let b = c.args.self.now.lies.0 in rw c.from-t.ensures (omega arith)
