use Rattle.std.proofs.Common.{◌+◌, ◌-◌, ◌≤◌, length, arith}
use Rattle.rehearsal.proofs.Runs.{wrote}
use Rattle.rehearsal.proofs.drive.turn.Goals as goal

pub returns-clause-wrote : goal.returns-clause-wrote
returns-clause-wrote g c =
    let pos = c.args.pos in
    let in-out : pos + (pos + c.min.result - pos) ≤ length c.args.out.now = (let p = c.requires in omega arith) in
    wrote c.args.out.now c.make.new.out pos (pos + c.min.result - pos) c.make.result.0 in-out c.make.auto.out c.make.ensures.within
