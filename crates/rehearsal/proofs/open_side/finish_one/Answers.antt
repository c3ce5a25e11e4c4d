use Rattle.std.proofs.Common.{Ok, Err}
use Rattle.rehearsal.proofs.OpenTurns.{finish_does}
use Rattle.rehearsal.proofs.open_side.finish_one.Goals as goal

pub returns-in-Ok-clause-does : goal.returns-in-Ok-clause-does
returns-in-Ok-clause-does g c = let e = c.in-Ok.ensures in finish_does _ _ _ _ _ c.finish.auto.out (Ok c.in-Ok.n) e.done e.finishes

pub returns-in-Err-clause-does : goal.returns-in-Err-clause-does
returns-in-Err-clause-does g c = let e = c.in-Err.ensures in finish_does _ _ _ _ _ c.finish.auto.out (Err c.in-Err.why) e.done e.finishes
