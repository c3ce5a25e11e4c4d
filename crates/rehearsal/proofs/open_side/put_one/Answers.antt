use Rattle.std.proofs.Common.{Ok, Err}
use Rattle.rehearsal.proofs.OpenTurns.{put_within, put_does}
use Rattle.rehearsal.proofs.open_side.put_one.Goals as goal

pub returns-in-Ok-clause-does : goal.returns-in-Ok-clause-does
returns-in-Ok-clause-does g c = let e = c.in-Ok.ensures in put_does _ _ _ _ _ c.put.auto.out _ (Ok (c.in-Ok.taken, c.in-Ok.n)) e.done e.puts

pub returns-in-Err-clause-within : goal.returns-in-Err-clause-within
returns-in-Err-clause-within g c = put_within _ _ _ (Err c.in-Err.why) _ _ c.in-Err.ensures.done

pub returns-in-Err-clause-does : goal.returns-in-Err-clause-does
returns-in-Err-clause-does g c = let e = c.in-Err.ensures in put_does _ _ _ _ _ c.put.auto.out _ (Err c.in-Err.why) e.done e.puts
