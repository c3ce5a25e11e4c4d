use Rattle.std.proofs.Common.{refl}
use Rattle.rehearsal.proofs.SealRuns.{does_by}
use Rattle.rehearsal.proofs.seal_side.one.Goals as goal

pub returns-in-Put-clause-does : goal.returns-in-Put-clause-does
returns-in-Put-clause-does g c = does_by _ _ _ c.args.sealer _ _ _ _ _ refl c.in-Put.is (c.put_one.ensures.does c.in-Put.room)

pub returns-in-Finish-clause-does : goal.returns-in-Finish-clause-does
returns-in-Finish-clause-does g c = does_by _ _ _ c.args.sealer _ _ _ _ _ refl c.in-Finish.is (c.finish_one.ensures.does c.in-Finish.room)
