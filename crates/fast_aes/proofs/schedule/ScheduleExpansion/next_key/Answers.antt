use Rattle.std.proofs.Common.{refl}
use Rattle.fast_aes.proofs.Keying.{next_is}
use Rattle.fast_aes.proofs.schedule.ScheduleExpansion.next_key.Goals as goal

pub returns : goal.returns
returns c = next_is c.args.rc c.args.k c.turn.result _ _ _ _ c.turn.ensures refl refl refl refl
