use Rattle.std.proofs.Common.{refl}
use Rattle.sealing.proofs.Whole.{starts_at}
use Rattle.sealing.proofs.state.Running.new.Goals as goal

pub returns-clause-starts : goal.returns-clause-starts
returns-clause-starts c = starts_at c.args.base _ _ refl refl c.times5.ensures c.new.ensures refl
