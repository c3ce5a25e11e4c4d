use Rattle.elmd.proofs.Examples.{worked_out}
use Rattle.elmd.proofs.worked_examples.Goals as goal

pub returns : goal.returns
returns c = worked_out
