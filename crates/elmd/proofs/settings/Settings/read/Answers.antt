use Rattle.std.proofs.Common.{arith, rules}
use Rattle.elmd.proofs.Eight.{settings_same}
use Rattle.elmd.proofs.settings.Settings.read.Goals as goal

pub returns : goal.returns
returns c = record {
  answer = search rules;
  value = settings_same c.args.bytes.now c.args.label (search rules) (omega arith) (omega arith) (omega arith) (omega arith) (omega arith) (omega arith) (omega arith);
}
