use Rattle.std.proofs.Common.{arith}
use Rattle.payfile.proofs.Numerals.{length_most}
use Rattle.payfile.proofs.heading.FileHeading.new.Goals as goal

pub push-requires : goal.push-requires
push-requires c = let shed = length_most 4 c.args.shed (omega arith) in omega arith

pub push-requires-2 : goal.push-requires-2
push-requires-2 c = let shed = length_most 4 c.args.shed (omega arith) in let week = length_most 2 c.args.week (omega arith) in omega arith
