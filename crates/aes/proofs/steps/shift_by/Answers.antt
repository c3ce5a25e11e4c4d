use Rattle.std.proofs.Common.{◌+◌, ◌*◌, ◌%◌, rules, get_or}
use Rattle.aes.specs.Fips197.{shift_by}
use Rattle.aes.proofs.Filling.{from_fn_is}
use Rattle.aes.proofs.steps.shift_by.Goals as goal

pub returns : goal.returns
unfolding shift_by
returns c = from_fn_is _ _ (λ i. get_or c.args.s ((i + c.args.n * (i % 4)) % 16) 0) (λ i y q k. search rules) c.from_fn.result 0 16 c.from_fn.ensures.items
