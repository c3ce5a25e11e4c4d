use Rattle.std.proofs.Common.{rules, get_or}
use lib.Bits.{bit_xor}
use Rattle.aes.specs.Fips197.{add_round_key}
use Rattle.aes.proofs.Filling.{from_fn_is}
use Rattle.aes.proofs.steps.add_round_key.Goals as goal

pub returns : goal.returns
unfolding add_round_key
returns c = from_fn_is _ _ (λ i. bit_xor (get_or c.args.s i 0) (get_or c.args.k.now i 0)) (λ i y q k. search rules) c.from_fn.result 0 16 c.from_fn.ensures.items
