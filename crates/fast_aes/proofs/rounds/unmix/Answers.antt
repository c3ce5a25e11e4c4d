use Rattle.std.proofs.Common.{rules}
use Rattle.fast_aes.proofs.Turning.{unmix_is}
use Rattle.fast_aes.proofs.rounds.unmix.Goals as goal

pub returns : goal.returns
returns c = unmix_is c.args.s c.map.result (λ i h. let w = c.map.ensures.items.at i 0 0 h in search rules)
