use Rattle.fast_aes.proofs.Turning.{add_key_is}
use Rattle.fast_aes.proofs.rounds.add_key.Goals as goal

pub returns : goal.returns
returns c = add_key_is c.args.k.now c.args.s
