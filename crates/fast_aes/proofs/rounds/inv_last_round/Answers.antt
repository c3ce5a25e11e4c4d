use Rattle.std.proofs.Common.{get_or}
use Rattle.fast_aes.specs.Words.{spread}
use Rattle.fast_aes.proofs.Turning.{inv_last_is}
use Rattle.fast_aes.proofs.rounds.inv_last_round.Goals as goal

pub returns : goal.returns
unfolding spread
returns c =
    let s = c.args.s in
    inv_last_is c.args.k.now (get_or s 0 0) (get_or s 1 0) (get_or s 2 0) (get_or s 3 0) _ _ _ _
    c.substituted.ensures c.substituted-2.ensures c.substituted-3.ensures c.substituted-4.ensures
