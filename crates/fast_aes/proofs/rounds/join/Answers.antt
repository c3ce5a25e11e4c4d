use Rattle.std.proofs.Common.{◌^◌, ◌<◌, get_or, ◌∙◌, rules}
use Rattle.fast_aes.proofs.Halving.{join_is, high_low}
use Rattle.fast_aes.proofs.rounds.join.Goals as goal

pub returns : goal.returns
returns c =
    let s = c.args.s in
    let a : get_or s 0 0 < 2 ^ 32 = search rules in
    let b : get_or s 1 0 < 2 ^ 32 = search rules in
    let d : get_or s 2 0 < 2 ^ 32 = search rules in
    let e : get_or s 3 0 < 2 ^ 32 = search rules in
    c.new.ensures ∙ join_is s _ _ (high_low (get_or s 0 0) (get_or s 1 0) a b) (high_low (get_or s 2 0) (get_or s 3 0) d e) a b d e
