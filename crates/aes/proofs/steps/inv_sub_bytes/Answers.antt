use Rattle.std.proofs.Common.{rules, get_or}
use Rattle.std.proofs.lemmas.List.FromFn.{fill_by_all}
use Rattle.gf256.specs.Sbox.{inv_sbox}
use Rattle.aes.specs.Fips197.{inv_sub_bytes}
use Rattle.aes.proofs.steps.inv_sub_bytes.Goals as goal

pub returns : goal.returns
unfolding inv_sub_bytes
returns c =
    let r = c.map.ensures.items in
    fill_by_all (λ i. inv_sbox (get_or c.args.s i 0)) c.map.result 16 0 r.long (λ k h. let w = r.at k 0 0 h in search rules)
