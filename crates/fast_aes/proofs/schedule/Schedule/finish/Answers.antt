use Rattle.std.proofs.Common.{◌≡◌, length, [], get_or, ap, ◌∙◌, rules}
use Rattle.aes.specs.Fips197.{add_round_key, inv_shift_rows, inv_sub_bytes}
use Rattle.fast_aes.specs.Words.{spread}
use Rattle.fast_aes.proofs.Keying.{inv_rounds_by_words}
use Rattle.fast_aes.proofs.schedule.Schedule.finish.Goals as goal

pub returns : goal.returns
returns c =
    let k = c.args.self.now in
    let long : length k.keys ≡ 11 = search rules in
    let wide : length k.inv_keys ≡ 11 = search rules in
    c.inv_last_round.ensures ∙ ap (λ z. add_round_key (spread (get_or k.keys 0 [])) (inv_sub_bytes (inv_shift_rows z))) c.run_inv_rounds-end.ensures
    ∙ inv_rounds_by_words k.keys long c.args.n (spread c.args.s) c.requires k.inv_keys wide k.unmixed
