use Rattle.std.proofs.Common.{◌≡◌, length, sym, ap, ◌∙◌, rules}
use Rattle.std.proofs.ByRecursion.{All-from_get_or}
use Rattle.block.specs.Bytes.{of_bytes, Bytes}
use Rattle.aes.proofs.Turns.{schedule_key, schedule_kept}
use Rattle.fast_aes.specs.Words.{spreads}
use Rattle.fast_aes.proofs.Keying.{schedule_made, spreads_are}
use Rattle.fast_aes.proofs.schedule.ScheduleKeySchedule.new.Goals as goal

pub invariant_of-result : goal.invariant_of-result
invariant_of-result c =
    let key = c.args.bytes.now in
    let ks = c.expand-keys.result in
    let long : length ks ≡ 11 = search rules in
    let bytes : Bytes key = All-from_get_or _ key 0 (search rules) in
    let e = schedule_made key ks _ _ (search rules) bytes (sym (spreads_are ks long) ∙ c.expand-keys.ensures) c.split.ensures c.from_bytes.ensures in
    record { expanded = schedule_kept key (spreads ks) (search rules) bytes e; unmixed = c.unmix_all-inv_keys.ensures }

pub returns : goal.returns
returns c =
    let key = c.args.bytes.now in
    let ks = c.expand-keys.result in
    let long : length ks ≡ 11 = search rules in
    let bytes : Bytes key = All-from_get_or _ key 0 (search rules) in
    let e = schedule_made key ks _ _ (search rules) bytes (sym (spreads_are ks long) ∙ c.expand-keys.ensures) c.split.ensures c.from_bytes.ensures in
    ap of_bytes (schedule_key key (spreads ks) e)
