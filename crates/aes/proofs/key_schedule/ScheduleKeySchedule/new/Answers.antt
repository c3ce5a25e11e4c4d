use Rattle.std.proofs.Common.{◌≡◌, refl, sym, ap, ◌∙◌, rules}
use Rattle.std.proofs.ByRecursion.{All-from_get_or}
use Rattle.block.specs.Bytes.{of_bytes, Bytes}
use Rattle.aes.specs.Fips197.{key_schedule}
use Rattle.aes.proofs.Turns.{map_same, schedule_key, schedule_kept}
use Rattle.aes.proofs.key_schedule.ScheduleKeySchedule.new.Goals as goal

pub invariant_of-result : goal.invariant_of-result
invariant_of-result c =
    let key = c.args.bytes.now in
    let bytes : Bytes key = All-from_get_or _ key 0 (search rules) in
    let e : c.expand.result ≡ key_schedule key = sym (map_same _ (λ k. refl) c.expand.result) ∙ c.expand.ensures in
    record { ok = schedule_kept key c.expand.result (search rules) bytes e }

pub returns : goal.returns
returns c =
    let key = c.args.bytes.now in
    let e : c.expand.result ≡ key_schedule key = sym (map_same _ (λ k. refl) c.expand.result) ∙ c.expand.ensures in
    ap of_bytes (schedule_key key c.expand.result e)
