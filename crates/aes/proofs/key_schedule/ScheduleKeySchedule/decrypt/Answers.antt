use Rattle.std.proofs.Common.{◌≡◌, ◌<◌, Bool, true, false, length, sym, ap, ◌∙◌, arith, rules}
use Rattle.block.specs.Bytes.{bytes_of}
use Rattle.block.specs.Value.{value}
use Rattle.aes.specs.Fips197.{decipher, inv_rounds, key_of}
use Rattle.aes.proofs.Turns.{dec_is, inv_rounds_by_keys}
use Rattle.aes.proofs.key_schedule.ScheduleKeySchedule.decrypt.Goals as goal
use Rattle.aes.proofs.key_schedule.ScheduleKeySchedule.decrypt.Goals.{then-LAST, else-LAST}

pub returns : goal.returns
returns g c =
    let k = c.args.self.now in
    let n = c.ROUNDS-2.result in
    let b = value c.args.b in
    let v = g.V.Variant in
    let few : n < 10 = omega (arith, v.few.1) in
    let long : length k.keys ≡ 11 = search rules in
    let full : c.add_round_key.result ≡ inv_rounds k.keys n c.if-LAST.t =
    rw (c.add_round_key.ensures, c.run_inv_rounds-end.ensures) (inv_rounds_by_keys k.keys n c.if-LAST.t (omega arith)) in
    let Is : Bool → Type 0 = λ last. c.add_round_key.result ≡ decipher last n k.keys (bytes_of b) in
    let e : Is c.LAST.result =
    elim c.if-LAST.branch [
      | then-LAST w ↦ let t : Is true = cc in rw w.if-LAST.true t
      | else-LAST w ↦ let t : Is false = cc in rw w.if-LAST.false t
    ] in
    let f = c.from_bytes.ensures ∙ dec_is c.LAST.result n k.keys b c.add_round_key.result k.ok e in
    rw (c.LAST.ensures, c.ROUNDS-2.ensures) at f ∙ ap (λ m. m.dec b) (sym (v.runs (key_of k.keys)))
