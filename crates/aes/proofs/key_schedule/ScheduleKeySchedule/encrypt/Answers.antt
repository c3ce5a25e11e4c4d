use Rattle.std.proofs.Common.{◌≡◌, ◌<◌, Bool, true, false, length, sym, ap, ◌∙◌, arith, rules}
use Rattle.block.specs.Bytes.{bytes_of}
use Rattle.block.specs.Value.{value}
use Rattle.aes.specs.Fips197.{encipher, rounds, key_of}
use Rattle.aes.proofs.Turns.{enc_is, rounds_by_keys}
use Rattle.aes.proofs.key_schedule.ScheduleKeySchedule.encrypt.Goals as goal
use Rattle.aes.proofs.key_schedule.ScheduleKeySchedule.encrypt.Goals.{then-LAST, else-LAST}

pub returns : goal.returns
returns g c =
    let k = c.args.self.now in
    let n = c.ROUNDS.result in
    let b = value c.args.b in
    let v = g.V.Variant in
    let few : n < 10 = omega (arith, v.few.1) in
    let long : length k.keys ≡ 11 = search rules in
    let full : c.run_rounds-s.result ≡ rounds k.keys n (bytes_of b) = rw (c.run_rounds-s.ensures, c.add_round_key-start.ensures, c.to_bytes.ensures) (rounds_by_keys k.keys n (bytes_of b) (omega arith)) in
    let Is : Bool → Type 0 = λ last. c.if-LAST.out ≡ encipher last n k.keys (bytes_of b) in
    let e : Is c.LAST.result =
    elim c.if-LAST.branch [
      | then-LAST w ↦ let t : Is true = cc in rw w.if-LAST.true t
      | else-LAST w ↦ let t : Is false = cc in rw w.if-LAST.false t
    ] in
    let f = c.from_bytes.ensures ∙ enc_is c.LAST.result n k.keys b c.if-LAST.out k.ok e in
    rw (c.LAST.ensures, c.ROUNDS.ensures) at f ∙ ap (λ m. m.enc b) (sym (v.runs (key_of k.keys)))
