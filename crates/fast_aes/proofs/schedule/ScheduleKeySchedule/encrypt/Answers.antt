use Rattle.std.proofs.Common.{◌≡◌, ◌+◌, ◌<◌, Bool, true, false, length, sym, ap, ◌∙◌, arith, rules}
use Rattle.block.specs.Bytes.{bytes_of}
use Rattle.block.specs.Value.{value}
use Rattle.aes.specs.Fips197.{encipher, rounds}
use Rattle.aes.proofs.Turns.{enc_is}
use Rattle.fast_aes.specs.Words.{key_in, spread, spreads}
use Rattle.fast_aes.proofs.Keying.{rounds_by_words}
use Rattle.fast_aes.proofs.Turning.{spreads_at}
use Rattle.fast_aes.proofs.schedule.ScheduleKeySchedule.encrypt.Goals as goal
use Rattle.fast_aes.proofs.schedule.ScheduleKeySchedule.encrypt.Goals.{then-LAST, else-LAST}

pub returns : goal.returns
returns g c =
    let k = c.args.self.now in
    let ks = spreads k.keys in
    let n = c.ROUNDS.result in
    let b = value c.args.b in
    let v = g.V.Variant in
    let few : n < 10 = omega (arith, v.few.1) in
    let long : length k.keys ≡ 11 = search rules in
    let full : spread c.run_rounds-s.result ≡ rounds ks n (bytes_of b) =
    rw (c.run_rounds-s.ensures, c.add_key-start.ensures, c.split.ensures) (rounds_by_words k.keys long n (bytes_of b) (omega arith) _ (search rules)) in
    let Is : Bool → Type 0 = λ last. spread c.if-LAST.out ≡ encipher last n ks (bytes_of b) in
    let e : Is c.LAST.result =
    elim c.if-LAST.branch [
      | then-LAST w ↦
          let key = spreads_at k.keys (n + 1) (omega arith) in
          let t : Is true = cc in
          rw w.if-LAST.true t
      | else-LAST w ↦ let t : Is false = cc in rw w.if-LAST.false t
    ] in
    let f = c.join.ensures ∙ enc_is c.LAST.result n ks b (spread c.if-LAST.out) k.expanded e in
    rw (c.LAST.ensures, c.ROUNDS.ensures) at f ∙ ap (λ m. m.enc b) (sym (v.runs (key_in k.keys)))
