use Rattle.std.proofs.Common.{◌≡◌, Bool, true, false, sym, ap, ◌∙◌}
use Rattle.block.specs.Bytes.{bytes_of}
use Rattle.block.specs.Value.{value}
use Rattle.aes.specs.Fips197.{decipher}
use Rattle.aes.proofs.Turns.{dec_is}
use Rattle.fast_aes.specs.Words.{key_in, spread, spreads}
use Rattle.fast_aes.proofs.Keying.{from_last, from_full}
use Rattle.fast_aes.proofs.schedule.ScheduleKeySchedule.decrypt.Goals as goal
use Rattle.fast_aes.proofs.schedule.ScheduleKeySchedule.decrypt.Goals.{then-LAST, else-LAST}

pub returns : goal.returns
returns g c =
    let k = c.args.self.now in
    let ks = k.keys in
    let v = g.V.Variant in
    let n = v.ROUNDS in
    let b = value c.args.b in
    let Is : Bool → Type 0 = λ last. spread c.if-LAST.out ≡ decipher last n (spreads ks) (bytes_of b) in
    let e : Is c.LAST.result =
    elim c.if-LAST.branch [
      | then-LAST w ↦
          let t : spread w.finish-out.result ≡ decipher true n (spreads ks) (bytes_of b) =
          from_last ks n v.few.1 (bytes_of b) _ _ c.split-s.ensures _ (rw w.ROUNDS-then-LAST.ensures at w.add_key.ensures) (rw w.ROUNDS.ensures at w.finish-out.ensures) in
          rw (w.if-LAST.true, w.out-is) t
      | else-LAST w ↦
          let t : spread w.finish-out-else-LAST.result ≡ decipher false n (spreads ks) (bytes_of b) =
          from_full ks n v.few.1 (bytes_of b) _ _ c.split-s.ensures _ _ v.few.0 (rw w.ROUNDS-else-LAST-2.ensures at w.add_key-else-LAST.ensures) w.unmix.ensures
          (rw w.ROUNDS-else-LAST.ensures at w.finish-out-else-LAST.ensures) in
          rw (w.if-LAST.false, w.out-is) t
    ] in
    let f = c.join.ensures ∙ dec_is c.LAST.result n (spreads ks) b (spread c.if-LAST.out) k.expanded e in
    rw c.LAST.ensures at f ∙ ap (λ m. m.dec b) (sym (v.runs (key_in ks)))
