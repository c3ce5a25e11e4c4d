use Rattle.std.proofs.Common.{refl, arith}
use Rattle.fast_aes.proofs.Keying.{unmixing_more, unmixes_are}
use Rattle.fast_aes.proofs.schedule.unmix_all.Goals as goal

pub loop-i-init : goal.loop-i-init
loop-i-init c = (refl, λ k h. absurd (omega arith))

pub loop-i-preserved : goal.loop-i-preserved
loop-i-preserved c = unmixing_more c.args.keys.now c.loop-i.inv_key-items c.loop-i.i _ c.loop-i-test.true c.unmix.ensures c.loop-i.invariant

pub returns : goal.returns
returns c = unmixes_are c.args.keys.now c.loop-i.inv_key-items (λ k h. c.loop-i.invariant.1 k (let t = c.loop-i-test.false in omega arith))
