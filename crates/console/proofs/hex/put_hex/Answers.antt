use Rattle.std.proofs.Common.{◌<◌, length, vec_items, arith}
use Rattle.console.proofs.Hexes.{hex_more}
use Rattle.console.proofs.hex.put_hex.Goals as goal

pub loop-b-preserved : goal.loop-b-preserved
loop-b-preserved c =
    let l : c.loop-b.b-index < length c.args.bytes.now = omega arith in
    let m = hex_more (vec_items c.args.out.now) c.args.bytes.now c.loop-b.b-index l in
    let a = c.in_ok-push.ensures.items in
    let b = c.in_ok-push-2.ensures.items in
    cc
