use Rattle.std.proofs.Common.{◌≡◌, ◌*◌, take, drop}
use Rattle.exports.specs.Exports.{turned, each_block}
use Rattle.exports.proofs.turn_all.Given as goal

abbrev pub invariant-loop-i : goal.invariant-loop-i
invariant-loop-i g l =
    let m = g.C.Cipher.meaning in
    (m l.c ≡ m l.initial.c)
    × (take (16 * l.i) l.bytes ≡ each_block (turned (m l.initial.c) l.forth) l.initial.bytes l.i)
    × (drop (16 * l.i) l.bytes ≡ drop (16 * l.i) l.initial.bytes)
