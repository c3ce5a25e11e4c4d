use Rattle.std.proofs.Common.{◌∷◌, map, refl, ap, ◌∙◌}
use Rattle.std.proofs.lemmas.List.{append-nil}
use Rattle.aes.proofs.Turns.{keys_none, keys_more, keys_all}
use Rattle.aes.proofs.expansion.expand.Goals as goal

pub loop-i-init : goal.loop-i-init
loop-i-init g c = keys_none g.E.Expansion.bytes (g.E.Expansion.bytes c.args.key) _ c.args.key refl

pub loop-i-preserved : goal.loop-i-preserved
loop-i-preserved g c =
    let l = c.loop-i in
    keys_more g.E.Expansion.bytes (g.E.Expansion.bytes c.args.key) l.next-items l.k c.next_key-k.result l.i c.loop-i-test.true l.auto.next-items c.next_key-k.ensures l.invariant

pub returns : goal.returns
returns g c =
    let bytes = g.E.Expansion.bytes in
    let key = c.args.key in
    let l = c.loop-i in
    ap (λ ks. map bytes (key ∷ ks)) (append-nil l.next-items)
    ∙ keys_all bytes (bytes key) l.next-items l.k key l.i c.loop-i-test.false l.auto.next-items refl l.invariant
