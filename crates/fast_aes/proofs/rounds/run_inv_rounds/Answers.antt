use Rattle.std.proofs.Common.{◌≡◌, [], ◌∷◌, ◌++◌, reverse, sym, ap, ◌∙◌, rules}
use Rattle.std.specs.List.{fold}
use Rattle.std.proofs.lemmas.List.{reverse-append}
use Rattle.fast_aes.specs.Words.{inv_turn, spread}
use Rattle.fast_aes.proofs.Turning.{inv_turn_is}
use Rattle.fast_aes.proofs.rounds.run_inv_rounds.Goals as goal

pub loop-k-preserved : goal.loop-k-preserved
loop-k-preserved c =
    let l = c.loop-k in
    let k = c.in-Some.k.now in
    let left = c.next.new.self.iter.rest.now in
    let s = spread (l.a ∷ l.b ∷ l.c ∷ l.d ∷ []) in
    let turned = inv_turn_is k l.a l.b l.c l.d _ _ _ _ c.mixed-e.ensures c.mixed-f.ensures c.mixed-g.ensures c.mixed-h.ensures in
    let next : l.k-iterator.iter.rest.now ≡ left ++ k ∷ [] = search rules in
    ap (λ z. fold (λ s k. inv_turn (spread k) s) z (reverse left)) turned
    ∙ ap (fold (λ s k. inv_turn (spread k) s) s) (sym (reverse-append left (k ∷ [])) ∙ ap reverse (sym next)) ∙ l.invariant
