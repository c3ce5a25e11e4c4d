use Rattle.std.proofs.Common.{[], ◌∷◌, get_or, take, sym, ap, ◌∙◌, arith}
use Rattle.std.proofs.lemmas.List.{take_more}
use Rattle.std.proofs.lemmas.List.Sums.{fold_push}
use Rattle.aes.specs.Fips197.{round}
use Rattle.fast_aes.specs.Words.{spread}
use Rattle.fast_aes.proofs.Turning.{round_is}
use Rattle.fast_aes.proofs.rounds.run_rounds.Goals as goal

pub loop-k-preserved : goal.loop-k-preserved
loop-k-preserved c =
    let l = c.loop-k in
    let ks = c.args.keys.now in
    let s = c.args.start in
    let k = get_or ks l.k-index [] in
    let turned = round_is k l.a l.b l.c l.d _ _ _ _ c.mixed-e.ensures c.mixed-f.ensures c.mixed-g.ensures c.mixed-h.ensures in
    let pushed = fold_push (λ s k. round (spread k) s) (spread (get_or s 0 0 ∷ get_or s 1 0 ∷ get_or s 2 0 ∷ get_or s 3 0 ∷ [])) (take l.k-index ks) k in
    rw (take_more ks l.k-index [] (omega arith)) (turned ∙ ap (round (spread k)) l.invariant ∙ sym pushed)
