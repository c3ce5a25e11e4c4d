use Rattle.std.proofs.Common.{◌≡◌, [], ◌∷◌, reverse}
use Rattle.std.specs.List.{fold}
use Rattle.fast_aes.specs.Words.{inv_turn, spread}
use Rattle.fast_aes.proofs.rounds.run_inv_rounds.Given as goal

abbrev pub invariant-loop-k : goal.invariant-loop-k
invariant-loop-k l =
    fold (λ s k. inv_turn (spread k) s) (spread (l.a ∷ l.b ∷ l.c ∷ l.d ∷ [])) (reverse l.k-iterator.iter.rest.now)
    ≡ fold (λ s k. inv_turn (spread k) s) (spread (l.initial.a ∷ l.initial.b ∷ l.initial.c ∷ l.initial.d ∷ [])) (reverse l.keys)
