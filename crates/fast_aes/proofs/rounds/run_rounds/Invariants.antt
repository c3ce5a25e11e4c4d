use Rattle.std.proofs.Common.{◌≡◌, [], ◌∷◌, take}
use Rattle.std.specs.List.{fold}
use Rattle.aes.specs.Fips197.{round}
use Rattle.fast_aes.specs.Words.{spread}
use Rattle.fast_aes.proofs.rounds.run_rounds.Given as goal

abbrev pub invariant-loop-k : goal.invariant-loop-k
invariant-loop-k l =
    spread (l.a ∷ l.b ∷ l.c ∷ l.d ∷ [])
    ≡ fold (λ s k. round (spread k) s) (spread (l.initial.a ∷ l.initial.b ∷ l.initial.c ∷ l.initial.d ∷ [])) (take l.k-index l.keys)
