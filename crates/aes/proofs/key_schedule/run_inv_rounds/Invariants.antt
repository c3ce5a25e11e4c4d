use Rattle.std.proofs.Common.{◌≡◌, reverse}
use Rattle.std.specs.List.{fold}
use Rattle.aes.specs.Fips197.{inv_round}
use Rattle.aes.proofs.key_schedule.run_inv_rounds.Given as goal

abbrev pub invariant-loop-k : goal.invariant-loop-k
invariant-loop-k l =
    fold (λ s k. inv_round k s) l.s (reverse l.k-iterator.iter.rest.now) ≡ fold (λ s k. inv_round k s) l.initial.s (reverse l.keys)
