-- Rounds as a fold over the round keys, and undone as a fold from the last.
use Rattle.std.proofs.Common.{◌≡◌, ℕ, zero, suc, ◌≤◌, List, length, get_or, take, reverse, refl, ap, arith}
use Rattle.std.proofs.Math.Seq.{take-suc}
use Rattle.std.specs.List.{fold}
use Rattle.std.proofs.lemmas.List.{take_all, reverse-append}
use Rattle.std.proofs.lemmas.List.Sums.{fold_push}
use Rattle.speck.specs.Speck.{round, unround, rounds, unrounds}

module _ (keys : List ℕ) where
  first : (n : ℕ) (s : ℕ × ℕ) → n ≤ length keys → fold (λ w k. round k w) s (take n keys) ≡ rounds n (λ i. get_or keys i 0) s
  unfolding rounds
  first zero s h = refl
  first (suc n) s h =
      rw (take-suc keys n 0 h, fold_push) (ap (round (get_or keys n 0)) (first n s (omega arith)))

  first_back : (n : ℕ) (s : ℕ × ℕ) → n ≤ length keys → fold (λ w k. unround k w) s (reverse (take n keys)) ≡ unrounds n (λ i. get_or keys i 0) s
  unfolding unrounds
  first_back zero s h = refl
  first_back (suc n) s h =
      rw (take-suc keys n 0 h, reverse-append) (first_back n (unround (get_or keys n 0) s) (omega arith))

  pub rounds_folded : (s : ℕ × ℕ) → length keys ≡ 32 → fold (λ w k. round k w) s keys ≡ rounds 32 (λ i. get_or keys i 0) s
  rounds_folded s h = rw (take_all 32 keys (omega arith)) at (first 32 s (omega arith))

  pub unrounds_folded : (s : ℕ × ℕ) → length keys ≡ 32 → fold (λ w k. unround k w) s (reverse keys) ≡ unrounds 32 (λ i. get_or keys i 0) s
  unrounds_folded s h = rw (take_all 32 keys (omega arith)) at (first_back 32 s (omega arith))
