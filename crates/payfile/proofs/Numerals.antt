-- Decimal digits.
use Rattle.std.proofs.Common.{◌≡◌, ℕ, ◌+◌, ◌/◌, ◌%◌, ◌^◌, ◌<◌, ◌≤◌, [], ◌∷◌, ◌++◌, map, length, refl, ap, ◌∙◌, arith}
use Rattle.std.specs.Int.Digits.{digits_of}
use Rattle.std.proofs.lemmas.List.{map_push, length_push, length-map}
use Rattle.std.proofs.lemmas.Int.Digits.{digits_of_step, length-digits_of-le}
use Rattle.payfile.specs.Layout.{digits}

pub digits_none : digits 0 ≡ []
unfolding digits
digits_none = refl

pub digits_step : (n : ℕ) → 0 < n → digits n ≡ digits (n / 10) ++ (48 + n % 10) ∷ []
unfolding digits
digits_step n h = ap (map (λ d. 48 + d)) (digits_of_step 10 n (omega arith) h) ∙ map_push (λ d. 48 + d) (digits_of 10 (n / 10)) (n % 10)

pub length_step : (n : ℕ) → 0 < n → length (digits n) ≡ length (digits (n / 10)) + 1
length_step n h = ap length (digits_step n h) ∙ length_push (digits (n / 10)) (48 + n % 10)

pub length_most : (k n : ℕ) → n < 10 ^ k → length (digits n) ≤ k
unfolding digits
length_most k n h = rw length-map (length-digits_of-le 10 k n (omega arith) h)
