-- The cipher that a label names, under a key.
use Rattle.std.specs.Prelude.{ℕ, cond, Some, None, Option, ◌==◌}
use Rattle.cipher.specs.Meaning.{Meaning, paper}
use Rattle.aes.specs.Fips197.{aes10, aes6}
use Rattle.speck.specs.Speck.{speck}

abbrev pub cipher_of : (label key : ℕ) → Option Meaning
cipher_of label k =
    cond (label == 10) (Some (aes10 k))
    (cond (label == 6) (Some (aes6 k))
    (cond (label == 32) (Some (speck k))
    (cond (label == 255) (Some (paper k)) None)))
