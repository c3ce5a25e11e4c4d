-- The worked examples of FIPS 197, appendices B and C.1: key, plaintext, ciphertext.
use Rattle.std.specs.Prelude.{◌≡◌, ℕ, List, [], ◌∷◌}
use Rattle.std.specs.List.{AllByRecursion}
use Rattle.cipher.specs.Meaning.{Meaning}

abbrev pub Vector : Type 0
Vector = ℕ × ℕ × ℕ

abbrev pub vectors10 : List Vector
vectors10 =
    (0x2b7e151628aed2a6abf7158809cf4f3c, 0x3243f6a8885a308d313198a2e0370734, 0x3925841d02dc09fbdc118597196a0b32)
    ∷ (0x000102030405060708090a0b0c0d0e0f, 0x00112233445566778899aabbccddeeff, 0x69c4e0d86a7b0430d8cdb78070b4c55a) ∷ []

-- the state at the start of round 7 is what six full rounds give
abbrev pub vectors6 : List Vector
vectors6 =
    (0x2b7e151628aed2a6abf7158809cf4f3c, 0x3243f6a8885a308d313198a2e0370734, 0x260e2e173d41b77de86472a9fdd28b25)
    ∷ (0x000102030405060708090a0b0c0d0e0f, 0x00112233445566778899aabbccddeeff, 0xc62fe109f75eedc3cc79395d84f9cf5d) ∷ []

-- a cipher does each both ways
abbrev pub Meets : (ℕ → Meaning) → List Vector → Type 0
Meets c vs = AllByRecursion (λ v. ((c v.0).enc v.1 ≡ v.2) × ((c v.0).dec v.2 ≡ v.1)) vs
