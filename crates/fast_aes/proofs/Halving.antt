-- The two halves of a block and the four words of a state.
use Rattle.std.proofs.Common.{◌≡◌, ℕ, ◌+◌, ◌*◌, ◌/◌, ◌%◌, ◌^◌, ◌<◌, List, [], ◌∷◌, ◌++◌, get_or, sym, refl, ap, ◌∙◌, ap₂, arith}
use lib.Bits.{bit_or, or_shifted}
use Rattle.block.specs.Bytes.{of_bytes, bytes_by, bytes_of}
use Rattle.block.proofs.Bytes.{bytes_halves, bytes_number_back}
use Rattle.fast_aes.specs.Words.{byte, bytes4, spread}

-- eight bytes
half : (h : ℕ) → bytes4 (h / 2 ^ 32) ++ bytes4 (h % 2 ^ 32) ≡ bytes_by 8 h
unfolding byte
half h =
    let a : h / 2 ^ 32 / 2 ^ 24 % 256 ≡ h / 2 ^ 56 % 256 = omega arith in
    let b : h / 2 ^ 32 / 2 ^ 16 % 256 ≡ h / 2 ^ 48 % 256 = omega arith in
    let c : h / 2 ^ 32 / 2 ^ 8 % 256 ≡ h / 2 ^ 40 % 256 = omega arith in
    let d : h / 2 ^ 32 / 1 % 256 ≡ h / 2 ^ 32 % 256 = omega arith in
    let e : h % 2 ^ 32 / 2 ^ 24 % 256 ≡ h / 2 ^ 24 % 256 = omega arith in
    let f : h % 2 ^ 32 / 2 ^ 16 % 256 ≡ h / 2 ^ 16 % 256 = omega arith in
    let g : h % 2 ^ 32 / 2 ^ 8 % 256 ≡ h / 2 ^ 8 % 256 = omega arith in
    let i : h % 2 ^ 32 / 1 % 256 ≡ h / 1 % 256 = omega arith in
    ap₂ ◌∷◌ a (ap₂ ◌∷◌ b (ap₂ ◌∷◌ c (ap₂ ◌∷◌ d (ap₂ ◌∷◌ e (ap₂ ◌∷◌ f (ap₂ ◌∷◌ g (ap₂ ◌∷◌ i refl)))))))

pub split_is : (h l : ℕ) → l < 2 ^ 64 → spread (h / 2 ^ 32 ∷ h % 2 ^ 32 ∷ l / 2 ^ 32 ∷ l % 2 ^ 32 ∷ []) ≡ bytes_of (h * 2 ^ 64 + l)
unfolding spread
split_is h l p = ap₂ ◌++◌ (half h) (half l) ∙ bytes_halves h l p

pub join_is : (s : List ℕ) (h l : ℕ) → h ≡ get_or s 0 0 * 2 ^ 32 + get_or s 1 0 → l ≡ get_or s 2 0 * 2 ^ 32 + get_or s 3 0
    → get_or s 0 0 < 2 ^ 32 → get_or s 1 0 < 2 ^ 32 → get_or s 2 0 < 2 ^ 32 → get_or s 3 0 < 2 ^ 32
    → h * 2 ^ 64 + l ≡ of_bytes (spread s)
unfolding spread
join_is s h l p q ha hb hc hd =
    let a : h / 2 ^ 32 ≡ get_or s 0 0 = omega arith in
    let b : h % 2 ^ 32 ≡ get_or s 1 0 = omega arith in
    let c : l / 2 ^ 32 ≡ get_or s 2 0 = omega arith in
    let d : l % 2 ^ 32 ≡ get_or s 3 0 = omega arith in
    let small : l < 2 ^ 64 = omega arith in
    let all : h * 2 ^ 64 + l < 2 ^ 128 = omega arith in
    let same : (h / 2 ^ 32 ∷ h % 2 ^ 32 ∷ l / 2 ^ 32 ∷ l % 2 ^ 32 ∷ []) ≡ get_or s 0 0 ∷ get_or s 1 0 ∷ get_or s 2 0 ∷ get_or s 3 0 ∷ [] =
    ap₂ ◌∷◌ a (ap₂ ◌∷◌ b (ap₂ ◌∷◌ c (ap₂ ◌∷◌ d refl))) in
    sym (ap of_bytes (sym (ap spread same) ∙ split_is h l small) ∙ bytes_number_back (h * 2 ^ 64 + l) all)

pub high_low : (a b : ℕ) → a < 2 ^ 32 → b < 2 ^ 32 → bit_or (a * 2 ^ 32 % 2 ^ 64) b ≡ a * 2 ^ 32 + b
high_low a b p q = let e : a * 2 ^ 32 % 2 ^ 64 ≡ a * 2 ^ 32 = omega arith in rw e (or_shifted a 32 b q)
