-- The bytes of a number and the number of bytes.
use Rattle.std.proofs.Common.{◌≡◌, ℕ, zero, suc, ◌+◌, ◌*◌, ◌/◌, ◌%◌, ◌^◌, ◌<◌, List, [], ◌∷◌, ◌++◌, length, get_or, drop, sym, refl, ap, ◌∙◌, mul_assoc, add_comm, add-one, arith, pow_pos, pow-add}
use Rattle.std.proofs.lemmas.List.{drop_all, drop_more}
use lib.Arith.{digits_div, digits_lt}
use Rattle.std.proofs.lemmas.Nat.{mod-pow-add, shr-shr, shr_high}
use Rattle.block.specs.Bytes.{of_bytes, bytes_by, bytes_of, BytesBack, NumberBack}
use Rattle.std.specs.List.{AllByRecursion}
use native.Mathlib.Nat.{add-mul-div_right}

pub length_bytes_by : (k n : ℕ) → length (bytes_by k n) ≡ k
length_bytes_by zero n = refl
length_bytes_by (suc k) n = ap suc (length_bytes_by k n)

more : (k : ℕ) → 8 * suc k ≡ 8 + 8 * k
more k = omega arith

pub number_bytes_by : (k n : ℕ) → of_bytes (bytes_by k n) ≡ n % 2 ^ (8 * k)
number_bytes_by zero n = omega arith
number_bytes_by (suc k) n = rw (length_bytes_by k n, number_bytes_by k n, more k, mod-pow-add n 8 (8 * k))

pub bytes_number_back : BytesBack
unfolding bytes_of
bytes_number_back n p = number_bytes_by 16 n ∙ omega arith

-- bytes see only the places below them
low_bytes : (k q n : ℕ) → bytes_by k (q * 2 ^ (8 * k) + n) ≡ bytes_by k n
low_bytes zero q n = refl
low_bytes (suc k) q n =
    let w : ℕ = 2 ^ (8 * k) in
    let wide : 2 ^ (8 * suc k) ≡ 256 * w = rw (more k) (pow-add 2 8 (8 * k)) in
    let e : q * 2 ^ (8 * suc k) + n ≡ (q * 256) * w + n = rw wide (ap (λ (m : ℕ). m + n) (sym (mul_assoc q 256 w))) in
    let head : ((q * 256) * w + n) / w ≡ q * 256 + n / w =
    ap (λ (m : ℕ). m / w) (add_comm ((q * 256) * w) n) ∙ add-mul-div_right n (q * 256) (pow_pos (8 * k)) ∙ add_comm (n / w) (q * 256) in
    rw (e, low_bytes k (q * 256) n, head) (ap (λ (m : ℕ). m ∷ bytes_by k n) (omega arith))

pub of_bytes_lt : (xs : List ℕ) → AllByRecursion (λ x. x < 256) xs → of_bytes xs < 2 ^ (8 * length xs)
of_bytes_lt [] h = omega arith
of_bytes_lt (x ∷ xs) (p, h) = rw (more (length xs), pow-add 2 8 (8 * length xs)) (digits_lt p (of_bytes_lt xs h))

pub bytes_by_of_bytes : (xs : List ℕ) → AllByRecursion (λ x. x < 256) xs → bytes_by (length xs) (of_bytes xs) ≡ xs
bytes_by_of_bytes [] h = refl
bytes_by_of_bytes (x ∷ xs) (p, h) =
    rw (digits_div x (of_bytes_lt xs h), low_bytes (length xs) x (of_bytes xs), bytes_by_of_bytes xs h) (ap (λ (m : ℕ). m ∷ xs) (omega arith))

pub number_back : NumberBack
unfolding bytes_of
number_back xs e h = rw e at (bytes_by_of_bytes xs h)

-- the upper eight bytes of two halves
upper : (h l j : ℕ) → l < 2 ^ 64 → (h * 2 ^ 64 + l) / 2 ^ (64 + j) ≡ h / 2 ^ j
upper h l j p = sym (shr-shr (h * 2 ^ 64 + l) 64 j) ∙ rw (shr_high h 64 l p)

pub bytes_halves : (h l : ℕ) → l < 2 ^ 64 → bytes_by 8 h ++ bytes_by 8 l ≡ bytes_of (h * 2 ^ 64 + l)
unfolding bytes_of
bytes_halves h l p =
    rw (upper h l 56 p, upper h l 48 p, upper h l 40 p, upper h l 32 p, upper h l 24 p, upper h l 16 p, upper h l 8 p, upper h l 0 p, low_bytes 8 h l)

-- a list written out by its places
abbrev listed : ℕ → ℕ → List ℕ → List ℕ
listed zero i xs = []
listed (suc k) i xs = get_or xs i 0 ∷ listed k (suc i) xs

pub listed_is : (k i : ℕ) (xs : List ℕ) → i + k ≡ length xs → drop i xs ≡ listed k i xs
listed_is zero i xs e = drop_all i xs (omega arith)
listed_is (suc k) i xs e = drop_more xs i 0 (omega arith) ∙ rw add-one (ap (λ (ys : List ℕ). get_or xs i 0 ∷ ys) (listed_is k (suc i) xs (omega arith)))

pub of_bytes_listed : (xs : List ℕ) → length xs ≡ 16 → of_bytes xs ≡ of_bytes (listed 16 0 xs)
of_bytes_listed xs e = ap of_bytes (listed_is 16 0 xs (omega arith))

pub length_bytes_of : (n : ℕ) → length (bytes_of n) ≡ 16
unfolding bytes_of
length_bytes_of n = length_bytes_by 16 n
