-- Digits of bytes, both ways.
use Rattle.std.proofs.Common.{◌≡◌, ℕ, zero, suc, ◌+◌, ◌*◌, ◌/◌, ◌%◌, ◌<◌, ◌≤◌, List, [], ◌∷◌, ◌++◌, length, get_or, take, drop, Some, None, Option, sym, refl, ap, ◌∙◌, append_assoc, arith}
use native.Mathlib.Nat.{div-add-mod}
use Rattle.std.proofs.lemmas.List.{drop_more, drop_all, append-nil, take_more}
use Rattle.std.proofs.lemmas.Bool.Decides.{nat_tests}
use Rattle.std.specs.Simd.{first_chunks}
use Rattle.console.specs.Hex.{digit_value, pair_value, before, from_hex, hex_digit, to_hex, HexBack}

-- what was read, before what is still to be read
abbrev pub behind : List ℕ → Option (List ℕ) → Option (List ℕ)
behind p None = None
behind p (Some q) = Some (p ++ q)

pub behind_nil : (o : Option (List ℕ)) → behind [] o ≡ o
behind_nil None = refl
behind_nil (Some q) = refl

pub behind_one : (p : List ℕ) (b : ℕ) (o : Option (List ℕ)) → behind p (before (Some b) o) ≡ behind (p ++ b ∷ []) o
behind_one p b None = refl
behind_one p b (Some q) = ap Some (sym (append_assoc p (b ∷ []) q))

-- the bytes of pairs of digits
abbrev pub of_pairs : List (List ℕ) → Option (List ℕ)
of_pairs [] = Some []
of_pairs (p ∷ ps) = before (pair_value (digit_value (get_or p 0 0)) (digit_value (get_or p 1 0))) (of_pairs ps)

pub from_hex_pairs : (k : ℕ) (xs : List ℕ) → length xs ≡ k * 2 → from_hex xs ≡ of_pairs (first_chunks 2 k xs)
from_hex_pairs zero [] h = refl
from_hex_pairs zero (x ∷ xs) h = absurd (omega arith)
from_hex_pairs (suc k) [] h = absurd (omega arith)
from_hex_pairs (suc k) (x ∷ []) h = absurd (omega arith)
from_hex_pairs (suc k) (x ∷ y ∷ xs) h =
    ap (before (pair_value (digit_value x) (digit_value y))) (from_hex_pairs k xs (omega arith))

before_none : (o : Option ℕ) → before o None ≡ None
before_none None = refl
before_none (Some b) = refl

pub from_hex_odd : (xs : List ℕ) → length xs % 2 ≡ 1 → from_hex xs ≡ None
from_hex_odd [] h = absurd (omega arith)
from_hex_odd (x ∷ []) h = refl
from_hex_odd (x ∷ y ∷ xs) h =
    let p = pair_value (digit_value x) (digit_value y) in
    ap (before p) (from_hex_odd xs (omega arith)) ∙ before_none p

pub hex_step : (p : List ℕ) (ps : List (List ℕ)) (i b : ℕ) → i < length ps
    → Some b ≡ pair_value (digit_value (get_or (get_or ps i []) 0 0)) (digit_value (get_or (get_or ps i []) 1 0))
    → behind p (of_pairs (drop i ps)) ≡ behind (p ++ b ∷ []) (of_pairs (drop (i + 1) ps))
hex_step p ps i b h e =
    ap (λ l. behind p (of_pairs l)) (drop_more ps i [] h)
    ∙ ap (λ o. behind p (before o (of_pairs (drop (i + 1) ps)))) (sym e)
    ∙ behind_one p b (of_pairs (drop (i + 1) ps))

pub hex_bad : (p : List ℕ) (ps : List (List ℕ)) (i : ℕ) → i < length ps
    → None ≡ pair_value (digit_value (get_or (get_or ps i []) 0 0)) (digit_value (get_or (get_or ps i []) 1 0))
    → None ≡ behind p (of_pairs (drop i ps))
hex_bad p ps i h e =
    sym (ap (λ l. behind p (of_pairs l)) (drop_more ps i [] h)
    ∙ ap (λ o. behind p (before o (of_pairs (drop (i + 1) ps)))) (sym e))

pub hex_end : (p : List ℕ) (ps : List (List ℕ)) (i : ℕ) → length ps ≤ i → Some p ≡ behind p (of_pairs (drop i ps))
hex_end p ps i h = sym (ap (λ q. behind p (of_pairs q)) (drop_all i ps h) ∙ ap Some (append-nil p))

pub digit_back : (n : ℕ) → n < 16 → digit_value (hex_digit n) ≡ Some n
digit_back n h = grind (arith, nat_tests)

pub hex_back : HexBack
hex_back [] h = refl
hex_back (b ∷ bs) h =
    let small = h.0 in
    let p : b / 16 < 16 = omega arith in
    let q : b % 16 < 16 = omega arith in
    let d = digit_back (b / 16) p in
    let e = digit_back (b % 16) q in
    let r = hex_back bs h.1 in
    let f = div-add-mod b 16 in
    cc

pub to_hex_append : (xs ys : List ℕ) → to_hex (xs ++ ys) ≡ to_hex xs ++ to_hex ys
to_hex_append [] ys = refl
to_hex_append (x ∷ xs) ys = ap (λ r. hex_digit (x / 16) ∷ hex_digit (x % 16) ∷ r) (to_hex_append xs ys)

-- two more digits behind the digits of the first i bytes
pub hex_more : (old bytes : List ℕ) (i : ℕ) → i < length bytes
    → old ++ to_hex (take (i + 1) bytes)
    ≡ ((old ++ to_hex (take i bytes)) ++ hex_digit (get_or bytes i 0 / 16) ∷ []) ++ hex_digit (get_or bytes i 0 % 16) ∷ []
hex_more old bytes i h =
    ap (λ q. old ++ to_hex q) (take_more bytes i 0 h)
    ∙ ap (λ q. old ++ q) (to_hex_append (take i bytes) (get_or bytes i 0 ∷ []))
    ∙ simp append_assoc
