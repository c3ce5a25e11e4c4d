-- Rows of lists and of numbers.
use Rattle.std.proofs.Common.{◌≡◌, ℕ, zero, suc, ◌*◌, ◌^◌, ◌<◌, ◌≤◌, List, [], ◌++◌, length, take, drop, sym, refl, ap, ◌∙◌, ⊎_elim, append_assoc, arith, take-append-drop}
use lib.Bits.{bit_xor, xor_comm}
use Rattle.std.proofs.lemmas.List.{append-nil, take_at, drop_at, take-append-le}
use Rattle.std.proofs.lemmas.Bool.{cases_lt}
use Rattle.block.specs.Bytes.{bytes_of, of_bytes}
use Rattle.block.proofs.Bytes.{length_bytes_of, bytes_number_back}
use Rattle.block.proofs.Laws.{xor_cancel}
use Rattle.elmd.specs.Stream.{join_to, sum_to}
use Rattle.elmd.specs.Opening.{block_in}
use Rattle.elmd.specs.Laws.{Begins}

pub xor_cancel_left : (a b : ℕ) → bit_xor a (bit_xor a b) ≡ b
xor_cancel_left a b = xor_comm a (bit_xor a b) ∙ ap (λ (z : ℕ). bit_xor z a) (xor_comm a b) ∙ xor_cancel b a

pub begins_trans : (a b c : List ℕ) → Begins a b → Begins b c → Begins a c
begins_trans a b c (p, e) (q, g) = (p ++ q, sym (append_assoc a p q) ∙ ap (λ (z : List ℕ). z ++ q) e ∙ g)

pub begins_take : (a b : List ℕ) → Begins a b → a ≡ take (length a) b
begins_take a b (r, e) = sym (take_at a r (length a) refl) ∙ ap (take (length a)) e

pub begins_short : (a b c : List ℕ) → Begins a c → Begins b c → length a ≤ length b → Begins a b
begins_short a b c (p, e) (q, g) h =
    let n : ℕ = length a in
    let front : a ≡ take n b = begins_take a c (p, e) ∙ ap (take n) (sym g) ∙ take-append-le n b q h in
    (drop n b, ap (λ (z : List ℕ). z ++ drop n b) front ∙ take-append-drop n b)

pub join_begins : (f : ℕ → List ℕ) (k i : ℕ) → k ≤ i → Begins (join_to f k) (join_to f i)
join_begins f zero zero h = ([], refl)
join_begins f (suc k) zero h = absurd (omega arith)
join_begins f k (suc i) h = ⊎_elim (λ l. begins_trans (join_to f k) (join_to f i) (join_to f (suc i)) (join_begins f k i (omega arith)) (f (suc i), refl)) (λ g. let e : suc i ≡ k = omega arith in ([], append-nil (join_to f k) ∙ ap (join_to f) (sym e))) (cases_lt k (suc i))

pub join_same : (f g : ℕ → List ℕ) (i : ℕ) → ((k : ℕ) → k < i → f (suc k) ≡ g (suc k)) → join_to f i ≡ join_to g i
join_same f g zero h = refl
join_same f g (suc i) h = let a = join_same f g i (λ k l. h k (omega arith)) in let b = h i (omega arith) in cc

pub sum_same : (f g : ℕ → ℕ) (i : ℕ) → ((k : ℕ) → k < i → f (suc k) ≡ g (suc k)) → sum_to f i ≡ sum_to g i
sum_same f g zero h = refl
sum_same f g (suc i) h = let a = sum_same f g i (λ k l. h k (omega arith)) in let b = h i (omega arith) in cc

pub part_at : (a b c : List ℕ) (n : ℕ) → length a ≡ n → length b ≡ 16 → take 16 (drop n (a ++ (b ++ c))) ≡ b
part_at a b c n p q = ap (take 16) (drop_at a (b ++ c) n p) ∙ take_at b c 16 q

pub block_at_lem : (a c : List ℕ) (e v : ℕ) → length a ≡ 16 * e → v < 2 ^ 128 → block_in (a ++ (bytes_of v ++ c)) e ≡ v
unfolding block_in
block_at_lem a c e v p h = ap of_bytes (part_at a (bytes_of v) c (16 * e) p (length_bytes_of v)) ∙ bytes_number_back v h
