-- Rounds and their inverses, and the law that Speck owes as a cipher.
use Rattle.std.specs.Prelude.{◌≡◌, ℕ, zero, suc, ◌+◌, ◌-◌, ◌%◌, ◌^◌, ◌<◌, bit_xor}
use Rattle.std.proofs.Math.Path.{refl, ap}
use Rattle.std.proofs.Common.{sym, ◌∙◌, arith, lit<, lit≤}
use Rattle.std.proofs.lemmas.Nat.{div-mul-add, mod-mul-add, xor_lt}
use Rattle.block.specs.declared.raw.Block.{Block}
use Rattle.block.specs.Value.{value}
use Rattle.block.proofs.Laws.{xor_cancel}
use Rattle.cipher.specs.Meaning.{Lawful}
use Rattle.speck.specs.Speck.{ror, rol, upper, lower, round, unround, rounds, unrounds, key_words, round_key, split, join, encrypted, decrypted, speck, vector_key, vector_plaintext, vector_ciphertext, Published}
use Rattle.speck.specs.Rotate.{ror_lt, rol_lt, rol_ror, ror_rol}

abbrev pub Words : ℕ × ℕ → Type 0
Words s = (s.0 < 2 ^ 64) × (s.1 < 2 ^ 64)

-- the first n keys are words
abbrev pub Below : ℕ → (ℕ → ℕ) → Type 0
Below n k = (i : ℕ) → i < n → k i < 2 ^ 64

upper_lt : (k x y : ℕ) → k < 2 ^ 64 → upper k x y < 2 ^ 64
upper_lt k x y p = xor_lt 64 ((ror 8 x + y) % 2 ^ 64) k (omega arith) p

pub round_words : (k : ℕ) (s : ℕ × ℕ) → k < 2 ^ 64 → Words s → Words (round k s)
round_words k s p (h, l) =
    let u = upper_lt k s.0 s.1 p in
    (u, xor_lt 64 (rol 3 s.1) (upper k s.0 s.1) (rol_lt 3 (lit≤ tt) s.1 l) u)

lower_lt : (x y : ℕ) → x < 2 ^ 64 → y < 2 ^ 64 → lower x y < 2 ^ 64
lower_lt x y p q = ror_lt 3 (lit≤ tt) (bit_xor y x) (xor_lt 64 y x q p)

pub unround_words : (k : ℕ) (s : ℕ × ℕ) → Words s → Words (unround k s)
unround_words k s (h, l) =
    (rol_lt 8 (lit≤ tt) ((bit_xor s.0 k + (2 ^ 64 - lower s.0 s.1)) % 2 ^ 64) (omega arith), lower_lt s.0 s.1 h l)

add_sub : (a y : ℕ) → a < 2 ^ 64 → y < 2 ^ 64 → ((a + y) % 2 ^ 64 + (2 ^ 64 - y)) % 2 ^ 64 ≡ a
add_sub a y p q = omega arith

sub_add : (a y : ℕ) → a < 2 ^ 64 → y < 2 ^ 64 → ((a + (2 ^ 64 - y)) % 2 ^ 64 + y) % 2 ^ 64 ≡ a
sub_add a y p q = omega arith

pub unround_round : (k : ℕ) (s : ℕ × ℕ) → Words s → unround k (round k s) ≡ s
unround_round k s (h, l) =
    rw (xor_cancel (rol 3 s.1) (upper k s.0 s.1), ror_rol 3 (lit≤ tt) s.1 l, xor_cancel ((ror 8 s.0 + s.1) % 2 ^ 64) k, add_sub (ror 8 s.0) s.1 (ror_lt 8 (lit≤ tt) s.0 h) l, rol_ror 8 (lit≤ tt) s.0 h)

pub round_unround : (k : ℕ) (s : ℕ × ℕ) → k < 2 ^ 64 → Words s → round k (unround k s) ≡ s
round_unround k s p (h, l) =
    let z : ℕ = (bit_xor s.0 k + (2 ^ 64 - lower s.0 s.1)) % 2 ^ 64 in
    rw (ror_rol 8 (lit≤ tt) z (omega arith), sub_add (bit_xor s.0 k) (lower s.0 s.1) (xor_lt 64 s.0 k h p) (lower_lt s.0 s.1 h l), xor_cancel s.0 k, rol_ror 3 (lit≤ tt) (bit_xor s.1 s.0) (xor_lt 64 s.1 s.0 l h), xor_cancel s.1 s.0)

module _ (k : ℕ → ℕ) where
  pub rounds_words : (n : ℕ) (s : ℕ × ℕ) → Below n k → Words s → Words (rounds n k s)
  unfolding rounds
  rounds_words zero s q h = h
  rounds_words (suc i) s q h = round_words (k i) (rounds i k s) (q i (omega arith)) (rounds_words i s (λ j p. q j (omega arith)) h)

  pub unrounds_words : (n : ℕ) (s : ℕ × ℕ) → Words s → Words (unrounds n k s)
  unfolding unrounds
  unrounds_words zero s h = h
  unrounds_words (suc i) s h = unrounds_words i (unround (k i) s) (unround_words (k i) s h)

  pub unrounds_rounds : (n : ℕ) (s : ℕ × ℕ) → Below n k → Words s → unrounds n k (rounds n k s) ≡ s
  unfolding unrounds rounds
  unrounds_rounds zero s q h = refl
  unrounds_rounds (suc i) s q h =
      let r : Below i k = λ j p. q j (omega arith) in
      ap (unrounds i k) (unround_round (k i) (rounds i k s) (rounds_words i s r h)) ∙ unrounds_rounds i s r h

  pub rounds_unrounds : (n : ℕ) (s : ℕ × ℕ) → Below n k → Words s → rounds n k (unrounds n k s) ≡ s
  unfolding unrounds rounds
  rounds_unrounds zero s q h = refl
  rounds_unrounds (suc i) s q h =
      let r : Below i k = λ j p. q j (omega arith) in
      ap (round (k i)) (rounds_unrounds i (unround (k i) s) r (unround_words (k i) s h)) ∙ round_unround (k i) s (q i (omega arith)) h

-- the same keys below n, the same rounds
pub rounds_same : (n : ℕ) (k k' : ℕ → ℕ) (s : ℕ × ℕ) → ((i : ℕ) → i < n → k i ≡ k' i) → rounds n k s ≡ rounds n k' s
unfolding rounds
rounds_same zero k k' s e = refl
rounds_same (suc i) k k' s e =
    ap (λ a. round a (rounds i k s)) (e i (omega arith)) ∙ ap (round (k' i)) (rounds_same i k k' s (λ j p. e j (omega arith)))

pub unrounds_same : (n : ℕ) (k k' : ℕ → ℕ) (s : ℕ × ℕ) → ((i : ℕ) → i < n → k i ≡ k' i) → unrounds n k s ≡ unrounds n k' s
unfolding unrounds
unrounds_same zero k k' s e = refl
unrounds_same (suc i) k k' s e =
    ap (λ a. unrounds i k (unround a s)) (e i (omega arith)) ∙ unrounds_same i k k' (unround (k' i) s) (λ j p. e j (omega arith))

pub keys_below : (key : ℕ × ℕ) → Words key → Below 32 (round_key key)
unfolding key_words
keys_below key w i p = (rounds_words (λ j. j) i key (λ j q. omega arith) w).1

pub split_words : (n : ℕ) → n < 2 ^ 128 → Words (split n)
split_words n p = (omega arith, omega arith)

pub join_lt : (s : ℕ × ℕ) → Words s → join s < 2 ^ 128
join_lt s (h, l) = omega arith

pub split_join : (s : ℕ × ℕ) → Words s → split (join s) ≡ s
split_join s (h, l) = rw (div-mul-add s.0 (2 ^ 64) s.1 l, mod-mul-add s.0 (2 ^ 64) s.1 l)

pub join_split : (n : ℕ) → join (split n) ≡ n
join_split n = omega arith

module _ (n : ℕ) (k : ℕ → ℕ) (q : Below n k) (b : ℕ) (h : b < 2 ^ 128) where
  dec_enc : join (unrounds n k (split (join (rounds n k (split b))))) ≡ b
  dec_enc =
      let v = split_words b h in
      rw (split_join (rounds n k (split b)) (rounds_words k n (split b) q v), unrounds_rounds k n (split b) q v) (join_split b)

  enc_dec : join (rounds n k (split (join (unrounds n k (split b))))) ≡ b
  enc_dec =
      let v = split_words b h in
      rw (split_join (unrounds n k (split b)) (unrounds_words k n (split b) v), rounds_unrounds k n (split b) q v) (join_split b)

  enc_lt : join (rounds n k (split b)) < 2 ^ 128
  enc_lt = join_lt (rounds n k (split b)) (rounds_words k n (split b) q (split_words b h))

  dec_lt : join (unrounds n k (split b)) < 2 ^ 128
  dec_lt = join_lt (unrounds n k (split b)) (unrounds_words k n (split b) (split_words b h))

pub speck_lawful : (key : ℕ) → key < 2 ^ 128 → Lawful (speck key)
unfolding encrypted decrypted
speck_lawful key p =
    let k = round_key (split key) in
    let q = keys_below (split key) (split_words key p) in
    record { dec_enc = dec_enc 32 k q; enc_dec = enc_dec 32 k q; enc_lt = enc_lt 32 k q; dec_lt = dec_lt 32 k q; label_lt = lit< tt }

split_value : (b : Block) → split (value b) ≡ (b.hi, b.lo)
unfolding value
split_value b = split_join (b.hi, b.lo) (b.ok.0, b.ok.1)

module _ (key b : Block) (k : ℕ → ℕ) (e : (i : ℕ) → i < 32 → k i ≡ round_key (key.hi, key.lo) i) where
  pub rounds_value : join (rounds 32 k (b.hi, b.lo)) ≡ encrypted (value key) (value b)
  unfolding encrypted
  rounds_value = ap join (rounds_same 32 k _ _ e) ∙ rw (split_value key, split_value b)

  pub unrounds_value : join (unrounds 32 k (b.hi, b.lo)) ≡ decrypted (value key) (value b)
  unfolding decrypted
  unrounds_value = ap join (unrounds_same 32 k _ _ e) ∙ rw (split_value key, split_value b)

-- one round fewer is left to undo
pub unrounds_less : (i : ℕ) (k : ℕ → ℕ) (s : ℕ × ℕ) → 0 < i → unrounds i k s ≡ unrounds (i - 1) k (unround (k (i - 1)) s)
unfolding unrounds
unrounds_less zero k s p = absurd (omega arith)
unrounds_less (suc i) k s p = let e : suc i - 1 ≡ i = omega arith in rw e

pub unrounds_none : (i : ℕ) (k : ℕ → ℕ) (s : ℕ × ℕ) → i ≡ 0 → unrounds i k s ≡ s
unfolding unrounds
unrounds_none i k s e = rw e

pub published : Published
unfolding encrypted rounds key_words
published = refl

pub published_back : decrypted vector_key vector_ciphertext ≡ vector_plaintext
published_back =
    ap (decrypted vector_key) (sym published) ∙ (speck_lawful vector_key (lit< tt)).dec_enc vector_plaintext (lit< tt)
