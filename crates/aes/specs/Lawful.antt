-- AES keeps the laws of a cipher, whatever the number of rounds and under every key.
use Rattle.std.specs.Prelude.{◌≡◌, ℕ, zero, suc, ◌*◌, ◌/◌, ◌^◌, ◌<◌, Bool, List}
use Rattle.std.proofs.Common.{◌∙◌, ap, mod-lt, lit<}
use Rattle.std.proofs.ByRecursion.{All-get_or, All-from_get_or}
use Rattle.block.specs.Bytes.{of_bytes, bytes_by, bytes_of, Bytes}
use Rattle.block.proofs.Bytes.{bytes_number_back, number_back, length_bytes_of, of_bytes_lt}
use Rattle.cipher.specs.Meaning.{Lawful}
use Rattle.aes.specs.Fips197.{key_schedule, encipher, decipher, enc, dec, aes10, aes6}
use Rattle.aes.specs.Undo.{Good, Undo, encipher_undo, decipher_undo, schedule_good}

bytes_by_bytes : (k n : ℕ) → Bytes (bytes_by k n)
bytes_by_bytes zero n = tt
bytes_by_bytes (suc k) n = (mod-lt (n / 2 ^ (8 * k)) (lit< tt), bytes_by_bytes k n)

good_bytes_of : (n : ℕ) → Good (bytes_of n)
unfolding bytes_of
good_bytes_of n = (length_bytes_of n, λ i h. All-get_or (λ b. b < 256) (bytes_of n) i 0 (rw (length_bytes_of n) h) (bytes_by_bytes 16 n))

good_bytes : (s : List ℕ) → Good s → Bytes s
good_bytes s g = All-from_get_or (λ b. b < 256) s 0 (λ i h. g.1 i (rw g.0 at h))

-- what is undone on bytes is undone on numbers
module _ (f g : List ℕ → List ℕ) (u : Undo f g) (b : ℕ) where
  there : Good (f (bytes_of b))
  there = u.keeps (bytes_of b) (good_bytes_of b)

  number_undo : b < 2 ^ 128 → of_bytes (g (bytes_of (of_bytes (f (bytes_of b))))) ≡ b
  number_undo h =
      ap (λ (s : List ℕ). of_bytes (g s)) (number_back (f (bytes_of b)) there.0 (good_bytes (f (bytes_of b)) there))
      ∙ ap of_bytes (u.back (bytes_of b) (good_bytes_of b)) ∙ bytes_number_back b h

  number_lt : of_bytes (f (bytes_of b)) < 2 ^ 128
  number_lt = rw there.0 at (of_bytes_lt (f (bytes_of b)) (good_bytes (f (bytes_of b)) there))

module _ (last : Bool) (n : ℕ) (h : n < 10) (label : ℕ) (double : Bool) (small : label < 256) (key : ℕ) where
  forth : Undo (encipher last n (key_schedule (bytes_of key))) (decipher last n (key_schedule (bytes_of key)))
  forth = encipher_undo (key_schedule (bytes_of key)) (schedule_good (bytes_of key) (good_bytes_of key)) last n h

  back : Undo (decipher last n (key_schedule (bytes_of key))) (encipher last n (key_schedule (bytes_of key)))
  back = decipher_undo (key_schedule (bytes_of key)) (schedule_good (bytes_of key) (good_bytes_of key)) last n h

  rounds_lawful : Lawful (record { enc = enc last n key; dec = dec last n key; label = label; double = double })
  unfolding enc dec
  rounds_lawful = record {
    dec_enc = λ b p. number_undo _ _ forth b p;
    enc_dec = λ b p. number_undo _ _ back b p;
    enc_lt = λ b p. number_lt _ _ forth b;
    dec_lt = λ b p. number_lt _ _ back b;
    label_lt = small;
  }

pub aes10_lawful : (key : ℕ) → Lawful (aes10 key)
aes10_lawful key = rounds_lawful _ 9 (lit< tt) 10 _ (lit< tt) key

pub aes6_lawful : (key : ℕ) → Lawful (aes6 key)
aes6_lawful key = rounds_lawful _ 6 (lit< tt) 6 _ (lit< tt) key
