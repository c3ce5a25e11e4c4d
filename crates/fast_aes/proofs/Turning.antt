-- Rounds on four words against the rounds on their sixteen bytes.
use Rattle.std.proofs.Common.{◌≡◌, ℕ, ◌<◌, List, [], ◌∷◌, ◌++◌, get_or, sym, refl, ap, ◌∙◌, ap₂, zero-add, lit<}
use lib.Bits.{bit_xor}
use Rattle.std.proofs.lemmas.List.FromFn.{get_or-map-range_with_len}
use Rattle.gf256.specs.Columns.{mix_matrix, inv_mix_matrix, dotted, product}
use Rattle.gf256.specs.Field.{gmul}
use Rattle.gf256.specs.Sbox.{sbox, inv_sbox}
use Rattle.gf256.proofs.Linear.{cross, gmul_xor}
use Rattle.aes.specs.Fips197.{add_round_key, sub_bytes, inv_sub_bytes, shift_by, shift_rows, inv_shift_rows, mix_by, inv_mix_columns, inv_round, round, last_round, word, xor_word}
use Rattle.fast_aes.specs.Words.{boxed, bytes4, inv_turn, spread, spreads}
use Rattle.fast_aes.proofs.Gathering.{bytes4_xor}

pub spreads_at : (ks : List (List ℕ)) (i : ℕ) → i < 11 → get_or (spreads ks) i [] ≡ spread (get_or ks i [])
unfolding spreads
spreads_at ks i h = get_or-map-range_with_len (λ i. spread (get_or ks i [])) 0 11 i i [] h (zero-add i)

-- four columns, one after another
pub four : {a b c d e f g h : List ℕ} → a ≡ e → b ≡ f → c ≡ g → d ≡ h → a ++ b ++ c ++ d ≡ e ++ f ++ g ++ h
four p q r s = ap₂ ◌++◌ (ap₂ ◌++◌ (ap₂ ◌++◌ p q) r) s

module _ (k s : List ℕ) where
  pub add_key_is :
      spread (bit_xor (get_or s 0 0) (get_or k 0 0) ∷ bit_xor (get_or s 1 0) (get_or k 1 0) ∷ bit_xor (get_or s 2 0) (get_or k 2 0) ∷ bit_xor (get_or s 3 0) (get_or k 3 0) ∷ [])
      ≡ add_round_key (spread k) (spread s)
  unfolding spread add_round_key
  add_key_is =
      four (bytes4_xor (get_or s 0 0) (get_or k 0 0)) (bytes4_xor (get_or s 1 0) (get_or k 1 0)) (bytes4_xor (get_or s 2 0) (get_or k 2 0)) (bytes4_xor (get_or s 3 0) (get_or k 3 0))

pub unmix_is : (s r : List ℕ) → ((i : ℕ) → i < 4 → bytes4 (get_or r i 0) ≡ product inv_mix_matrix (bytes4 (get_or s i 0))) → spread r ≡ inv_mix_columns (spread s)
unfolding spread mix_by
unmix_is s r e = four (e 0 (lit< tt)) (e 1 (lit< tt)) (e 2 (lit< tt)) (e 3 (lit< tt))

module _ (k : List ℕ) (a b c d e f g h : ℕ) where
  pub round_is : bytes4 e ≡ xor_word (product mix_matrix (boxed sbox a b c d)) (bytes4 (get_or k 0 0))
      → bytes4 f ≡ xor_word (product mix_matrix (boxed sbox b c d a)) (bytes4 (get_or k 1 0))
      → bytes4 g ≡ xor_word (product mix_matrix (boxed sbox c d a b)) (bytes4 (get_or k 2 0))
      → bytes4 h ≡ xor_word (product mix_matrix (boxed sbox d a b c)) (bytes4 (get_or k 3 0))
      → spread (e ∷ f ∷ g ∷ h ∷ []) ≡ round (spread k) (spread (a ∷ b ∷ c ∷ d ∷ []))
  unfolding spread add_round_key mix_by shift_by sub_bytes
  round_is p q r t = four p q r t

  shifted : bytes4 e ≡ boxed sbox a b c d → bytes4 f ≡ boxed sbox b c d a → bytes4 g ≡ boxed sbox c d a b → bytes4 h ≡ boxed sbox d a b c
      → spread (e ∷ f ∷ g ∷ h ∷ []) ≡ shift_rows (sub_bytes (spread (a ∷ b ∷ c ∷ d ∷ [])))
  unfolding spread shift_by sub_bytes
  shifted p q r t = four p q r t

  pub last_is : bytes4 e ≡ boxed sbox a b c d → bytes4 f ≡ boxed sbox b c d a → bytes4 g ≡ boxed sbox c d a b → bytes4 h ≡ boxed sbox d a b c
      → spread (bit_xor e (get_or k 0 0) ∷ bit_xor f (get_or k 1 0) ∷ bit_xor g (get_or k 2 0) ∷ bit_xor h (get_or k 3 0) ∷ [])
      ≡ last_round (spread k) (spread (a ∷ b ∷ c ∷ d ∷ []))
  last_is p q r t = add_key_is k (e ∷ f ∷ g ∷ h ∷ []) ∙ ap (add_round_key (spread k)) (shifted p q r t)

  inv_shifted : bytes4 e ≡ boxed inv_sbox a d c b → bytes4 f ≡ boxed inv_sbox b a d c → bytes4 g ≡ boxed inv_sbox c b a d → bytes4 h ≡ boxed inv_sbox d c b a
      → spread (e ∷ f ∷ g ∷ h ∷ []) ≡ inv_sub_bytes (inv_shift_rows (spread (a ∷ b ∷ c ∷ d ∷ [])))
  unfolding spread shift_by inv_sub_bytes
  inv_shifted p q r t = four p q r t

  pub inv_last_is : bytes4 e ≡ boxed inv_sbox a d c b → bytes4 f ≡ boxed inv_sbox b a d c → bytes4 g ≡ boxed inv_sbox c b a d → bytes4 h ≡ boxed inv_sbox d c b a
      → spread (bit_xor e (get_or k 0 0) ∷ bit_xor f (get_or k 1 0) ∷ bit_xor g (get_or k 2 0) ∷ bit_xor h (get_or k 3 0) ∷ [])
      ≡ add_round_key (spread k) (inv_sub_bytes (inv_shift_rows (spread (a ∷ b ∷ c ∷ d ∷ []))))
  inv_last_is p q r t = add_key_is k (e ∷ f ∷ g ∷ h ∷ []) ∙ ap (add_round_key (spread k)) (inv_shifted p q r t)

-- a matrix times a column is linear in the column
dotted_xor : (row u v : List ℕ) → bit_xor (dotted row u) (dotted row v) ≡ dotted row (xor_word u v)
dotted_xor row u v =
    let t : List ℕ → ℕ → ℕ = λ l i. gmul (get_or l i 0) (get_or row i 0) in
    let x : (i : ℕ) → bit_xor (t u i) (t v i) ≡ gmul (bit_xor (get_or u i 0) (get_or v i 0)) (get_or row i 0)
    = λ i. sym (gmul_xor (get_or u i 0) (get_or v i 0) (get_or row i 0)) in
    cross (bit_xor (t u 0) (t u 1)) (bit_xor (t u 2) (t u 3)) (bit_xor (t v 0) (t v 1)) (bit_xor (t v 2) (t v 3))
    ∙ ap₂ bit_xor (cross (t u 0) (t u 1) (t v 0) (t v 1) ∙ ap₂ bit_xor (x 0) (x 1)) (cross (t u 2) (t u 3) (t v 2) (t v 3) ∙ ap₂ bit_xor (x 2) (x 3))

product_xor : (m : List (List ℕ)) (u v : List ℕ) → xor_word (product m u) (product m v) ≡ product m (xor_word u v)
product_xor m u v =
    ap₂ ◌∷◌ (dotted_xor (get_or m 0 []) u v) (ap₂ ◌∷◌ (dotted_xor (get_or m 1 []) u v)
    (ap₂ ◌∷◌ (dotted_xor (get_or m 2 []) u v) (ap₂ ◌∷◌ (dotted_xor (get_or m 3 []) u v) refl)))

pub mix_add : (m : List (List ℕ)) (k s : List ℕ) → add_round_key (mix_by m k) (mix_by m s) ≡ mix_by m (add_round_key k s)
unfolding add_round_key mix_by
mix_add m k s =
    four (product_xor m (word 0 s) (word 0 k)) (product_xor m (word 4 s) (word 4 k)) (product_xor m (word 8 s) (word 8 k)) (product_xor m (word 12 s) (word 12 k))

-- an inverse round on four words
module _ (k : List ℕ) (a b c d e f g h : ℕ) where
  pub inv_turn_is : bytes4 e ≡ xor_word (product inv_mix_matrix (boxed inv_sbox a d c b)) (bytes4 (get_or k 0 0))
      → bytes4 f ≡ xor_word (product inv_mix_matrix (boxed inv_sbox b a d c)) (bytes4 (get_or k 1 0))
      → bytes4 g ≡ xor_word (product inv_mix_matrix (boxed inv_sbox c b a d)) (bytes4 (get_or k 2 0))
      → bytes4 h ≡ xor_word (product inv_mix_matrix (boxed inv_sbox d c b a)) (bytes4 (get_or k 3 0))
      → spread (e ∷ f ∷ g ∷ h ∷ []) ≡ inv_turn (spread k) (spread (a ∷ b ∷ c ∷ d ∷ []))
  unfolding spread add_round_key mix_by shift_by inv_sub_bytes
  inv_turn_is p q r t = four p q r t

-- under InvMixColumns of a round key, it is the inverse round under that key
pub inv_turn_under : (k s : List ℕ) → inv_sub_bytes (inv_shift_rows (inv_turn (inv_mix_columns k) s)) ≡ inv_round k (inv_sub_bytes (inv_shift_rows s))
inv_turn_under k s =
    let t = inv_sub_bytes (inv_shift_rows s) in
    ap (λ z. inv_sub_bytes (inv_shift_rows z)) (mix_add inv_mix_matrix k t)
