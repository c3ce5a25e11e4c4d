-- Each step is undone by its inverse on sixteen bytes, and so are their chains.
use Rattle.std.specs.Prelude.{◌≡◌, ℕ, zero, suc, ◌+◌, ◌*◌, ◌/◌, ◌%◌, ◌<◌, Bool, true, false, List, [], ◌∷◌, ◌++◌, length, bit_xor, slice_index, slice_index_or, refl}
use Rattle.std.proofs.Common.{sym, ◌∙◌, ap, zero-add, mod-lt, arith, lit<}
use Rattle.std.proofs.Math.Path.{ap₂}
use Rattle.std.specs.Int.Bits.{xor_lt}
use Rattle.std.proofs.lemmas.List.FromFn.{fill_by_all, get_or-map-range_with_len}
use Rattle.block.proofs.Laws.{xor_cancel}
use Rattle.gf256.specs.Columns.{mix_matrix, inv_mix_matrix, product, dotted}
use Rattle.gf256.specs.Field.{gmul}
use Rattle.gf256.specs.Sbox.{inv_sbox, sbox}
use Rattle.gf256.proofs.Boxes.{sbox_lt, inv_sbox_lt, inv_sbox_lem, sbox_inv}
use Rattle.gf256.proofs.Linear.{gmul_lt, xtime_lt}
use Rattle.gf256.proofs.Mixing.{unmix_mix, mix_unmix}
use Rattle.aes.specs.Fips197.{state, sub_bytes, inv_sub_bytes, shift_by, shift_rows, inv_shift_rows, add_round_key, word, mix_by, mix_columns, inv_mix_columns, round, inv_round, last_round, inv_last_round, turned, next_key, rcon, round_key, key_schedule, rounds, inv_rounds, encipher, decipher}

-- sixteen bytes
abbrev pub Good : List ℕ → Type 0
Good s = (length s ≡ 16) × ((i : ℕ) → i < 16 → slice_index s i < 256)

get_or_state : (f : ℕ → ℕ) (i : ℕ) → i < 16 → slice_index (state f) i ≡ f i
get_or_state f i h = get_or-map-range_with_len f 0 16 i i 0 h (zero-add i)

good_state : (f : ℕ → ℕ) → ((i : ℕ) → i < 16 → f i < 256) → Good (state f)
good_state f p = (refl, λ i h. rw (get_or_state f i h) (p i h))

is_state : (f : ℕ → ℕ) (s : List ℕ) → Good s → ((i : ℕ) → i < 16 → f i ≡ slice_index s i) → state f ≡ s
is_state f s g e = sym (fill_by_all f s 16 0 g.0 (λ k h. sym (e k h)))

-- g undoes f, which keeps sixteen bytes
pub record Undo (f g : List ℕ → List ℕ) : Type 0 where
  pub keeps : (s : List ℕ) → Good s → Good (f s)
  pub back : (s : List ℕ) → Good s → g (f s) ≡ s

then : {f g h k : List ℕ → List ℕ} → Undo f g → Undo h k → Undo (λ s. h (f s)) (λ s. g (k s))
then {f} {g} {h} {k} p q = record {
  keeps = λ s good. q.keeps (f s) (p.keeps s good);
  back = λ s good. ap g (q.back (f s) (p.keeps s good)) ∙ p.back s good;
}

sub_undo : Undo sub_bytes inv_sub_bytes
unfolding sub_bytes inv_sub_bytes
sub_undo = record {
  keeps = λ s g. good_state (λ i. sbox (slice_index s i)) (λ i h. sbox_lt (slice_index s i) (g.1 i h));
  back = λ s g. is_state (λ i. inv_sbox (slice_index (sub_bytes s) i)) s g
      (λ i h. ap inv_sbox (get_or_state (λ i. sbox (slice_index s i)) i h) ∙ inv_sbox_lem (slice_index s i) (g.1 i h));
}

unsub_undo : Undo inv_sub_bytes sub_bytes
unfolding sub_bytes inv_sub_bytes
unsub_undo = record {
  keeps = λ s g. good_state (λ i. inv_sbox (slice_index s i)) (λ i h. inv_sbox_lt (slice_index s i) (g.1 i h));
  back = λ s g. is_state (λ i. sbox (slice_index (inv_sub_bytes s) i)) s g
      (λ i h. ap sbox (get_or_state (λ i. inv_sbox (slice_index s i)) i h) ∙ sbox_inv (slice_index s i) (g.1 i h));
}

shift_undo : Undo shift_rows inv_shift_rows
unfolding shift_by
shift_undo = record {
  keeps = λ s g. good_state (λ i. slice_index s ((i + 4 * (i % 4)) % 16)) (λ i h. g.1 _ (mod-lt (i + 4 * (i % 4)) (lit< tt)));
  back = λ s g. is_state (λ i. slice_index s i) s g (λ i h. refl);
}

unshift_undo : Undo inv_shift_rows shift_rows
unfolding shift_by
unshift_undo = record {
  keeps = λ s g. good_state (λ i. slice_index s ((i + 12 * (i % 4)) % 16)) (λ i h. g.1 _ (mod-lt (i + 12 * (i % 4)) (lit< tt)));
  back = λ s g. is_state (λ i. slice_index s i) s g (λ i h. refl);
}

add_undo : (k : List ℕ) → Good k → Undo (add_round_key k) (add_round_key k)
unfolding add_round_key
add_undo k gk = record {
  keeps = λ s g. good_state (λ i. bit_xor (slice_index s i) (slice_index k i)) (λ i h. xor_lt 8 (slice_index s i) (slice_index k i) (g.1 i h) (gk.1 i h));
  back = λ s g. is_state (λ i. bit_xor (slice_index (add_round_key k s) i) (slice_index k i)) s g
      (λ i h. ap (λ n. bit_xor n (slice_index k i)) (get_or_state (λ i. bit_xor (slice_index s i) (slice_index k i)) i h) ∙ xor_cancel (slice_index s i) (slice_index k i));
}

-- a row times the column that starts at place j of s
row_lt : (row s : List ℕ) → Good s → (j : ℕ) → j + 3 < 16 → dotted row (word j s) < 256
row_lt row s g j h =
    let t : (d e : ℕ) → d < 16 → gmul (slice_index s d) e < 256 = λ d e l. gmul_lt (slice_index s d) e (g.1 d l) in
    xor_lt 8 _ _ (xor_lt 8 _ _ (t j (slice_index row 0) (omega arith)) (t (j + 1) (slice_index row 1) (omega arith)))
    (xor_lt 8 _ _ (t (j + 2) (slice_index row 2) (omega arith)) (t (j + 3) (slice_index row 3) h))

mix_keeps : (m : List (List ℕ)) (s : List ℕ) → Good s → Good (mix_by m s)
unfolding mix_by
mix_keeps m s g =
    good_state (λ i. dotted (slice_index_or m (i % 4) []) (word (4 * (i / 4)) s)) (λ i h. row_lt (slice_index_or m (i % 4) []) s g (4 * (i / 4)) (omega arith))

module _ (n m : List (List ℕ))
    (back : (a b c d : ℕ) → a < 256 → b < 256 → c < 256 → d < 256 → product n (product m (a ∷ b ∷ c ∷ d ∷ [])) ≡ a ∷ b ∷ c ∷ d ∷ []) where
  by_undo : Undo (mix_by m) (mix_by n)
  unfolding mix_by
  by_undo = record {
    keeps = mix_keeps m;
    back = λ s g.
        let w : (j : ℕ) → j + 3 < 16 → product n (product m (word j s)) ≡ word j s
        = λ j h. back _ _ _ _ (g.1 j (omega arith)) (g.1 (j + 1) (omega arith)) (g.1 (j + 2) (omega arith)) (g.1 (j + 3) (omega arith)) in
        ap₂ ◌++◌ (w 0 (lit< tt)) (ap₂ ◌++◌ (w 4 (lit< tt)) (ap₂ ◌++◌ (w 8 (lit< tt)) (w 12 (lit< tt))))
        ∙ is_state (λ i. slice_index s i) s g (λ i h. refl);
  }

mix_undo : Undo mix_columns inv_mix_columns
mix_undo = by_undo inv_mix_matrix mix_matrix unmix_mix

unmix_undo : Undo inv_mix_columns mix_columns
unmix_undo = by_undo mix_matrix inv_mix_matrix mix_unmix

module _ (k : List ℕ) (gk : Good k) where
  round_undo : Undo (round k) (inv_round k)
  round_undo = then sub_undo (then shift_undo (then mix_undo (add_undo k gk)))

  inv_round_undo : Undo (inv_round k) (round k)
  inv_round_undo = then (add_undo k gk) (then unmix_undo (then unshift_undo unsub_undo))

  last_undo : Undo (last_round k) (inv_last_round k)
  last_undo = then sub_undo (then shift_undo (add_undo k gk))

  inv_last_undo : Undo (inv_last_round k) (last_round k)
  inv_last_undo = then (add_undo k gk) (then unshift_undo unsub_undo)

-- any number of rounds, under any eleven round keys
module _ (ks : List (List ℕ)) (gs : (i : ℕ) → i < 11 → Good (slice_index_or ks i [])) where
  rounds_undo : (n : ℕ) → n < 11 → Undo (rounds ks n) (inv_rounds ks n)
  rounds_undo zero h = add_undo (slice_index_or ks 0 []) (gs 0 h)
  rounds_undo (suc n) h = then (rounds_undo n (omega arith)) (round_undo (slice_index_or ks (suc n) []) (gs (suc n) h))

  inv_rounds_undo : (n : ℕ) → n < 11 → Undo (inv_rounds ks n) (rounds ks n)
  inv_rounds_undo zero h = add_undo (slice_index_or ks 0 []) (gs 0 h)
  inv_rounds_undo (suc n) h = then (inv_round_undo (slice_index_or ks (suc n) []) (gs (suc n) h)) (inv_rounds_undo n (omega arith))

  pub encipher_undo : (last : Bool) (n : ℕ) → n < 10 → Undo (encipher last n ks) (decipher last n ks)
  encipher_undo true n h = then (rounds_undo n (omega arith)) (last_undo (slice_index_or ks (n + 1) []) (gs (n + 1) (omega arith)))
  encipher_undo false n h = rounds_undo n (omega arith)

  pub decipher_undo : (last : Bool) (n : ℕ) → n < 10 → Undo (decipher last n ks) (encipher last n ks)
  decipher_undo true n h = then (inv_last_undo (slice_index_or ks (n + 1) []) (gs (n + 1) (omega arith))) (inv_rounds_undo n (omega arith))
  decipher_undo false n h = inv_rounds_undo n (omega arith)

-- the round keys are bytes
module _ (rc : ℕ) (k : List ℕ) where
  next : ℕ → ℕ
  next zero = bit_xor (slice_index k 0) (slice_index (turned rc k) 0)
  next (suc zero) = bit_xor (slice_index k 1) (slice_index (turned rc k) 1)
  next (suc (suc zero)) = bit_xor (slice_index k 2) (slice_index (turned rc k) 2)
  next (suc (suc (suc zero))) = bit_xor (slice_index k 3) (slice_index (turned rc k) 3)
  next (suc (suc (suc (suc i)))) = bit_xor (slice_index k (4 + i)) (next i)

  module _ (hr : rc < 256) (g : Good k) where
    next_lt : (i : ℕ) → i < 16 → next i < 256
    unfolding next
    next_lt zero h = xor_lt 8 _ _ (g.1 0 (lit< tt)) (xor_lt 8 _ _ (sbox_lt _ (g.1 13 (lit< tt))) hr)
    next_lt (suc zero) h = xor_lt 8 _ _ (g.1 1 (lit< tt)) (sbox_lt _ (g.1 14 (lit< tt)))
    next_lt (suc (suc zero)) h = xor_lt 8 _ _ (g.1 2 (lit< tt)) (sbox_lt _ (g.1 15 (lit< tt)))
    next_lt (suc (suc (suc zero))) h = xor_lt 8 _ _ (g.1 3 (lit< tt)) (sbox_lt _ (g.1 12 (lit< tt)))
    next_lt (suc (suc (suc (suc i)))) h = xor_lt 8 _ _ (g.1 (4 + i) (omega arith)) (next_lt i (omega arith))

    next_good : Good (next_key rc k)
    unfolding next_key next
    next_good = good_state next next_lt

rcon_lt : (i : ℕ) → rcon i < 256
rcon_lt zero = lit< tt
rcon_lt (suc i) = xtime_lt (rcon i)

module _ (key : List ℕ) (g : Good key) where
  round_key_good : (i : ℕ) → Good (round_key key i)
  round_key_good zero = g
  round_key_good (suc i) = next_good (rcon i) (round_key key i) (rcon_lt i) (round_key_good i)

  pub schedule_good : (i : ℕ) → i < 11 → Good (slice_index_or (key_schedule key) i [])
  unfolding key_schedule
  schedule_good i h = rw (get_or-map-range_with_len (round_key key) 0 11 i i [] h (zero-add i)) (round_key_good i)
