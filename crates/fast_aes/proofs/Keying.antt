-- The round keys as words, against those as bytes.
use Rattle.std.proofs.Common.{◌≡◌, ℕ, zero, suc, ◌+◌, ◌-◌, ◌<◌, ◌≤◌, true, false, ⊎_elim, List, [], ◌∷◌, length, get_or, map, set, take, drop, reverse, sym, refl, ap, ◌∙◌, ap₂, zero-add, arith, length-drop}
use Rattle.std.specs.List.{fold}
use lib.Bits.{bit_xor}
use Rattle.std.proofs.lemmas.Bool.{cases_lt}
use Rattle.std.proofs.lemmas.Grind.{get_or-set_at}
use Rattle.std.proofs.lemmas.List.{get_or-map, get_or-set_other, length-map, length-set}
use Rattle.std.proofs.lemmas.List.FromFn.{fill_by_all, get_or-map-range_with_len}
use Rattle.block.specs.Bytes.{of_bytes, bytes_of, Bytes}
use Rattle.block.proofs.Bytes.{number_back}
use Rattle.gf256.specs.Sbox.{sbox}
use Rattle.aes.specs.Fips197.{add_round_key, decipher, next_key, key_schedule, xor_word, inv_mix_columns, inv_shift_rows, inv_sub_bytes, inv_rounds, inv_round, round, rounds}
use Rattle.aes.proofs.Turns.{inv_rounds_are, later, later_long, rounds_are}
use Rattle.fast_aes.specs.Words.{byte, bytes4, inv_turn, spread, spreads, unmixes}
use Rattle.fast_aes.proofs.Gathering.{bytes4_xor}
use Rattle.fast_aes.proofs.Turning.{four, inv_turn_under, spreads_at}

-- the next round key: the turned word t goes into the first, and each into the one behind it
module _ (rc : ℕ) (k : List ℕ) (t : ℕ) where
  pub next_is : (a b c d : ℕ)
      → bytes4 t ≡ bit_xor (sbox (byte 1 (get_or k 3 0))) rc ∷ sbox (byte 2 (get_or k 3 0)) ∷ sbox (byte 3 (get_or k 3 0)) ∷ sbox (byte 0 (get_or k 3 0)) ∷ []
      → a ≡ bit_xor (get_or k 0 0) t → b ≡ bit_xor (get_or k 1 0) a → c ≡ bit_xor (get_or k 2 0) b → d ≡ bit_xor (get_or k 3 0) c
      → spread (a ∷ b ∷ c ∷ d ∷ []) ≡ next_key rc (spread k)
  unfolding spread next_key
  next_is a b c d e pa pb pc pd =
      let x : (u v w : ℕ) (l : List ℕ) → w ≡ bit_xor u v → bytes4 v ≡ l → bytes4 w ≡ xor_word (bytes4 u) l
      = λ u v w l p q. ap bytes4 p ∙ bytes4_xor u v ∙ ap (xor_word (bytes4 u)) q in
      let qa = x (get_or k 0 0) t a _ pa e in
      let qb = x (get_or k 1 0) a b _ pb qa in
      let qc = x (get_or k 2 0) b c _ pc qb in
      let qd = x (get_or k 3 0) c d _ pd qc in
      four qa qb qc qd

-- eleven round keys, each spread
pub spreads_are : (ks : List (List ℕ)) → length ks ≡ 11 → map spread ks ≡ spreads ks
unfolding spreads
spreads_are ks l =
    fill_by_all (λ i. spread (get_or ks i [])) (map spread ks) 11 [] (length-map ks spread ∙ l) (λ k h. get_or-map spread ks k [] [] (omega arith))

-- the schedule of a key that came as bytes
pub schedule_made : (key : List ℕ) (ks : List (List ℕ)) (s : List ℕ) (v : ℕ) → length key ≡ 16 → Bytes key → spreads ks ≡ key_schedule (spread s)
    → spread s ≡ bytes_of v → v ≡ of_bytes key → spreads ks ≡ key_schedule key
schedule_made key ks s v l h e p q = e ∙ ap key_schedule (p ∙ ap bytes_of q ∙ number_back key l h)

-- InvMixColumns of each round key
module _ (ks ds : List (List ℕ)) where
  abbrev mixed_back : ℕ → List ℕ
  mixed_back i = inv_mix_columns (spread (get_or ks i []))

  -- those below place i
  abbrev pub Unmixing : ℕ → Type 0
  Unmixing i = (length ds ≡ 11) × ((k : ℕ) → k < i → spread (get_or ds k []) ≡ mixed_back k)

  pub unmixes_are : ((i : ℕ) → i < 11 → spread (get_or ds i []) ≡ mixed_back i) → spreads ds ≡ unmixes ks
  unfolding spreads unmixes
  unmixes_are e = fill_by_all mixed_back (spreads ds) 11 [] refl (λ k h. spreads_at ds k h ∙ e k h)

  unmixed_at : spreads ds ≡ unmixes ks → (i : ℕ) → i < 11 → spread (get_or ds i []) ≡ mixed_back i
  unfolding unmixes
  unmixed_at e i h = sym (spreads_at ds i h) ∙ ap (λ (l : List (List ℕ)). get_or l i []) e ∙ get_or-map-range_with_len mixed_back 0 11 i i [] h (zero-add i)

pub unmixing_more : (ks ds : List (List ℕ)) (i : ℕ) (v : List ℕ) → i < 11 → spread v ≡ inv_mix_columns (spread (get_or ks i [])) → Unmixing ks ds i → Unmixing ks (set ds i v) (i + 1)
unmixing_more ks ds i v h e p = (
  simp length-set p.0,
  λ k below. ⊎_elim
      (λ (less : k < i). ap spread (get_or-set_other ds i k v [] (λ q. omega arith)) ∙ p.1 k less)
      (λ (same : i ≤ k). ap spread (get_or-set_at ds i k v [] (omega arith) (omega (arith, p.0))) ∙ e ∙ ap (λ (j : ℕ). inv_mix_columns (spread (get_or ks j []))) (omega arith))
      (cases_lt k i),
)

-- the rounds as a loop takes them
module _ (ks : List (List ℕ)) (long : length ks ≡ 11) (n : ℕ) (s : List ℕ) (h : n < 11) where
  short : n ≤ length (drop 1 ks)
  short = later_long ks n (omega arith)

  same_number : n + 1 - 1 ≡ n
  same_number = omega arith

  key_at : (i : ℕ) → i < length (drop 1 ks) → get_or (spreads ks) (suc i) [] ≡ spread (get_or (drop 1 ks) i [])
  key_at i l = spreads_at ks (suc i) (omega (arith, length-drop 1 ks)) ∙ ap spread (sym (later ks i []))

  -- up to key e, which is n in other words
  pub rounds_by_words : (e : ℕ) → e ≡ n → fold (λ s k. round (spread k) s) (add_round_key (spread (get_or ks 0 [])) s) (take (e + 1 - 1) (drop 1 ks)) ≡ rounds (spreads ks) n s
  rounds_by_words e is =
      rw (is, same_number, ← spreads_at ks 0 (omega arith)) (rounds_are (spreads ks) (drop 1 ks) [] (λ k s. round (spread k) s)
      (λ i s l. ap (λ k. round k s) (sym (key_at i l))) n s short)

  module _ (ds : List (List ℕ)) (wide : length ds ≡ 11) (is : spreads ds ≡ unmixes ks) where
    turned_at : (i : ℕ) (s : List ℕ) → i < length (drop 1 ds)
        → inv_sub_bytes (inv_shift_rows (inv_turn (spread (get_or (drop 1 ds) i [])) s)) ≡ inv_round (get_or (spreads ks) (suc i) []) (inv_sub_bytes (inv_shift_rows s))
    turned_at i s l =
        let h : suc i < 11 = omega (arith, length-drop 1 ds) in
        let e = later ds i [] in
        let d = unmixed_at ks ds is (suc i) h in
        rw (later ds i [], unmixed_at ks ds is (suc i) h, spreads_at ks (suc i) h) (inv_turn_under (spread (get_or ks (suc i) [])) s)

    pub inv_rounds_by_words :
        add_round_key (spread (get_or ks 0 [])) (inv_sub_bytes (inv_shift_rows (fold (λ s k. inv_turn (spread k) s) s (reverse (take (n + 1 - 1) (drop 1 ds))))))
        ≡ inv_rounds (spreads ks) n (inv_sub_bytes (inv_shift_rows s))
    inv_rounds_by_words =
        rw (same_number, ← spreads_at ks 0 (omega arith)) (inv_rounds_are (spreads ks) (drop 1 ds) [] (λ k s. inv_turn (spread k) s) (λ s. inv_sub_bytes (inv_shift_rows s)) turned_at n s
        (later_long ds n (omega arith)))

-- the first of n inverse rounds
inv_first : (ks : List (List ℕ)) (n : ℕ) (s : List ℕ) → 0 < n → inv_rounds ks (n - 1) (inv_round (get_or ks n []) s) ≡ inv_rounds ks n s
inv_first ks zero s h = absurd (omega arith)
inv_first ks (suc m) s h =
    let e : suc m - 1 ≡ m = omega arith in
    ap (λ (j : ℕ). inv_rounds ks j (inv_round (get_or ks (suc m) []) s)) e

-- decryption, begun by a last round without MixColumns, or by a full one; x holds the block b
module _ (ks : List (List ℕ)) (n : ℕ) (h : n < 10) (b x t : List ℕ) (is : spread x ≡ b) where
  pub from_last : (r : List ℕ) → spread t ≡ add_round_key (spread (get_or ks (n + 1) [])) (spread x)
      → spread r ≡ inv_rounds (spreads ks) n (inv_sub_bytes (inv_shift_rows (spread t)))
      → spread r ≡ decipher true n (spreads ks) b
  from_last r p q =
      q ∙ ap (λ (z : List ℕ). inv_rounds (spreads ks) n (inv_sub_bytes (inv_shift_rows z))) (p ∙ ap₂ add_round_key (sym (spreads_at ks (n + 1) (omega arith))) is)

  pub from_full : (u r : List ℕ) → 0 < n → spread t ≡ add_round_key (spread (get_or ks n [])) (spread x) → spread u ≡ inv_mix_columns (spread t)
      → spread r ≡ inv_rounds (spreads ks) (n - 1) (inv_sub_bytes (inv_shift_rows (spread u)))
      → spread r ≡ decipher false n (spreads ks) b
  from_full u r pos p q e =
      e ∙ ap (λ (z : List ℕ). inv_rounds (spreads ks) (n - 1) (inv_sub_bytes (inv_shift_rows z))) q
      ∙ ap (λ (z : List ℕ). inv_rounds (spreads ks) (n - 1) (inv_sub_bytes (inv_shift_rows (inv_mix_columns z)))) (p ∙ ap₂ add_round_key (sym (spreads_at ks n (omega arith))) is)
      ∙ inv_first (spreads ks) n b pos
