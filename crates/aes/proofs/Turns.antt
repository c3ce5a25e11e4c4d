-- One turn of the loops over the rounds and over the round keys.
use Rattle.std.proofs.Common.{◌≡◌, ◌≢◌, ℕ, zero, suc, ◌+◌, ◌-◌, ◌<◌, ◌≤◌, Bool, List, [], ◌∷◌, ◌++◌, length, get_or, set, map, take, drop, reverse, refl, ap, ap₂, ◌∙◌, ⊎_elim, add-one, arith, length-drop, get_or-set_same, get_or-set_other}
use Rattle.std.specs.List.{fold}
use Rattle.std.proofs.lemmas.Bool.{cases_eq}
use Rattle.std.proofs.lemmas.List.{get_or-drop, get_or-map, length-map, reverse-append, take_more}
use Rattle.std.proofs.lemmas.List.FromFn.{fill_by_all}
use Rattle.std.proofs.lemmas.List.Sums.{fold_push}
use Rattle.block.specs.Bytes.{of_bytes, bytes_of, Bytes}
use Rattle.block.proofs.Bytes.{number_back}
use Rattle.gf256.proofs.Boxes.{agree}
use Rattle.aes.specs.Fips197.{add_round_key, round, inv_round, rounds, inv_rounds, next_key, rcon, round_key, key_schedule, key_of, encipher, decipher, enc, dec}

-- The rounds by a recursion on their number are those by a loop over t, the keys past the first, in any form.
-- The inverse rounds may be taken on states that u brings to those of the recursion.
module _ {K : Type 0} (ks : List (List ℕ)) (t : List K) (d : K) (turn : K → List ℕ → List ℕ) where
  next_keys : (n : ℕ) → n < length t → take (suc n) t ≡ take n t ++ get_or t n d ∷ []
  next_keys n h = rw add-one at (take_more t n d h)

  module _ (step : (i : ℕ) (s : List ℕ) → i < length t → turn (get_or t i d) s ≡ round (get_or ks (suc i) []) s) where
    pub rounds_are : (n : ℕ) (s : List ℕ) → n ≤ length t → fold (λ s k. turn k s) (add_round_key (get_or ks 0 []) s) (take n t) ≡ rounds ks n s
    rounds_are zero s h = refl
    rounds_are (suc n) s h =
        rw (next_keys n (omega arith)) (fold_push (λ s k. turn k s) (add_round_key (get_or ks 0 []) s) (take n t) (get_or t n d)
        ∙ ap (turn (get_or t n d)) (rounds_are n s (omega arith)) ∙ step n (rounds ks n s) (omega arith))

  module _ (u : List ℕ → List ℕ) (step : (i : ℕ) (s : List ℕ) → i < length t → u (turn (get_or t i d) s) ≡ inv_round (get_or ks (suc i) []) (u s)) where
    pub inv_rounds_are : (n : ℕ) (s : List ℕ) → n ≤ length t
        → add_round_key (get_or ks 0 []) (u (fold (λ s k. turn k s) s (reverse (take n t)))) ≡ inv_rounds ks n (u s)
    inv_rounds_are zero s h = refl
    inv_rounds_are (suc n) s h =
        rw (next_keys n (omega arith), reverse-append (take n t) (get_or t n d ∷ [])) (inv_rounds_are n (turn (get_or t n d) s) (omega arith)
        ∙ ap (inv_rounds ks n) (step n s (omega arith)))

-- the keys past the first
module _ {K : Type 0} (ks : List K) where
  pub later : (i : ℕ) (d : K) → get_or (drop 1 ks) i d ≡ get_or ks (suc i) d
  later i d = let e : 1 + i ≡ suc i = omega arith in rw e at (get_or-drop 1 ks i d)

  pub later_long : (n : ℕ) → n < length ks → n ≤ length (drop 1 ks)
  later_long n h = omega (arith, length-drop 1 ks)

module _ (ks : List (List ℕ)) (n : ℕ) (s : List ℕ) (h : n < length ks) where
  same_number : n + 1 - 1 ≡ n
  same_number = omega arith

  pub rounds_by_keys : fold (λ s k. round k s) (add_round_key (get_or ks 0 []) s) (take (n + 1 - 1) (drop 1 ks)) ≡ rounds ks n s
  rounds_by_keys =
      rw same_number (rounds_are ks (drop 1 ks) [] round (λ i s l. ap (λ k. round k s) (later ks i [])) n s (later_long ks n h))

  pub inv_rounds_by_keys : add_round_key (get_or ks 0 []) (fold (λ s k. inv_round k s) s (reverse (take (n + 1 - 1) (drop 1 ks)))) ≡ inv_rounds ks n s
  inv_rounds_by_keys =
      rw same_number (inv_rounds_are ks (drop 1 ks) [] inv_round (λ s. s) (λ i s l. ap (λ k. inv_round k s) (later ks i [])) n s (later_long ks n h))

-- the table of the round constants holds their rule
abbrev constants : List ℕ
constants = 0x01 ∷ 0x02 ∷ 0x04 ∷ 0x08 ∷ 0x10 ∷ 0x20 ∷ 0x40 ∷ 0x80 ∷ 0x1b ∷ 0x36 ∷ []

rcon_is : (i : ℕ) → i < 10 → get_or constants i 0 ≡ rcon i
rcon_is = agree 10 _ rcon tt

-- in any form that has their bytes: k is round key i, and those past the first up to it stand in ks
module _ {K : Type 0} (bytes : K → List ℕ) (key : List ℕ) where
  pub record Keys (ks : List K) (k : K) (i : ℕ) : Type 0 where
    pub last : bytes k ≡ round_key key i
    pub are : (j : ℕ) (d : K) → j < i → bytes (get_or ks j d) ≡ round_key key (suc j)

  pub keys_none : (ks : List K) (k : K) → bytes k ≡ key → Keys ks k 0
  keys_none ks k e = record { last = e; are = λ j d h. absurd (omega arith) }

  pub keys_more : (ks : List K) (k v : K) (i : ℕ) → i < 10 → length ks ≡ 10
      → bytes v ≡ next_key (get_or constants i 0) (bytes k)
      → Keys ks k i → Keys (set ks i v) v (i + 1)
  keys_more ks k v i h long e p =
      let rc = rcon_is i h in
      let before = p.last in
      let new : bytes v ≡ round_key key (suc i) = cc in
      record {
        last = rw add-one new;
        are = λ j d l. ⊎_elim (λ (e : j ≡ i). rw (e, get_or-set_same ks i v d (omega (arith, long))) new)
            (λ (ne : j ≢ i). rw (get_or-set_other ks i j v d ne) (p.are j d (omega arith))) (cases_eq j i);
      }

  place : (ks : List K) (k d : K) (i j : ℕ) → j < i + 1 → bytes d ≡ key → Keys ks k i → bytes (get_or (d ∷ ks) j d) ≡ round_key key j
  place ks k d i zero l e p = e
  place ks k d i (suc j) l e p = p.are j d (omega arith)

  pub keys_all : (ks : List K) (k d : K) (i : ℕ) → 10 ≤ i → length ks ≡ 10 → bytes d ≡ key → Keys ks k i → map bytes (d ∷ ks) ≡ key_schedule key
  unfolding key_schedule
  keys_all ks k d i h long e p =
      fill_by_all (round_key key) (map bytes (d ∷ ks)) 11 [] (length-map (d ∷ ks) bytes ∙ ap suc long)
      (λ j l. get_or-map bytes (d ∷ ks) j d [] (omega (arith, long)) ∙ place ks k d i j (omega arith) e p)

pub map_same : {A : Type 0} (f : A → A) → ((x : A) → f x ≡ x) → (xs : List A) → map f xs ≡ xs
map_same f same [] = refl
map_same f same (x ∷ xs) = ap₂ ◌∷◌ (same x) (map_same f same xs)

-- the schedule of a key of sixteen bytes, told from its first round key
pub schedule_key : (key : List ℕ) (ks : List (List ℕ)) → ks ≡ key_schedule key → get_or ks 0 [] ≡ key
unfolding key_schedule
schedule_key key ks e = rw e

pub schedule_kept : (key : List ℕ) (ks : List (List ℕ)) → length key ≡ 16 → Bytes key → ks ≡ key_schedule key → ks ≡ key_schedule (bytes_of (key_of ks))
schedule_kept key ks l h e = let k = schedule_key key ks e in let b = number_back key l h in cc

-- what the rounds make of the bytes of b, as a number
module _ (last : Bool) (n : ℕ) (ks : List (List ℕ)) (b : ℕ) (r : List ℕ) (ok : ks ≡ key_schedule (bytes_of (key_of ks))) where
  pub enc_is : r ≡ encipher last n ks (bytes_of b) → of_bytes r ≡ enc last n (key_of ks) b
  unfolding enc
  enc_is e = ap of_bytes (e ∙ ap (λ (k : List (List ℕ)). encipher last n k (bytes_of b)) ok)

  pub dec_is : r ≡ decipher last n ks (bytes_of b) → of_bytes r ≡ dec last n (key_of ks) b
  unfolding dec
  dec_is e = ap of_bytes (e ∙ ap (λ (k : List (List ℕ)). decipher last n k (bytes_of b)) ok)
