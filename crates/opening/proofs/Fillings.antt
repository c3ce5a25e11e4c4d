-- Where the filling of a block begins.
use Rattle.std.proofs.Common.{◌≡◌, ℕ, suc, ◌+◌, ◌-◌, ◌<◌, ◌≤◌, List, [], ◌∷◌, ◌++◌, length, get_or, take, drop, set, replicate, sym, refl, ap, ◌∙◌, ⊎_elim, arith, length-append, length-drop, take-append-drop}
use Rattle.std.proofs.lemmas.Bool.{cases_lt, cases_eq}
use Rattle.std.proofs.lemmas.List.{drop_more, get_or-drop, get_or_at, get_or-append_right, get_or-replicate, length-take-le, set_at, append-nil, append_assoc, take_all}
use Rattle.block.specs.Bytes.{padded}
use Rattle.block.proofs.Filling.{filled_is}
use Rattle.opening.specs.Last.{Begins80}

pub front_filled : (v : List ℕ) (k : ℕ) → length v ≡ 16 → k < 16 → padded (take k v) ≡ take k v ++ 0x80 ∷ replicate (15 - k) 0
front_filled v k size h =
    let n : length (take k v) ≡ k = length-take-le k v (omega arith) in
    (filled_is (take k v)).1 (omega arith) ∙ ap (λ (i : ℕ). take k v ++ 0x80 ∷ replicate (15 - i) 0) n

module _ (v : List ℕ) (size : length v ≡ 16) where
  pub fill_here : (k : ℕ) → k < 16 → get_or v k 0 ≡ 0x80 → drop (k + 1) v ≡ replicate (15 - k) 0 → padded (take k v) ≡ v
  fill_here k h e z =
      front_filled v k size h ∙ ap (λ (x : ℕ). take k v ++ x ∷ replicate (15 - k) 0) (sym e) ∙ ap (λ (x : List ℕ). take k v ++ get_or v k 0 ∷ x) (sym z)
      ∙ ap (λ (x : List ℕ). take k v ++ x) (sym (drop_more v k 0 (omega arith))) ∙ take-append-drop k v

  module _ (r : ℕ) (b : Begins80 v r) where
    cut : v ≡ take r v ++ 0x80 ∷ replicate (15 - r) 0
    cut = sym b.filled ∙ front_filled v r size b.few

    len : length (take r v) ≡ r
    len = let f = b.few in length-take-le r v (omega arith)

    at_start : get_or v r 0 ≡ 0x80
    at_start = ap (λ (x : List ℕ). get_or x r 0) cut ∙ get_or_at (take r v) 0x80 (replicate (15 - r) 0) 0 r len

    behind : (j : ℕ) → r < j → j < 16 → get_or v j 0 ≡ 0
    behind j h l =
        let e : j - r ≡ suc (j - r - 1) = omega arith in
        ap (λ (x : List ℕ). get_or x j 0) cut ∙ get_or-append_right (take r v) (0x80 ∷ replicate (15 - r) 0) r j 0 len (omega arith)
        ∙ ap (λ (i : ℕ). get_or (0x80 ∷ replicate (15 - r) 0) i 0) e ∙ get_or-replicate (15 - r) (j - r - 1) 0 0 (omega arith)

    -- it begins at the last byte that is not 0
    pub filled_last : (k : ℕ) → k < 16 → (get_or v k 0 ≡ 0 → ⊥) → ((j : ℕ) → k + 1 ≤ j → j < length v → get_or v j 0 ≡ 0) → (r ≡ k) × (get_or v k 0 ≡ 0x80)
    filled_last k h m after =
        ⊎_elim (λ l. absurd (m (behind k l h)))
        (λ g. ⊎_elim (λ x. (x, ap (λ (i : ℕ). get_or v i 0) (sym x) ∙ at_start)) (λ x. absurd (let f = b.few in let a = at_start in let z = after r (omega (arith, x)) (omega arith) in omega arith)) (cases_eq r k))
        (cases_lt r k)

    pub filled_some : ((j : ℕ) → j < length v → get_or v j 0 ≡ 0) → ⊥
    filled_some zeros = let f = b.few in let a = at_start in let z = zeros r (omega arith) in omega arith

pub all_zero : (xs : List ℕ) → ((j : ℕ) → j < length xs → get_or xs j 0 ≡ 0) → xs ≡ replicate (length xs) 0
all_zero [] z = refl
all_zero (x ∷ xs) z = ap (λ (y : ℕ). y ∷ xs) (z 0 (omega arith)) ∙ ap (λ (l : List ℕ). 0 ∷ l) (all_zero xs (λ j h. z (suc j) (omega arith)))

-- and behind it come zeros
pub zeros_behind : (v : List ℕ) (k : ℕ) → length v ≡ 16 → ((j : ℕ) → k + 1 ≤ j → j < length v → get_or v j 0 ≡ 0) → drop (k + 1) v ≡ replicate (15 - k) 0
zeros_behind v k size after =
    let n : length (drop (k + 1) v) ≡ 15 - k = simp length-drop (omega arith) in
    all_zero (drop (k + 1) v) (λ j h. get_or-drop (k + 1) v j 0 ∙ after (k + 1 + j) (omega arith) (omega (arith, length-drop (k + 1) v))) ∙ ap (λ (i : ℕ). replicate i 0) n

-- the message bytes of a last block, and zeros in the place of its filling
pub cleared : (p v : List ℕ) (k n : ℕ) → length p ≡ n → length v ≡ 16 → k < 16 → padded (take k v) ≡ v → set (p ++ v) (n + k) 0 ≡ p ++ (take k v ++ replicate (16 - k) 0)
cleared p v k n ep ev h f =
    let e : v ≡ take k v ++ 0x80 ∷ replicate (15 - k) 0 = sym f ∙ front_filled v k ev h in
    let l : length (take k v) ≡ k = length-take-le k v (omega arith) in
    let m : length (p ++ take k v) ≡ n + k = length-append p (take k v) ∙ omega arith in
    let s : suc (15 - k) ≡ 16 - k = omega arith in
    ap (λ (x : List ℕ). set (p ++ x) (n + k) 0) e ∙ ap (λ (x : List ℕ). set x (n + k) 0) (sym (append_assoc p (take k v) (0x80 ∷ replicate (15 - k) 0)))
    ∙ set_at (p ++ take k v) 0x80 (replicate (15 - k) 0) 0 (n + k) m ∙ append_assoc p (take k v) (0 ∷ replicate (15 - k) 0) ∙ ap (λ (i : ℕ). p ++ (take k v ++ replicate i 0)) s

pub kept_whole : (p v : List ℕ) (k : ℕ) → length v ≡ 16 → 16 ≤ k → k ≤ 16 → p ++ v ≡ p ++ (take k v ++ replicate (16 - k) 0)
kept_whole p v k ev h g =
    let z : 16 - k ≡ 0 = omega arith in
    ap (λ (x : List ℕ). p ++ x) (sym (append-nil v) ∙ ap (λ (x : List ℕ). x ++ []) (sym (take_all k v (omega arith))) ∙ ap (λ (i : ℕ). take k v ++ replicate i 0) (sym z))
