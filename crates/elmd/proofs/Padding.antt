-- A message and its blocks.
use Rattle.std.proofs.Common.{◌≡◌, ℕ, zero, suc, pred, ◌+◌, ◌-◌, ◌*◌, ◌%◌, ◌<◌, ◌≤◌, eqb, List, ◌∷◌, ◌++◌, length, get_or, take, replicate, sym, refl, ap, ◌∙◌, ⊎_elim, arith, length-drop, length-take, take-add}
use Rattle.std.proofs.lemmas.Bool.{cond-true, cond-false, eq-eqb, ne_eqb, cases_eq, cases_lt, cases_order}
use Rattle.std.proofs.lemmas.List.{get_or-append_right, get_or-take, take_at, take_all}
use Rattle.block.specs.Bytes.{bytes_of, padded, Bytes}
use Rattle.block.proofs.Bytes.{number_back}
use Rattle.elmd.specs.Stream.{part, block_at, blocks, last_size, mark, join_to}
use Rattle.block.proofs.Filling.{padded_length}
use Rattle.elmd.proofs.Bounds.{padded_bytes, part_short, part_bytes}

zeros_read : (n d : ℕ) → ◌≡◌ {A = ℕ} (get_or (replicate n 0) d 0) 0
zeros_read zero d = refl
zeros_read (suc n) zero = refl
zeros_read (suc n) (suc d) = zeros_read n d

pad_read : (a : List ℕ) (d : ℕ) → length a + d < 16 → get_or (padded a) (length a + d) 0 ≡ get_or (0x80 ∷ replicate 15 0) d 0
pad_read a d h =
    let n : ℕ = length a in
    let fill : List ℕ = 0x80 ∷ replicate 15 0 in
    let e : n + d - n ≡ d = omega arith in
    get_or-append_right a (take (16 - n) fill) n (n + d) 0 refl (omega arith) ∙ ap (λ (i : ℕ). get_or (take (16 - n) fill) i 0) e ∙ get_or-take (16 - n) fill d 0 (omega arith)

pad_differs : (a b : List ℕ) → length a < length b → length b < 16 → padded a ≡ padded b → ⊥
pad_differs a b h l e =
    let d : ℕ = pred (length b - length a) in
    let p : length a + suc d ≡ length b = omega arith in
    let q : length b + 0 ≡ length b = omega arith in
    let x : get_or (padded a) (length b) 0 ≡ 0 = ap (λ (i : ℕ). get_or (padded a) i 0) (sym p) ∙ pad_read a (suc d) (omega arith) ∙ zeros_read 15 d in
    let y : get_or (padded b) (length b) 0 ≡ 0x80 = ap (λ (i : ℕ). get_or (padded b) i 0) (sym q) ∙ pad_read b 0 (omega arith) in
    let z : ◌≡◌ {A = ℕ} 0 0x80 = sym x ∙ ap (λ (v : List ℕ). get_or v (length b) 0) e ∙ y in
    omega arith

-- two short blocks, or two whole ones, with the same filled block
pub pad_same : (a b : List ℕ) → length a ≤ 16 → length b ≤ 16 → (length a ≡ 16 → length b ≡ 16) → (length b ≡ 16 → length a ≡ 16) → padded a ≡ padded b → a ≡ b
pad_same a b la lb f g e =
    let n : ℕ = length a in
    let same : length a ≡ length b = ⊎_elim (λ q. q) (λ o. ⊎_elim
    (λ q. ⊎_elim (λ w. absurd (pad_differs a b q w e)) (λ w. let c = g (omega arith) in omega arith) (cases_lt (length b) 16))
    (λ q. ⊎_elim (λ w. absurd (pad_differs b a q w (sym e))) (λ w. let c = f (omega arith) in omega arith) (cases_lt (length a) 16)) o) (cases_order (length a) (length b)) in
    sym (take_at a (take (16 - n) (0x80 ∷ replicate 15 0)) n refl) ∙ ap (take n) e ∙ take_at b (take (16 - length b) (0x80 ∷ replicate 15 0)) n (sym same)

pub blocks_same : (m n : List ℕ) (i j : ℕ) → Bytes m → Bytes n → block_at m i ≡ block_at n j → padded (part m i) ≡ padded (part n j)
unfolding block_at
blocks_same m n i j hm hn e =
    let a = number_back (padded (part m i)) (padded_length (part m i) (part_short m i)) (padded_bytes (part m i) (part_bytes m i hm)) in
    let b = number_back (padded (part n j)) (padded_length (part n j) (part_short n j)) (padded_bytes (part n j) (part_bytes n j hn)) in
    sym a ∙ ap bytes_of e ∙ b

pub parts_join : (m : List ℕ) (i : ℕ) → join_to (part m) i ≡ take (16 * i) m
parts_join m zero = refl
parts_join m (suc i) =
    let e : 16 * suc i ≡ 16 * i + 16 = omega arith in
    ap (λ (z : List ℕ). z ++ part m (suc i)) (parts_join m i) ∙ sym (take-add (16 * i) 16 m) ∙ ap (λ (n : ℕ). take n m) (sym e)

pub parts_all : (m : List ℕ) → join_to (part m) (blocks m) ≡ m
parts_all m = parts_join m (blocks m) ∙ take_all (16 * blocks m) m (omega arith)

pub inner_part : (m : List ℕ) (i : ℕ) → suc i < blocks m → length (part m (suc i)) ≡ 16
inner_part m i h = simp (length-take, length-drop) (omega arith)

pub last_part : (m : List ℕ) → 1 ≤ length m → length (part m (blocks m)) ≡ last_size m
last_part m h = simp (length-take, length-drop) (omega arith)

pub mark_whole : (m : List ℕ) → 1 ≤ length m → mark m ≡ 1 → last_size m ≡ 16
unfolding mark
mark_whole m h e = ⊎_elim (λ z. omega arith) (λ z. let c : mark m ≡ 0 = cond-false (eqb (length m % 16) 0) 1 0 (ne_eqb (length m % 16) 0 z) in let d : ◌≡◌ {A = ℕ} 0 1 = sym c ∙ e in omega arith) (cases_eq (length m % 16) 0)

pub whole_mark : (m : List ℕ) → 1 ≤ length m → last_size m ≡ 16 → mark m ≡ 1
unfolding mark
whole_mark m h e = cond-true (eqb (length m % 16) 0) 1 0 (eq-eqb (length m % 16) 0 (omega arith))

pub short_mark : (m : List ℕ) → 1 ≤ length m → last_size m < 16 → mark m ≡ 0
unfolding mark
short_mark m h e = cond-false (eqb (length m % 16) 0) 1 0 (ne_eqb (length m % 16) 0 (omega arith))
