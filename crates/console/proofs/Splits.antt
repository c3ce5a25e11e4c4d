-- The first line of a text, and the lines behind it.
use Rattle.std.proofs.Common.{◌≡◌, ℕ, zero, suc, ◌+◌, ◌-◌, ◌<◌, ◌≤◌, min, eqb, List, [], ◌∷◌, ◌++◌, length, get_or, take, drop, sym, ap, ◌∙◌, ⊎_elim, arith}
use Rattle.std.specs.List.{IsFirstMatchOrLen}
use Rattle.std.proofs.lemmas.Grind.{common_steps}
use Rattle.std.proofs.lemmas.List.{take_all, drop_all}
use Rattle.std.proofs.lemmas.Bool.{eq-eqb, eqb-true, ne_eqb, false≢true, cases_lt, cond-true, cond-false}
use Rattle.console.specs.Lines.{lines_of, grown, without_newline}

pub lines_newline : (x : ℕ) (rest : List ℕ) → x ≡ 10 → lines_of (x ∷ rest) ≡ [] ∷ lines_of rest
lines_newline x rest e = cond-true (eqb x 10) ([] ∷ lines_of rest) (grown x (lines_of rest)) (eq-eqb x 10 e)

pub lines_other : (x : ℕ) (rest : List ℕ) → (x ≡ 10 → ⊥) → lines_of (x ∷ rest) ≡ grown x (lines_of rest)
lines_other x rest e = cond-false (eqb x 10) ([] ∷ lines_of rest) (grown x (lines_of rest)) (ne_eqb x 10 e)

pub first_line : (xs : List ℕ) (n : ℕ) → 0 < length xs → n ≤ length xs
    → ((k : ℕ) → k < n → get_or xs k 0 ≡ 10 → ⊥) → (n < length xs → get_or xs n 0 ≡ 10)
    → lines_of xs ≡ take n xs ∷ lines_of (drop (suc n) xs)
first_line [] n some h none ends = absurd (omega arith)
first_line (x ∷ rest) zero some h none ends = lines_newline x rest (ends (omega arith))
first_line (x ∷ []) (suc zero) some h none ends = lines_other x [] (none 0 (omega arith))
first_line (x ∷ []) (suc (suc n)) some h none ends = absurd (omega arith)
first_line (x ∷ y ∷ rest) (suc n) some h none ends =
    lines_other x (y ∷ rest) (none 0 (omega arith))
    ∙ ap (grown x) (first_line (y ∷ rest) n (omega arith) (omega arith) (λ k l. none (suc k) (omega arith)) (λ l. ends (omega arith)))

-- the part through the first newline, and what is behind it
found : (xs part rest : List ℕ) (i : ℕ) → i < length xs → xs ≡ part ++ rest → length part ≡ i + 1
    → ((k : ℕ) → k < i → get_or xs k 0 ≡ 10 → ⊥) → get_or xs i 0 ≡ 10
    → lines_of xs ≡ without_newline part ∷ lines_of rest
found xs part rest i l e size none ends =
    let f = first_line xs i (omega arith) (omega arith) none (λ _. ends) in
    let behind : rest ≡ drop (suc i) xs = grind (arith, common_steps) in
    let last : get_or part i 0 ≡ 10 = grind (arith, common_steps) in
    let front : take i part ≡ take i xs = grind (arith, common_steps) in
    let at : length part - 1 ≡ i = omega arith in
    let w : without_newline part ≡ take i xs = rw (at, last) front in
    cc

-- the last part, which has none
unfound : (xs part rest : List ℕ) → 0 < length xs → xs ≡ part ++ rest → length part ≡ length xs
    → ((k : ℕ) → k < length xs → get_or xs k 0 ≡ 10 → ⊥)
    → lines_of xs ≡ without_newline part ∷ lines_of rest
unfound xs part rest some e size none =
    let f = first_line xs (length xs) some (omega arith) none (λ l. absurd (omega arith)) in
    let empty : rest ≡ [] = grind (arith, common_steps) in
    let all : part ≡ xs = grind (arith, common_steps) in
    let front = take_all (length xs) xs (omega arith) in
    let behind = drop_all (suc (length xs)) xs (omega arith) in
    let w : without_newline xs ≡ xs = cond-false (eqb (get_or xs (length xs - 1) 0) 10) _ _ (ne_eqb _ 10 (none (length xs - 1) (omega arith))) in
    cc

pub first_part : (xs part rest : List ℕ) (i : ℕ) → 0 < length xs → xs ≡ part ++ rest → length part ≡ min (i + 1) (length xs)
    → IsFirstMatchOrLen (λ b. eqb b 10) xs i → lines_of xs ≡ without_newline part ∷ lines_of rest
first_part xs part rest i some e size first =
    let none = λ (k : ℕ) (l : k < i). λ (is : get_or xs k 0 ≡ 10). false≢true (sym (first.0 k 0 (omega arith) l) ∙ eq-eqb (get_or xs k 0) 10 is) in
    ⊎_elim
    (λ l. found xs part rest i l e (omega arith) none (eqb-true (get_or xs i 0) 10 (first.1 l 0)))
    (λ l. unfound xs part rest some e (omega arith) (λ k m. none k (omega arith)))
    (cases_lt i (length xs))
