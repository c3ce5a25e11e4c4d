-- Pieces joined one after another.
use Rattle.std.proofs.Common.{◌≡◌, ℕ, ◌+◌, ◌<◌, ◌≤◌, ltb, List, [], ◌++◌, length, get_or, take, drop, Ok, Err, sym, ap, ◌∙◌, ⊎_elim, arith, length-append, take-append-drop, Bor}
use Rattle.std.proofs.lemmas.Bool.{cond-true, cond-false, lt-ltb, le-ltb, cases_lt}
use Rattle.std.proofs.lemmas.List.{take_more, flat_map_more}
use Rattle.std.proofs.lemmas.List.Concat.{flat_map-append}
use Rattle.elmd.specs.declared.refusal.Refusal.{Refusal}
use Rattle.elmd.specs.declared.refusal.Refusal.TheVariants.{HeadingLength}
use Rattle.elmd.specs.Heading.{add_answer}
use Rattle.rehearsal.specs.Joined.{joined_bytes}

abbrev now : Bor (List ℕ) → List ℕ
now p = p.now

pub joined_more : (ps : List (Bor (List ℕ))) (i : ℕ) (d : Bor (List ℕ)) → i < length ps → joined_bytes (take (i + 1) ps) ≡ joined_bytes (take i ps) ++ (get_or ps i d).now
joined_more ps i d h = ap joined_bytes (take_more ps i d h) ∙ sym (flat_map_more now [] (take i ps) (get_or ps i d))

-- the pieces before and at i are no longer than all of them
pub joined_fits : (ps : List (Bor (List ℕ))) (i : ℕ) → length (joined_bytes (take i ps)) ≤ length (joined_bytes ps)
joined_fits ps i =
    let e : length (joined_bytes (take i ps)) + length (joined_bytes (drop i ps)) ≡ length (joined_bytes ps) =
    sym (length-append (joined_bytes (take i ps)) (joined_bytes (drop i ps))) ∙ ap length (sym (flat_map-append now (take i ps) (drop i ps)) ∙ ap joined_bytes (take-append-drop i ps)) in
    omega arith

-- a refusal of a part is one of the whole
pub add_refused : (len size len' size' : ℕ) (why : Refusal) → Err why ≡ add_answer len size → len + size ≤ len' + size' → Err why ≡ add_answer len' size'
add_refused len size len' size' why e h =
    ⊎_elim
    (λ l. e ∙ cond-true (ltb 65536 (len + size)) (Err HeadingLength) (Ok tt) (lt-ltb 65536 (len + size) l) ∙ sym (cond-true (ltb 65536 (len' + size')) (Err HeadingLength) (Ok tt) (lt-ltb 65536 (len' + size') (omega arith))))
    (λ l. let a : add_answer len size ≡ Ok tt = cond-false (ltb 65536 (len + size)) (Err HeadingLength) (Ok tt) (le-ltb 65536 (len + size) l) in let z : ◌≡◌ {A = ℕ} 0 1 = cc in absurd (omega arith))
    (cases_lt 65536 (len + size))

-- and an open heading is never longer
pub add_fits : (len size : ℕ) → len + size ≤ 65536 → Ok tt ≡ add_answer len size
add_fits len size h = sym (cond-false (ltb 65536 (len + size)) (Err HeadingLength) (Ok tt) (le-ltb 65536 (len + size) h))
