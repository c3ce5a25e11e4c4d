-- The eight bytes of accepted settings, one by one.
use Rattle.std.proofs.Common.{◌≡◌, ℕ, ◌≤◌, cond, eqb, List, [], ◌∷◌, ◌++◌, length, get_or, sym, ◌∙◌, ⊎_elim, arith}
use Rattle.std.proofs.lemmas.Bool.{cases_eq, cond-true, cond-false, eq-eqb, ne_eqb}
use Rattle.block.proofs.Bytes.{listed_is}

flag_back : (f : ℕ) → f ≤ 1 → cond (eqb f 1) 1 0 ≡ f
flag_back f h = ⊎_elim (λ e. cond-true (eqb f 1) 1 0 (eq-eqb f 1 e) ∙ sym e) (λ n. cond-false (eqb f 1) 1 0 (ne_eqb f 1 n) ∙ omega arith) (cases_eq f 1)

pub settings_same : (b : List ℕ) (label : ℕ) → length b ≡ 8 → get_or b 0 0 ≡ label → get_or b 1 0 ≡ 0 → get_or b 3 0 ≤ 1 → get_or b 4 0 ≡ 128 → get_or b 5 0 ≡ 0 → get_or b 6 0 ≡ 0 → get_or b 7 0 ≡ 0
    → label ∷ 0 ∷ get_or b 2 0 ∷ cond (eqb (get_or b 3 0) 1) 1 0 ∷ 128 ∷ 0 ∷ 0 ∷ 0 ∷ [] ≡ b
settings_same b label n e0 e1 h3 e4 e5 e6 e7 = let all = listed_is 8 0 b (omega arith) in let f = flag_back (get_or b 3 0) h3 in cc

both : (a b x y : List ℕ) → a ≡ x → b ≡ y → a ++ b ≡ x ++ y
both a b x y e f = cc

-- sixteen bytes as twice eight
pub eight_eight : (n s : List ℕ) → length n ≡ 8 → length s ≡ 8
    → get_or n 0 0 ∷ get_or n 1 0 ∷ get_or n 2 0 ∷ get_or n 3 0 ∷ get_or n 4 0 ∷ get_or n 5 0 ∷ get_or n 6 0 ∷ get_or n 7 0 ∷ get_or s 0 0 ∷ get_or s 1 0 ∷ get_or s 2 0 ∷ get_or s 3 0 ∷ get_or s 4 0 ∷ get_or s 5 0 ∷ get_or s 6 0 ∷ get_or s 7 0 ∷ []
    ≡ n ++ s
eight_eight n s p q = sym (both n s _ _ (listed_is 8 0 n (omega arith)) (listed_is 8 0 s (omega arith)))
