-- Pieces put each in its place.
use Rattle.std.proofs.Common.{◌≡◌, ℕ, ◌+◌, ◌-◌, ◌≤◌, List, [], ◌∷◌, ◌++◌, length, take, drop, replicate, slice_set, sym, ap, ◌∙◌, append_assoc, arith, length-append, length-drop, take-append-drop, length-take, length-set}
use borrow.Rule.Slice.PartMut.{put_mid}
use Rattle.std.proofs.lemmas.List.{take_all, take_more_set}
use Rattle.std.proofs.lemmas.Slice.{take-put_mid, drop-put_mid}

length_put : (a k : ℕ) (out piece : List ℕ) → a + k ≤ length out → length piece ≡ k → length (put_mid a k out piece) ≡ length out
length_put a k out piece h l = simp (length-append, length-take, length-drop) (omega arith)

-- the fields of a front, each put in its place
pub front_laid : (h s n t h' s' n' t' : List ℕ) (k k' : ℕ) → h ≡ h' → s ≡ s' → n ≡ n' → t ≡ t' → k ≡ k' → length h' ≡ 4 → length s' ≡ 4 → length n' ≡ 8 → length t' ≡ 8
    → slice_set (put_mid 17 8 (put_mid 9 8 (put_mid 5 4 (put_mid 1 4 (1 ∷ replicate 25 0) h) s) n) t) 25 k ≡ 1 ∷ (h' ++ (s' ++ (n' ++ (t' ++ k' ∷ []))))
front_laid h s n t h' s' n' t' k k' eh es en et ek lh ls ln lt =
    let lh' : length h ≡ 4 = ap length eh ∙ lh in
    let ls' : length s ≡ 4 = ap length es ∙ ls in
    let ln' : length n ≡ 8 = ap length en ∙ ln in
    let lt' : length t ≡ 8 = ap length et ∙ lt in
    let b₀ : List ℕ = 1 ∷ replicate 25 0 in
    let b₁ : List ℕ = put_mid 1 4 b₀ h in
    let b₂ : List ℕ = put_mid 5 4 b₁ s in
    let b₃ : List ℕ = put_mid 9 8 b₂ n in
    let b₄ : List ℕ = put_mid 17 8 b₃ t in
    let l₁ : length b₁ ≡ 26 = length_put 1 4 b₀ h (omega arith) lh' in
    let l₂ : length b₂ ≡ 26 = length_put 5 4 b₁ s (omega arith) ls' ∙ l₁ in
    let l₃ : length b₃ ≡ 26 = length_put 9 8 b₂ n (omega arith) ln' ∙ l₂ in
    let l₄ : length b₄ ≡ 26 = length_put 17 8 b₃ t (omega arith) lt' ∙ l₃ in
    let e₁ : take 5 b₁ ≡ 1 ∷ h = take-put_mid 1 4 b₀ h 5 (omega arith) (omega arith) in
    let e₂ : take 9 b₂ ≡ take 5 b₁ ++ s = take-put_mid 5 4 b₁ s 9 (omega arith) (omega arith) in
    let e₃ : take 17 b₃ ≡ take 9 b₂ ++ n = take-put_mid 9 8 b₂ n 17 (omega arith) (omega arith) in
    let e₄ : take 25 b₄ ≡ take 17 b₃ ++ t = take-put_mid 17 8 b₃ t 25 (omega arith) (omega arith) in
    let e₅ : take 26 (slice_set b₄ 25 k) ≡ take 25 b₄ ++ k ∷ [] = take_more_set b₄ 25 k (omega arith) in
    let all : take 26 (slice_set b₄ 25 k) ≡ slice_set b₄ 25 k = take_all 26 (slice_set b₄ 25 k) (rw length-set (omega arith)) in
    let joined : slice_set b₄ 25 k ≡ ((((1 ∷ h') ++ s') ++ n') ++ t') ++ k' ∷ [] =
    sym all ∙ e₅ ∙ ap (λ (x : List ℕ). x ++ k ∷ []) (e₄ ∙ ap (λ (x : List ℕ). x ++ t) (e₃ ∙ ap (λ (x : List ℕ). x ++ n) (e₂ ∙ ap (λ (x : List ℕ). x ++ s) e₁)))
    ∙ cc in
    joined ∙ simp append_assoc

-- front, heading and stream, each put behind the one before
pub file_laid : (out f h s f' h' s' : List ℕ) (b e : ℕ) → f ≡ f' → h ≡ h' → s ≡ s' → length f' ≡ 26 → b ≡ 26 + length h' → e ≡ b + length s' → e ≤ length out
    → put_mid b (e - b) (put_mid 26 (b - 26) (put_mid 0 (26 - 0) out f) h) s ≡ (f' ++ (h' ++ s')) ++ drop e out
file_laid out f h s f' h' s' b e ef eh es lf lb le room =
    let lf' : length f ≡ 26 = ap length ef ∙ lf in
    let lh' : length h ≡ b - 26 = ap length eh ∙ omega arith in
    let ls' : length s ≡ e - b = ap length es ∙ omega arith in
    let o₁ : List ℕ = put_mid 0 (26 - 0) out f in
    let o₂ : List ℕ = put_mid 26 (b - 26) o₁ h in
    let o₃ : List ℕ = put_mid b (e - b) o₂ s in
    let l₁ : length o₁ ≡ length out = length_put 0 26 out f (omega arith) lf' in
    let l₂ : length o₂ ≡ length out = length_put 26 (b - 26) o₁ h (omega arith) lh' ∙ l₁ in
    let t₁ : take 26 o₁ ≡ f = take-put_mid 0 26 out f 26 (omega arith) (omega arith) in
    let t₂ : take b o₂ ≡ take 26 o₁ ++ h = take-put_mid 26 (b - 26) o₁ h b (omega arith) (omega arith) in
    let t₃ : take e o₃ ≡ take b o₂ ++ s = take-put_mid b (e - b) o₂ s e (omega arith) (omega arith) in
    let d₁ : drop e o₁ ≡ drop e out = drop-put_mid 0 26 out f e (omega arith) (omega arith) lf' in
    let d₂ : drop e o₂ ≡ drop e o₁ = drop-put_mid 26 (b - 26) o₁ h e (omega arith) (omega arith) lh' in
    let d₃ : drop e o₃ ≡ drop e o₂ = drop-put_mid b (e - b) o₂ s e (omega arith) (omega arith) ls' in
    let whole : take e o₃ ++ drop e o₃ ≡ ((f' ++ h') ++ s') ++ drop e out = cc in
    sym (take-append-drop e o₃) ∙ whole ∙ ap (λ (x : List ℕ). x ++ drop e out) (append_assoc f' h' s')
