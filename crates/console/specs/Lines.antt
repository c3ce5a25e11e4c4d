-- A text as lines. Behind the last newline there is a line only if there is a character.
use Rattle.std.specs.Prelude.{ℕ, ◌-◌, cond, List, [], ◌∷◌, length, take, ◌==◌, slice_index}

abbrev pub grown : ℕ → List (List ℕ) → List (List ℕ)
grown c [] = (c ∷ []) ∷ []
grown c (l ∷ ls) = (c ∷ l) ∷ ls

-- 10 is the newline
abbrev pub lines_of : List ℕ → List (List ℕ)
lines_of [] = []
lines_of (c ∷ rest) = cond (c == 10) ([] ∷ lines_of rest) (grown c (lines_of rest))

-- what stands before the newline at the end, or all
abbrev pub without_newline : List ℕ → List ℕ
without_newline l = cond (slice_index l (length l - 1) == 10) (take (length l - 1) l) l
