-- A list whose part from `at` on was written anew, as a call leaves it that got this part: `size` elements are new.
use Rattle.std.proofs.Common.{◌≡◌, ℕ, ◌+◌, ◌≤◌, List, ◌++◌, length, take, drop, sym, ap, ◌∙◌, subst, arith, length-take, take-append-drop}
use Rattle.std.proofs.lemmas.List.{drop-drop, take-append-le, drop-append-le}
use Rattle.std.proofs.Math.Seq.{take-append-add, drop-append-add}
use borrow.Rule.Slice.PartMut.{put_mid, mid_of, post_of}

module _ (at k size : ℕ) (old part : List ℕ) (le : at ≤ length old) (h : size ≤ length part) where
  front_length : length (take at old) ≡ at
  front_length = simp length-take (omega arith)

  pub take-behind : take (at + size) (put_mid at k old part) ≡ take at old ++ take size part
  take-behind =
      ap (λ (n : ℕ). take (n + size) (put_mid at k old part)) (sym front_length) ∙ take-append-add (take at old) (part ++ post_of at k old) size
      ∙ ap (λ (z : List ℕ). take at old ++ z) (take-append-le size part (post_of at k old) h)

  -- what lies behind is as it first was
  module _ (first : List ℕ) (n : length part ≡ length (mid_of at k old)) (f : drop size part ≡ drop size (mid_of at k old)) (o : drop at old ≡ drop at first) where
    pub drop-behind : drop (at + size) (put_mid at k old part) ≡ drop (at + size) first
    drop-behind =
        ap (λ (i : ℕ). drop (i + size) (put_mid at k old part)) (sym front_length) ∙ drop-append-add (take at old) (part ++ post_of at k old) size
        ∙ drop-append-le size part (post_of at k old) h ∙ ap (λ (z : List ℕ). z ++ post_of at k old) f
        ∙ sym (drop-append-le size (mid_of at k old) (post_of at k old) (subst (λ (i : ℕ). size ≤ i) n h)) ∙ ap (drop size) (take-append-drop k (drop at old) ∙ o) ∙ drop-drop size at first

    pub whole-behind : (s a b : List ℕ) → s ≡ a ++ b → length s ≡ at + size → take at old ≡ a → take size part ≡ b → put_mid at k old part ≡ s ++ drop (length s) first
    whole-behind s a b e l ea eb =
        sym (take-append-drop (at + size) (put_mid at k old part)) ∙ ap (λ (z : List ℕ). z ++ drop (at + size) (put_mid at k old part)) (take-behind ∙ ap (λ (z : List ℕ). z ++ take size part) ea ∙ ap (λ (z : List ℕ). a ++ z) eb ∙ sym e)
        ∙ ap (λ (z : List ℕ). s ++ z) drop-behind ∙ ap (λ (i : ℕ). s ++ drop i first) (sym l)
