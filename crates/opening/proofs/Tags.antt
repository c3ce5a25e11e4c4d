-- The judging of the last block and of the tag.
use Rattle.std.proofs.Common.{◌≡◌, ℕ, ◌+◌, ◌<◌, ◌≤◌, Bool, cond, eqb, List, length, get_or, take, Some, None, Option, sym, refl, ap, ◌∙◌, subst, ⊎_elim, arith, MatchOption}
use lib.Bits.{bit_or, bit_xor, xor_self}
use Rattle.std.proofs.lemmas.List.{take_more, take_more_same, same_from_push}
use Rattle.std.proofs.lemmas.Bool.{cases_eq, cond-true, cond-false, eq-eqb, ne_eqb}
use Rattle.block.specs.Bytes.{padded}
use Rattle.block.proofs.Laws.{xor_none}
use Rattle.block.proofs.Halves.{or_none}
use Rattle.elmd.specs.declared.refusal.Mark.{Mark}
use Rattle.elmd.specs.declared.refusal.Mark.TheVariants.{Filled, Whole}
use Rattle.elmd.specs.Refusals.{mark_number}
use Rattle.opening.specs.Last.{Ending}

-- nothing has differed so far exactly when the fronts are the same
pub differ_more : (a b : List ℕ) (i d : ℕ) → i < length a → i < length b → (d ≡ 0 → take i a ≡ take i b) → (take i a ≡ take i b → d ≡ 0)
    → (bit_or d (bit_xor (get_or a i 0) (get_or b i 0)) ≡ 0 → take (i + 1) a ≡ take (i + 1) b) × (take (i + 1) a ≡ take (i + 1) b → bit_or d (bit_xor (get_or a i 0) (get_or b i 0)) ≡ 0)
differ_more a b i d ha hb f g = (
  λ e. let n = or_none d (bit_xor (get_or a i 0) (get_or b i 0)) e in take_more_same a b i 0 ha hb (f n.0) (xor_none (get_or a i 0) (get_or b i 0) n.1),
  λ e.
      let p = same_from_push (take i a) (take i b) (get_or a i 0) (get_or b i 0) (sym (take_more a i 0 ha) ∙ e ∙ take_more b i 0 hb) in
      let z : d ≡ 0 = g p.0 in
      ap (λ (x : ℕ). bit_or x (bit_xor (get_or a i 0) (get_or b i 0))) z ∙ ap (λ (x : ℕ). bit_or 0 (bit_xor x (get_or b i 0))) p.1 ∙ ap (bit_or 0) (xor_self (get_or b i 0)),
)

-- one length is possible; it is taken where the tag's length goes with it
pub judged : (v : List ℕ) (mark : ℕ) (short : Bool) (tag k : ℕ) (r : Option ℕ) → r ≡ cond (eqb (cond short k 16) tag) (Some k) None → 1 ≤ k → (mark ≡ 1 → k ≡ 16) → (mark ≡ 0 → k < 16) → padded (take k v) ≡ v
    → ((j : ℕ) → Ending v mark short tag j → j ≡ k) → MatchOption r ((j : ℕ) → Ending v mark short tag j → ⊥) (Ending v mark short tag)
judged v mark short tag k r e some whole few filled only =
    let P : Option ℕ → Type 0 = λ o. MatchOption o ((j : ℕ) → Ending v mark short tag j → ⊥) (Ending v mark short tag) in
    subst P (sym e)
    (⊎_elim
    (λ g. subst P (sym (cond-true (eqb (cond short k 16) tag) (Some k) None (eq-eqb (cond short k 16) tag g))) (record { some = some; whole = whole; few = few; filled = filled; tagged = g }))
    (λ n. subst P (sym (cond-false (eqb (cond short k 16) tag) (Some k) None (ne_eqb (cond short k 16) tag n))) (λ j b. n (ap (λ (x : ℕ). cond short x 16) (sym (only j b)) ∙ b.tagged)))
    (cases_eq (cond short k 16) tag))

pub ending_le : {v : List ℕ} {short : Bool} {tag q : ℕ} (k : Mark) → Ending v (mark_number k) short tag q → q ≤ 16
ending_le Filled e = let f = e.few refl in omega arith
ending_le Whole e = let f = e.whole refl in omega arith
