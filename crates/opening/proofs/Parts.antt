-- The whole of a message's place, from its front and its end.
use Rattle.std.proofs.Common.{◌≡◌, ℕ, suc, pred, ◌+◌, ◌-◌, ◌*◌, ◌/◌, ◌≤◌, List, ◌++◌, take, replicate, sym, ap, ◌∙◌, subst, append_assoc, arith}
use Rattle.block.specs.Bytes.{bytes_of}
use Rattle.elmd.specs.declared.refusal.Refusal.{Refusal}
use Rattle.elmd.specs.declared.refusal.Refusal.TheVariants.{BadCheck, BadTag}
use Rattle.elmd.specs.Stream.{Frame, t_of, checks}
use Rattle.elmd.specs.Opening.{released, Checks, last_r}
use Rattle.opening.specs.declared.state.Reading.{Reading}
use Rattle.opening.specs.Judging.{Cause, FirstBad, Passed, BadEnd, Good, EndRight}

pub cause_map : (P Q : ℕ → Type 0) (S T : Type 0) → ((j : ℕ) → P j → Q j) → (S → T) → (e : Refusal) → Cause P S e → Cause Q T e
cause_map P Q S T f g (BadCheck j) x = f j x
cause_map P Q S T f g BadTag x = g x
cause_map P Q S T f g e x = absurd x

module _ (u : Frame) (s : List ℕ) (k l : ℕ) (some : 1 ≤ l) where
  less : l - 1 ≡ pred l
  less = omega arith

  back : suc (l - 1) ≡ l
  back = omega arith

  pub front_fails : (e : Refusal) → Cause (FirstBad u s ((l - 1) / t_of u)) ⊥ e → Cause (FirstBad u s (checks u l)) (BadEnd u s k l) e
  front_fails e x = cause_map (FirstBad u s ((l - 1) / t_of u)) (FirstBad u s (checks u l)) ⊥ (BadEnd u s k l) (λ j b. subst (λ (n : ℕ). FirstBad u s (n / t_of u) j) less b) absurd e x

  module _ (r : Reading) (out : List ℕ) (ok : Passed u s (l - 1) r out) where
    all_checked : Checks u s (checks u l)
    all_checked = subst (λ (n : ℕ). Checks u s (n / t_of u)) less ok.checked

    pub end_fails : ((q : ℕ) → EndRight u s k (suc (l - 1)) q → ⊥) → BadEnd u s k l
    end_fails f = record {
      checked = all_checked;
      wrong = λ q x. f q (subst (λ (n : ℕ). EndRight u s k n q) (sym back) (record { some = x.some; whole = x.whole; short = x.short; filled = x.filled; sized = x.sized; tagged = x.tagged }));
    }

    pub end_good : (q v : ℕ) (part : List ℕ) → EndRight u s k (suc (l - 1)) q → v ≡ last_r u s (suc (l - 1)) k → part ≡ out ++ (take q (bytes_of v) ++ replicate (16 - q) 0) → Good u s k l (16 * (l - 1) + q) part q
    end_good q v part x ev w =
        let y : EndRight u s k l q = subst (λ (n : ℕ). EndRight u s k n q) back x in
        let e : v ≡ last_r u s l k = ev ∙ ap (λ (n : ℕ). last_r u s n k) back in
        record {
          right = record { checked = all_checked; some = y.some; whole = y.whole; short = y.short; filled = y.filled; sized = y.sized; tagged = y.tagged };
          counted = ap (λ (n : ℕ). 16 * n + q) less;
          written = w ∙ ap (λ (z : List ℕ). z ++ (take q (bytes_of v) ++ replicate (16 - q) 0)) (ok.written ∙ ap (released u s) less)
              ∙ ap (λ (z : ℕ). released u s (pred l) ++ (take q (bytes_of z) ++ replicate (16 - q) 0)) e
              ∙ sym (append_assoc (released u s (pred l)) (take q (bytes_of (last_r u s l k))) (replicate (16 - q) 0));
        }
