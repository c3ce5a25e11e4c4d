-- An array that a closure gives, place by place.
use Rattle.std.proofs.Common.{◌≡◌, ◌≢◌, ℕ, zero, suc, ◌+◌, ◌<◌, ◌≤◌, List, get_or, map, refl, ◌∙◌, subst, ⊎_elim, arith}
use Rattle.std.proofs.lemmas.Bool.{cases_eq}
use Rattle.std.specs.Array.{IsFromFnResult, IsFromFnResultFrom}
use Rattle.std.specs.List.{range_with_len}
use Rattle.std.specs.Fn.{Called}
use Rattle.std.proofs.lemmas.List.FromFn.{fill_by_all}
use denote.Param.Members.{Mut}

-- a closure whose calls leave it as it was, and give h of each place
module _ {F B : Type 0} (g : Mut F (ℕ × Unit {0}) B) (f : F) (h : ℕ → B)
    (step : (i : ℕ) (y : B) (q : F) → Called g f (i, tt) y q → (y ≡ h i) × (q ≡ f)) (ys : List B) (d : B) where
  from_calls : (n i : ℕ) (p : F) → p ≡ f → IsFromFnResultFrom g p ys i n → (k : ℕ) → i ≤ k → k < i + n → get_or ys k d ≡ h k
  from_calls zero i p e r k low lt = absurd (omega arith)
  from_calls (suc n) i p e r k low lt =
      let s = step i r.1 r.0 (subst (λ (p : F). Called g p (i, tt) r.1 r.0) e r.3) in
      ⊎_elim (λ (same : k ≡ i). rw same (r.2.1 d ∙ s.0)) (λ (ne : k ≢ i). from_calls n (i + 1) r.0 s.1 r.4 k (omega arith) (omega arith)) (cases_eq k i)

  pub from_fn_is : (n : ℕ) → IsFromFnResult g f ys n → ys ≡ map h (range_with_len 0 n)
  from_fn_is n r = fill_by_all h ys n d r.long (λ k lt. from_calls n 0 f refl r.each k (omega arith) (omega arith))
