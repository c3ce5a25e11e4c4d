use Rattle.std.proofs.Common.{◌≡◌, ℕ, ◌<◌, Bool, true, false, Option, Some, None, length, sym, refl, ◌∙◌, arith, rules}
use Rattle.std.proofs.lemmas.Bool.{eq-eqb, eqb-true, le-ltb, true≢false}
use Rattle.std.specs.Bool.{then_some}
use Rattle.std.specs.Option.{MatchOption}
use Rattle.opening.specs.Last.{Begins80}
use Rattle.opening.proofs.Fillings.{fill_here, filled_last, filled_some, zeros_behind}
use Rattle.opening.proofs.last.filling_start.Goals as goal
use Rattle.opening.proofs.last.filling_start.Goals.{then-k-gt0, else-k-gt0}

pub returns-in_err-k : goal.returns-in_err-k
returns-in_err-k c = rw c.from_residual.ensures (λ r b. filled_some c.args.v.now (search rules) r b (search rules))

-- an answer that is there by a flag
by_flag : (P : Option ℕ → Type 0) (b : Bool) (k : ℕ) → (b ≡ true → P (Some k)) → (b ≡ false → P None) → P (then_some b k)
by_flag P true k y n = y refl
by_flag P false k y n = n refl

pub returns : goal.returns
returns c =
    let v = c.args.v.now in
    let k = c.in_ok-k.k in
    let size : length v ≡ 16 = search rules in
    let inside : k < length v = search rules in
    let last = λ (r : ℕ) (b : Begins80 v r). filled_last v size r b k (omega arith) (search rules) (search rules) in
    let P : Option ℕ → Type 0 = λ z. MatchOption z ((r : ℕ) → Begins80 v r → ⊥) (Begins80 v) in
    rw c.then_some.ensures (elim c.if-k-gt0.branch [
      | then-k-gt0 w ↦ by_flag P c.if-k-gt0.then_some k
          (λ yes. let some = w.if-k-gt0.true in record { some = omega arith; few = omega arith; filled = fill_here v size k (omega arith) (eqb-true _ _ (sym w.then_some-is ∙ yes)) (zeros_behind v k size (search rules)) })
          (λ no r b. let s = b.some in true≢false (sym (eq-eqb _ _ (last r b).1) ∙ sym w.then_some-is ∙ no))
      | else-k-gt0 w ↦ by_flag P c.if-k-gt0.then_some k
          (λ yes. absurd (true≢false (sym yes ∙ w.then_some-is ∙ le-ltb 0 k w.if-k-gt0.false)))
          (λ no r b. let e = (last r b).0 in let s = b.some in let z = w.if-k-gt0.false in omega arith)
    ])
