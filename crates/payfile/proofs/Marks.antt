-- The mark of a front.
use Rattle.std.proofs.Common.{◌≡◌, ℕ, zero, suc, ◌≤◌, true, false, ltb, Ok, Err, Result, MatchResult, ap, sym, ◌∙◌, arith}
use Rattle.std.specs.Result.{is_ok}
use Rattle.std.proofs.lemmas.Bool.{le-ltb}
use Rattle.elmd.specs.declared.refusal.Mark.{Mark}
use Rattle.elmd.specs.declared.refusal.UnknownMark.{UnknownMark}
use Rattle.elmd.specs.Refusals.{mark_number, mark_of, Decodes}
use Rattle.payfile.specs.declared.refusal.FileFault.{FileFault}

numbered : (n : ℕ) (k : Mark) → n ≤ 1 → k ≡ mark_of n → mark_number k ≡ n
numbered zero k h e = ap mark_number e
numbered (suc zero) k h e = ap mark_number e
numbered (suc (suc n)) k h e = absurd (omega arith)

-- a mark that was read, where another error takes the place of an unknown mark's
pub mark_back : (n : ℕ) (k : Mark) (q : Result Mark UnknownMark) (r : Result Mark FileFault) (Q : UnknownMark → Type 0) → Decodes n q → MatchResult q (λ x. r ≡ Ok x) Q → is_ok r ≡ is_ok q → r ≡ Ok k
    → (ltb 1 n ≡ false) × (mark_number k ≡ n)
mark_back n k (Ok x) r Q d m v e = let same : x ≡ k = cc in (le-ltb 1 n d.0, numbered n k d.0 (sym same ∙ d.1))
mark_back n k (Err w) r Q d m v e =
    let ok : is_ok r ≡ true = ap is_ok e in
    absurd (cc)
