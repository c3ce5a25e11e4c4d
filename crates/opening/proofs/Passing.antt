-- Blocks that pass, one after another.
use Rattle.std.proofs.Common.{◌≡◌, ℕ, suc, ◌+◌, ◌*◌, ◌/◌, ◌<◌, List, ◌++◌, sym, ap, ◌∙◌, subst, ⊎_elim, suc-mul, arith}
use native.Mathlib.Nat.{zero-div}
use Rattle.std.proofs.lemmas.Bool.{cases_lt}
use Rattle.block.specs.Bytes.{bytes_of}
use Rattle.block.specs.Field.{five}
use Rattle.block.specs.Value.{value, value_lt}
use Rattle.block.specs.declared.raw.Block.{Block}
use Rattle.cipher.specs.Meaning.{base}
use Rattle.elmd.specs.Stream.{Frame, t_of, iv, pow}
use Rattle.elmd.specs.Opening.{p_r, released, Check, Checks}
use Rattle.elmd.proofs.Quo.{quo_mono}
use Rattle.elmd.proofs.Strides.{quo_due, quo_not}
use Rattle.opening.specs.declared.state.Reading.{Reading}
use Rattle.opening.specs.Reading.{ReadsPast, Reads, Unread}
use Rattle.opening.specs.Judging.{Passed, FirstBad}

no_checks : (u : Frame) (s : List ℕ) → Checks u s 0
no_checks u s k p h = absurd (omega arith)

pub passed_none : (u : Frame) (s : List ℕ) (r : Reading) (out : List ℕ) → Reads u s 0 r → out ≡ released u s 0 → Passed u s 0 r out
passed_none u s r out ok w = record { reads = ok; checked = subst (Checks u s) (sym (zero-div (t_of u))) (no_checks u s); written = w }

pub checks_more : (u : Frame) (s : List ℕ) (j : ℕ) → Checks u s j → Check u s (suc j) → Checks u s (suc j)
checks_more u s j f g k p h = ⊎_elim (λ l. f k p (omega arith)) (λ l. let e : suc j ≡ k = omega arith in subst (Check u s) e g) (cases_lt k (suc j))

module _ (u : Frame) (s : List ℕ) (i since : ℕ) (r : Reading) (out : List ℕ) (ok : Passed u s i r out) (count : i ≡ i / t_of u * t_of u + since) where
  more : (b : ℕ) (out' : List ℕ) → b ≡ p_r u s (suc i) → out' ≡ out ++ bytes_of b → out' ≡ released u s (suc i)
  more b out' e w = w ∙ ap (λ (z : List ℕ). z ++ bytes_of b) ok.written ∙ ap (λ (z : ℕ). released u s i ++ bytes_of z) e

  -- a block with no check
  pub passed_on : (r' : Reading) (b : ℕ) (out' : List ℕ) → (since + 1 ≡ t_of u → ⊥) → ReadsPast u s (suc i) (i / t_of u) r' → b ≡ p_r u s (suc i) → out' ≡ out ++ bytes_of b → Passed u s (suc i) r' out'
  passed_on r' b out' n rd e w =
      let q = sym (quo_not i (t_of u) since count n) in
      record { reads = subst (λ (j : ℕ). ReadsPast u s (suc i) j r') q rd; checked = subst (Checks u s) q ok.checked; written = more b out' e w }

  module _ (due : since + 1 ≡ t_of u) where
    quo : suc (i / t_of u) ≡ suc i / t_of u
    quo = sym (quo_due i (t_of u) since count due)

    -- check j + 1 is due behind block i + 1
    pub at_check : suc i ≡ suc (i / t_of u) * t_of u
    at_check = let m : suc (i / t_of u) * t_of u ≡ i / t_of u * t_of u + t_of u = suc-mul (i / t_of u) (t_of u) in omega arith

    -- a block with a good check
    pub passed_check : (r' : Reading) (b : ℕ) (out' : List ℕ) → ReadsPast u s (suc i) (suc (i / t_of u)) r' → Check u s (suc (i / t_of u)) → b ≡ p_r u s (suc i) → out' ≡ out ++ bytes_of b → Passed u s (suc i) r' out'
    passed_check r' b out' rd g e w = record {
      reads = subst (λ (j : ℕ). ReadsPast u s (suc i) j r') quo rd;
      checked = subst (Checks u s) quo (checks_more u s (i / t_of u) ok.checked g);
      written = more b out' e w;
    }

    pub failed_first : (p : ℕ) → i < p → (Check u s (suc (i / t_of u)) → ⊥) → FirstBad u s (p / t_of u) (suc (i / t_of u))
    failed_first p h bad = let q = quo in let m = quo_mono (suc i) p (t_of u) (omega arith) in record { some = omega arith; most = omega arith; before = ok.checked; bad = bad }

-- before the first block
pub first_reads : (u : Frame) (s : List ℕ) (l v : Block) (r : Reading) → value l ≡ base u.cipher → value v ≡ iv u → Unread l v r → Reads u s 0 r
first_reads u s l v r el ev n =
    let z : 0 / t_of u ≡ 0 = zero-div (t_of u) in
    let e : 0 ≡ 0 + 0 / t_of u = omega arith in
    let b = value_lt l in
    record {
      small = omega arith;
      mixes = ap value n.mixes ∙ ev;
      masks = ap value n.masks ∙ el;
      out_masks = n.out_masks ∙ ap five el ∙ ap (λ (k : ℕ). five (pow k (base u.cipher))) e;
      sums = n.sums;
      passed = n.passed ∙ sym z;
    }
