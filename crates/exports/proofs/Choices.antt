-- The cipher that a label names, and an opening under it.
use Rattle.std.proofs.Common.{◌≡◌, ◌≢◌, ℕ, zero, suc, ◌≤◌, Bool, cond, eqb, List, Some, Ok, Err, Option, Result, refl, ap, ◌∙◌, ⊎_elim, arith}
use Rattle.std.proofs.lemmas.Bool.{ne_eqb, cases_eq}
use Rattle.std.specs.Option.{option_map, unwrap_or}
use Rattle.std.specs.Result.{result_unwrap_or}
use Rattle.block.specs.declared.raw.Block.{Block}
use Rattle.block.specs.Bytes.{bytes_of, of_bytes, padded}
use Rattle.block.specs.Value.{value, value_lt}
use Rattle.block.proofs.Bytes.{bytes_number_back}
use Rattle.cipher.specs.Meaning.{Meaning}
use Rattle.aes.specs.Fips197.{aes10, aes6}
use Rattle.speck.specs.Speck.{speck}
use Rattle.elmd.specs.declared.refusal.Refusal.{Refusal}
use Rattle.elmd.specs.Refusals.{mark_number, mark_of}
use Rattle.elmd.specs.Heading.{frame_of}
use Rattle.opening.specs.Open.{Opened}
use Rattle.exports.specs.Exports.{cipher_named, chosen, all_blocks, blocks_for, opened_length, OpenedTo, OpenFor}

-- label by label
pub chosen_by_label : (A : Type 0) (label key : ℕ) (f : Meaning → A) (none : A) → chosen label key f none ≡ cond (eqb label 10) (f (aes10 key)) (cond (eqb label 6) (f (aes6 key)) (cond (eqb label 32) (f (speck key)) none))
chosen_by_label A label key f none =
    ⊎_elim (λ e. rw e refl)
    (λ n. ⊎_elim (λ e. rw e refl)
    (λ a. ⊎_elim (λ e. rw e refl)
    (λ b. ⊎_elim (λ e. rw e refl)
    (λ d. rw (ne_eqb label 255 n, ne_eqb label 10 a, ne_eqb label 6 b, ne_eqb label 32 d) refl)
    (cases_eq label 32)) (cases_eq label 6)) (cases_eq label 10)) (cases_eq label 255)

-- a key by way of a block's bytes
pub key_back : (b : Block) (bytes : List ℕ) (key : ℕ) → bytes ≡ bytes_of (value b) → value b ≡ key → of_bytes bytes ≡ key
key_back b bytes key is e = ap of_bytes is ∙ bytes_number_back (value b) (value_lt b) ∙ e

pub blocks_named : (label key : ℕ) (m : Meaning) (forth : Bool) (xs : List ℕ) → Some m ≡ cipher_named label key → all_blocks m forth xs ≡ blocks_for label key forth xs
blocks_named label key m forth xs named = ap (λ (o : Option Meaning). unwrap_or (option_map (λ n. all_blocks n forth xs) o) xs) named

module _ (label key : ℕ) (m : Meaning) (named : Some m ≡ cipher_named label key) where
  is_aes10 : label ≡ 10 → m ≡ aes10 key
  is_aes10 e = let s = rw e at named in cc

  is_aes6 : label ≡ 6 → m ≡ aes6 key
  is_aes6 e = let s = rw e at named in cc

  is_speck : label ≡ 32 → m ≡ speck key
  is_speck e = let s = rw e at named in cc

  other : label ≢ 10 → label ≢ 6 → label ≢ 32 → ⊥
  other a b d =
      ⊎_elim
      (λ e. let s = rw e at named in cc)
      (λ n. let s = rw (ne_eqb label 255 n, ne_eqb label 10 a, ne_eqb label 6 b, ne_eqb label 32 d) at named in cc)
      (cases_eq label 255)

pub mark_back : (n : ℕ) → n ≤ 1 → mark_number (mark_of n) ≡ n
mark_back zero h = refl
mark_back (suc zero) h = refl
mark_back (suc (suc k)) h = absurd (omega arith)

length_is : (r : Result ℕ Refusal) → result_unwrap_or r 0 ≡ opened_length r
length_is (Ok n) = refl
length_is (Err e) = refl

module _ (m : Meaning) (settings nonce heading stream : List ℕ) (n : ℕ) (out out' : List ℕ) (r : Result ℕ Refusal) (o : Opened (frame_of m settings nonce heading) stream n out r out') where
  opened_to : (m' : Meaning) → m ≡ m' → OpenedTo (frame_of m' settings nonce heading) stream n out out' (result_unwrap_or r 0)
  opened_to m' e = (r, (rw e at o, length_is r))

  pub opens_for : (label key : ℕ) → Some m ≡ cipher_named label key → n ≤ 1 → OpenFor label key settings nonce heading stream n out out' (result_unwrap_or r 0)
  opens_for label key named h = record {
    bad_mark = λ l. absurd (omega arith);
    by_aes10 = λ l e. opened_to (aes10 key) (is_aes10 label key m named e);
    by_aes6 = λ l e. opened_to (aes6 key) (is_aes6 label key m named e);
    by_speck = λ l e. opened_to (speck key) (is_speck label key m named e);
    unknown = λ a b d. absurd (other label key m named a b d);
  }
