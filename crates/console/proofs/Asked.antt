-- What is printed for a line that asks, where what it needs was given.
use Rattle.std.proofs.Common.{◌≡◌, ℕ, List, Some, None, Ok, Option, ok_or, slice_index, sym, ap, ◌∙◌}
use Rattle.block.specs.Bytes.{of_bytes}
use Rattle.cipher.specs.Meaning.{Meaning}
use Rattle.labelled.specs.Labels.{cipher_of}
use Rattle.elmd.specs.declared.refusal.Refusal.TheVariants.{OtherLabel}
use Rattle.elmd.specs.Heading.{frame_of}
use Rattle.console.specs.declared.fault.Fault.TheVariants.{Refused}
use Rattle.console.specs.Known.{Known, known, cipher_from, Encloses}
use Rattle.console.specs.Replies.{seal_reply, given, picked, under, message_answer}

picked_is : (o : Option Meaning) (c : Meaning) (F : Meaning → List ℕ) → Ok c ≡ ok_or o (Refused OtherLabel) → F c ≡ picked o F
picked_is None c F e = cc
picked_is (Some d) c F e = let is : c ≡ d = cc in ap F is

-- a cipher that was picked is what `under` asks for
pub ciphered : (k p : Option (List ℕ)) (c : Meaning) (F : Meaning → List ℕ) → Ok c ≡ cipher_from k p
    → F c ≡ given k (λ x. given p (λ q. under q x F))
ciphered None p c F e = cc
ciphered (Some x) None c F e = cc
ciphered (Some x) (Some q) c F e = picked_is (cipher_of (slice_index q 0) (of_bytes x)) c F e

sealed_by : (k : Option (List ℕ)) (p n h m : List ℕ) (c : Meaning) → Ok c ≡ cipher_from k (Some p)
    → seal_reply (frame_of c p n h) m ≡ message_answer (known k (Some n) (Some p) (Some h)) m
sealed_by None p n h m c e = cc
sealed_by (Some x) p n h m c e = picked_is (cipher_of (slice_index p 0) (of_bytes x)) c (λ d. seal_reply (frame_of d p n h) m) e

pub sealed_under : (g : Known) (p n h m : List ℕ) (c : Meaning) → Encloses g p n h → Ok c ≡ cipher_from g.the_key g.the_settings
    → seal_reply (frame_of c p n h) m ≡ message_answer g m
sealed_under g p n h m c e is =
    sealed_by g.the_key p n h m c (is ∙ ap (cipher_from g.the_key) e.settings_are)
    ∙ ap (λ q. message_answer (known g.the_key (Some n) q (Some h)) m) (sym e.settings_are)
    ∙ ap (λ q. message_answer (known g.the_key q g.the_settings (Some h)) m) (sym e.nonce_is)
    ∙ ap (λ q. message_answer (known g.the_key g.the_nonce g.the_settings q) m) (sym e.heading_is)
