-- Answers and lengths of a pay file.
use Rattle.std.proofs.Common.{◌≡◌, ℕ, pred, ◌+◌, ◌-◌, ◌/◌, ◌<◌, ◌≤◌, Bool, true, false, ◌||◌, eqb, ltb, List, [], ◌++◌, length, get_or, take, drop, Fits, w8, Ok, Err, Result, sym, refl, ap, ◌∙◌, ⊎_elim, div-le_self, arith, length-append, length-take, length-drop}
use mir.Facts.{Fits-lt-pow}
use Rattle.std.proofs.ByRecursion.{All-from_get_or}
use Rattle.block.specs.Bytes.{Bytes}
use Rattle.std.proofs.lemmas.List.{drop_all, append-nil}
use Rattle.std.proofs.lemmas.Bool.{cond-true, cond-false, le-ltb, lt-ltb}
use Rattle.elmd.specs.declared.refusal.Mark.{Mark}
use Rattle.elmd.specs.declared.refusal.Refusal.{Refusal}
use Rattle.elmd.specs.declared.refusal.Refusal.TheVariants.{MessageLength, OutputShort}
use Rattle.elmd.specs.Refusals.{refuse, mark_number, mark_of}
use Rattle.elmd.specs.Settings.{settings_answer}
use Rattle.elmd.specs.Stream.{Frame, t_of, blocks, last_size, mark, stream}
use Rattle.elmd.proofs.Lengths.{stream_length, size_range, last_pos, last_le}
use Rattle.elmd.proofs.Finish.{mark_cases}
use Rattle.sealing.specs.Seal.{seal_answer, sealed}
use Rattle.payfile.specs.declared.refusal.FileRefusal.{FileRefusal}
use Rattle.payfile.specs.declared.refusal.FileRefusal.TheVariants.{Seal}
use Rattle.payfile.specs.Refusals.{after, of_seal}
use Rattle.payfile.specs.Layout.{front_bytes, file_of, pay_file, label_answer}
use Rattle.payfile.specs.Write.{sealed_answer}

pub all_bytes : (xs : List ℕ) → ((i : ℕ) → Fits w8 (get_or xs i 0)) → Bytes xs
all_bytes xs fits = All-from_get_or (λ (x : ℕ). x < 256) xs 0 (λ i h. Fits-lt-pow (fits i))

-- an answer that is none of a refusal
pub after_ok : (x : Result Unit Refusal) (y : Result Unit FileRefusal) → Ok tt ≡ after (of_seal x) y → (x ≡ Ok tt) × (y ≡ Ok tt)
after_ok (Ok tt) y e = (refl, sym e)
after_ok (Err w) y e = cc

pub within : (b : Bool) (x k : ℕ) → Ok k ≡ refuse b MessageLength (Ok x) → b ≡ false
within false x k e = refl
within true x k e = cc

-- between 1 and 16,777,216
pub sizes : (n : ℕ) → (eqb n 0 || ltb 16777216 n) ≡ false → (1 ≤ n) × (n ≤ 16777216)
sizes n e = (grind (arith, Rattle.std.proofs.lemmas.Bool.Decides.nat_tests), grind (arith, Rattle.std.proofs.lemmas.Bool.Decides.nat_tests))

pub mark_number_lem : (m : List ℕ) → mark_number (mark_of (mark m)) ≡ mark m
mark_number_lem m = ⊎_elim (λ e. ap (λ (k : ℕ). mark_number (mark_of k)) e ∙ sym e) (λ e. ap (λ (k : ℕ). mark_number (mark_of k)) e ∙ sym e) (mark_cases m)

pub front_length : (H S k : ℕ) (nonce settings : List ℕ) → length nonce ≡ 8 → length settings ≡ 8 → length (front_bytes H S nonce settings k) ≡ 26
front_length H S k nonce settings a b = simp length-append (omega arith)

pub file_length : (nonce settings : List ℕ) (k : ℕ) (heading s : List ℕ) → length nonce ≡ 8 → length settings ≡ 8
    → length (file_of nonce settings k heading s) ≡ 26 + length heading + length s
unfolding file_of
file_length nonce settings k heading s a b =
    let f = front_length (length heading) (length s) k nonce settings a b in
    length-append (front_bytes (length heading) (length s) nonce settings k) (heading ++ s) ∙ rw (f, length-append) (omega arith)

-- a stream's length fits four bytes
pub stream_small : (u : Frame) (m : List ℕ) → 1 ≤ length m → length m ≤ 16777216 → length (stream u m) < 4294967296
stream_small u m a b =
    let e = stream_length u m a in
    let t = size_range u (last_size m) (last_pos m a) (last_le m a) in
    let h : pred (blocks m) / t_of u ≤ pred (blocks m) = div-le_self (pred (blocks m)) (t_of u) in
    omega arith

-- what has been judged, the seal judges the same
pub seals : (u : Frame) (m : List ℕ) (size : ℕ) → settings_answer u.cipher.label u.settings ≡ Ok tt → length u.heading ≤ 65536
    → (eqb (length m) 0 || ltb 16777216 (length m)) ≡ false → length (stream u m) ≡ size → seal_answer u m size ≡ Ok (size, mark_of (mark m))
seals u m size a b c d =
    let h : ltb 65536 (0 + length u.heading) ≡ false = le-ltb 65536 (0 + length u.heading) (omega arith) in
    let r : ltb size (length (stream u m)) ≡ false = le-ltb size (length (stream u m)) (omega arith) in
    rw (a, h, c, r) (ap (λ (n : ℕ). Ok (n, mark_of (mark m))) d)

pub room_short : (u : Frame) (m : List ℕ) (room : ℕ) → label_answer u.cipher.label u.settings ≡ Ok tt
    → (eqb (length m) 0 || ltb 16777216 (length m)) ≡ false → room < length (pay_file u m) → sealed_answer u m room ≡ Err (Seal OutputShort)
room_short u m room a b c = let r : ltb room (length (pay_file u m)) ≡ true = lt-ltb room (length (pay_file u m)) c in rw (a, b, r)

pub room_enough : (u : Frame) (m : List ℕ) (room n : ℕ) → label_answer u.cipher.label u.settings ≡ Ok tt
    → (eqb (length m) 0 || ltb 16777216 (length m)) ≡ false → length (pay_file u m) ≤ room → n ≡ length (pay_file u m) → sealed_answer u m room ≡ Ok n
room_enough u m room n a b c d = let r : ltb room (length (pay_file u m)) ≡ false = le-ltb room (length (pay_file u m)) c in rw (a, b, r) (ap (λ (k : ℕ). Ok k) (sym d))

-- a message sealed into a part of the output that its stream fills
pub sealed_whole : (u v : Frame) (m o new : List ℕ) (b n : ℕ) (r : Result (ℕ × Mark) Refusal) → r ≡ seal_answer v m (length (take (b + n - b) (drop b o))) → new ≡ sealed v m (take (b + n - b) (drop b o)) r
    → v ≡ u → b + n ≤ length o → seal_answer u m n ≡ Ok (n, mark_of (mark m)) → length (stream u m) ≡ n → (r ≡ Ok (n, mark_of (mark m))) × (new ≡ stream u m)
sealed_whole u v m o new b n r answer output same room ok size =
    let part : List ℕ = take (b + n - b) (drop b o) in
    let long : length part ≡ n = simp (length-take, length-drop) (omega arith) in
    let sealed_is : r ≡ Ok (n, mark_of (mark m)) = answer ∙ ap (λ (w : Frame). seal_answer w m (length part)) same ∙ ap (seal_answer u m) long ∙ ok in
    let none : drop (length (stream u m)) part ≡ [] = drop_all (length (stream u m)) part (omega arith) in (
      sealed_is,
      output ∙ ap (sealed v m part) sealed_is ∙ ap (λ (w : Frame). stream w m ++ drop (length (stream w m)) part) same ∙ ap (λ (z : List ℕ). stream u m ++ z) none ∙ append-nil (stream u m),
    )
