-- What an opened file says of files.
use Rattle.std.proofs.Common.{◌≡◌, ℕ, ◌+◌, ◌-◌, ◌*◌, ◌<◌, ◌≤◌, Bool, true, false, cond, ltb, List, ◌++◌, length, get_or, take, drop, replicate, Ok, Err, Result, sym, refl, ap, ◌∙◌, subst, ⊎_elim, arith, length-drop, length-take}
use Rattle.std.proofs.lemmas.List.{take_at}
use Rattle.std.proofs.lemmas.Bool.{le-ltb}
use Rattle.std.proofs.lemmas.Bool.Decides.{nat_tests}
use Rattle.block.specs.Bytes.{Bytes}
use Rattle.cipher.specs.Meaning.{Meaning}
use Rattle.elmd.specs.declared.refusal.Refusal.{Refusal}
use Rattle.elmd.specs.Settings.{settings_answer}
use Rattle.elmd.specs.Heading.{frame_of}
use Rattle.elmd.specs.Laws.{MessageOf}
use Rattle.elmd.specs.Opening.{blocks_of}
use Rattle.elmd.specs.Stream.{Frame, blocks, mark, stream}
use Rattle.elmd.proofs.Finish.{mark_cases}
use Rattle.elmd.proofs.Lengths.{lengths}
use Rattle.opening.specs.Open as seal
use Rattle.opening.specs.Open.{SealOf, StreamOpened, Opened, Found}
use Rattle.payfile.specs.declared.refusal.FileRefusal.{FileRefusal}
use Rattle.payfile.specs.Refusals.{after, of_seal}
use Rattle.payfile.specs.Layout.{file_of, pay_file, frame_in, stream_in, settings_in, mark_in, nonce_in, heading_in, heading_size, stream_size, front_answer, label_answer}
use Rattle.payfile.specs.Write.{message_answer, sealed_answer, written}
use Rattle.payfile.specs.Open.{file_answer, FileOpened, Filed, let_out, Exactly, GivenBack}
use Rattle.payfile.proofs.Files.{after_ok, sizes, stream_small, file_length}
use Rattle.payfile.proofs.Parsed.{ReadBack, read_back, laid_back}

-- a front that is accepted
record Sound (file : List ℕ) : Type 0 where
  long : 26 ≤ length file
  version : get_or file 0 0 ≡ 1
  marked : mark_in file ≤ 1
  short : heading_size file ≤ 65536
  adds : length file ≡ 26 + heading_size file + stream_size file

sound : (file : List ℕ) → front_answer file ≡ Ok tt → Sound file
sound file e = record { long = grind (arith, nat_tests); version = grind (arith, nat_tests); marked = grind (arith, nat_tests); short = grind (arith, nat_tests); adds = grind (arith, nat_tests) }

accepted : (file : List ℕ) → Sound file → front_answer file ≡ Ok tt
accepted file s =
    let a = s.long in
    let b = s.version in
    let c = s.marked in
    let d = s.short in
    let e = s.adds in
    grind (arith, nat_tests)

after_both : (x y : Result Unit FileRefusal) → after x y ≡ Ok tt → (x ≡ Ok tt) × (y ≡ Ok tt)
after_both (Ok tt) y e = (refl, e)
after_both (Err w) y e = cc

of_seal_ok : (q : Result ℕ Refusal) (n : ℕ) → of_seal q ≡ Ok n → q ≡ Ok n
of_seal_ok (Ok k) n e = cc
of_seal_ok (Err w) n e = cc

-- a file round a seal
module _ (u : Frame) (m : List ℕ) (f : Filed u m) where
  abbrev here : List ℕ
  here = pay_file u m

  hs : length u.heading < 4294967296
  hs = let h = f.heading_size_is in omega arith

  ss : length (stream u m) < 4294967296
  ss = let h = f.fits in stream_small u m f.some (omega arith)

  back : ReadBack u.nonce u.settings (mark m) u.heading (stream u m) here
  back = read_back u.nonce u.settings (mark m) u.heading (stream u m) f.nonce_size f.settings_size hs ss

  here_sound : Sound here
  here_sound =
      let b = back in
      let h = b.heading_size_read in
      let s = b.stream_size_read in
      let k = b.marked_read in
      let l = file_length u.nonce u.settings (mark m) u.heading (stream u m) f.nonce_size f.settings_size in
      let most = f.heading_size_is in
      record {
        long = omega arith;
        version = b.version_read;
        marked = ⊎_elim (λ e. omega arith) (λ e. omega arith) (mark_cases m);
        short = omega arith;
        adds = omega arith;
      }

  answered : file_answer u.cipher here ≡ Ok tt
  answered =
      ap (λ (x : Result Unit FileRefusal). after x (label_answer u.cipher.label (settings_in here))) (accepted here here_sound) ∙ ap (label_answer u.cipher.label) back.settings_read ∙ f.accepted

  framed : frame_in u.cipher here ≡ u
  framed =
      ap (λ (x : List ℕ). frame_of u.cipher x (nonce_in here) (heading_in here)) back.settings_read ∙ ap (λ (x : List ℕ). frame_of u.cipher u.settings x (heading_in here)) back.nonce_read
      ∙ ap (frame_of u.cipher u.settings u.nonce) back.heading_read

  pub opens : (out : List ℕ) (r : Result ℕ FileRefusal) (out' : List ℕ) → FileOpened u.cipher here out r out' → 16 * blocks m ≤ length out → (r ≡ Ok (length m)) × (out' ≡ let_out m out)
  opens out r out' o room =
      let l = o.later answered in
      let q : Result ℕ Refusal = l.0 in
      let a : StreamOpened u (stream_in here) (mark_in here) out q out' = subst (λ (v : Frame). StreamOpened v (stream_in here) (mark_in here) out q out') framed l.2 in
      let b : StreamOpened u (stream u m) (mark_in here) out q out' = subst (λ (z : List ℕ). StreamOpened u z (mark_in here) out q out') back.stream_read a in
      let s : StreamOpened u (stream u m) (mark m) out q out' = subst (λ (k : ℕ). StreamOpened u (stream u m) k out q out') back.marked_read b in
      let hm : MessageOf u (length (stream u m)) (mark m) m = record { bytes = f.bytes; some = f.some; fits = f.fits; size = refl; marked = refl } in
      let bl : blocks_of u (length (stream u m)) ≡ blocks m = (lengths u m f.some).back in
      let j = (s.judged m hm (omega arith)).accepts m (hm, refl) in
      (l.1 ∙ ap of_seal j.0, j.1 ∙ ap (λ (n : ℕ). m ++ (replicate (16 * n - length m) 0 ++ drop (16 * n) out)) bl)

module _ (c : Meaning) (file : List ℕ) (bytes : Bytes file) (out : List ℕ) (r : Result ℕ FileRefusal) (out' : List ℕ) (o : FileOpened c file out r out') where
  only_by : (x : Result Unit FileRefusal) → file_answer c file ≡ x → (n : ℕ) → r ≡ Ok n → (u : Frame) × (m : List ℕ) × (u.cipher ≡ c) × Filed u m × (file ≡ pay_file u m) × (length m ≡ n)
  only_by (Err w) e n p = let s = (o.early w e).0 in cc
  only_by (Ok tt) e n p =
      let both = after_both (front_answer file) (label_answer c.label (settings_in file)) e in
      let l = o.later e in
      let found = l.3.found n (of_seal_ok l.0 n (sym l.1 ∙ p)) in
      let u : Frame = frame_in c file in
      let m : List ℕ = found.0 in
      let hm = found.1.0 in
      let so = sound file both.0 in
      let long = so.long in
      let short = so.short in
      let filed : Filed u m = record {
        nonce_size = simp (length-take, length-drop) (omega arith);
        settings_size = simp (length-take, length-drop) (omega arith);
        accepted = both.1;
        heading_size_is = simp (length-take, length-drop) (omega arith);
        bytes = hm.bytes;
        some = hm.some;
        fits = hm.fits;
      } in
      let same : file ≡ pay_file u m =
      laid_back file bytes so.version so.adds ∙ ap (λ (k : ℕ). file_of (nonce_in file) (settings_in file) k (heading_in file) (stream_in file)) (sym hm.marked)
      ∙ ap (λ (s : List ℕ). file_of (nonce_in file) (settings_in file) (mark m) (heading_in file) s) (sym found.1.1) in
      (u, m, refl, filed, same, found.2)

  pub exactly : Exactly c file out r out'
  exactly = record {
    only = only_by (file_answer c file) refl;
    all = λ u m e f same room. opens u m f out r out' (subst (λ (z : List ℕ). FileOpened u.cipher z out r out') same (subst (λ (z : Meaning). FileOpened z file out r out') (sym e) o)) room;
  }

pub judged : (c : Meaning) (file out : List ℕ) (q : Result ℕ Refusal) (out' : List ℕ) (u : Frame) (s : List ℕ) (k : ℕ) → u ≡ frame_in c file → s ≡ stream_in file → k ≡ mark_in file
    → front_answer file ≡ Ok tt → label_answer c.label (settings_in file) ≡ Ok tt → Opened u s k out q out' → Found u s k q → FileOpened c file out (of_seal q) out'
judged c file out q out' u s k eu es ek ef el o w =
    let answer : file_answer c file ≡ Ok tt = ap (λ (x : Result Unit FileRefusal). after x (label_answer c.label (settings_in file))) ef ∙ el in
    let so = sound file ef in
    let short : length (heading_in file) ≤ 65536 = (let a = so.short in simp (length-take, length-drop) (omega arith)) in
    let head : ltb 65536 (0 + length (heading_in file)) ≡ false = le-ltb 65536 (0 + length (heading_in file)) (omega arith) in
    let set : settings_answer c.label (settings_in file) ≡ Ok tt = (after_ok _ _ (sym el)).0 in
    let front : seal.front_answer (frame_in c file) ≡ Ok tt = rw (set, head) in
    let a : Opened (frame_in c file) s k out q out' = subst (λ (v : Frame). Opened v s k out q out') eu o in
    let b : Opened (frame_in c file) (stream_in file) k out q out' = subst (λ (z : List ℕ). Opened (frame_in c file) z k out q out') es a in
    let d : Opened (frame_in c file) (stream_in file) (mark_in file) out q out' = subst (λ (n : ℕ). Opened (frame_in c file) (stream_in file) n out q out') ek b in
    let x : Found (frame_in c file) s k q = subst (λ (v : Frame). Found v s k q) eu w in
    let y : Found (frame_in c file) (stream_in file) k q = subst (λ (z : List ℕ). Found (frame_in c file) z k q) es x in
    let z : Found (frame_in c file) (stream_in file) (mark_in file) q = subst (λ (n : ℕ). Found (frame_in c file) (stream_in file) n q) ek y in
    record {
      early = λ e p. cc;
      later = λ p. (q, refl, d.later front, z);
    }

after_value : (x : Result Unit FileRefusal) (y : Result ℕ FileRefusal) (n : ℕ) → Ok n ≡ after x y → (x ≡ Ok tt) × (Ok n ≡ y)
after_value (Ok tt) y n e = (refl, e)
after_value (Err w) y n e = cc

no_refusal : (b d : Bool) (e f : FileRefusal) (k n : ℕ) → Ok n ≡ cond b (Err e) (cond d (Err f) (Ok k)) → (b ≡ false) × (n ≡ k)
no_refusal false false e f k n p = (refl, cc)
no_refusal false true e f k n p = cc
no_refusal true d e f k n p = cc

-- what was written under a heading opens
pub given_back : (u : Frame) (m out out' : List ℕ) (room : ℕ) (r : Result ℕ FileRefusal) → r ≡ sealed_answer u m room → out' ≡ written u m out r → Bytes m → length u.nonce ≡ 8 → length u.settings ≡ 8 → length u.heading ≤ 65536
    → GivenBack u.cipher m out' r
given_back u m out out' room (Err w) e o b n8 s8 h = tt
given_back u m out out' room (Ok n) e o b n8 s8 h = λ into back q opened enough.
    let a = after_value (label_answer u.cipher.label u.settings) (message_answer u m room) n e in
    let s = no_refusal _ _ _ _ _ _ a.1 in
    let z = sizes (length m) s.0 in
    let filed : Filed u m = record { nonce_size = n8; settings_size = s8; accepted = a.0; heading_size_is = h; bytes = b; some = z.0; fits = z.1 } in
    let same : take n out' ≡ pay_file u m = ap (take n) o ∙ take_at (pay_file u m) (drop (length (pay_file u m)) out) n (sym s.1) in
    opens u m filed into q back (subst (λ (x : List ℕ). FileOpened u.cipher x into q back) same opened) enough
