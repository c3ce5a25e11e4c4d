use Rattle.std.proofs.Common.{◌≡◌, ℕ, ◌+◌, ◌<◌, false, ◌||◌, eqb, ltb, List, ◌++◌, length, drop, Ok, Err, sym, refl, ap, ◌∙◌, arith, rules}
use Rattle.std.specs.Result.{is_ok}
use Rattle.cipher.specs.Meaning.{Meaning}
use Rattle.elmd.specs.Envelope.{frame_under}
use Rattle.elmd.specs.Refusals.{mark_number, mark_of}
use Rattle.elmd.specs.Settings.{settings_answer}
use Rattle.elmd.specs.Stream.{Frame, mark, stream}
use Rattle.elmd.proofs.Counts.{marked_is}
use Rattle.payfile.specs.Layout.{front_bytes, file_of, pay_file, label_answer}
use Rattle.payfile.specs.declared.refusal.FileRefusal.{FileRefusal}
use Rattle.payfile.proofs.Puts.{file_laid}
use Rattle.payfile.proofs.Files.{within, mark_number_lem, sizes, front_length, file_length, stream_small, seals, room_short, room_enough, after_ok, sealed_whole}
use Rattle.payfile.proofs.write.write_under.Given as given
use Rattle.payfile.proofs.write.write_under.Goals as goal
use Rattle.payfile.proofs.write.write_under.Goals.{In_ok-size, After-seal}

-- what is known once the message's length is judged
record Known (u : Frame) (m : List ℕ) (size : ℕ) : Type 0 where
  accepted : label_answer u.cipher.label u.settings ≡ Ok tt
  set : settings_answer u.cipher.label u.settings ≡ Ok tt
  sized : (eqb (length m) 0 || ltb 16777216 (length m)) ≡ false
  stream_is : length (stream u m) ≡ size
  small : size < 4294967296
  file_is : length (pay_file u m) ≡ 26 + length u.heading + size

abbrev under : (g : given.Over) → In_ok-size g → Frame
under g c = frame_under (g.C.Cipher.meaning c.args.c.now) c.args.envelope.now

known : (g : given.Over) (c : In_ok-size g) → Known (under g c) c.args.message.now c.in_ok-size.size
known g c =
    let u = under g c in
    let m = c.args.message.now in
    let b = within _ _ _ c.in_ok-size.ensures.answer in
    let n = sizes (length m) b in
    let e = c.in_ok-size.ensures.exact u m c.in_ok-chosen.ensures.value refl in
    let s = stream_small u m n.0 n.1 in
    let a : Ok tt ≡ label_answer u.cipher.label u.settings = c.in_ok-chosen.ensures.answer ∙ ap (λ (l : ℕ). label_answer l u.settings) c.label.ensures.value in
    record {
      accepted = sym a;
      set = (after_ok _ _ a).0;
      sized = b;
      stream_is = e;
      small = omega arith;
      file_is = file_length u.nonce u.settings (mark m) u.heading (stream u m) (search rules) (search rules) ∙ ap (λ (k : ℕ). 26 + length u.heading + k) e;
    }

pub overflow_add-end : goal.overflow_add-end
overflow_add-end g c = let k = known g c in let s = k.small in search rules

pub returns-then-out-end-clause-answer : goal.returns-then-out-end-clause-answer
returns-then-out-end-clause-answer g c =
    let d = (goal.at.returns-then-out-end-clause-answer g c).In_ok-size in
    let k = known g d in
    let f = k.file_is in
    ap (λ (e : FileRefusal). Err e) c.into.ensures ∙ sym (room_short (under g d) c.args.message.now (length c.args.out.now) k.accepted k.sized (omega arith))

pub to_bytes-requires-clause-stream_small : goal.to_bytes-requires-clause-stream_small
to_bytes-requires-clause-stream_small g c = (known g (goal.at.to_bytes-requires-clause-stream_small g c).In_ok-size).small

-- the stream is sealed, and fills its part
whole : (g : given.Over) (c : After-seal g) → Known (frame_under (g.C.Cipher.meaning c.args.c.now) c.args.envelope.now) c.args.message.now c.in_ok-size.size
    → (c.seal.result ≡ Ok (c.in_ok-size.size, mark_of (mark c.args.message.now))) × (c.seal.new.out ≡ stream (frame_under (g.C.Cipher.meaning c.args.c.now) c.args.envelope.now) c.args.message.now)
whole g c k =
    let u = frame_under (g.C.Cipher.meaning c.args.c.now) c.args.envelope.now in
    sealed_whole u _ c.args.message.now _ c.seal.new.out (26 + length u.heading) c.in_ok-size.size c.seal.result c.seal.ensures.answer c.seal.ensures.output
    (ap (λ (z : Meaning). frame_under z c.args.envelope.now) c.label.ensures.same) (search rules) (seals u c.args.message.now c.in_ok-size.size k.set c.requires k.sized k.stream_is) k.stream_is

pub unwrap-requires : goal.unwrap-requires
unwrap-requires g c = ap is_ok (whole g (goal.at.unwrap-requires g c).After-seal (known g (goal.at.unwrap-requires g c).In_ok-size)).0

pub returns-clause-answer : goal.returns-clause-answer
returns-clause-answer g c =
    let d = (goal.at.returns-clause-answer g c).In_ok-size in
    let k = known g d in
    let f = k.file_is in
    sym (room_enough (under g d) c.args.message.now (length c.args.out.now) _ k.accepted k.sized (omega arith) (omega arith))

pub returns-clause-output : goal.returns-clause-output
unfolding file_of
returns-clause-output g c =
    let d = (goal.at.returns-clause-output g c).In_ok-size in
    let u = under g d in
    let m = c.args.message.now in
    let k = known g d in
    let f = k.file_is in
    let S : ℕ = length (stream u m) in
    let end : 26 + length u.heading + c.in_ok-size.size ≡ length (pay_file u m) = sym k.file_is in
    let marked = ap mark_number (marked_is m c.of_length.result c.of_length.ensures) ∙ mark_number_lem m in
    let front = c.copy_from_slice.ensures.after ∙ c.to_bytes.ensures ∙ ap (λ (n : ℕ). front_bytes (length u.heading) n u.nonce u.settings (mark_number c.of_length.result)) (sym k.stream_is)
    ∙ ap (front_bytes (length u.heading) S u.nonce u.settings) marked in
    file_laid c.args.out.now _ _ _ (front_bytes (length u.heading) S u.nonce u.settings (mark m)) u.heading (stream u m) _ _ front c.copy_from_slice-2.ensures.after (whole g (goal.at.returns-clause-output g c).After-seal k).1
    (front_length (length u.heading) S (mark m) u.nonce u.settings (search rules) (search rules)) refl (omega arith) (omega arith)
    ∙ ap (λ (n : ℕ). pay_file u m ++ drop n c.args.out.now) end
