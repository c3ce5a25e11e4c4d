-- What is printed of a seal's answer.
use Rattle.std.proofs.Common.{◌≡◌, ℕ, pred, ◌≤◌, Bool, true, false, cond, ◌||◌, eqb, ltb, List, length, take, drop, Ok, Err, sym, refl, ap, ◌∙◌, div-le_self, arith}
use Rattle.std.proofs.lemmas.List.{take_at}
use Rattle.std.proofs.lemmas.Bool.{eqb-false, or_parts, le-ltb}
use Rattle.std.proofs.lemmas.Bool.Decides.{nat_tests}
use Rattle.elmd.specs.declared.refusal.Mark.{Mark}
use Rattle.elmd.specs.declared.refusal.Refusal.TheVariants.{MessageLength, OutputShort}
use Rattle.elmd.specs.Refusals.{mark_number, mark_of, next}
use Rattle.elmd.specs.Settings.{settings_answer}
use Rattle.elmd.specs.Heading.{add_answer}
use Rattle.elmd.specs.Stream.{Frame, t_of, blocks, last_size, mark, stream}
use Rattle.elmd.proofs.Lengths.{stream_length, size_range, l_pos, last_pos, last_le}
use Rattle.sealing.specs.Seal.{seal_answer, sealed}
use Rattle.console.specs.Replies.{stream_line, seal_line, seal_reply}

pub ok_size : (u : Frame) (m : List ℕ) (room n : ℕ) (k : Mark) → Ok (n, k) ≡ seal_answer u m room → n ≡ length (stream u m)
ok_size u m room n k e = grind (arith, nat_tests)

pub stream_shown : (u : Frame) (m room after : List ℕ) (n : ℕ) (k : Mark)
    → Ok (n, k) ≡ seal_answer u m (length room) → after ≡ sealed u m room (Ok (n, k))
    → stream_line (mark_number k) (take n after) ≡ seal_line u m (seal_answer u m (length room))
stream_shown u m room after n k e f =
    ap (λ s. stream_line (mark_number k) s)
    (ap (take n) f ∙ take_at (stream u m) (drop (length (stream u m)) room) n (sym (ok_size u m (length room) n k e)))
    ∙ ap (seal_line u m) e

-- at most a check or the tag stands behind each of 256 blocks
pub stream_short : (u : Frame) (m : List ℕ) → 1 ≤ length m → length m ≤ 4096 → length (stream u m) ≤ 8192
stream_short u m some few =
    let size = stream_length u m some in
    let range = size_range u (last_size m) (last_pos m some) (last_le m some) in
    let least = l_pos m some in
    let quo = div-le_self (pred (blocks m)) (t_of u) in
    omega arith

same_behind : {A : Type 0} (b : Bool) (e x y : A) → (b ≡ false → x ≡ y) → cond b e x ≡ cond b e y
same_behind true e x y h = refl
same_behind false e x y h = h refl

-- so that room suffices
pub room_enough : (u : Frame) (m : List ℕ) → length m ≤ 4096 → seal_answer u m 8192 ≡ seal_answer u m (length (stream u m))
room_enough u m few =
    ap (λ a. next (settings_answer u.cipher.label u.settings) (next (add_answer 0 (length u.heading)) a))
    (same_behind (eqb (length m) 0 || ltb 16777216 (length m)) (Err MessageLength) _ _
    (λ some.
    let e = eqb-false (length m) 0 (or_parts (eqb (length m) 0) (ltb 16777216 (length m)) some).0 in
    let short = stream_short u m (omega arith) few in
    let a = le-ltb 8192 (length (stream u m)) short in
    let b = le-ltb (length (stream u m)) (length (stream u m)) (omega arith) in
    ap (λ c. cond c (Err OutputShort) (Ok (length (stream u m), mark_of (mark m)))) (a ∙ sym b)))

pub seal_reply_at : (u : Frame) (m : List ℕ) (n : ℕ) → n ≡ 8192 → length m ≤ 4096 → seal_line u m (seal_answer u m n) ≡ seal_reply u m
seal_reply_at u m n h few = ap (seal_line u m) (ap (seal_answer u m) h ∙ room_enough u m few)
