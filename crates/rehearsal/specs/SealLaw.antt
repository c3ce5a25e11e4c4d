-- What a list of calls on one newly begun sealer comes to.
use Rattle.std.specs.Prelude.{◌≡◌, ℕ, ◌+◌, ◌-◌, ◌%◌, ◌≤◌, min, Bool, cond, List, [], ◌∷◌, ◌++◌, length, take, drop, Some, None, Ok, Err, Option, Result, ◌==◌}
use Rattle.cipher.specs.Meaning.{Meaning}
use Rattle.elmd.specs.declared.refusal.Refusal.{Refusal}
use Rattle.elmd.specs.declared.refusal.Mark.{Mark}
use Rattle.elmd.specs.declared.settings.Settings.{Settings}
use Rattle.elmd.specs.declared.state.ClosedHeading.{ClosedHeading}
use Rattle.elmd.specs.Heading.{Closes}
use Rattle.elmd.specs.Laws.{Begins}
use Rattle.elmd.specs.Refusals.{mark_of}
use Rattle.elmd.specs.Stream.{Frame, t_of, f_of, mark, stream}
use Rattle.sealing.specs.declared.begun.Sealer.{Sealer}
use Rattle.sealing.specs.Handing.{put_answer, finish_answer}
use Rattle.sealing.specs.Sealer.{Sealing, front}
use Rattle.rehearsal.specs.declared.calls.Call.{Call}
use Rattle.rehearsal.specs.declared.calls.Call.TheVariants.{Put, Finish}
use Rattle.rehearsal.specs.declared.calls.Given.{Given}
use Rattle.rehearsal.specs.declared.calls.Given.TheVariants.{Handed, Sealed}
use Rattle.rehearsal.specs.declared.calls.NotGiven.{NotGiven}
use Rattle.rehearsal.specs.declared.calls.NotGiven.TheVariants.{Refused, Ended}
use Rattle.rehearsal.specs.Calls.{room_of, made}

-- a sealer's answer to a call
abbrev pub Told : Type 0
Told = Result Given NotGiven

-- a sealer with so many bytes in, or none any more
pub data Stage : Type 0 where
  taking : (k : ℕ) → Stage
  over : Stage

abbrev pub put_told : Result ℕ Refusal → Told
put_told (Ok w) = Ok (Handed w)
put_told (Err e) = Err (Refused e)

abbrev pub finish_told : Result (ℕ × Mark) Refusal → Told
finish_told (Ok p) = Ok (Sealed p.0 p.1)
finish_told (Err e) = Err (Refused e)

-- the answer to one call, in so much room
abbrev pub answer_to : (t : ℕ) (f : Bool) (n : ℕ) → Stage → (room : ℕ) → Call → Told
answer_to t f n (taking k) room (Put piece _) = put_told (put_answer t n k (length piece.now) room)
answer_to t f n (taking k) room (Finish _) = finish_told (finish_answer t f n k room)
answer_to t f n over room (Put piece _) = Err Ended
answer_to t f n over room (Finish _) = Err Ended

-- how many bytes are handed over with an answer, and which are accepted
abbrev pub handed_in : Told → ℕ
handed_in (Ok (Handed w)) = w
handed_in (Ok (Sealed w k)) = w
handed_in (Err e) = 0

abbrev pub accepted_in : Call → Told → List ℕ
accepted_in (Put piece room) (Ok (Handed w)) = piece.now
accepted_in (Put piece room) (Ok (Sealed w k)) = []
accepted_in (Put piece room) (Err e) = []
accepted_in (Finish room) a = []

abbrev pub after : Stage → Call → Told → Stage
after over c a = over
after (taking k) c (Ok (Handed w)) = taking (k + length (accepted_in c (Ok (Handed w))))
after (taking k) c (Ok (Sealed w m)) = over
after (taking k) c (Err (Refused e)) = taking k
after (taking k) c (Err Ended) = over

-- the answers to a list of calls: each has its room, or what is left of the output where that is less
abbrev pub answers_of : (t : ℕ) (f : Bool) (n : ℕ) → Stage → (left : ℕ) → List Call → List Told
answers_of t f n s left [] = []
answers_of t f n s left (c ∷ cs) =
    let a = answer_to t f n s (min (room_of c) left) c in a ∷ answers_of t f n (after s c a) (left - handed_in a) cs

-- the bytes of the accepted pieces, joined
abbrev pub accepted : List Call → List Told → List ℕ
accepted [] xs = []
accepted (c ∷ cs) [] = []
accepted (c ∷ cs) (a ∷ xs) = accepted_in c a ++ accepted cs xs

-- some call was an accepted finish, with that mark
abbrev pub Finishes : List Told → Mark → Type 0
Finishes [] m = ⊥
Finishes (Ok (Handed w) ∷ xs) m = Finishes xs m
Finishes (Ok (Sealed w k) ∷ xs) m = k ≡ m
Finishes (Err e ∷ xs) m = Finishes xs m

-- under any cipher: each call is answered by the rules, and nothing else is written
pub record Answered (t : ℕ) (f : Bool) (n : ℕ) (calls : List Call) (answers answers' : List Told) (out out' : List ℕ) (w : ℕ) : Type 0 where
  pub answered : take (made calls answers) answers' ≡ answers_of t f n (taking 0) (length out) (take (made calls answers) calls)
  pub untouched : drop (made calls answers) answers' ≡ drop (made calls answers) answers
  pub rest : drop w out' ≡ drop w out
  pub within : w ≤ length out

-- under the cipher of a frame that the heading stands for
pub record SealerLaw (u : Frame) (n : ℕ) (calls : List Call) (answers answers' : List Told) (out out' : List ℕ) (w : ℕ) : Type 0 where
  -- each call is answered by the rules
  pub answered : take (made calls answers) answers' ≡ answers_of (t_of u) (f_of u == 1) n (taking 0) (length out) (take (made calls answers) calls)
  -- what was handed over begins the stream of every message that the accepted bytes may still become
  pub handed : (m : List ℕ) → length m ≡ n → Begins (accepted calls answers') m → Begins (take w out') (stream u m)
  -- an accepted finish has handed over the whole stream, with its mark
  pub whole : (k : Mark) → Finishes (take (made calls answers) answers') k
      → (length (accepted calls answers') ≡ n) × (take w out' ≡ stream u (accepted calls answers')) × (k ≡ mark_of (mark (accepted calls answers')))
  -- the rest of the output and the places for more answers are untouched
  pub rest : (w ≤ length out) × (drop w out' ≡ drop w out) × (drop (made calls answers) answers' ≡ drop (made calls answers) answers)

-- ONE CALL, on what is held

abbrev pub stage_of : Option Sealer → Stage
stage_of (Some s) = taking s.k
stage_of None = over

abbrev pub Keeps : Settings → ℕ → Option Sealer → Type 0
Keeps st n (Some s) = (s.settings ≡ st) × (s.n ≡ n)
Keeps st n None = Unit {0}

-- it has accepted the bytes acc, and this was handed over for them
abbrev pub Stands : ℕ → Frame → List ℕ → Option Sealer → Type 0
Stands n u acc (Some s) = Sealing u acc s
Stands n u acc None = length acc ≡ n

abbrev pub output : Frame → List ℕ → Option Sealer → List ℕ
output u acc (Some s) = front u acc s
output u acc None = stream u acc

-- with so much room: the bytes that the call writes, and its answer
pub record Does (m : Meaning) (st : Settings) (n : ℕ) (held held' : Option Sealer) (room : ℕ) (c : Call) (written : List ℕ) (a : Told) : Type 0 where
  pub answer : a ≡ answer_to st.interval st.short_tag n (stage_of held) room c
  pub next : stage_of held' ≡ after (stage_of held) c a
  pub kept : Keeps st n held'
  pub count : length written ≡ handed_in a
  pub ended : (k : Mark) → Finishes (a ∷ []) k → (stage_of held' ≡ over) × (k ≡ mark_of (cond (n % 16 == 0) 1 0))
  pub bytes : (u : Frame) (acc : List ℕ) → u.cipher ≡ m → Stands n u acc held → Stands n u (acc ++ accepted_in c a) held' × (output u (acc ++ accepted_in c a) held' ≡ output u acc held ++ written)

-- whatever seal was begun
abbrev pub SealerDoes : Meaning → Option Sealer → Call → (room : ℕ) → Option Sealer → (written : List ℕ) → Told → Type 0
SealerDoes m held c room held' written a = (st : Settings) (n : ℕ) → Keeps st n held → Does m st n held held' room c written a

-- the whole of it
abbrev pub Untouched : Result ℕ Refusal → (answers answers' : List Told) (out out' : List ℕ) → Type 0
Untouched (Ok w) answers answers' out out' = Unit {0}
Untouched (Err e) answers answers' out out' = (answers' ≡ answers) × (out' ≡ out)

abbrev pub Rules : Settings → (n : ℕ) → List Call → (answers answers' : List Told) (out out' : List ℕ) → Result ℕ Refusal → Type 0
Rules st n calls answers answers' out out' (Ok w) = Answered st.interval st.short_tag n calls answers answers' out out' w
Rules st n calls answers answers' out out' (Err e) = Unit {0}

abbrev pub Law : Meaning → ClosedHeading → (n : ℕ) → List Call → (answers answers' : List Told) (out out' : List ℕ) → Result ℕ Refusal → Type 0
Law m h n calls answers answers' out out' (Ok w) = (u : Frame) → u.cipher ≡ m → Closes u h → SealerLaw u n calls answers answers' out out' w
Law m h n calls answers answers' out out' (Err e) = Unit {0}
