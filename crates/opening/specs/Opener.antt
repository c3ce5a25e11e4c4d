-- An opening in parts: what each call answers, what the opener then is, and which bytes were let out.
use Rattle.std.specs.Prelude.{◌≡◌, ℕ, suc, ◌+◌, ◌-◌, ◌*◌, ◌^◌, ◌<◌, ◌≤◌, min, Bool, true, false, cond, ◌&&◌, ◌⊎◌, List, [], ◌++◌, length, take, drop, replicate, Some, None, Ok, Err, Option, Result, ◌==◌, ◌≢◌, nat_le, nat_lt}
use Rattle.block.specs.Bytes.{Bytes}
use Rattle.cipher.specs.Meaning.{Meaning}
use Rattle.elmd.specs.declared.refusal.Refusal.{Refusal}
use Rattle.elmd.specs.declared.refusal.Refusal.TheVariants as why
use Rattle.elmd.specs.declared.refusal.Mark.{Mark}
use Rattle.elmd.specs.declared.state.ClosedHeading.{ClosedHeading}
use Rattle.elmd.specs.Refusals.{mark_number}
use Rattle.elmd.specs.Settings.{settings_bytes}
use Rattle.elmd.specs.Stream.{Frame, t_of, iv, stream}
use Rattle.elmd.specs.Opening.{released, Check, Checks, Right, opened}
use Rattle.elmd.specs.Laws.{MessageOf, Extends, Begins as Front}
use Rattle.elmd.specs.Shape.{Laid}
use Rattle.opening.specs.declared.place.Opener.{Opener}
use Rattle.opening.specs.declared.place.Phase.{Phase}
use Rattle.opening.specs.declared.place.Phase.TheVariants as ph
use Rattle.opening.specs.declared.place.Call.{Call}
use Rattle.opening.specs.declared.place.Call.TheVariants.{Put, Finish}
use Rattle.opening.specs.Reading.{Reads}
use Rattle.opening.specs.Standing.{end_of}

-- THE NUMBERS

-- where a put stops at the latest: behind the next check, or behind the stream where none is left
abbrev pub next_end : Opener → ℕ
next_end o = end_of o.settings.interval o.shape.checks o.size o.state.checks

-- how many of n bytes a put takes
abbrev pub took : Opener → ℕ → ℕ
took o n = min n (next_end o - o.taken)

-- whether they complete a check
abbrev pub completes : Opener → ℕ → Bool
completes o n = cond (nat_lt o.state.checks o.shape.checks) (nat_le (next_end o - o.taken) n) false

-- the bytes behind the last check
abbrev pub last_room : Opener → ℕ
last_room o = 16 * (o.shape.blocks - o.shape.checks * o.settings.interval)

-- what a call is refused for while the opener is filling, the first cause first
abbrev pub put_refusal : Opener → (n room : ℕ) → Option Refusal
put_refusal o n room =
    cond (nat_lt 0 n && o.taken == o.size) (Some why.StreamComplete)
    (cond (completes o n && nat_lt room (16 * o.settings.interval)) (Some why.RoomShort) None)

abbrev pub finish_refusal : Opener → (room : ℕ) → Option Refusal
finish_refusal o room = cond (nat_lt o.taken o.size) (Some why.StreamMissing) (cond (nat_lt room (last_room o)) (Some why.RoomShort) None)

-- the two calls
abbrev pub put_call : (n room : ℕ) → Call
put_call n room = Put n room

abbrev pub finish_call : (room : ℕ) → Call
finish_call room = Finish room

-- each phase with each call
abbrev pub refused_at : Phase → Opener → Call → Option Refusal
refused_at ph.Over o call = Some why.Over
refused_at ph.Spoiled o call = Some why.Spoiled
refused_at ph.Filling o (Put n room) = put_refusal o n room
refused_at ph.Filling o (Finish room) = finish_refusal o room

abbrev pub refusal : Opener → Call → Option Refusal
refusal o call = refused_at o.phase o call

-- why a call was not admitted
abbrev pub cause : Result Unit Refusal → Option Refusal
cause (Ok x) = None
cause (Err e) = Some e

-- k more bytes are in
pub record Moved (o : Opener) (k : ℕ) (o' : Opener) : Type 0 where
  pub settings_kept : o'.settings ≡ o.settings
  pub shape_kept : o'.shape ≡ o.shape
  pub mark_kept : o'.mark ≡ o.mark
  pub size_kept : o'.size ≡ o.size
  pub counted : o'.taken ≡ o.taken + k

-- a check was judged behind k more bytes: a good one lets its blocks out, a bad one spoils the opener; no plaintext stays
abbrev pub Judged : Opener → (k : ℕ) (out : List ℕ) → Result (ℕ × ℕ) Refusal → Opener → (out' : List ℕ) → Type 0
Judged o k out (Ok x) o' out' =
    (x ≡ (k, 16 * o.settings.interval)) × Moved o k o' × (o'.phase ≡ o.phase) × (o'.state.checks ≡ o.state.checks + 1)
    × (drop (16 * o.settings.interval) out' ≡ drop (16 * o.settings.interval) out) × (o'.held ≡ replicate 2048 0)
Judged o k out (Err e) o' out' =
    (e ≡ why.BadCheck (o.state.checks + 1)) × Moved o k o' × (o'.phase ≡ ph.Spoiled) × (o'.held ≡ replicate 2048 0) × (out' ≡ out)

pub record PutDone (o : Opener) (n : ℕ) (out : List ℕ) (r : Result (ℕ × ℕ) Refusal) (o' : Opener) (out' : List ℕ) : Type 0 where
  pub refused : (e : Refusal) → refusal o (Put n (length out)) ≡ Some e → (r ≡ Err e) × (o' ≡ o) × (out' ≡ out)
  pub more : refusal o (Put n (length out)) ≡ None → completes o n ≡ false
      → (r ≡ Ok (took o n, 0)) × Moved o (took o n) o' × (o'.phase ≡ o.phase) × (o'.state ≡ o.state) × (out' ≡ out)
  pub judged : refusal o (Put n (length out)) ≡ None → completes o n ≡ true → Judged o (took o n) out r o' out'

-- the end was judged: a right one lets the last blocks out and the opener is over, a wrong one spoils it
abbrev pub EndJudged : Opener → (out : List ℕ) → Result ℕ Refusal → Opener → (out' : List ℕ) → Type 0
EndJudged o out (Ok n) o' out' = (n ≤ last_room o) × (last_room o < n + 16) × Moved o 0 o' × (o'.phase ≡ ph.Over) × (drop n out' ≡ drop n out) × (o'.held ≡ replicate 2048 0)
EndJudged o out (Err e) o' out' = (e ≡ why.BadTag) × Moved o 0 o' × (o'.phase ≡ ph.Spoiled) × (o'.held ≡ replicate 2048 0) × (out' ≡ out)

pub record FinishDone (o : Opener) (out : List ℕ) (r : Result ℕ Refusal) (o' : Opener) (out' : List ℕ) : Type 0 where
  pub refused : (e : Refusal) → refusal o (Finish (length out)) ≡ Some e → (r ≡ Err e) × (o' ≡ o) × (out' ≡ out)
  pub judged : refusal o (Finish (length out)) ≡ None → EndJudged o out r o' out'

-- THE BYTES

-- the opener has taken the bytes s of a stream under u, and every check in them is good
pub record Opening (u : Frame) (s : List ℕ) (o : Opener) : Type 0 where
  pub filling : o.phase ≡ ph.Filling
  pub chosen : settings_bytes o.settings ≡ u.settings
  pub counted : o.taken ≡ length s
  pub bytes : Bytes s
  pub started : iv u < 2 ^ 128
  pub reads : Reads u s (o.state.checks * t_of u) o.state
  pub checked : Checks u s o.state.checks
  pub holds : take o.fill o.held ≡ drop (16 * (o.state.checks * t_of u + o.state.checks)) s
  pub laid : Laid u o.size (mark_number o.mark) o.shape

-- behind s': what is let out are the blocks between the checks; no answer where the check does not hold
abbrev pub Lets : (u : Frame) → Opener → (s' : List ℕ) → Result (ℕ × ℕ) Refusal → Opener → (out' : List ℕ) → Type 0
Lets u o s' (Ok x) o' out' = Opening u s' o' × (released u s' (o'.state.checks * t_of u) ≡ released u s' (o.state.checks * t_of u) ++ take x.1 out')
Lets u o s' (Err e) o' out' = Check u s' (suc o.state.checks) → ⊥

abbrev pub Puts : Meaning → Opener → (piece out : List ℕ) → Result (ℕ × ℕ) Refusal → Opener → (out' : List ℕ) → Type 0
Puts c o piece out r o' out' =
    (u : Frame) (s : List ℕ) → u.cipher ≡ c → Opening u s o → refusal o (Put (length piece) (length out)) ≡ None
    → Lets u o (s ++ take (took o (length piece)) piece) r o' out'

-- the end: right exactly when there is an answer, and then the rest of the message is let out
abbrev pub Closed : (u : Frame) → Opener → (s : List ℕ) → Result ℕ Refusal → (out' : List ℕ) → Type 0
Closed u o s (Ok n) out' =
    (q : ℕ) × Right u s (mark_number o.mark) o.shape.blocks q
    × (released u s (o.shape.checks * t_of u) ++ take n out' ≡ opened u s (mark_number o.mark) o.shape.blocks q)
Closed u o s (Err e) out' = (q : ℕ) → Right u s (mark_number o.mark) o.shape.blocks q → ⊥

abbrev pub Finishes : Meaning → Opener → (out : List ℕ) → Result ℕ Refusal → (out' : List ℕ) → Type 0
Finishes c o out r out' =
    (u : Frame) (s : List ℕ) → u.cipher ≡ c → Opening u s o → refusal o (Finish (length out)) ≡ None → Closed u o s r out'

-- THE MESSAGES

-- a check is good exactly when the bytes through it begin the stream of a message of this length and mark; what was let
-- out then begins every such message
abbrev pub Told : (u : Frame) → Opener → (s' : List ℕ) → Result (ℕ × ℕ) Refusal → Opener → Type 0
Told u o s' (Ok x) o' =
    Extends u o.size (mark_number o.mark) s'
    × ((m : List ℕ) → MessageOf u o.size (mark_number o.mark) m → Front s' (stream u m) → Front (released u s' (o'.state.checks * t_of u)) m)
Told u o s' (Err e) o' = Extends u o.size (mark_number o.mark) s' → ⊥

abbrev pub PutMeans : Meaning → Opener → (piece out : List ℕ) → Result (ℕ × ℕ) Refusal → Opener → Type 0
PutMeans c o piece out r o' =
    (u : Frame) (s : List ℕ) → u.cipher ≡ c → Opening u s o → refusal o (Put (length piece) (length out)) ≡ None → completes o (length piece) ≡ true
    → Told u o (s ++ take (took o (length piece)) piece) r o'

-- the end is right exactly when the bytes are the stream of a message, which is then let out whole
abbrev pub Sealed : (u : Frame) → Opener → (s : List ℕ) → Result ℕ Refusal → (out' : List ℕ) → Type 0
Sealed u o s (Ok n) out' =
    (m : List ℕ) × MessageOf u o.size (mark_number o.mark) m × (stream u m ≡ s) × (released u s (o.shape.checks * t_of u) ++ take n out' ≡ m)
Sealed u o s (Err e) out' = (m : List ℕ) → MessageOf u o.size (mark_number o.mark) m → stream u m ≢ s

abbrev pub FinishMeans : Meaning → Opener → (out : List ℕ) → Result ℕ Refusal → (out' : List ℕ) → Type 0
FinishMeans c o out r out' =
    (u : Frame) (s : List ℕ) → u.cipher ≡ c → Opening u s o → refusal o (Finish (length out)) ≡ None → Sealed u o s r out'

-- THE START

pub record Started (h : ClosedHeading) (S : ℕ) (mark : Mark) (o : Opener) : Type 0 where
  pub filling : o.phase ≡ ph.Filling
  pub chosen : o.settings ≡ h.settings
  pub sized : o.size ≡ S
  pub marked : o.mark ≡ mark
  pub none : o.taken ≡ 0
  pub unchecked : o.state.checks ≡ 0

-- no start without checks, nor where no message has that length and mark; then the place is as it was
pub record NotBegun (h : ClosedHeading) (S : ℕ) (mark : Mark) (o : Opener) (e : Refusal) (back : ClosedHeading) (o' : Opener) : Type 0 where
  pub handed : back ≡ h
  pub kept : o' ≡ o
  pub cause : ((h.settings.interval ≡ 0) × (e ≡ why.NoChecks))
      ⊎ ((1 ≤ h.settings.interval) × (e ≡ why.StreamLength) × ((u : Frame) → settings_bytes h.settings ≡ u.settings → (m : List ℕ) → MessageOf u S (mark_number mark) m → ⊥))

abbrev pub Begun : ClosedHeading → (S : ℕ) → Mark → Opener → Result Unit (Refusal × ClosedHeading) → Opener → Type 0
Begun h S mark o (Ok x) o' = (1 ≤ h.settings.interval) × Started h S mark o' × ((u : Frame) → settings_bytes h.settings ≡ u.settings → Laid u S (mark_number mark) o'.shape)
Begun h S mark o (Err x) o' = NotBegun h S mark o x.0 x.1 o'

abbrev pub Begins : ClosedHeading → Result Unit (Refusal × ClosedHeading) → Opener → Type 0
Begins h (Ok x) o' = (u : Frame) → Rattle.elmd.specs.Heading.Closes u h → Opening u [] o'
Begins h (Err x) o' = Unit {0}
