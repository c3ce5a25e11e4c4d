-- What any list of calls on one newly begun opener comes to.
use Rattle.std.specs.Prelude.{◌≡◌, ℕ, ◌+◌, ◌-◌, ◌*◌, ◌/◌, ◌≤◌, min, Bool, true, false, cond, ◌&&◌, ◌⊎◌, List, [], ◌∷◌, ◌++◌, length, take, drop, Some, None, Ok, Err, Option, Result, ◌==◌, nat_le, nat_lt}
use Rattle.cipher.specs.Meaning.{Meaning}
use Rattle.elmd.specs.declared.refusal.Refusal.{Refusal}
use Rattle.elmd.specs.declared.refusal.Refusal.TheVariants as why
use Rattle.elmd.specs.declared.state.ClosedHeading.{ClosedHeading}
use Rattle.elmd.specs.Refusals.{mark_number}
use Rattle.elmd.specs.Settings.{settings_bytes}
use Rattle.elmd.specs.Heading.{Closes}
use Rattle.elmd.specs.Stream.{Frame, t_of, checks, stream}
use Rattle.elmd.specs.Opening.{blocks_of, released}
use Rattle.elmd.specs.Laws.{Begins, Sound, MessageOf, Extends, Sealed}
use Rattle.opening.specs.declared.place.Opener.{Opener}
use Rattle.opening.specs.declared.place.Phase.TheVariants as ph
use Rattle.opening.specs.Opener.{Opening}
use Rattle.opening.specs.Standing.{end_of}
use Rattle.rehearsal.specs.declared.calls.Call.{Call}
use Rattle.rehearsal.specs.declared.calls.Call.TheVariants.{Put, Finish}
use Rattle.rehearsal.specs.declared.calls.Taken.{Taken}
use Rattle.rehearsal.specs.declared.calls.Taken.TheVariants.{Took, Opened}
use Rattle.rehearsal.specs.Calls.{room_of, made}

-- an opener's answer to a call
abbrev pub Told : Type 0
Told = Result Taken Refusal

-- THE RULES

pub data Phase : Type 0 where
  filling : Phase
  spoiled : Phase
  over : Phase

-- where an opener stands: its phase, the bytes taken in and the bytes let out
pub record Progress : Type 0 where
  pub phase : Phase
  pub taken : List ℕ
  pub let_out : List ℕ

abbrev pub start : Progress
start = record { phase = filling; taken = []; let_out = [] }

-- of a stream of S bytes with h checks, a check behind each t blocks, j of them in: whether n bytes complete the next
abbrev pub completes_at : (t h S j taken n : ℕ) → Bool
completes_at t h S j taken n = cond (nat_lt j h) (nat_le (end_of t h S j - taken) n) false

-- why a put of n bytes is refused while the opener is filling, the first cause first
abbrev pub put_refusal_at : (t h S j taken n room : ℕ) → Option Refusal
put_refusal_at t h S j taken n room =
    cond (nat_lt 0 n && taken == S) (Some why.StreamComplete) (cond (completes_at t h S j taken n && nat_lt room (16 * t)) (Some why.RoomShort) None)

-- why an end is refused; l are the stream's blocks
abbrev pub finish_refusal_at : (t h l S taken room : ℕ) → Option Refusal
finish_refusal_at t h l S taken room = cond (nat_lt taken S) (Some why.StreamMissing) (cond (nat_lt room (16 * (l - h * t))) (Some why.RoomShort) None)

-- a refusal changes nothing
abbrev pub Unless : Option Refusal → Progress → Told → Progress → Type 0 → Type 0
Unless (Some e) b x a next = (x ≡ Err e) × (a ≡ b)
Unless None b x a next = next

-- the messages are those whose streams have S bytes and mark k
module _ (u : Frame) (S k : ℕ) where
  abbrev pub in_all : ℕ
  in_all = checks u (blocks_of u S)

  -- the checks among the first n bytes
  abbrev pub among : ℕ → ℕ
  among n = min (n / (16 * (t_of u + 1))) in_all

  -- how many bytes of a piece are taken: up to the end of the next check, or of the stream
  abbrev pub takes : Progress → List ℕ → ℕ
  takes b piece = min (length piece) (end_of (t_of u) in_all S (among (length b.taken)) - length b.taken)

  abbrev pub more : Progress → List ℕ → List ℕ
  more b piece = b.taken ++ take (takes b piece) piece

  -- a check is good: the bytes taken in begin the stream of a message
  pub record GoodCheck (b : Progress) (piece : List ℕ) (x : Told) (a : Progress) : Type 0 where
    pub extends : Extends u S k (more b piece)
    pub answer : x ≡ Ok (Took (takes b piece) (16 * t_of u))
    pub phase_is : a.phase ≡ filling
    pub blocks : (w : List ℕ) × (length w ≡ 16 * t_of u) × (a.let_out ≡ b.let_out ++ w)
    pub genuine : (m : List ℕ) → MessageOf u S k m → Begins (more b piece) (stream u m) → Begins a.let_out m

  pub record BadCheck (b : Progress) (piece : List ℕ) (x : Told) (a : Progress) : Type 0 where
    pub no_message : Extends u S k (more b piece) → ⊥
    pub answer : x ≡ Err (why.BadCheck (among (length b.taken) + 1))
    pub phase_is : a.phase ≡ spoiled
    pub none : a.let_out ≡ b.let_out

  pub record Checked (b : Progress) (piece : List ℕ) (x : Told) (a : Progress) : Type 0 where
    pub taken_is : a.taken ≡ more b piece
    pub judged : GoodCheck b piece x a ⊎ BadCheck b piece x a

  -- no check is completed
  pub record Plain (b : Progress) (piece : List ℕ) (x : Told) (a : Progress) : Type 0 where
    pub taken_is : a.taken ≡ more b piece
    pub answer : x ≡ Ok (Took (takes b piece) 0)
    pub phase_is : a.phase ≡ filling
    pub none : a.let_out ≡ b.let_out

  -- the end is right: the bytes taken in are the whole stream of a message, and then all of it is let out
  pub record GoodEnd (b : Progress) (x : Told) (a : Progress) : Type 0 where
    pub message : List ℕ
    pub of : MessageOf u S k message
    pub whole : stream u message ≡ b.taken
    pub answer : x ≡ Ok (Opened (length message - length b.let_out))
    pub phase_is : a.phase ≡ over
    pub all : a.let_out ≡ message

  pub record BadEnd (b : Progress) (x : Told) (a : Progress) : Type 0 where
    pub no_message : Sealed u S k b.taken → ⊥
    pub answer : x ≡ Err why.BadTag
    pub phase_is : a.phase ≡ spoiled
    pub none : a.let_out ≡ b.let_out

  pub record Ends (b : Progress) (x : Told) (a : Progress) : Type 0 where
    pub taken_is : a.taken ≡ b.taken
    pub judged : GoodEnd b x a ⊎ BadEnd b x a

  abbrev pub Puts : Bool → Progress → List ℕ → Told → Progress → Type 0
  Puts true b piece x a = Checked b piece x a
  Puts false b piece x a = Plain b piece x a

  abbrev pub PutTurn : Phase → Progress → (piece : List ℕ) (room : ℕ) → Told → Progress → Type 0
  PutTurn over b piece room x a = (x ≡ Err why.Over) × (a ≡ b)
  PutTurn spoiled b piece room x a = (x ≡ Err why.Spoiled) × (a ≡ b)
  PutTurn filling b piece room x a =
      Unless (put_refusal_at (t_of u) in_all S (among (length b.taken)) (length b.taken) (length piece) room) b x a
      (Puts (completes_at (t_of u) in_all S (among (length b.taken)) (length b.taken) (length piece)) b piece x a)

  abbrev pub FinishTurn : Phase → Progress → (room : ℕ) → Told → Progress → Type 0
  FinishTurn over b room x a = (x ≡ Err why.Over) × (a ≡ b)
  FinishTurn spoiled b room x a = (x ≡ Err why.Spoiled) × (a ≡ b)
  FinishTurn filling b room x a = Unless (finish_refusal_at (t_of u) in_all (blocks_of u S) S (length b.taken) room) b x a (Ends b x a)

  -- one call, with so much room
  abbrev pub Turn : Progress → Call → (room : ℕ) → Told → Progress → Type 0
  Turn b (Put piece _) room x a = PutTurn b.phase b piece.now room x a
  Turn b (Finish _) room x a = FinishTurn b.phase b room x a

  -- a list of calls and their answers, call by call; each gets its room, or what is left where that is less
  abbrev pub OpenRun : Progress → (room : ℕ) → List Call → List Told → Progress → Type 0
  OpenRun b room [] xs end = end ≡ b
  OpenRun b room (c ∷ cs) [] end = ⊥
  OpenRun b room (c ∷ cs) (x ∷ xs) end =
      (a : Progress) × Turn b c (min (room_of c) (room - length b.let_out)) x a × OpenRun a room cs xs end

  -- each message whose stream begins with the bytes taken in begins with all that was let out
  abbrev pub Released : Progress → Type 0
  Released b = (m : List ℕ) → MessageOf u S k m → Begins b.taken (stream u m) → Begins b.let_out m

  abbrev pub RightlySpoiled : Progress → Type 0
  RightlySpoiled b = b.phase ≡ spoiled → Sealed u S k b.taken → ⊥

-- THE LAW

pub record OpenerLaw (u : Frame) (S k : ℕ) (calls : List Call) (answers : List Told) (out out' : List ℕ) (w : ℕ) : Type 0 where
  pub end : Progress
  pub answered : OpenRun u S k start (length out) calls answers end
  pub let_out_is : end.let_out ≡ take w out'
  pub released : Released u S k end
  -- after a wrong check or end no message has the bytes taken in as its whole stream, so that no right finish is refused
  pub rightly_spoiled : RightlySpoiled u S k end
  pub one : (m n : List ℕ) → MessageOf u S k m → MessageOf u S k n → stream u m ≡ stream u n → m ≡ n

-- THE PARTS

-- an opener that stands so
abbrev pub Stands : (u : Frame) (S k : ℕ) → Phase → Progress → Opener → Type 0
Stands u S k filling b o = Opening u b.taken o × (o.size ≡ S) × (mark_number o.mark ≡ k) × (b.let_out ≡ released u b.taken (o.state.checks * t_of u))
Stands u S k spoiled b o = o.phase ≡ ph.Spoiled
Stands u S k over b o = o.phase ≡ ph.Over

pub record At (u : Frame) (S k : ℕ) (b : Progress) (o : Opener) : Type 0 where
  pub stands : Stands u S k b.phase b o
  pub keeps : Released u S k b

abbrev pub Leads : Meaning → Opener → (Frame → ℕ → ℕ → Progress → Progress → Type 0) → Opener → (written : List ℕ) → Type 0
Leads c o turn o' written =
    (u : Frame) (S k : ℕ) (b : Progress) → u.cipher ≡ c → Sound u → At u S k b o
    → (a : Progress) × turn u S k b a × At u S k a o' × (a.let_out ≡ b.let_out ++ written)

abbrev pub PutDoes : Meaning → Opener → (piece : List ℕ) (room : ℕ) → Opener → (written : List ℕ) → Told → Type 0
PutDoes c o piece room o' written x = Leads c o (λ u S k b a. PutTurn u S k b.phase b piece room x a) o' written

abbrev pub FinishDoes : Meaning → Opener → (room : ℕ) → Opener → (written : List ℕ) → Told → Type 0
FinishDoes c o room o' written x = Leads c o (λ u S k b a. FinishTurn u S k b.phase b room x a) o' written

abbrev pub OpenerDoes : Meaning → Opener → Call → (room : ℕ) → Opener → (written : List ℕ) → Told → Type 0
OpenerDoes c o call room o' written x = Leads c o (λ u S k b a. Turn u S k b call room x a) o' written

-- no start without checks, nor where no message has that length and mark; then nothing is written
abbrev pub RefusedWhen : ClosedHeading → (S k : ℕ) (out : List ℕ) → List Told → Result ℕ Refusal → (out' : List ℕ) → List Told → Type 0
RefusedWhen h S k out answers (Ok w) out' answers' = (1 ≤ h.settings.interval) × ((u : Frame) → settings_bytes h.settings ≡ u.settings → (m : List ℕ) × MessageOf u S k m)
RefusedWhen h S k out answers (Err e) out' answers' =
    (((h.settings.interval ≡ 0) × (e ≡ why.NoChecks))
    ⊎ ((1 ≤ h.settings.interval) × (e ≡ why.StreamLength) × ((u : Frame) → settings_bytes h.settings ≡ u.settings → (m : List ℕ) → MessageOf u S k m → ⊥)))
    × (out' ≡ out) × (answers' ≡ answers)

abbrev pub LawAt : Meaning → ClosedHeading → (S k : ℕ) → List Call → (out : List ℕ) → List Told → Result ℕ Refusal → (out' : List ℕ) → List Told → Type 0
LawAt c h S k calls out answers (Ok w) out' answers' =
    (u : Frame) → u.cipher ≡ c → Closes u h → OpenerLaw u S k (take (made calls answers) calls) (take (made calls answers) answers') out out' w
LawAt c h S k calls out answers (Err e) out' answers' = Unit {0}

-- what stands behind the bytes let out and behind the answers is as it was
abbrev pub Untouched : List Call → (out : List ℕ) → List Told → Result ℕ Refusal → (out' : List ℕ) → List Told → Type 0
Untouched calls out answers (Ok w) out' answers' = (w ≤ length out) × (drop w out' ≡ drop w out) × (drop (made calls answers) answers' ≡ drop (made calls answers) answers)
Untouched calls out answers (Err e) out' answers' = Unit {0}
