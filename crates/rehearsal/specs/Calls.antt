-- Any list of calls, made one after another.
use Rattle.std.specs.Prelude.{◌≡◌, ℕ, ◌-◌, ◌≤◌, min, List, [], ◌∷◌, ◌++◌, length, take, drop}
use Rattle.rehearsal.specs.declared.calls.Call.{Call}
use Rattle.rehearsal.specs.declared.calls.Call.TheVariants.{Put, Finish}
use Rattle.rehearsal.specs.declared.calls.Part.{Part}

abbrev pub room_of : Call → ℕ
room_of (Put piece room) = room
room_of (Finish room) = room

-- of an output the first n bytes are written
pub record Within (n : ℕ) (out out' : List ℕ) : Type 0 where
  pub fits : n ≤ length out
  pub rest : drop n out' ≡ drop n out

-- the bytes from pos to
pub record Wrote (pos to : ℕ) (out out' : List ℕ) : Type 0 where
  pub after : pos ≤ to
  pub fits : to ≤ length out
  pub before : take pos out' ≡ take pos out
  pub rest : drop to out' ≡ drop to out

-- a list of calls and their answers, call by call, with all that they write in so much room; each gets its room, or what is
-- left where that is less
module _ {S A : Type 0} (does : S → Call → ℕ → S → List ℕ → A → Type 0) where
  abbrev pub Run : S → (room : ℕ) → List Call → List A → S → (written : List ℕ) → Type 0
  Run s room [] [] end written = (end ≡ s) × (written ≡ [])
  Run s room [] (x ∷ xs) end written = ⊥
  Run s room (c ∷ cs) [] end written = ⊥
  Run s room (c ∷ cs) (x ∷ xs) end written =
      (next : S) × (first rest : List ℕ) × does s c (min (room_of c) room) next first x × Run next (room - length first) cs xs end rest × (written ≡ first ++ rest)

-- how many calls are made: those that have a place for their answer
abbrev pub made : {A : Type 0} → List Call → List A → ℕ
made calls answers = min (length calls) (length answers)

-- the part has its calls, and writes into the same output and the same places, whose lengths stay
abbrev pub Kept : {A : Type 0} → Part A → Part A → Type 0
Kept part part' =
    (part'.calls ≡ part.calls) × (part'.out.ghost_name ≡ part.out.ghost_name) × (part'.answers.ghost_name ≡ part.answers.ghost_name)
    × (length part'.out.now ≡ length part.out.now) × (length part'.answers.now ≡ length part.answers.now)
