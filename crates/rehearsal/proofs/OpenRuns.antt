-- A list of calls on an opener.
use Rattle.std.proofs.Common.{◌≡◌, ℕ, ◌+◌, ◌-◌, min, List, [], ◌∷◌, ◌++◌, length, sym, refl, ap, ◌∙◌, subst, append_assoc, arith}
use Rattle.std.proofs.lemmas.List.{append-nil, length-append}
use Rattle.cipher.specs.Meaning.{Meaning}
use Rattle.elmd.specs.Stream.{Frame}
use Rattle.elmd.specs.Laws.{Sound}
use Rattle.opening.specs.declared.place.Opener.{Opener}
use Rattle.rehearsal.specs.declared.calls.Call.{Call}
use Rattle.rehearsal.specs.Calls.{room_of, Run}
use Rattle.rehearsal.specs.OpenLaw.{Told, Progress, Turn, OpenRun, At, OpenerDoes}

module _ (M : Meaning) (u : Frame) (S k room : ℕ) (ec : u.cipher ≡ M) (sound : Sound u) (o' : Opener) where
  -- from where an opener stands with so much of the room left
  pub open_run : (cs : List Call) (xs : List Told) (o : Opener) (b : Progress) (left : ℕ) (written : List ℕ) → left ≡ room - length b.let_out → At u S k b o → Run (OpenerDoes M) o left cs xs o' written
      → (end : Progress) × OpenRun u S k b room cs xs end × At u S k end o' × (end.let_out ≡ b.let_out ++ written)
  open_run [] [] o b left written l at r = (b, refl, subst (At u S k b) (sym r.0) at, sym (append-nil b.let_out) ∙ ap (λ (z : List ℕ). b.let_out ++ z) (sym r.1))
  open_run [] (x ∷ xs) o b left written l at r = absurd r
  open_run (c ∷ cs) [] o b left written l at r = absurd r
  open_run (c ∷ cs) (x ∷ xs) o b left written l at (next, first, rest, one, run, all) =
      let d = one u S k b ec sound at in
      let a : Progress = d.0 in
      let t : Turn u S k b c (min (room_of c) (room - length b.let_out)) x a = subst (λ (n : ℕ). Turn u S k b c (min (room_of c) n) x a) l d.1 in
      let less : left - length first ≡ room - length a.let_out = (let z : length a.let_out ≡ length b.let_out + length first = ap length d.3 ∙ length-append b.let_out first in omega arith) in
      let more = open_run cs xs next a (left - length first) rest less d.2 run in
      let out : a.let_out ++ rest ≡ b.let_out ++ written = ap (λ (z : List ℕ). z ++ rest) d.3 ∙ append_assoc b.let_out first rest ∙ ap (λ (z : List ℕ). b.let_out ++ z) (sym all) in
      (more.0, (a, t, more.1), more.2, more.3 ∙ out)
