-- An opener is spoiled only by bytes that are no message's stream.
use Rattle.std.proofs.Common.{◌≡◌, ℕ, Bool, true, false, List, [], ◌∷◌, length, Some, None, Option, sym, refl, ap, ◌∙◌, subst, ⊎_elim, arith}
use Rattle.std.proofs.lemmas.List.{append-nil}
use Rattle.elmd.specs.declared.refusal.Refusal.{Refusal}
use Rattle.elmd.specs.Stream.{Frame, t_of}
use Rattle.elmd.specs.Laws.{Extends, Sealed}
use Rattle.rehearsal.specs.declared.calls.Call.{Call}
use Rattle.rehearsal.specs.declared.calls.Call.TheVariants.{Put, Finish}
use Rattle.rehearsal.specs.OpenLaw.{Told, Phase, filling, spoiled, over, Progress, start, in_all, among, put_refusal_at, completes_at, Unless, Puts, Ends, PutTurn, FinishTurn, Turn, OpenRun, RightlySpoiled}

abbrev is_spoiled : Phase → ℕ
is_spoiled filling = 0
is_spoiled spoiled = 1
is_spoiled over = 0

not_filling : (p : Phase) → p ≡ filling → p ≡ spoiled → ⊥
not_filling p a b = let z : ◌≡◌ {A = ℕ} 0 1 = ap is_spoiled (sym a ∙ b) in omega arith

not_over : (p : Phase) → p ≡ over → p ≡ spoiled → ⊥
not_over p a b = let z : ◌≡◌ {A = ℕ} 0 1 = ap is_spoiled (sym a ∙ b) in omega arith

module _ (u : Frame) (S k : ℕ) where
  abbrev Right : Progress → Type 0
  Right b = RightlySpoiled u S k b

  begins : (s : List ℕ) → Sealed u S k s → Extends u S k s
  begins s h = (h.0, h.1, ([], append-nil s ∙ sym h.2))

  unless : (o : Option Refusal) (b a : Progress) (x : Told) (next : Type 0) → Right b → (next → Right a) → Unless o b x a next → Right a
  unless (Some e) b a x next ok f t = subst Right (sym t.1) ok
  unless None b a x next ok f t = f t

  puts : (q : Bool) (b : Progress) (piece : List ℕ) (x : Told) (a : Progress) → Puts u S k q b piece x a → Right a
  puts true b piece x a t =
      ⊎_elim
      (λ good e _. not_filling a.phase good.phase_is e)
      (λ bad _ s. bad.no_message (begins _ (subst (Sealed u S k) t.taken_is s)))
      t.judged
  puts false b piece x a t = λ e _. not_filling a.phase t.phase_is e

  ends : (b : Progress) (x : Told) (a : Progress) → Ends u S k b x a → Right a
  ends b x a t =
      ⊎_elim
      (λ good e _. not_over a.phase good.phase_is e)
      (λ bad _ s. bad.no_message (subst (Sealed u S k) t.taken_is s))
      t.judged

  put_turn : (p : Phase) (b : Progress) (piece : List ℕ) (room : ℕ) (x : Told) (a : Progress) → Right b → PutTurn u S k p b piece room x a → Right a
  put_turn over b piece room x a ok t = subst Right (sym t.1) ok
  put_turn spoiled b piece room x a ok t = subst Right (sym t.1) ok
  put_turn filling b piece room x a ok t =
      let n : ℕ = length b.taken in
      let j : ℕ = among u S k n in
      unless (put_refusal_at (t_of u) (in_all u S k) S j n (length piece) room) b a x _ ok (puts (completes_at (t_of u) (in_all u S k) S j n (length piece)) b piece x a) t

  finish_turn : (p : Phase) (b : Progress) (room : ℕ) (x : Told) (a : Progress) → Right b → FinishTurn u S k p b room x a → Right a
  finish_turn over b room x a ok t = subst Right (sym t.1) ok
  finish_turn spoiled b room x a ok t = subst Right (sym t.1) ok
  finish_turn filling b room x a ok t = unless _ b a x _ ok (ends b x a) t

  turn : (b : Progress) (c : Call) (room : ℕ) (x : Told) (a : Progress) → Right b → Turn u S k b c room x a → Right a
  turn b (Put piece _) room x a ok t = put_turn b.phase b piece.now room x a ok t
  turn b (Finish _) room x a ok t = finish_turn b.phase b room x a ok t

  pub run_right : (b : Progress) (room : ℕ) (cs : List Call) (xs : List Told) (end : Progress) → Right b → OpenRun u S k b room cs xs end → Right end
  run_right b room [] xs end ok t = subst Right (sym t) ok
  run_right b room (c ∷ cs) [] end ok t = absurd t
  run_right b room (c ∷ cs) (x ∷ xs) end ok (a, t, rest) = run_right a room cs xs end (turn b c _ x a ok t) rest

  pub start_right : RightlySpoiled u S k start
  start_right e _ = not_filling filling refl e
