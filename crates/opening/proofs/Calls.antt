-- What the calls of an opener come to.
use Rattle.std.proofs.Common.{◌≡◌, ℕ, ◌+◌, ◌-◌, ◌<◌, ◌≤◌, min, true, false, cond, ltb, leb, List, length, take, Some, None, Ok, Option, Result, sym, refl, ap, ◌∙◌, subst, ⊎_elim, arith}
use native.Mathlib.Nat.{sub-zero}
use Rattle.std.proofs.lemmas.List.{length-take-le}
use Rattle.std.proofs.lemmas.Bool.{cases_lt, cond-true, cond-false, lt-ltb, le-ltb, leb-true, true≢false}
use Rattle.opening.proofs.Standings.{taken_next}
use Rattle.elmd.specs.declared.refusal.Refusal.{Refusal}
use Rattle.elmd.specs.declared.refusal.Refusal.TheVariants as why
use Rattle.opening.specs.declared.place.Opener.{Opener}
use Rattle.opening.specs.declared.place.Phase.{Phase}
use Rattle.opening.specs.declared.place.Phase.TheVariants as ph
use Rattle.opening.specs.declared.place.Call.TheVariants.{Put, Finish}
use Rattle.opening.specs.Opener.{next_end, took, completes, refusal, refused_at, last_room, Judged, PutDone, Moved}

pub no_refusal : (x : Option Refusal) (e : Refusal) → None ≡ x → x ≡ Some e → ⊥
no_refusal x e p q = let z : ◌≡◌ {A = ℕ} 0 1 = cc in omega arith

-- the bytes that a put takes
pub took_len : (o : Opener) (piece : List ℕ) (n e : ℕ) → n ≡ min (length piece) (e - o.taken) → e ≡ next_end o
    → (take (n - 0) piece ≡ take (took o (length piece)) piece) × (length (take (n - 0) piece) ≡ took o (length piece)) × (n ≡ took o (length piece))
took_len o piece n e en ee =
    let a : n ≡ took o (length piece) = en ∙ ap (λ (m : ℕ). min (length piece) (m - o.taken)) ee in
    let b : n - 0 ≡ took o (length piece) = sub-zero n ∙ a in
    let d : took o (length piece) ≤ length piece = omega (arith, en) in
    let f : take (n - 0) piece ≡ take (took o (length piece)) piece = ap (λ (m : ℕ). take m piece) b in
    (f, ap length f ∙ length-take-le (took o (length piece)) piece d, a)

pub put_judged : (o : Opener) (n k : ℕ) (out : List ℕ) (r : Result (ℕ × ℕ) Refusal) (o' : Opener) (out' : List ℕ) → None ≡ refusal o (Put n (length out)) → completes o n ≡ true → k ≡ took o n
    → Judged o k out r o' out' → PutDone o n out r o' out'
put_judged o n k out r o' out' none t ek w = record {
  refused = λ e q. absurd (no_refusal (refusal o (Put n (length out))) e none q);
  more = λ _ f. absurd (true≢false (sym t ∙ f));
  judged = λ _ _. subst (λ (m : ℕ). Judged o m out r o' out') ek w;
}

pub put_more : (o : Opener) (n k : ℕ) (out : List ℕ) (k' : ℕ) (o' : Opener) → None ≡ refusal o (Put n (length out)) → completes o n ≡ false → k ≡ took o n → k' ≡ took o n
    → Moved o k' o' → o'.phase ≡ o.phase → o'.state ≡ o.state → PutDone o n out (Ok (k, 0)) o' out
put_more o n k out k' o' none f ek ek' m p s = record {
  refused = λ e q. absurd (no_refusal (refusal o (Put n (length out))) e none q);
  more = λ _ _. (ap (λ (i : ℕ). Ok (i, 0)) ek, subst (λ (i : ℕ). Moved o i o') ek' m, p, s, refl);
  judged = λ _ t. absurd (true≢false (sym t ∙ f));
}

-- an end that is not refused: all bytes are in, and there is room
open_at : (p : Phase) (o : Opener) (room : ℕ) → None ≡ refused_at p o (Finish room) → (o.size ≤ o.taken) × (last_room o ≤ room)
open_at ph.Over o room e = absurd (no_refusal (Some why.Over) why.Over e refl)
open_at ph.Spoiled o room e = absurd (no_refusal (Some why.Spoiled) why.Spoiled e refl)
open_at ph.Filling o room e =
    let rest : Option Refusal = cond (ltb room (last_room o)) (Some why.RoomShort) None in
    ⊎_elim
    (λ lt. absurd (no_refusal _ why.StreamMissing e (cond-true (ltb o.taken o.size) (Some why.StreamMissing) rest (lt-ltb o.taken o.size lt))))
    (λ le. ⊎_elim
    (λ lt. absurd (no_refusal _ why.RoomShort e (cond-false (ltb o.taken o.size) (Some why.StreamMissing) rest (le-ltb o.taken o.size le) ∙ cond-true (ltb room (last_room o)) (Some why.RoomShort) None (lt-ltb room (last_room o) lt))))
    (λ fits. (le, fits))
    (cases_lt room (last_room o)))
    (cases_lt o.taken o.size)

pub finish_open : (o : Opener) (room : ℕ) → None ≡ refusal o (Finish room) → (o.size ≤ o.taken) × (last_room o ≤ room)
finish_open o room e = open_at o.phase o room e

-- a put that completes a check takes its last byte
pub completes_below : (o : Opener) (n : ℕ) → completes o n ≡ true → o.state.checks < o.shape.checks
completes_below o n t =
    ⊎_elim (λ lt. lt) (λ le. absurd (true≢false (sym t ∙ cond-false (ltb o.state.checks o.shape.checks) (leb (next_end o - o.taken) n) false (le-ltb o.state.checks o.shape.checks le)))) (cases_lt o.state.checks o.shape.checks)

pub completes_all : (o : Opener) (x : List ℕ) → completes o (length x) ≡ true → o.taken + length (take (took o (length x)) x) ≡ next_end o
completes_all o x t =
    let lt = completes_below o (length x) t in
    let a : leb (next_end o - o.taken) (length x) ≡ true = sym (cond-true (ltb o.state.checks o.shape.checks) (leb (next_end o - o.taken) (length x)) false (lt-ltb o.state.checks o.shape.checks lt)) ∙ t in
    let b : next_end o - o.taken ≤ length x = leb-true (next_end o - o.taken) (length x) a in
    let e : took o (length x) ≡ next_end o - o.taken = omega arith in
    let d = taken_next o lt in
    let f : length (take (took o (length x)) x) ≡ took o (length x) = length-take-le (took o (length x)) x (omega arith) in
    omega arith
