-- What is shown of an opening whose room is as long as the stream.
use Rattle.std.proofs.Common.{◌≡◌, ℕ, ◌*◌, ◌<◌, ◌≤◌, List, length, take, Ok, Err, Result, refl, ap, ◌∙◌, ⊎_elim, arith}
use Rattle.std.proofs.lemmas.List.{take_at, length-append}
use Rattle.std.proofs.lemmas.Bool.{cases_lt}
use Rattle.elmd.specs.declared.refusal.Refusal.{Refusal}
use Rattle.elmd.specs.Refusals.{number}
use Rattle.elmd.specs.Stream.{Frame}
use Rattle.elmd.specs.Opening.{blocks_of}
use Rattle.elmd.specs.Laws.{MessageOf}
use Rattle.opening.specs.Open.{NoSeal, front_answer, Opened, StreamOpened}
use Rattle.console.specs.Replies.{bytes_line, refusal_line, OpenReply}

-- what is shown of an opening into a room
abbrev pub open_line : Result ℕ Refusal → (place : List ℕ) → List ℕ
open_line (Ok n) place = bytes_line 77 (take n place)
open_line (Err e) place = refusal_line (number e)

abbrev pub Shown : Frame → (mark : ℕ) → (s room out : List ℕ) → Type 0
Shown u k s room out = (r : Result ℕ Refusal) × (place : List ℕ) × Opened u s k room r place × (out ≡ open_line r place)

pub room_fits : (u : Frame) (S : ℕ) → 16 * blocks_of u S ≤ S
unfolding blocks_of
room_fits u S = omega arith

some_error : (u : Frame) (s : List ℕ) (k : ℕ) (r : Result ℕ Refusal) (place : List ℕ) → NoSeal u s k r
    → (e : Refusal) × NoSeal u s k (Err e) × (open_line r place ≡ refusal_line (number e))
some_error u s k (Ok n) place h = absurd h
some_error u s k (Err e) place h = (e, h, refl)

pub shown_reply : (u : Frame) (k : ℕ) (s room out : List ℕ) → length room ≡ length s → Shown u k s room out → OpenReply u k s out
shown_reply u k s room out size x =
    let r = x.0 in
    let place = x.1 in
    let o = x.2 in
    let is = x.3 in
    let fits : 16 * blocks_of u (length s) ≤ length room = (let f = room_fits u (length s) in omega arith) in
    record {
      early = λ e h. is ∙ ap (λ a. open_line a place) (o.early e h).0;
      no_length = λ h none. is ∙ ap (λ a. open_line a place) ((o.later h).no_length none).0;
      opens = λ h m seal.
          (let j = ((o.later h).judged m seal.0 fits).accepts m seal in
          is ∙ ap (λ a. open_line a place) j.0 ∙ ap (bytes_line 77) (ap (take (length m)) j.1 ∙ take_at m _ (length m) refl));
      refuses = λ h m mo none.
          (let j = (((o.later h).judged m mo fits).refuses none).0 in
          let e = some_error u s k r place j in
          (e.0, e.1, is ∙ e.2));
    }

-- the bytes that an opening answers lie within the room
no_message : (u : Frame) (s room place : List ℕ) (k n : ℕ) → length place ≡ length room → length room < n
    → StreamOpened u s k room (Ok n) place → (m : List ℕ) → MessageOf u (length s) k m → ⊥
no_message u s room place k n same far o m mo =
    ⊎_elim
    (λ short. let e = (o.no_room m mo short).0 in let z : ◌≡◌ {A = ℕ} 0 1 = cc in omega arith)
    (λ fits.
    let j = o.judged m mo fits in
    (j.refuses (λ m' seal.
    let a = j.accepts m' seal in
    let e : n ≡ length m' = (let p = a.0 in cc) in
    omega (arith, simp length-append at (ap length a.1)))).0)
    (cases_lt (length room) (16 * blocks_of u (length s)))

no_answer : (u : Frame) (s room place : List ℕ) (k n : ℕ) (a : Result Unit Refusal) → front_answer u ≡ a
    → length place ≡ length room → length room < n → Opened u s k room (Ok n) place → ⊥
no_answer u s room place k n (Ok t) f same far o =
    let e = ((o.later f).no_length (no_message u s room place k n same far (o.later f))).0 in
    let z : ◌≡◌ {A = ℕ} 0 1 = cc in omega arith
no_answer u s room place k n (Err e) f same far o =
    let x = (o.early e f).0 in let z : ◌≡◌ {A = ℕ} 0 1 = cc in omega arith

pub ok_within : (u : Frame) (s room place : List ℕ) (k n : ℕ) → length place ≡ length room → Opened u s k room (Ok n) place → n ≤ length place
ok_within u s room place k n same o =
    ⊎_elim
    (λ far. absurd (no_answer u s room place k n (front_answer u) refl same (omega arith) o))
    (λ h. h)
    (cases_lt (length place) n)
