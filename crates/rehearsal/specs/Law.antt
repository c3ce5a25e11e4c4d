-- What a rehearsal comes to, on both sides.
use Rattle.std.specs.Prelude.{◌≡◌, ℕ, ◌≤◌, List, take, Ok, Err, Result}
use Rattle.elmd.specs.declared.refusal.Refusal.{Refusal}
use Rattle.elmd.specs.declared.refusal.Refusal.TheVariants.{NoChecks, StreamLength}
use Rattle.elmd.specs.Envelope.{heading_answer}
use Rattle.elmd.specs.Stream.{Frame, t_of}
use Rattle.elmd.specs.Laws.{MessageOf}
use Rattle.sealing.specs.Handing.{begin_answer}
use Rattle.rehearsal.specs.declared.calls.Call.{Call}
use Rattle.rehearsal.specs.Calls.{made}
use Rattle.rehearsal.specs.SealLaw.{Told as SealTold, SealerLaw}
use Rattle.rehearsal.specs.OpenLaw.{Told as OpenTold, OpenerLaw, Untouched}

-- the refusal of the settings and the heading, under which nothing is begun
abbrev pub front_of : Frame → Result Unit Refusal
front_of u = heading_answer u

-- refused, and nothing written
abbrev pub Nothing : {A : Type 0} → Refusal → (answers answers' : List A) (out out' : List ℕ) → Result ℕ Refusal → Type 0
Nothing e answers answers' out out' r = (r ≡ Err e) × (answers' ≡ answers) × (out' ≡ out)

pub record SealerSide (u : Frame) (n : ℕ) (calls : List Call) (answers answers' : List SealTold) (out out' : List ℕ) (r : Result ℕ Refusal) : Type 0 where
  pub no_heading : (e : Refusal) → front_of u ≡ Err e → Nothing e answers answers' out out' r
  pub not_begun : (e : Refusal) → front_of u ≡ Ok tt → begin_answer n ≡ Err e → Nothing e answers answers' out out' r
  pub law : front_of u ≡ Ok tt → begin_answer n ≡ Ok tt → (w : ℕ) × (r ≡ Ok w) × SealerLaw u n calls answers answers' out out' w

pub record OpenerSide (u : Frame) (S k : ℕ) (calls : List Call) (answers answers' : List OpenTold) (out out' : List ℕ) (r : Result ℕ Refusal) : Type 0 where
  pub no_heading : (e : Refusal) → front_of u ≡ Err e → Nothing e answers answers' out out' r
  pub no_checks : front_of u ≡ Ok tt → t_of u ≡ 0 → Nothing NoChecks answers answers' out out' r
  pub no_message : front_of u ≡ Ok tt → 1 ≤ t_of u → ((m : List ℕ) → MessageOf u S k m → ⊥) → Nothing StreamLength answers answers' out out' r
  pub law : front_of u ≡ Ok tt → 1 ≤ t_of u → (m : List ℕ) → MessageOf u S k m
      → (w : ℕ) × (r ≡ Ok w) × OpenerLaw u S k (take (made calls answers) calls) (take (made calls answers) answers') out out' w
  -- what stands behind the bytes let out and behind the answers is as it was
  pub rest : Untouched calls out answers r out' answers'
