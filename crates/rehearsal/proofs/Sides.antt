-- From what a driven opener does to what its side of a rehearsal comes to.
use Rattle.std.proofs.Common.{◌≡◌, ℕ, List, Ok, Err, Result, refl, ap, ◌∙◌, ⊎_elim, arith}
use Rattle.cipher.specs.Meaning.{Meaning}
use Rattle.elmd.specs.declared.refusal.Refusal.{Refusal}
use Rattle.elmd.specs.declared.state.ClosedHeading.{ClosedHeading}
use Rattle.elmd.specs.Stream.{Frame}
use Rattle.elmd.specs.Heading.{Closes}
use Rattle.elmd.proofs.Counts.{interval_is}
use Rattle.rehearsal.specs.declared.calls.Call.{Call}
use Rattle.rehearsal.specs.OpenLaw.{Told, RefusedWhen, LawAt, Untouched}
use Rattle.rehearsal.specs.Law.{front_of, OpenerSide}

abbrev refused : Result Unit Refusal → ℕ
refused (Ok x) = 0
refused (Err e) = 1

ok_err : (e : Refusal) → ◌≡◌ {A = Result Unit Refusal} (Ok tt) (Err e) → ⊥
ok_err e z = let n : ◌≡◌ {A = ℕ} 0 1 = ap refused z in omega arith

pub open_side : (u : Frame) (h : ClosedHeading) (m : Meaning) (S k : ℕ) (calls : List Call) (answers answers' : List Told) (out out' : List ℕ) (r : Result ℕ Refusal)
    → Ok tt ≡ front_of u → u.cipher ≡ m → Closes u h → RefusedWhen h S k out answers r out' answers' → LawAt m h S k calls out answers r out' answers' → Untouched calls out answers r out' answers'
    → OpenerSide u S k calls answers answers' out out' r
open_side u h m S k calls answers answers' out out' (Ok w) front same closes when law rest =
    let t = interval_is u h.settings closes.chosen in
    let some = when.0 in
    let x = when.1 u closes.chosen in
    record {
      no_heading = λ e q. absurd (ok_err e (front ∙ q));
      no_checks = λ _ z. absurd (omega arith);
      no_message = λ _ _ none. absurd (none x.0 x.1);
      law = λ _ _ _ _. (w, refl, law u same closes);
      rest = rest;
    }
open_side u h m S k calls answers answers' out out' (Err e) front same closes when law rest =
    let t = interval_is u h.settings closes.chosen in
    record {
      no_heading = λ e' q. absurd (ok_err e' (front ∙ q));
      no_checks = λ _ z. (⊎_elim (λ a. ap Err a.1) (λ b. let p = b.0 in absurd (omega arith)) when.0, when.2, when.1);
      no_message = λ _ some _. (⊎_elim (λ a. let p = a.0 in absurd (omega arith)) (λ b. ap Err b.1) when.0, when.2, when.1);
      law = λ _ some x of. absurd (⊎_elim (λ a. let p = a.0 in omega arith) (λ b. b.2 u closes.chosen x of) when.0);
      rest = rest;
    }
