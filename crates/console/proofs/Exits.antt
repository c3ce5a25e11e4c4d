-- What a call gives where a fault ends it.
use Rattle.std.proofs.Common.{◌≡◌, ℕ, List, Ok, Err, Result, IsErrAnd, refl}
use Rattle.std.proofs.lemmas.Result.{err_from_is_err_and}
use Rattle.console.specs.declared.fault.Failure.{Failure}
use Rattle.console.specs.declared.fault.Failure.TheVariants.{Fault, Memory}
use Rattle.console.specs.declared.fault.Fault.{Fault as TheFault}
use Rattle.console.specs.Faults.{fault_number}
use Rattle.console.specs.Replies.{refusal_line, Gives}

pub gives_fault : (r : Result Unit Failure) (f : TheFault) (old : List ℕ) (P : List ℕ → Type 0) (Q : Type 0)
    → IsErrAnd r (λ e. e ≡ Fault f) → P (refusal_line (fault_number f)) → Q → Gives r old old P Q
gives_fault r f old P Q h p q =
    let e = err_from_is_err_and r h in rw (e.1, e.2) (refl, p, q)

-- and where it failed as the call before it did
pub gives_weaker : (r : Result Unit Failure) (old new : List ℕ) (P R : List ℕ → Type 0) (Q S : Type 0)
    → ((x : List ℕ) → P x → R x) → (Q → S) → Gives r old new P Q → Gives r old new R S
gives_weaker (Ok u) old new P R Q S f g (a, q) = ((a.0, a.1, f a.0 a.2), g q)
gives_weaker (Err (Fault e)) old new P R Q S f g h = (h.0, f _ h.1, g h.2)
gives_weaker (Err (Memory e)) old new P R Q S f g h = tt

pub gives_failure : (r : Result Unit Failure) (e : Failure) (old new : List ℕ) (P R : List ℕ → Type 0) (Q : Type 0)
    → IsErrAnd r (λ d. d ≡ e) → ((x : List ℕ) → P x → R x) → Q → Gives (Err e) old new P (Unit {0}) → Gives r old new R Q
gives_failure r e old new P R Q h f q g =
    let d = err_from_is_err_and r h in rw (d.1, d.2) (gives_weaker (Err e) old new P R (Unit {0}) Q f (λ u. q) g)
