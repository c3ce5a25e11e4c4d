-- What an opener says of messages.
use Rattle.std.proofs.Common.{◌≡◌, ℕ, suc, ◌+◌, ◌*◌, ◌<◌, ◌≤◌, List, ◌++◌, length, Ok, Err, Result, sym, ap, ◌∙◌, subst, le_refl, suc-mul, add-one, arith, length-append}
use Rattle.std.proofs.ByRecursion.{All-append}
use Rattle.block.specs.Bytes.{Bytes}
use Rattle.cipher.specs.Meaning.{Lawful}
use Rattle.elmd.specs.declared.refusal.Refusal.{Refusal}
use Rattle.elmd.specs.Refusals.{mark_number}
use Rattle.elmd.specs.Stream.{Frame, t_of, checks}
use Rattle.elmd.specs.Opening.{blocks_of, released, Check, Checks, Right, opened}
use Rattle.elmd.specs.Laws.{Sound, MessageOf, Extends, Begins}
use Rattle.elmd.proofs.Extend.{extension, release}
use Rattle.elmd.proofs.Finish.{opening, finish}
use Rattle.opening.specs.declared.place.Opener.{Opener}
use Rattle.opening.specs.Opener.{next_end, Opening, Judged, Lets, Told, Closed, Sealed}
use Rattle.opening.proofs.Standings.{end_next}
use Rattle.opening.proofs.Openings.{t_is, spot}

module _ (u : Frame) (lawful : Lawful u.cipher) (s : List ℕ) (o : Opener) (ok : Opening u s o) where
  abbrev k : ℕ
  k = mark_number o.mark

  abbrev j : ℕ
  j = o.state.checks

  sound : Sound u
  sound = record { lawful = lawful; iv_lt = ok.started }

  abbrev some : List ℕ
  some = ok.laid.possible.0

  message : MessageOf u o.size k some
  message = ok.laid.possible.1

  checks_is : checks u (blocks_of u o.size) ≡ o.shape.checks
  checks_is = ap (checks u) (sym ok.laid.l_is) ∙ sym ok.laid.h_is

  module _ (x : List ℕ) (bx : Bytes x) (lt : j < o.shape.checks) (full : o.taken + length x ≡ next_end o) where
    bytes : Bytes (s ++ x)
    bytes = All-append (λ (n : ℕ). n < 256) s x ok.bytes bx

    long : length (s ++ x) ≡ 16 * (suc j * t_of u + suc j)
    long =
        let a = length-append s x in
        let b = ok.counted in
        let c = end_next o lt in
        let d = spot u s x o ok in
        let e = t_is u s x o ok in
        let f : suc j * t_of u ≡ j * t_of u + t_of u = suc-mul j (t_of u) in
        omega arith

    fits : suc j ≤ checks u (blocks_of u o.size)
    fits = let a = checks_is in omega arith

    good : Checks u (s ++ x) (suc j) → Extends u o.size k (s ++ x)
    good c = (extension u sound o.size k some message (suc j) (s ++ x) bytes fits long).0 c

    bad : (Check u (s ++ x) (suc j) → ⊥) → Extends u o.size k (s ++ x) → ⊥
    bad f e = f ((extension u sound o.size k some message (suc j) (s ++ x) bytes fits long).1 e (suc j) (omega arith) (le_refl (suc j)))

    pub put_told : (n : ℕ) (out : List ℕ) (r : Result (ℕ × ℕ) Refusal) (o' : Opener) (out' : List ℕ) → Judged o n out r o' out' → Lets u o (s ++ x) r o' out' → Told u o (s ++ x) r o'
    put_told n out (Ok y) o' out' w l =
        let one : o'.state.checks ≡ suc j = w.3 ∙ add-one j in (
          good (subst (Checks u (s ++ x)) one l.0.checked),
          λ m hm b. subst (λ (i : ℕ). Begins (released u (s ++ x) (i * t_of u)) m) (sym one) (release u sound o.size k m hm (suc j) (s ++ x) fits long b),
        )
    put_told n out (Err e) o' out' w l = bad l

  module _ (full : o.size ≤ o.taken) where
    size : length s ≡ o.size
    size = let a = ok.counted in let b = o.within.0 in omega arith

    pub end_told : (r : Result ℕ Refusal) (out' : List ℕ) → Closed u o s r out' → Sealed u o s r out'
    end_told (Ok n) out' (q, right, written) =
        let a = opening u sound o.size k some message s ok.bytes size q (subst (λ (l : ℕ). Right u s k l q) ok.laid.l_is right) in
        let e : opened u s k (blocks_of u o.size) q ≡ opened u s k o.shape.blocks q = ap (λ (l : ℕ). opened u s k l q) (sym ok.laid.l_is) in
        (opened u s k (blocks_of u o.size) q, a.0, a.1, written ∙ sym e)
    end_told (Err y) out' f = λ m hm e.
        let a = (finish u sound o.size k some message s ok.bytes size).1 (m, hm, e) in
        f a.0 (subst (λ (l : ℕ). Right u s k l a.0) (sym ok.laid.l_is) a.1)
