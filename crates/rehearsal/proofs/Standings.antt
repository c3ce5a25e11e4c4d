-- The numbers of an opener, by the bytes that it has taken.
use Rattle.std.proofs.Common.{◌≡◌, ℕ, pred, ◌+◌, ◌*◌, ◌/◌, ◌<◌, ◌≤◌, List, [], ◌++◌, length, drop, sym, ap, ◌∙◌, subst, ⊎_elim, mul-div_cancel, mul_left_comm, arith, rules, take-append-drop}
use Rattle.std.proofs.lemmas.Nat.{div-mul-add}
use Rattle.std.proofs.lemmas.Bool.{cases_lt}
use Rattle.elmd.specs.Refusals.{mark_number}
use Rattle.elmd.specs.Stream.{Frame, t_of, checks, stream}
use Rattle.elmd.specs.Opening.{blocks_of, released}
use Rattle.elmd.specs.Laws.{Begins, Sound, MessageOf}
use Rattle.elmd.specs.Shape.{Laid}
use Rattle.elmd.proofs.Quo.{quo_mono, quo_fits}
use Rattle.elmd.proofs.Injective.{same_l}
use Rattle.elmd.proofs.Extend.{released_is}
use Rattle.opening.specs.declared.place.Opener.{Opener}
use Rattle.opening.specs.Opener.{Opening}
use Rattle.opening.proofs.Openings.{t_is, back, spot, spot_le}
use Rattle.rehearsal.specs.OpenLaw.{in_all, among}

module _ (u : Frame) (S k : ℕ) (s : List ℕ) (o : Opener) (ok : Opening u s o) (es : o.size ≡ S) (ek : mark_number o.mark ≡ k) where
  abbrev j : ℕ
  j = o.state.checks

  pub laid : Laid u S k o.shape
  laid = subst (λ (x : ℕ). Laid u x k o.shape) es (subst (λ (x : ℕ). Laid u o.size x o.shape) ek ok.laid)

  pub t_eq : o.settings.interval ≡ t_of u
  t_eq = sym (t_is u s [] o ok)

  pub h_eq : o.shape.checks ≡ in_all u S k
  h_eq = laid.h_is ∙ ap (checks u) laid.l_is

  counts : (j ≤ o.shape.checks) × (o.taken ≡ 16 * (j * (o.settings.interval + 1)) + o.fill)
  counts = let all = o.stands in search rules

  -- the checks that were judged are those among the bytes
  pub j_eq : j ≡ among u S k (length s)
  j_eq =
      let D : ℕ = 16 * (t_of u + 1) in
      let n = ok.counted in
      let e = spot u s [] o ok in
      let f : 16 * (j * (o.settings.interval + 1)) ≡ 16 * (j * (t_of u + 1)) = ap (λ (x : ℕ). 16 * (j * (x + 1))) t_eq in
      let c : j * D ≡ 16 * (j * (t_of u + 1)) = mul_left_comm j 16 (t_of u + 1) in
      let st = counts.1 in
      let h = h_eq in
      let all : length s ≡ j * D + o.fill = omega arith in
      ⊎_elim
      (λ lt.
      let te = t_eq in
      let w = o.within.1 lt in
      let q : length s / D ≡ j = ap (λ (x : ℕ). x / D) all ∙ div-mul-add j D o.fill (omega arith) in
      omega arith)
      (λ le.
      let st1 = counts.0 in
      let pos : 0 < D = omega arith in
      let g : j * D / D ≡ j = mul-div_cancel j pos in
      let m : j * D / D ≤ length s / D = quo_mono (j * D) (length s) D (omega arith) in
      omega arith)
      (cases_lt j o.shape.checks)

  -- what is let out is of each message that has these bytes
  pub keeps_filling : Sound u → (m : List ℕ) → MessageOf u S k m → Begins s (stream u m) → Begins (released u s (j * t_of u)) m
  keeps_filling sound m hm b =
      let i : ℕ = j * t_of u in
      let le : j ≤ pred (blocks_of u S) / t_of u = (let p = counts.0 in let h = h_eq in omega arith) in
      let fits : i ≤ pred (blocks_of u S) = quo_fits j (t_of u) (pred (blocks_of u S)) le in
      let l = same_l u S k m hm in
      let some = hm.some in
      let sp = spot_le u s [] o ok in
      let bk = back u s [] o ok in
      let e = released_is u sound m s i hm.bytes b (omega arith) (omega arith) in
      (drop (16 * i) m, ap (λ (z : List ℕ). z ++ drop (16 * i) m) e ∙ take-append-drop (16 * i) m)
