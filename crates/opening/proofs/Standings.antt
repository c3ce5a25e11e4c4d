-- The numbers of an opener.
use Rattle.std.proofs.Common.{◌≡◌, ℕ, suc, pred, ◌+◌, ◌-◌, ◌*◌, ◌/◌, ◌<◌, ◌≤◌, false, ltb, List, [], ◌++◌, length, take, drop, ap, ◌∙◌, ⊎_elim, le_refl, suc-mul, mul-suc, div-mul-le_self, add-one, arith}
use native.Mathlib.Nat.{lt-div-mul-add}
use Rattle.std.proofs.lemmas.Nat.{mul-le}
use Rattle.std.proofs.lemmas.List.{take_at, drop_at, length-take-le}
use Rattle.std.proofs.lemmas.Bool.{cases_lt, cond-true, cond-false, lt-ltb, le-ltb}
use Rattle.elmd.specs.declared.settings.Settings.{Settings}
use Rattle.elmd.specs.Settings.{settings_bytes}
use Rattle.elmd.specs.Stream.{Frame}
use Rattle.opening.specs.declared.place.Opener.{Opener}
use Rattle.opening.specs.Opener.{next_end}

pub times_more : (j t : ℕ) → j * (t + 1) ≡ j * t + j
times_more j t = ap (λ (n : ℕ). j * n) (add-one t) ∙ mul-suc j t

-- what is let out, at the start of an output
pub let_out : (out out' plain : List ℕ) (m : ℕ) → m ≤ length plain → out' ≡ take m plain ++ drop (length (take m plain)) out → (take m out' ≡ take m plain) × (drop m out' ≡ drop m out)
let_out out out' plain m h e =
    let l : length (take m plain) ≡ m = length-take-le m plain h in (
      ap (take m) e ∙ take_at (take m plain) (drop (length (take m plain)) out) m l,
      ap (drop m) e ∙ drop_at (take m plain) (drop (length (take m plain)) out) m l ∙ ap (λ (n : ℕ). drop n out) l,
    )

module _ (o : Opener) where
  abbrev t : ℕ
  t = o.settings.interval

  abbrev h : ℕ
  h = o.shape.checks

  abbrev l : ℕ
  l = o.shape.blocks

  abbrev j : ℕ
  j = o.state.checks

  pub blocks_low : h * t ≤ pred l
  blocks_low = let a = div-mul-le_self (pred l) t in let b : h * t ≡ pred l / t * t = ap (λ (n : ℕ). n * t) o.lies.2 in omega arith

  pub blocks_high : l ≤ h * t + t
  blocks_high =
      let pos : 0 < t = (let p = o.tagged.2 in omega arith) in
      let a : pred l < pred l / t * t + t = lt-div-mul-add pos in
      let b : h * t ≡ pred l / t * t = ap (λ (n : ℕ). n * t) o.lies.2 in
      let p = o.lies.0 in
      omega arith

  pub end_next : j < h → next_end o ≡ 16 * (j * (t + 1)) + 16 * (t + 1)
  end_next lt = cond-true (ltb j h) (16 * (j * (t + 1)) + 16 * (t + 1)) o.size (lt-ltb j h lt)

  pub end_last : h ≤ j → next_end o ≡ o.size
  end_last le = cond-false (ltb j h) (16 * (j * (t + 1)) + 16 * (t + 1)) o.size (le-ltb j h le)

  pub end_high : next_end o ≤ 16 * (j * (t + 1)) + 16 * (t + 1)
  end_high =
      ⊎_elim
      (λ lt. let e = end_next lt in omega arith)
      (λ le.
      let e = end_last le in
      let eq : j ≡ h = (let p = o.stands.0 in omega arith) in
      let m : j * (t + 1) ≡ h * (t + 1) = ap (λ (n : ℕ). n * (t + 1)) eq in
      let k = times_more h t in
      let b = blocks_high in
      let s = o.lies.3 in
      let g = o.tagged.1 in
      omega arith)
      (cases_lt j h)

  pub taken_next : j < h → o.taken < next_end o
  taken_next lt = let e = end_next lt in let f = o.within.1 lt in let c = o.stands.1 in omega arith

  pub taken_le : o.taken ≤ next_end o
  taken_le = ⊎_elim (λ lt. let a = taken_next lt in omega arith) (λ le. let e = end_last le in let w = o.within.0 in omega arith) (cases_lt j h)

  pub end_below : j < h → next_end o < o.size
  end_below lt =
      let e = end_next lt in
      let m : suc j * (t + 1) ≤ h * (t + 1) = mul-le (suc j) (t + 1) h (t + 1) lt (le_refl (t + 1)) in
      let n : suc j * (t + 1) ≡ j * (t + 1) + (t + 1) = suc-mul j (t + 1) in
      let k = times_more h t in
      let b = blocks_low in
      let p = o.lies.0 in
      let s = o.lies.3 in
      omega arith

  pub end_le : next_end o ≤ o.size
  end_le = ⊎_elim (λ lt. let a = end_below lt in omega arith) (λ le. let e = end_last le in omega arith) (cases_lt j h)

  -- a check is judged
  pub done_count : (n k : ℕ) → j < h → o.taken + n ≡ next_end o → k ≡ j + 1 → o.taken + n ≡ 16 * (k * (t + 1)) + 0
  done_count n k lt e ek =
      let a = end_next lt in
      let b : k * (t + 1) ≡ j * (t + 1) + (t + 1) = ap (λ (m : ℕ). m * (t + 1)) (ek ∙ add-one j) ∙ suc-mul j (t + 1) in
      omega arith

  -- all bytes are in: every check was judged, and the rest is held
  pub full_checks : o.size ≤ o.taken → j ≡ h
  full_checks f =
      ⊎_elim (λ lt. absurd (let a = end_below lt in let b = taken_next lt in omega arith)) (λ le. let p = o.stands.0 in omega arith) (cases_lt j h)

  pub full_fill : o.size ≤ o.taken → o.fill ≡ 16 * (l - h * t) + o.shape.tag
  full_fill f =
      let eq = full_checks f in
      let m : j * (t + 1) ≡ h * (t + 1) = ap (λ (n : ℕ). n * (t + 1)) eq in
      let k = times_more h t in
      let b = blocks_low in
      let s = o.lies.3 in
      let c = o.stands.1 in
      let w = o.within.0 in
      let p = o.lies.0 in
      omega arith

  pub fill_small : o.fill ≤ 2048
  fill_small = let e = end_high in let g = taken_le in let c = o.stands.1 in let s = o.settings.ok in omega arith

-- some frame with these settings
abbrev pub plain_frame : Settings → Frame
plain_frame s = record { cipher = record { enc = λ x. x; dec = λ x. x; label = 0; double = false }; settings = settings_bytes s; nonce = []; heading = [] }
