-- The layout of a stream from its length and mark.
use Rattle.std.proofs.Common.{◌≡◌, ℕ, suc, pred, ◌+◌, ◌-◌, ◌*◌, ◌/◌, ◌%◌, ◌<◌, ◌≤◌, Bool, true, false, cond, not, eqb, ◌⊎◌, List, Some, None, sym, refl, ap, ◌∙◌, inl, inr, ⊎_elim, div-add-mod', mul-suc, arith}
use native.Mathlib.Nat.{div-zero}
use Rattle.std.proofs.lemmas.Nat.{div-mul-add, mod_below, mod-mul-add}
use Rattle.std.proofs.lemmas.Bool.{cases_eq, cond-true, cond-false, eq-eqb, ne_eqb, eqb-true, eqb-false, true≢false}
use Rattle.elmd.specs.declared.settings.Settings.{Settings}
use Rattle.elmd.specs.declared.shape.Shape.{Shape}
use Rattle.elmd.specs.declared.refusal.Mark.{Mark}
use Rattle.elmd.specs.declared.refusal.Mark.TheVariants.{Filled, Whole}
use Rattle.elmd.specs.Refusals.{mark_number}
use Rattle.elmd.specs.Settings.{settings_bytes}
use Rattle.elmd.specs.Stream.{Frame, t_of, checks, tag_spot, tag_size}
use Rattle.elmd.specs.Opening.{full, blocks_of}
use Rattle.elmd.specs.Laws.{MessageOf, Fitting}
use Rattle.elmd.specs.Shape.{Laid, checks_among, tag_fits}
use Rattle.elmd.proofs.Quo.{quo_more}
use Rattle.elmd.proofs.Lengths.{size_range}
use Rattle.elmd.proofs.Counts.{interval_is, tag_size_is}
use Rattle.elmd.proofs.Finish.{possible}

pub mark_is : (k : Mark) → (mark_number k ≡ 0) ⊎ (mark_number k ≡ 1)
mark_is Filled = inl refl
mark_is Whole = inr refl

-- what checks_among answers, by cases
among_zero : (F t h : ℕ) → t ≡ 0 → checks_among F t ≡ Some h → h ≡ 0
among_zero F t h z e = let a : checks_among F t ≡ Some 0 = cond-true (eqb t 0) (Some 0) (cond (eqb (F % (t + 1)) 0) None (Some ((F - 1) / (t + 1)))) (eq-eqb t 0 z) in cc

among_last : (F t : ℕ) → (t ≡ 0 → ⊥) → F % (t + 1) ≡ 0 → checks_among F t ≡ None
among_last F t n e = cond-false (eqb t 0) (Some 0) (cond (eqb (F % (t + 1)) 0) None (Some ((F - 1) / (t + 1)))) (ne_eqb t 0 n) ∙ cond-true (eqb (F % (t + 1)) 0) None (Some ((F - 1) / (t + 1))) (eq-eqb (F % (t + 1)) 0 e)

among_more : (F t : ℕ) → (t ≡ 0 → ⊥) → (F % (t + 1) ≡ 0 → ⊥) → checks_among F t ≡ Some ((F - 1) / (t + 1))
among_more F t n e = cond-false (eqb t 0) (Some 0) (cond (eqb (F % (t + 1)) 0) None (Some ((F - 1) / (t + 1)))) (ne_eqb t 0 n) ∙ cond-false (eqb (F % (t + 1)) 0) None (Some ((F - 1) / (t + 1))) (ne_eqb (F % (t + 1)) 0 e)

-- F places with h checks among them are l blocks and their checks
pub among_some : (F t h : ℕ) → 1 ≤ F → checks_among F t ≡ Some h → (h < F) × (pred (F - h) / t ≡ h) × (h ≡ cond (eqb t 0) 0 (pred F / suc t))
among_some F t h p e =
    ⊎_elim
    (λ z.
    let a : h ≡ 0 = among_zero F t h z e in
    let b : pred (F - h) / t ≡ 0 = ap (λ (n : ℕ). pred (F - h) / n) z ∙ div-zero (pred (F - h)) in
    (omega arith, omega arith, a ∙ sym (cond-true (eqb t 0) 0 (pred F / suc t) (eq-eqb t 0 z))))
    (λ n. ⊎_elim
    (λ l. let a = among_last F t n l in let z : ◌≡◌ {A = ℕ} 0 1 = cc in absurd (omega arith))
    (λ l.
    let a = among_more F t n l in
    let s : h ≡ (F - 1) / (t + 1) = cc in
    let d : t + 1 ≡ suc t = omega arith in
    let q : F - 1 ≡ pred F = omega arith in
    let hs : h ≡ pred F / suc t = s ∙ ap (λ (x : ℕ). (F - 1) / x) d ∙ ap (λ (x : ℕ). x / suc t) q in
    let r : ℕ = pred F % suc t in
    let sum : pred F / suc t * suc t + r ≡ pred F = div-add-mod' (pred F) (suc t) in
    let sumh : h * suc t + r ≡ pred F = ap (λ (x : ℕ). x * suc t + r) hs ∙ sum in
    let low : r < suc t = mod_below (pred F) (suc t) (omega arith) in
    let m : h * suc t ≡ h * t + h = mul-suc h t in
    let less : r < t = ⊎_elim (λ x. x) (λ x.
    let top : r ≡ t = omega arith in
    let whole : F ≡ suc h * suc t + 0 = (let w : suc h * suc t ≡ h * suc t + suc t = native.Mathlib.Nat.suc-mul h (suc t) in omega arith) in
    let none : F % suc t ≡ 0 = ap (λ (y : ℕ). y % suc t) whole ∙ mod-mul-add (suc h) (suc t) 0 (omega arith) in
    absurd (l (ap (λ (y : ℕ). F % y) d ∙ none))) (Rattle.std.proofs.lemmas.Bool.cases_lt r t) in
    let pl : pred (F - h) ≡ h * t + r = omega arith in
    (omega arith, ap (λ (x : ℕ). x / t) pl ∙ div-mul-add h t r less, hs ∙ sym (cond-false (eqb t 0) 0 (pred F / suc t) (ne_eqb t 0 n))))
    (cases_eq (F % (t + 1)) 0))
    (cases_eq t 0)

-- and l blocks with their checks are so many places
pub among_back : (F t l : ℕ) → 1 ≤ l → F ≡ l + pred l / t → checks_among F t ≡ Some (pred l / t)
among_back F t l p e =
    ⊎_elim
    (λ z.
    let b : pred l / t ≡ 0 = ap (λ (n : ℕ). pred l / n) z ∙ div-zero (pred l) in
    cond-true (eqb t 0) (Some 0) (cond (eqb (F % (t + 1)) 0) None (Some ((F - 1) / (t + 1)))) (eq-eqb t 0 z) ∙ ap Some (sym b))
    (λ n.
    let q : ℕ = pred l / t in
    let r : ℕ = pred l % t in
    let sum : q * t + r ≡ pred l = div-add-mod' (pred l) t in
    let low : r < t = mod_below (pred l) t (omega (arith, n)) in
    let m : q * suc t ≡ q * t + q = mul-suc q t in
    let d : t + 1 ≡ suc t = omega arith in
    let w : F ≡ q * suc t + suc r = omega arith in
    let rest : F % (t + 1) ≡ suc r = ap (λ (x : ℕ). F % x) d ∙ ap (λ (x : ℕ). x % suc t) w ∙ mod-mul-add q (suc t) (suc r) (omega arith) in
    let f : F - 1 ≡ pred l + q = omega arith in
    let quo : (F - 1) / (t + 1) ≡ q = ap (λ (x : ℕ). (F - 1) / x) d ∙ ap (λ (x : ℕ). x / suc t) f ∙ quo_more (pred l) t (omega (arith, n)) in
    among_more F t n (λ x. omega arith) ∙ ap Some quo)
    (cases_eq t 0)

same_both : (b : Bool) → ◌≡◌ {A = ℕ} (cond b 16 16) 16
same_both true = refl
same_both false = refl

abbrev Goes : Frame → (k tag r : ℕ) → Type 0
Goes u k tag r = (1 ≤ r) × (((k ≡ 1) × (r ≡ 16)) ⊎ ((k ≡ 0) × (r < 16))) × (tag_size u r ≡ tag)

module _ (u : Frame) (s : Settings) (k tag : ℕ) (es : settings_bytes s ≡ u.settings) where
  by_flag : 1 ≤ tag → tag ≤ 16 → (b : Bool) → s.short_tag ≡ b → cond b (not (eqb tag 16)) (eqb tag 16) ≡ true → k ≡ 0 → (r : ℕ) × Goes u k tag r
  by_flag p q true e g z = (tag, (p, inr (z, ⊎_elim (λ x. let no = ap not (eq-eqb tag 16 x) in absurd (true≢false (sym g ∙ no))) (λ x. omega (arith, x)) (cases_eq tag 16)), tag_size_is u s tag es ∙ ap (λ (b : Bool). cond b tag 16) e))
  by_flag p q false e g z = (1, (omega arith, inr (z, omega arith), tag_size_is u s 1 es ∙ ap (λ (b : Bool). cond b 1 16) e ∙ sym (eqb-true tag 16 g)))

  -- a last block that goes with the mark and the tag's length
  tag_chosen : (k ≡ 0) ⊎ (k ≡ 1) → 1 ≤ tag → tag ≤ 16 → tag_fits s.short_tag k tag ≡ true → (r : ℕ) × Goes u k tag r
  tag_chosen (inl z) p q f =
      let a = cond-false (eqb k 1) (eqb tag 16) (cond s.short_tag (not (eqb tag 16)) (eqb tag 16)) (ne_eqb k 1 (λ o. omega arith)) in
      by_flag p q s.short_tag refl (sym a ∙ f) z
  tag_chosen (inr o) p q f =
      let a = cond-true (eqb k 1) (eqb tag 16) (cond s.short_tag (not (eqb tag 16)) (eqb tag 16)) (eq-eqb k 1 o) in
      let t : tag ≡ 16 = eqb-true tag 16 (sym a ∙ f) in
      (16, (omega arith, inl (o, refl), tag_size_is u s 16 es ∙ same_both s.short_tag ∙ sym t))

  flag_fits : (r : ℕ) → (b : Bool) → s.short_tag ≡ b → r < 16 → tag_size u r ≡ tag → cond b (not (eqb tag 16)) (eqb tag 16) ≡ true
  flag_fits r true e h g = let t : tag ≡ r = sym g ∙ tag_size_is u s r es ∙ ap (λ (b : Bool). cond b r 16) e in ap not (ne_eqb tag 16 (λ x. omega arith))
  flag_fits r false e h g = let t : tag ≡ 16 = sym g ∙ tag_size_is u s r es ∙ ap (λ (b : Bool). cond b r 16) e in eq-eqb tag 16 t

  -- and back
  tag_fits_lem : (r : ℕ) → Goes u k tag r → tag_fits s.short_tag k tag ≡ true
  tag_fits_lem r (p, inl (o, w), g) =
      let t : tag ≡ 16 = sym g ∙ ap (tag_size u) w ∙ tag_size_is u s 16 es ∙ same_both s.short_tag in
      cond-true (eqb k 1) (eqb tag 16) (cond s.short_tag (not (eqb tag 16)) (eqb tag 16)) (eq-eqb k 1 o) ∙ eq-eqb tag 16 t
  tag_fits_lem r (p, inr (z, w), g) =
      cond-false (eqb k 1) (eqb tag 16) (cond s.short_tag (not (eqb tag 16)) (eqb tag 16)) (ne_eqb k 1 (λ o. omega arith)) ∙ flag_fits r s.short_tag refl w g

-- the layout that was found
pub shape_found : (u : Frame) (s : Settings) (S k h : ℕ) (sh : Shape) → settings_bytes s ≡ u.settings → 17 ≤ S → (k ≡ 0) ⊎ (k ≡ 1) → checks_among ((S - 1) / 16) s.interval ≡ Some h
    → sh.blocks ≡ (S - 1) / 16 - h → sh.checks ≡ h → sh.tag ≡ S - 16 * ((S - 1) / 16) → sh.blocks ≤ 1048576 → tag_fits s.short_tag k sh.tag ≡ true → Laid u S k sh
unfolding blocks_of
shape_found u s S k h sh es long kinds am eb eh et few fits =
    let F : ℕ = (S - 1) / 16 in
    let t : ℕ = s.interval in
    let tu : t_of u ≡ t = interval_is u s es in
    let a = among_some F t h (omega arith) am in
    let f : full S ≡ F = omega arith in
    let bl : blocks_of u S ≡ F - h =
    ap (λ (x : ℕ). x - cond (eqb (t_of u) 0) 0 (pred x / suc (t_of u))) f ∙ ap (λ (x : ℕ). F - cond (eqb x 0) 0 (pred F / suc x)) tu ∙ ap (λ (x : ℕ). F - x) (sym a.2) in
    let lis : sh.blocks ≡ blocks_of u S = eb ∙ sym bl in
    let his : pred (F - h) / t_of u ≡ h = ap (λ (x : ℕ). pred (F - h) / x) tu ∙ a.1 in
    let hsp : checks u (blocks_of u S) ≡ h = ap (λ (x : ℕ). pred x / t_of u) bl ∙ his in
    let less = a.0 in
    let c = tag_chosen u s k sh.tag es kinds (omega arith) (omega arith) fits in
    let r : ℕ = c.0 in
    let size : S ≡ 16 * tag_spot u (blocks_of u S) + tag_size u r = (let g = c.1.2 in omega arith) in
    let fit : Fitting u S k r = record { some = c.1.0; kind = c.1.1; least = omega arith; most = omega arith; size = size } in
    record {
      possible = (possible u S k).0 (r, fit);
      l_is = lis;
      h_is = eh ∙ sym hsp ∙ ap (checks u) (sym lis);
      some = omega arith;
      most = omega arith;
      size = omega arith;
      tag_some = omega arith;
      tag_most = omega arith;
    }

-- what a message's length and mark give
pub record Given (u : Frame) (s : Settings) (S k : ℕ) : Type 0 where
  pub long : 17 ≤ S
  pub among : checks_among ((S - 1) / 16) s.interval ≡ Some (checks u (blocks_of u S))
  pub blocks_are : (S - 1) / 16 - checks u (blocks_of u S) ≡ blocks_of u S
  pub few : blocks_of u S ≤ 1048576
  pub fits : tag_fits s.short_tag k (S - 16 * ((S - 1) / 16)) ≡ true

pub shape_given : (u : Frame) (s : Settings) (S k : ℕ) → settings_bytes s ≡ u.settings → (m : List ℕ) → MessageOf u S k m → Given u s S k
shape_given u s S k es m hm =
    let x = (possible u S k).1 (m, hm) in
    let r : ℕ = x.0 in
    let f : Fitting u S k r = x.1 in
    let l : ℕ = blocks_of u S in
    let h : ℕ = checks u l in
    let some = f.some in
    let least = f.least in
    let le : r ≤ 16 = ⊎_elim (λ z. let a = z.1 in omega arith) (λ z. let a = z.1 in omega arith) f.kind in
    let z = size_range u r some le in
    let z0 = z.0 in
    let z1 = z.1 in
    let size : S ≡ 16 * (l + h) + tag_size u r = f.size in
    let F : (S - 1) / 16 ≡ l + h = omega arith in
    let tag : S - 16 * ((S - 1) / 16) ≡ tag_size u r = omega arith in
    let tu : t_of u ≡ s.interval = interval_is u s es in
    let hh : h ≡ pred l / s.interval = ap (λ (y : ℕ). pred l / y) tu in
    record {
      long = omega arith;
      among = among_back ((S - 1) / 16) s.interval l least (omega arith) ∙ ap Some (sym hh);
      blocks_are = omega arith;
      few = let q = f.most in omega arith;
      fits = tag_fits_lem u s k (S - 16 * ((S - 1) / 16)) es r (some, f.kind, sym tag);
    }
