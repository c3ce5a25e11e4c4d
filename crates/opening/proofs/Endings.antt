-- The end of a stream against its definition.
use Rattle.std.proofs.Common.{◌≡◌, ℕ, suc, ◌+◌, ◌*◌, ◌/◌, ◌≤◌, cond, List, length, take, drop, sym, ap, ◌∙◌, subst, arith, length-drop}
use Rattle.std.proofs.lemmas.List.{drop-drop}
use Rattle.block.specs.Bytes.{bytes_of, of_bytes, padded}
use Rattle.block.specs.Value.{value}
use Rattle.cipher.specs.Meaning.{Meaning}
use Rattle.elmd.specs.declared.refusal.Mark.{Mark}
use Rattle.elmd.specs.Refusals.{mark_number}
use Rattle.elmd.specs.Settings.{settings_bytes}
use Rattle.elmd.specs.Stream.{Frame, t_of, tag_spot, tag_size}
use Rattle.elmd.specs.Opening.{last_r, tag_r}
use Rattle.elmd.proofs.Counts.{tag_size_is}
use Rattle.opening.specs.declared.state.Outline.{Outline}
use Rattle.opening.specs.declared.state.Reading.{Reading}
use Rattle.opening.specs.Last.{Ending}
use Rattle.opening.specs.Reading.{Reads, last_pair}
use Rattle.opening.proofs.Readings.{loaded, last_is}
use Rattle.opening.specs.Judging.{EndRight}

-- what is given back of the last block and the tag
pub last_two : (u : Frame) (s : List ℕ) (p : ℕ) (r : Reading) (m : Meaning) (k : Mark) (bytes : List ℕ) (b v w : ℕ) → Reads u s p r → u.cipher ≡ m → bytes ≡ drop (16 * (p + p / t_of u)) s → 16 ≤ length bytes
    → b ≡ of_bytes (padded (take 16 (drop 0 bytes))) → (v, w) ≡ last_pair m k (value r.w) (value r.mask) (value r.out_mask) (value r.sum) b
    → (v ≡ last_r u s (suc p) (mark_number k)) × (w ≡ tag_r u s (suc p) (mark_number k))
last_two u s p r m k bytes b v w ok ec there room eb ev =
    let e = last_is u s p r ok k b (loaded bytes s (p + p / t_of u) 0 b (ap (take 16) there) (omega arith) eb) in
    let both : (v, w) ≡ (last_r u s (suc p) (mark_number k), tag_r u s (suc p) (mark_number k)) = cc in
    (ap (λ (q : ℕ × ℕ). q.0) both, ap (λ (q : ℕ × ℕ). q.1) both)

module _ (u : Frame) (s : List ℕ) (o : Outline) (p v w : ℕ) (r : Reading) (es : settings_bytes o.settings ≡ u.settings) (ok : Reads u s p r)
    (ev : v ≡ last_r u s (suc p) (mark_number o.mark)) (ew : w ≡ tag_r u s (suc p) (mark_number o.mark))
    (bytes : List ℕ) (size : length bytes ≡ 16 + o.shape.tag) (there : bytes ≡ drop (16 * (p + p / t_of u)) s) where
  abbrev k : ℕ
  k = mark_number o.mark

  -- the tag stands last in both
  spot_is : 16 * (p + p / t_of u) + 16 ≡ 16 * tag_spot u (suc p)
  spot_is = omega arith

  behind : drop 16 bytes ≡ drop (16 * tag_spot u (suc p)) s
  behind = ap (drop 16) there ∙ drop-drop 16 (16 * (p + p / t_of u)) s ∙ ap (λ (n : ℕ). drop n s) spot_is

  whole_size : length s ≡ 16 * tag_spot u (suc p) + o.shape.tag
  whole_size =
      let a : length bytes ≡ length (drop (16 * (p + p / t_of u)) s) = ap length there in
      let d = length-drop (16 * (p + p / t_of u)) s in
      let e = spot_is in
      omega arith

  rest : length (drop 16 bytes) ≡ o.shape.tag
  rest = simp length-drop (omega arith)

  tag_is : (q : ℕ) → cond o.settings.short_tag q 16 ≡ o.shape.tag → tag_size u q ≡ o.shape.tag
  tag_is q e = tag_size_is u o.settings q es ∙ e

  pub end_right : (q : ℕ) → Ending (bytes_of v) k o.settings.short_tag o.shape.tag q → take (length (drop 16 bytes)) (bytes_of w) ≡ drop 16 bytes → EndRight u s k (suc p) q
  end_right q e t =
      let z : tag_size u q ≡ o.shape.tag = tag_is q e.tagged in
      record {
        some = e.some;
        whole = e.whole;
        short = e.few;
        filled = subst (λ (x : ℕ). padded (take q (bytes_of x)) ≡ bytes_of x) ev e.filled;
        sized = whole_size ∙ ap (λ (n : ℕ). 16 * tag_spot u (suc p) + n) (sym z);
        tagged = ap (λ (n : ℕ). take n (bytes_of (tag_r u s (suc p) k))) (z ∙ sym rest) ∙ ap (λ (x : ℕ). take (length (drop 16 bytes)) (bytes_of x)) (sym ew) ∙ t ∙ behind;
      }

  pub end_back : (q : ℕ) → EndRight u s k (suc p) q → Ending (bytes_of v) k o.settings.short_tag o.shape.tag q × (take (length (drop 16 bytes)) (bytes_of w) ≡ drop 16 bytes)
  end_back q e =
      let b = whole_size in
      let g = e.sized in
      let z : tag_size u q ≡ o.shape.tag = omega arith in (
        record {
          some = e.some;
          whole = e.whole;
          few = e.short;
          filled = subst (λ (x : ℕ). padded (take q (bytes_of x)) ≡ bytes_of x) (sym ev) e.filled;
          tagged = sym (tag_size_is u o.settings q es) ∙ z;
        },
        ap (λ (n : ℕ). take n (bytes_of w)) (rest ∙ sym z) ∙ ap (λ (x : ℕ). take (tag_size u q) (bytes_of x)) ew ∙ e.tagged ∙ sym behind,
      )
