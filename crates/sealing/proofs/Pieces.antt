-- A piece, part by part.
use Rattle.std.proofs.Common.{◌≡◌, ℕ, ◌+◌, ◌-◌, ◌*◌, ◌%◌, ◌<◌, ◌≤◌, List, [], ◌++◌, length, sym, refl, ap, ◌∙◌, subst, append_assoc, append-nil, arith, add-zero, length-append}
use Rattle.std.proofs.lemmas.List.{nil_from_length}
use Rattle.cipher.specs.Meaning.{Meaning}
use Rattle.elmd.specs.declared.settings.Settings.{Settings}
use Rattle.sealing.specs.declared.begun.Sealer.{Sealer}
use Rattle.sealing.specs.Handing.{sealed_blocks, handed_over}
use Rattle.sealing.specs.Sealer.{Sealing, Carried, Grows, front, handed, gained}
use Rattle.sealing.proofs.Parts.{handed_le}

-- of a piece all but the rest is in, and so many bytes are written
pub record Taken (m : Meaning) (first s : Sealer) (piece rest : List ℕ) (at : ℕ) (written : List ℕ) : Type 0 where
  pub done : List ℕ
  pub joined : done ++ rest ≡ piece
  pub carried : Carried first s (length done)
  pub place : at ≡ gained first (length done)
  pub grows : Grows m first done s written

pub taken_none : (m : Meaning) (s : Sealer) (piece : List ℕ) → Taken m s s piece piece 0 []
taken_none m s piece =
    let k : s.k + 0 ≡ s.k = add-zero s.k in
    let same : handed s (s.k + 0) ≡ handed s s.k = ap (handed s) k in
    record {
      done = [];
      joined = refl;
      carried = record { n_kept = refl; settings_kept = refl; counted = sym k };
      place = omega arith;
      grows = λ u acc ec o. (subst (λ (z : List ℕ). Sealing u z s) (sym (append-nil acc)) o, ap (λ (z : List ℕ). front u z s) (append-nil acc) ∙ sym (append-nil (front u acc s)));
    }

module _ (m : Meaning) (first s : Sealer) (piece rest part rest' : List ℕ) (at : ℕ) (written : List ℕ) (t : Taken m first s piece rest at written) (e : rest ≡ part ++ rest') where
  gained_next : gained s (length part) ≡ handed first (first.k + length (t.done ++ part)) - handed first (first.k + length t.done)
  gained_next =
      let car = t.carried in
      let k = car.counted in
      let far : s.k + length part ≡ first.k + length (t.done ++ part) = simp length-append (omega arith) in
      let at_settings : (j j' : ℕ) → j ≡ j' → handed s j ≡ handed first j' = λ j j' ej. ap (λ (x : Settings). handed_over x.interval s.n j) car.settings_kept ∙ ap (λ (n : ℕ). handed_over first.settings.interval n j) car.n_kept ∙ ap (handed first) ej in
      ap (λ (i : ℕ). i - handed s s.k) (at_settings (s.k + length part) (first.k + length (t.done ++ part)) far)
      ∙ ap (λ (i : ℕ). handed first (first.k + length (t.done ++ part)) - i) (at_settings s.k (first.k + length t.done) k)

  place_next : at + gained s (length part) ≡ gained first (length (t.done ++ part))
  place_next =
      let g = gained_next in
      let p = t.place in
      let l : length (t.done ++ part) ≡ length t.done + length part = length-append t.done part in
      let low = handed_le first.settings.interval first.n first.k (first.k + length t.done) (omega arith) in
      let high = handed_le first.settings.interval first.n (first.k + length t.done) (first.k + length (t.done ++ part)) (omega arith) in
      omega arith

  -- there is room for what comes
  pub room_next : (room : ℕ) → gained first (length piece) ≤ room → at + gained s (length part) ≤ room
  room_next room h =
      let p = place_next in
      let l : length piece ≡ length t.done + length rest = sym (ap length t.joined) ∙ length-append t.done rest in
      let r : length rest ≡ length part + length rest' = ap length e ∙ length-append part rest' in
      let d : length (t.done ++ part) ≡ length t.done + length part = length-append t.done part in
      let more = handed_le first.settings.interval first.n (first.k + length (t.done ++ part)) (first.k + length piece) (omega arith) in
      omega arith

  -- the next part
  pub taken_more : (m' : Meaning) (s' : Sealer) (size : ℕ) (new : List ℕ) → m' ≡ m → Carried s s' (length part) → size ≡ gained s (length part) → Grows m' s part s' new → Taken m first s' piece rest' (at + size) (written ++ new)
  taken_more m' s' size new em car es grows =
      let before = t.carried in
      let k1 = before.counted in
      let k2 = car.counted in
      record {
        done = t.done ++ part;
        joined = append_assoc t.done part rest' ∙ ap (λ (z : List ℕ). t.done ++ z) (sym e) ∙ t.joined;
        carried = record { n_kept = car.n_kept ∙ before.n_kept; settings_kept = car.settings_kept ∙ before.settings_kept; counted = simp length-append (omega arith) };
        place = ap (λ (i : ℕ). at + i) es ∙ place_next;
        grows = λ u acc ec o.
            let one = t.grows u acc ec o in
            let two = grows u (acc ++ t.done) (ec ∙ sym em) one.0 in
            let j : (acc ++ t.done) ++ part ≡ acc ++ (t.done ++ part) = append_assoc acc t.done part in (
              subst (λ (z : List ℕ). Sealing u z s') j two.0,
              ap (λ (z : List ℕ). front u z s') (sym j) ∙ two.1 ∙ ap (λ (z : List ℕ). z ++ new) one.1 ∙ append_assoc (front u acc first) written new,
            );
      }

pub taken_all : (m : Meaning) (first s : Sealer) (piece rest : List ℕ) (at : ℕ) (written : List ℕ) (t : Taken m first s piece rest at written) → length rest ≡ 0 → t.done ≡ piece
taken_all m first s piece rest at written t z = sym (append-nil t.done) ∙ ap (λ (r : List ℕ). t.done ++ r) (sym (nil_from_length rest z)) ∙ t.joined

-- after whole blocks, and before the last of the bytes, none is held
pub held_none : (n k : ℕ) → k < n → k % 16 ≡ 0 → k - 16 * sealed_blocks n k ≡ 0
held_none n k h e = omega arith
