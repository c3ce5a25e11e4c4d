-- The layout of a file from its front, its settings and the shape of its stream.
use Rattle.std.proofs.Common.{◌≡◌, ℕ, ◌+◌, ◌*◌, List, [], length, get_or, Ok, Result, sym, refl, ap, ◌∙◌, subst, arith}
use Rattle.cipher.specs.Meaning.{paper}
use Rattle.elmd.specs.declared.refusal.Refusal.{Refusal}
use Rattle.elmd.specs.declared.settings.Settings.{Settings}
use Rattle.elmd.specs.declared.shape.Shape.{Shape}
use Rattle.elmd.specs.Settings.{settings_bytes, settings_answer}
use Rattle.elmd.specs.Refusals.{mark_number}
use Rattle.elmd.specs.Heading.{frame_of}
use Rattle.elmd.specs.Stream.{Frame}
use Rattle.elmd.specs.Shape.{Laid}
use Rattle.elmd.proofs.Counts.{interval_is}
use Rattle.payfile.specs.declared.refusal.FileRefusal.{FileRefusal}
use Rattle.payfile.specs.declared.front.Front.{Front}
use Rattle.payfile.specs.Refusals.{after, of_seal}
use Rattle.payfile.specs.Layout.{Fronts, front_answer, settings_in, stream_size}
use Rattle.fileparts.specs.Parts.{Layout}
use Rattle.fileparts.specs.Reads.{early_answer, Possible, Lays}

pub early_ok : (file s : List ℕ) → Ok tt ≡ front_answer file → s ≡ settings_in file → Ok tt ≡ settings_answer (get_or s 0 0) s → early_answer file ≡ Ok tt
early_ok file s front e own =
    let a : Result Unit FileRefusal → Result Unit FileRefusal = λ r. after r (of_seal (settings_answer (get_or (settings_in file) 0 0) (settings_in file))) in
    ap a (sym front) ∙ ap (λ (b : List ℕ). of_seal (settings_answer (get_or b 0 0) b)) (sym e) ∙ ap (λ (r : Result Unit Refusal). of_seal r) (sym own)

-- a frame of these settings, whichever
abbrev pub some_frame : List ℕ → Frame
some_frame s = frame_of (paper 0) s [] []

module _ (file : List ℕ) (f : Front) (s : Settings) (h : Shape) (fronts : Fronts file f) (bytes : settings_bytes s ≡ f.settings)
    (shaped : (u : Frame) → settings_bytes s ≡ u.settings → Laid u f.stream (mark_number f.mark) h) where
  -- no byte stands beside the parts
  pub adds : length file ≡ 26 + f.heading + 16 * (h.blocks + h.checks) + h.tag
  adds =
      let l = (shaped (some_frame (settings_bytes s)) refl).size in
      let n = fronts.size in
      omega arith

  pub lays : Lays file (record { interval = s.interval; heading = f.heading; shape = h })
  lays = record {
    size = let n = fronts.size in let a = fronts.heading_is in let b = fronts.stream_is in omega arith;
    heading_is = fronts.heading_is;
    interval_is = λ u e. interval_is u s (bytes ∙ fronts.settings_is ∙ sym e);
    stream_is = λ u e.
        let l : Laid u f.stream (mark_number f.mark) h = shaped u (bytes ∙ fronts.settings_is ∙ sym e) in
        let a = subst (λ (S : ℕ). Laid u S (mark_number f.mark) h) fronts.stream_is l in
        subst (λ (k : ℕ). Laid u (stream_size file) k h) fronts.mark_is a;
  }

pub possible : (file : List ℕ) (y : Layout) → Lays file y → Possible file
possible file y laid = let l = (laid.stream_is (some_frame (settings_in file)) refl).possible in (some_frame (settings_in file), refl, l.0, l.1)
