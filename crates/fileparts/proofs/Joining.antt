-- One more part of a file behind what was copied of it.
use Rattle.std.proofs.Common.{◌≡◌, ℕ, ◌+◌, ◌≤◌, List, ◌++◌, length, take, drop, Some, sym, refl, ap, ◌∙◌, subst, arith, take-add}
use borrow.Rule.Slice.PartMut.{put_mid}
use Rattle.std.proofs.lemmas.List.{drop-drop}
use Rattle.std.proofs.lemmas.Slice.{take-put_mid, drop-put_mid}
use Rattle.fileparts.specs.declared.part.Part.{Part}
use Rattle.fileparts.specs.declared.reader.Reader.{Reader}
use Rattle.fileparts.specs.Parts.{Layout, Piece, parts, piece_at, bytes_of, place_of, layout_of, Gives}
use Rattle.fileparts.specs.Reads.{Starts}
use Rattle.fileparts.proofs.Pieces.{whole, Stand, step}
use Rattle.fileparts.proofs.Walks.{taken_as, size_is, at_start}

-- what stands in the output
pub record Copied (file out₀ : List ℕ) (at : ℕ) (out : List ℕ) : Type 0 where
  pub front : take at out ≡ take at file
  pub rest : drop at out ≡ drop at out₀

-- the walk keeps file and layout, and stands behind `at` bytes
pub record Walking (file : List ℕ) (y : Layout) (r : Reader) (at : ℕ) : Type 0 where
  pub size : length file ≡ whole y
  pub file_is : r.file.now ≡ file
  pub layout_is : layout_of r ≡ y
  pub most : r.given ≤ parts y
  pub stands : Stand y (length file) r.given at
  pub within : at ≤ length file

pub begins : (r : Reader) → Starts r.file.now r → Walking r.file.now (layout_of r) r 0
begins r start = record {
  size = size_is r.file.now (layout_of r) start.laid;
  file_is = refl;
  layout_is = refl;
  most = let z = start.none_given in omega arith;
  stands = at_start (layout_of r) (length r.file.now) r.given start.none_given;
  within = omega arith;
}

-- a part that came, and where the walk stands then
pub record Came (file : List ℕ) (y : Layout) (at place : ℕ) (b : List ℕ) (r : Reader) : Type 0 where
  pub place_is : place ≡ at
  pub bytes_are : b ≡ take (length b) (drop at file)
  pub walks : Walking file y r (at + length b)

pub comes : (file : List ℕ) (y : Layout) (at : ℕ) (s t : Reader) (p : Part) (place : ℕ) (b : List ℕ) → place ≡ place_of p → b ≡ bytes_of p → Walking file y s at → Gives s (Some p) t → Came file y at place b t
comes file y at s t p place bytes ep eb w g =
    let k = taken_as file y s.given s t (Some p) w.file_is w.layout_is refl g in
    let b = w.stands.begins k.0 in
    let st = step y (length file) s.given at w.size k.0 b in
    let sz : length (bytes_of p) ≡ (piece_at y s.given).size = ap (λ (q : Piece). q.size) k.2.piece_is in
    let c : t.given ≡ s.given + 1 = g.counted in
    let f = st.fits in
    subst (λ (x : List ℕ). Came file y at place x t) (sym eb) (record {
      place_is = ep ∙ ap (λ (q : Piece). q.place) k.2.piece_is ∙ b;
      bytes_are = k.2.bytes_are ∙ ap (λ (x : ℕ). take (piece_at y s.given).size (drop x file)) b ∙ ap (λ (x : ℕ). take x (drop at file)) (sym sz);
      walks = record {
        size = w.size;
        file_is = g.file_kept ∙ w.file_is;
        layout_is = g.layout_kept ∙ w.layout_is;
        most = let lt = k.0 in omega arith;
        stands = subst (λ (n : ℕ). Stand y (length file) n (at + length (bytes_of p))) (sym c) (subst (λ (x : ℕ). Stand y (length file) (s.given + 1) (at + x)) (sym sz) st.stands);
        within = omega arith;
      };
    })

pub copy_more : (file out₀ out b : List ℕ) (at k : ℕ) → k ≡ length b → at + length b ≤ length out → b ≡ take (length b) (drop at file) → Copied file out₀ at out → Copied file out₀ (at + length b) (put_mid at k out b)
copy_more file out₀ out b at k e h bs c = record {
  front = take-put_mid at k out b (at + length b) refl (omega arith) ∙ ap (λ (x : List ℕ). x ++ b) c.front ∙ ap (λ (x : List ℕ). take at file ++ x) bs ∙ sym (take-add at (length b) file);
  rest = drop-put_mid at k out b (at + length b) (omega arith) (omega arith) (sym e) ∙ sym (drop-drop (length b) at out) ∙ ap (drop (length b)) c.rest ∙ drop-drop (length b) at out₀;
}
