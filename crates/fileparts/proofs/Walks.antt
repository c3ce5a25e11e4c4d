-- A whole walk, part by part.
use Rattle.std.proofs.Common.{◌≡◌, ℕ, zero, suc, pred, ◌+◌, ◌-◌, ◌*◌, ◌/◌, ◌<◌, ◌≤◌, List, [], ◌∷◌, ◌++◌, length, take, drop, Some, None, Option, sym, refl, ap, ◌∙◌, subst, ⊎_elim, arith}
use Rattle.std.specs.Iterator.{Yields}
use Rattle.std.specs.List.{flat_map}
use Rattle.std.proofs.lemmas.List.{drop_all, drop-drop, take-append-drop}
use Rattle.std.proofs.lemmas.Bool.{cases_lt}
use Rattle.elmd.specs.Stream.{Frame, t_of, checks, spot, check_spot, tag_spot}
use Rattle.elmd.specs.Shape.{Laid}
use Rattle.payfile.specs.Layout.{settings_in, mark_in, stream_size}
use Rattle.fileparts.specs.declared.part.Part.{Part}
use Rattle.fileparts.specs.declared.reader.Reader.{Reader}
use Rattle.fileparts.specs.Parts.{Kind, heading_part, tag_part, block_part, check_part, Piece, piece, Layout, spots, parts, kind_in, piece_at, piece_of, kind_of, place_of, bytes_of, layout_of, Taken, Gives}
use Rattle.fileparts.specs.Reads.{Lays}
use Rattle.fileparts.specs.Laws.{blocks_in, stream_place, Cut, cut_of, cut, part_no, Follows, Walk, Walks, Ends}
use Rattle.fileparts.proofs.Laying.{some_frame}
use Rattle.fileparts.proofs.Spots.{block_kind, check_kind, spot_before, check_before, checked_some, check_next}
use Rattle.fileparts.proofs.Pieces.{whole, Stand, step, at_front, at_heading, at_stream, stream_inner, stream_tag}

-- what a step gives, by the file and layout that the walk keeps
pub taken_as : (f : List ℕ) (y : Layout) (n : ℕ) (s t : Reader) (o : Option Part) → s.file.now ≡ f → layout_of s ≡ y → s.given ≡ n → Gives s o t → Taken f (parts y) n (piece_at y n) o
taken_as f y n s t o ef ey en g =
    let a = subst (λ (x : List ℕ). Taken x (parts (layout_of s)) s.given (piece_at (layout_of s) s.given) o) ef g.taken in
    let b = subst (λ (x : Layout). Taken f (parts x) s.given (piece_at x s.given) o) ey a in
    subst (λ (x : ℕ). Taken f (parts y) x (piece_at y x) o) en b

abbrev cut_as : List ℕ → Piece → Cut
cut_as f q = cut f q.kind q.place q.size

-- the parts from n on, the first of which begins at `at`
pub record Run (f : List ℕ) (y : Layout) (n at : ℕ) (ps : List Part) : Type 0 where
  pub many : n + length ps ≡ parts y
  pub each : (i : ℕ) → n + i < parts y → part_no ps i ≡ Some (cut_as f (piece_at y (n + i)))
  pub follows : Follows f at ps
  pub joins : flat_map bytes_of ps ≡ drop at f

one_more : (f : List ℕ) (y : Layout) (n at : ℕ) (p : Part) (ps : List Part) → n < parts y → piece_of p ≡ piece_at y n → (piece_at y n).place ≡ at
    → bytes_of p ≡ take (piece_at y n).size (drop (piece_at y n).place f) → Run f y (n + 1) (at + length (bytes_of p)) ps → Run f y n at (p ∷ ps)
one_more f y n at p ps h e b raw r =
    let k : ℕ = length (bytes_of p) in
    let sz : k ≡ (piece_at y n).size = ap (λ (q : Piece). q.size) e in
    let bs : bytes_of p ≡ take k (drop at f) = raw ∙ ap (λ (x : ℕ). take (piece_at y n).size (drop x f)) b ∙ ap (λ (x : ℕ). take x (drop at f)) (sym sz) in
    let m = r.many in
    let first : n ≡ n + 0 = omega arith in
    let a : kind_of p ≡ (piece_at y n).kind = ap (λ (q : Piece). q.kind) e in
    let d : place_of p ≡ (piece_at y n).place = ap (λ (q : Piece). q.place) e in
    let here : cut_of p ≡ cut_as f (piece_at y n) = cc in
    record {
      many = omega arith;
      each = λ i. elim i as (λ (i : ℕ). n + i < parts y → part_no (p ∷ ps) i ≡ Some (cut_as f (piece_at y (n + i)))) [
        | zero ↦ λ _. ap Some (here ∙ ap (λ (x : ℕ). cut_as f (piece_at y x)) first)
        | suc j ↦ λ lt. (let g : n + 1 + j ≡ n + suc j = omega arith in r.each j (omega arith) ∙ ap (λ (x : ℕ). Some (cut_as f (piece_at y x))) g)
      ];
      follows = (ap (λ (q : Piece). q.place) e ∙ b, bs, r.follows);
      joins = ap (λ (x : List ℕ). bytes_of p ++ x) (r.joins ∙ sym (drop-drop k at f)) ∙ ap (λ (x : List ℕ). x ++ drop k (drop at f)) bs ∙ take-append-drop k (drop at f);
    }

pub run : (f : List ℕ) (y : Layout) → length f ≡ whole y → (ps : List Part) (n at : ℕ) (s t u : Reader) → s.file.now ≡ f → layout_of s ≡ y → s.given ≡ n → n ≤ parts y
    → Stand y (length f) n at → Yields Gives s ps t → Gives t None u → Run f y n at ps
run f y w [] n at s t u ef ey en le st same g =
    let no = taken_as f y n s u None ef ey en (subst (λ (x : Reader). Gives x None u) (sym same) g) in
    let all : parts y ≤ n = ⊎_elim (λ lt. let b = st.begins lt in let z = (step y (length f) n at w lt b).fits in absurd (no lt (omega arith))) (λ x. x) (cases_lt n (parts y)) in
    let e = st.ended all in
    record {
      many = omega arith;
      each = λ i lt. absurd (omega arith);
      follows = tt;
      joins = sym (drop_all at f (omega arith));
    }
run f y w (p ∷ ps) n at s t u ef ey en le st (j, g, rest) none =
    let k = taken_as f y n s j (Some p) ef ey en g in
    let lt = k.0 in
    let isp = k.2 in
    let b = st.begins lt in
    let sz : (piece_at y n).size ≡ length (bytes_of p) = sym (ap (λ (q : Piece). q.size) isp.piece_is) in
    let st' = subst (λ (x : ℕ). Stand y (length f) (n + 1) (at + x)) sz (step y (length f) n at w lt b).stands in
    let c = g.counted in
    one_more f y n at p ps lt isp.piece_is b isp.bytes_are
    (run f y w ps (n + 1) (at + length (bytes_of p)) j t u (g.file_kept ∙ ef) (g.layout_kept ∙ ey) (omega arith) (omega arith) st' rest none)

module _ (file : List ℕ) (y : Layout) (ps : List Part) (u : Frame) (lays : Lays file y) (es : u.settings ≡ settings_in file) (r : Run file y 0 0 ps) where
  laid : Laid u (stream_size file) (mark_in file) y.shape
  laid = lays.stream_is u es

  -- l + h places
  spots_are : spots y ≡ tag_spot u (blocks_in u file)
  spots_are = let b = laid.l_is in let c : y.shape.checks ≡ pred (blocks_in u file) / t_of u = laid.h_is ∙ ap (checks u) b in omega arith

  tag_is : y.shape.tag ≡ stream_size file - 16 * tag_spot u (blocks_in u file)
  tag_is = let s = laid.size in let n = spots_are in omega arith

  part_is : (n : ℕ) → n < parts y → part_no ps n ≡ Some (cut_as file (piece_at y n))
  part_is n h = let z : 0 + n ≡ n = omega arith in r.each n (omega arith) ∙ ap (λ (x : ℕ). Some (cut_as file (piece_at y x))) z

  place_is : (e : ℕ) → 26 + y.heading + 16 * e ≡ stream_place file e
  place_is e = ap (λ (x : ℕ). 26 + x + 16 * e) lays.heading_is

  inner_is : (e : ℕ) (k : Kind) → e < tag_spot u (blocks_in u file) → kind_in (t_of u) e ≡ k → part_no ps (2 + e) ≡ Some (cut file k (stream_place file e) 16)
  inner_is e k h ke =
      let n = spots_are in
      let kind : kind_in y.interval e ≡ k = ap (λ (x : ℕ). kind_in x e) (sym (lays.interval_is u es)) ∙ ke in
      part_is (2 + e) (omega arith)
      ∙ ap (λ (q : Piece). Some (cut_as file q)) (at_stream y (2 + e) e refl ∙ stream_inner y e (omega arith) ∙ ap (λ (x : Kind). piece x (26 + y.heading + 16 * e) 16) kind ∙ ap (λ (x : ℕ). piece k x 16) (place_is e))

  end_is : part_no ps (2 + tag_spot u (blocks_in u file)) ≡ Some (cut file tag_part (stream_place file (tag_spot u (blocks_in u file))) (stream_size file - 16 * tag_spot u (blocks_in u file)))
  end_is =
      let e : ℕ = tag_spot u (blocks_in u file) in
      let n = spots_are in
      part_is (2 + e) (omega arith)
      ∙ ap (λ (q : Piece). Some (cut_as file q)) (at_stream y (2 + e) e refl ∙ stream_tag y e (omega arith) ∙ ap (λ (x : ℕ). piece tag_part x y.shape.tag) (place_is e) ∙ ap (λ (x : ℕ). piece tag_part (stream_place file e) x) tag_is)

  walked : Walk u file ps
  walked = record {
    count = let m = r.many in let n = spots_are in omega arith;
    front_at = part_is 0 (omega arith) ∙ ap (λ (q : Piece). Some (cut_as file q)) (at_front y 0 refl);
    heading_at = part_is 1 (omega arith) ∙ ap (λ (q : Piece). Some (cut_as file q)) (at_heading y 1 refl ∙ ap (λ (x : ℕ). piece heading_part 26 x) lays.heading_is);
    blocks_at = λ i a b. (let k : suc (pred i) ≡ i = omega arith in inner_is (spot u i) (block_part i) (spot_before u (blocks_in u file) i a b) (block_kind (t_of u) (pred i) ∙ ap block_part k));
    checks_at = λ j a b. inner_is (check_spot u j) (check_part j) (check_before u (blocks_in u file) j a b) (check_kind (t_of u) j (checked_some u (blocks_in u file) j a b) a);
    check_behind = check_next u (blocks_in u file);
    tag_at = end_is;
    follows = r.follows;
    joined_are = r.joins;
  }

-- the parts of a file that is laid out take all of it
pub size_is : (file : List ℕ) (y : Layout) → Lays file y → length file ≡ whole y
size_is file y lays =
    let a = lays.size in
    let b = lays.heading_is in
    let c = (lays.stream_is (some_frame (settings_in file)) refl).size in
    omega arith

pub at_start : (y : Layout) (N n : ℕ) → n ≡ 0 → Stand y N n 0
at_start y N n e = record { begins = λ _. ap (λ (q : Piece). q.place) (at_front y n e); ended = λ x. absurd (omega arith) }

pub walks : Walks
walks file r start u es ps (v, (t, ys, none)) =
    let y : Layout = layout_of r in
    let w = size_is file y start.laid in
    walked file y ps u start.laid es (run file y w ps 0 0 r t v start.file_is refl start.none_given (omega arith) (at_start y (length file) 0 refl) ys none)

-- after none the reader stands where it stood
pub ends : Ends
ends r s t None g h = refl
ends r s t (Some p) g h =
    let a = taken_as r.file.now (layout_of r) r.given s t (Some p) g.file_kept g.layout_kept (let c = g.counted in omega arith) h in
    absurd (g.taken a.0 a.1)
