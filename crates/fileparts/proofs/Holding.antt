-- The parts of a file whose stream is that of a message.
use Rattle.std.proofs.Common.{◌≡◌, ℕ, ◌+◌, ◌-◌, ◌*◌, ◌≤◌, List, length, take, drop, Some, sym, ap, ◌∙◌, subst, arith, length-drop}
use Rattle.std.proofs.lemmas.List.{drop-drop, take_all}
use Rattle.block.specs.Bytes.{of_bytes}
use Rattle.elmd.specs.Stream.{Frame, blocks, checks, spot, check_spot, tag_spot, stream}
use Rattle.elmd.specs.Opening.{blocks_of, block_in}
use Rattle.elmd.specs.Laws.{Layout}
use Rattle.elmd.proofs.Lengths.{lengths}
use Rattle.elmd.proofs.Finish.{laid_out}
use Rattle.payfile.specs.Layout.{heading_size, stream_size, stream_in}
use Rattle.fileparts.specs.declared.part.Part.{Part}
use Rattle.fileparts.specs.Parts.{Kind, tag_part}
use Rattle.fileparts.specs.Laws.{blocks_in, stream_place, Cut, cut, part_no, Walk, Contents}
use Rattle.fileparts.proofs.Walks.{walks}

some_is : {c d : Cut} → Some c ≡ Some d → c ≡ d
some_is e = cc

module _ (u : Frame) (file m : List ℕ) (e : stream_in file ≡ stream u m) where
  -- what stands at a place of the file's stream
  behind : (n : ℕ) → drop (stream_place file n) file ≡ drop (16 * n) (stream u m)
  behind n = sym (drop-drop (16 * n) (26 + heading_size file) file) ∙ ap (drop (16 * n)) e

  in_stream : (n : ℕ) → of_bytes (take 16 (drop (stream_place file n) file)) ≡ block_in (stream u m) n
  unfolding block_in
  in_stream n = ap (λ (x : List ℕ). of_bytes (take 16 x)) (behind n)

  block_is : (ps : List Part) (n i : ℕ) (k : Kind) (c : Cut) → part_no ps n ≡ Some (cut file k (stream_place file i) 16) → part_no ps n ≡ Some c → of_bytes c.bytes ≡ block_in (stream u m) i
  block_is ps n i k c w h = ap (λ (x : Cut). of_bytes x.bytes) (some_is (sym h ∙ w)) ∙ in_stream i

  module _ (size : length file ≡ 26 + heading_size file + stream_size file) (some : 1 ≤ length m) where
    stream_size_lem : stream_size file ≡ length (stream u m)
    stream_size_lem = let a = length-drop (26 + heading_size file) file in let b = ap length e in omega arith

    l_is : blocks_in u file ≡ blocks m
    l_is = ap (blocks_of u) stream_size_lem ∙ (lengths u m some).back

pub contents : Contents
contents file r start u es sound m bytes some e ps run =
    let w : Walk u file ps = walks file r start u es ps run in
    let lay : Layout u m = laid_out u sound m bytes some in
    let sz = start.laid.size in
    let l : blocks_in u file ≡ blocks m = l_is u file m e sz some in
    record {
      blocks_hold = λ i a b c h. block_is u file m e ps (2 + spot u i) (spot u i) _ c (w.blocks_at i a (omega arith)) h ∙ lay.blocks_at i a b;
      checks_hold = λ j a b c h. block_is u file m e ps (2 + check_spot u j) (check_spot u j) _ c (w.checks_at j a (subst (λ (x : ℕ). j ≤ checks u x) (sym l) b)) h ∙ lay.checks_at j a b;
      tag_holds = λ c h.
          let t : ℕ = tag_spot u (blocks m) in
          let at : part_no ps (2 + t) ≡ Some (cut file tag_part (stream_place file t) (stream_size file - 16 * t)) =
          subst (λ (x : ℕ). part_no ps (2 + tag_spot u x) ≡ Some (cut file tag_part (stream_place file (tag_spot u x)) (stream_size file - 16 * tag_spot u x))) l w.tag_at in
          let d = length-drop (16 * t) (stream u m) in
          let g = stream_size_lem u file m e sz some in
          ap (λ (x : Cut). x.bytes) (some_is (sym h ∙ at)) ∙ ap (take (stream_size file - 16 * t)) (behind u file m e t) ∙ take_all (stream_size file - 16 * t) (drop (16 * t) (stream u m)) (omega arith) ∙ lay.tag_at;
    }
