use Rattle.std.proofs.Common.{◌≡◌, ◌+◌, [], ◌∷◌, ◌++◌, length, take, min, sym, refl, ap, ◌∙◌, arith, length-append}
use Rattle.std.specs.Iterator.Adapters.{zip_first, zip_second}
use Rattle.std.specs.Slice.Iter.{iter_rest}
use Rattle.std.proofs.lemmas.Slice.Zip.{zip_turn, zip_end}
use Rattle.std.proofs.lemmas.List.{take_all}
use Rattle.std.proofs.lemmas.Bool.{eqb-true, eq-eqb}
use Rattle.block.specs.Value.{value}
use Rattle.block.specs.Bytes.{bytes_of}
use Rattle.block.proofs.Bytes.{length_bytes_of}
use Rattle.opening.proofs.Tags.{differ_more}
use Rattle.opening.proofs.last.tag_matches.Goals as goal

pub loop-a-preserved : goal.loop-a-preserved
loop-a-preserved c =
    let it = c.into_iter-a-iterator.result in
    let a = iter_rest (zip_first it) in
    let b = iter_rest (zip_second it) in
    let xs = c.loop-a.yielded in
    let inv = c.loop-a.invariant in
    let turn = zip_turn a b xs it c.loop-a.a-iterator c.next.new.self c.next.result refl refl c.loop-a.yielded_by (c.in-Some.a, c.in-Some.b) c.in-Some.is c.next.ensures.steps in
    let m = differ_more a b (length xs) c.loop-a.diff turn.0 turn.1 inv.alike inv.none in
    let n : length (xs ++ (c.in-Some.a, c.in-Some.b) ∷ []) ≡ length xs + 1 = length-append xs ((c.in-Some.a, c.in-Some.b) ∷ []) in
    rw (n, turn.2 0, turn.3 0) (record { alike = m.0; none = m.1 })

pub returns : goal.returns
returns c =
    let it = c.into_iter-a-iterator.result in
    let xs = c.loop-a.yielded in
    let n = zip_end (iter_rest (zip_first it)) (iter_rest (zip_second it)) xs it c.loop-a.a-iterator c.next.new.self c.next.result refl refl c.loop-a.yielded_by c.in-None.is c.next.ensures.steps in
    let g = c.into_iter-a-iterator.ensures.into_iter_gives in
    let v = bytes_of (value c.args.tag) in
    let end = c.args.end.now in
    let ea : iter_rest (zip_first it) ≡ v = ap (λ z. iter_rest (zip_first z)) g ∙ ap iter_rest c.zip-a-items.ensures.first ∙ c.iter.ensures.rest ∙ c.to_bytes-bytes.ensures in
    let second : iter_rest (zip_second c.zip-a-items.result) ≡ end = c.zip-a-items.ensures.second.0 in
    let eb : iter_rest (zip_second it) ≡ end = ap (λ z. iter_rest (zip_second z)) g ∙ second in
    let size : length v ≡ 16 = length_bytes_of (value c.args.tag) in
    let len : length xs ≡ length end = n ∙ ap (λ z. min (length z) (length (iter_rest (zip_second it)))) ea ∙ ap (λ z. min (length v) (length z)) eb ∙ omega (arith, c.requires) in
    let inv = rw (ea, eb, len) at c.loop-a.invariant in
    let all : take (length end) end ≡ end = take_all (length end) end (omega arith) in
    (λ t. inv.alike (eqb-true c.loop-a.diff 0 t) ∙ all, λ t. eq-eqb c.loop-a.diff 0 (inv.none (t ∙ sym all)))
