use Rattle.std.proofs.Common.{◌≡◌, ℕ, suc, ◌+◌, ◌*◌, ◌/◌, ◌≤◌, List, ◌++◌, length, take, drop, sym, refl, ap, ◌∙◌, add-one, arith, take-append-drop}
use Rattle.std.proofs.lemmas.List.{drop-drop}
use Rattle.block.specs.Value.{value}
use Rattle.block.specs.Bytes.{bytes_of}
use Rattle.cipher.specs.Meaning.{Meaning}
use Rattle.elmd.specs.Opening.{block_in}
use Rattle.exports.specs.Exports.{turned, each_block}
use Rattle.exports.proofs.Loaded.{loaded_in}
use Rattle.exports.proofs.turn_all.Goals as goal

pub loop-i-preserved : goal.loop-i-preserved
loop-i-preserved g c =
    let m = g.C.Cipher.meaning c.args.c.now in
    let inv = c.loop-i.invariant in
    let i = c.loop-i.i in
    let old = c.args.bytes.now in
    let mid = c.loop-i.bytes in
    let new = c.store.new.out in
    let kept : length mid ≡ length old = c.loop-i.auto.bytes in
    let room : 16 * i + 16 ≤ length mid = omega arith in
    let far : 16 * suc i ≡ 16 * i + 16 = omega arith in
    let from : value c.load.result ≡ block_in old i = loaded_in old mid i (16 * i) (value c.load.result) refl inv.2 (omega arith) c.load.ensures in
    let f : ℕ → ℕ = turned m c.args.forth in
    let made : value c.turn-b.result ≡ f (block_in old i) = c.turn-b.ensures.value ∙ ap (λ (z : Meaning). turned z c.args.forth (value c.load.result)) inv.0 ∙ ap f from in
    let front : take (16 * suc i) new ≡ each_block f old i ++ bytes_of (f (block_in old i)) =
    ap (λ (n : ℕ). take n new) far ∙ c.store.ensures.front room ∙ ap (λ (z : List ℕ). z ++ bytes_of (value c.turn-b.result)) inv.1 ∙ ap (λ (z : ℕ). each_block f old i ++ bytes_of z) made in
    let back : drop (16 * suc i) new ≡ drop (16 * suc i) old =
    ap (λ (n : ℕ). drop n new) far ∙ c.store.ensures.back room ∙ sym (drop-drop 16 (16 * i) mid) ∙ ap (drop 16) inv.2 ∙ drop-drop 16 (16 * i) old ∙ ap (λ (n : ℕ). drop n old) (sym far) in
    rw (add-one i) (c.turn-b.ensures.same ∙ inv.0, front, back)

pub returns : goal.returns
returns g c =
    let inv = c.loop-i.invariant in
    let n : c.loop-i.i ≡ length c.args.bytes.now / 16 = omega arith in
    let f : ℕ → ℕ = turned (g.C.Cipher.meaning c.args.c.now) c.args.forth in
    let old = c.args.bytes.now in
    let i = c.loop-i.i in
    record {
      after = sym (take-append-drop (16 * i) c.loop-i.bytes) ∙ ap (λ (z : List ℕ). z ++ drop (16 * i) c.loop-i.bytes) inv.1 ∙ ap (λ (z : List ℕ). each_block f old i ++ z) inv.2
          ∙ ap (λ (k : ℕ). each_block f old k ++ drop (16 * k) old) n;
      same = inv.0;
    }
