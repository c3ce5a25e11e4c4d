use Rattle.std.proofs.Common.{◌≡◌, ℕ, ◌+◌, ◌≤◌, List, ◌++◌, length, take, set, sym, ap, ◌∙◌, arith, rules}
use Rattle.std.proofs.lemmas.List.{take_all, length-take-le}
use Rattle.block.specs.Value.{value}
use Rattle.block.specs.Bytes.{bytes_of}
use Rattle.block.proofs.Bytes.{length_bytes_of}
use Rattle.opening.proofs.Fillings.{cleared, kept_whole}
use Rattle.opening.proofs.last.put_last.Goals as goal

pub returns-then-k-lt16 : goal.returns-then-k-lt16
returns-then-k-lt16 c =
    let at = c.args.at in
    let old = c.args.out.now in
    let new = c.store.new.out in
    let v = bytes_of (value c.args.last) in
    let kept : length new ≡ length old = search rules in
    let room : at + 16 ≤ length old = omega (arith, c.requires.0) in
    let whole : new ≡ take at old ++ v = sym (take_all (at + 16) new (omega (arith, c.requires.0))) ∙ c.store.ensures.front room in
    ap (λ (x : List ℕ). set x (at + c.args.k) 0) whole
    ∙ cleared (take at old) v c.args.k at (length-take-le at old (omega arith)) (length_bytes_of (value c.args.last)) c.if-k-lt16.true c.requires.1.1

pub returns-else-k-lt16 : goal.returns-else-k-lt16
returns-else-k-lt16 c =
    let at = c.args.at in
    let old = c.args.out.now in
    let new = c.store.new.out in
    let v = bytes_of (value c.args.last) in
    let kept : length new ≡ length old = search rules in
    let room : at + 16 ≤ length old = omega (arith, c.requires.0) in
    let whole : new ≡ take at old ++ v = sym (take_all (at + 16) new (omega (arith, c.requires.0))) ∙ c.store.ensures.front room in
    whole ∙ kept_whole (take at old) v c.args.k (length_bytes_of (value c.args.last)) c.if-k-lt16.false c.requires.1.0
