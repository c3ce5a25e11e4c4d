use Rattle.std.proofs.Common.{◌≡◌, ℕ, suc, ◌+◌, ◌-◌, ◌≤◌, List, ◌++◌, length, take, drop, sym, ap, ◌∙◌, arith, rules}
use Rattle.std.proofs.lemmas.List.{drop-drop}
use Rattle.std.proofs.lemmas.Slice.{take-put_mid, drop-put_mid}
use Rattle.block.specs.Value.{value}
use Rattle.block.specs.Bytes.{bytes_of}
use Rattle.elmd.specs.Stream.{block_at, sum_to, mark, w_at}
use Rattle.elmd.specs.Laws.{inner_x, last_c, last_tag}
use Rattle.sealing.proofs.Ends.{ends_are}
use Rattle.sealing.proofs.state.Running.write_end.Goals as goal

pub returns-clause-back : goal.returns-clause-back
returns-clause-back g c =
    let size = c.args.size in
    let old = c.args.out.now in
    let mid = c.store.new.out in
    let back : drop (16 + size) mid ≡ drop (16 + size) old = sym (drop-drop size 16 mid) ∙ ap (drop size) (c.store.ensures.back (omega (arith, c.requires.room))) ∙ drop-drop size 16 old in
    let kept : length mid ≡ length old = search rules in
    let len : length c.copy_from_slice.new.self ≡ 16 + size - 16 = search rules in
    drop-put_mid 16 (16 + size - 16) mid c.copy_from_slice.new.self (16 + size) (omega arith) (omega (arith, c.requires.room)) len ∙ back

pub returns-clause-ends : goal.returns-clause-ends
returns-clause-ends g c u m p ec r k b =
    let size = c.args.size in
    let mid = c.store.new.out in
    let room : 16 + size ≤ length c.args.out.now = c.requires.room in
    let kept : length mid ≡ length c.args.out.now = search rules in
    let len : length c.copy_from_slice.new.self ≡ 16 + size - 16 = search rules in
    let fits : 16 ≤ length c.args.out.now = omega arith in
    let still : 16 ≤ length mid = omega arith in
    let all : 16 + size ≡ 16 + length c.copy_from_slice.new.self = omega arith in
    let a = sum_to (block_at m) (suc p) in
    let w = w_at u (inner_x u m) p in
    let su = r.sums in
    let sums : value c.xor.result ≡ a = cc in
    let e = ends_are u m p c.args.self r (mark m) a in
    let pair = c.end_blocks.ensures.value in
    let both : (value c.end_blocks.result.0, value c.end_blocks.result.1) ≡ (last_c u (mark m) p w a, last_tag u (mark m) p w a) = cc in
    let front : take 16 mid ≡ bytes_of (last_c u (mark m) p w a) = c.store.ensures.front fits ∙ ap (λ (q : ℕ × ℕ). bytes_of q.0) both in
    let tag : c.copy_from_slice.new.self ≡ take size (bytes_of (last_tag u (mark m) p w a)) = c.copy_from_slice.ensures.after ∙ ap (λ (q : List ℕ). take size q) c.to_bytes.ensures ∙ ap (λ (q : ℕ × ℕ). take size (bytes_of q.1)) both in
    take-put_mid 16 (16 + size - 16) mid c.copy_from_slice.new.self (16 + size) all still ∙ ap (λ (z : List ℕ). z ++ c.copy_from_slice.new.self) front ∙ ap (λ (z : List ℕ). bytes_of (last_c u (mark m) p w a) ++ z) tag
