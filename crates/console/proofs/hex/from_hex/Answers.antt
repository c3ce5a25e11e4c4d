use Rattle.std.proofs.Common.{◌≡◌, ◌+◌, ◌*◌, ◌/◌, ◌%◌, length, drop, vec_items, sym, ap, ◌∙◌, arith}
use Rattle.std.proofs.lemmas.Bool.Decides.{nat_tests}
use Rattle.console.proofs.Hexes.{behind, behind_nil, of_pairs, from_hex_pairs, from_hex_odd, hex_step, hex_bad, hex_end}
use Rattle.console.proofs.hex.from_hex.Goals as goal

pub returns-then-not-is_empty : goal.returns-then-not-is_empty
returns-then-not-is_empty c =
    let odd : length c.args.text.now % 2 ≡ 1 = grind (arith, nat_tests) in
    sym (from_hex_odd c.args.text.now odd)

pub loop-high-init : goal.loop-high-init
loop-high-init c =
    let even : length c.args.text.now ≡ length c.args.text.now / 2 * 2 = grind (arith, nat_tests) in
    ap (λ b. behind b (of_pairs c.as_chunks.result.0.now)) c.new-bytes.ensures.items
    ∙ behind_nil (of_pairs c.as_chunks.result.0.now)
    ∙ ap of_pairs c.as_chunks.ensures.front
    ∙ sym (from_hex_pairs (length c.args.text.now / 2) c.args.text.now even)

pub returns-in_default : goal.returns-in_default
returns-in_default c =
    hex_bad (vec_items c.loop-high.bytes) c.as_chunks.result.0.now c.loop-high.high-index (omega arith) c.in_default.ensures ∙ c.loop-high.invariant

pub loop-high-preserved : goal.loop-high-preserved
loop-high-preserved c =
    ap (λ b. behind b (of_pairs (drop (c.loop-high.high-index + 1) c.as_chunks.result.0.now))) c.in_ok-push.ensures.items
    ∙ sym (hex_step (vec_items c.loop-high.bytes) c.as_chunks.result.0.now c.loop-high.high-index c.in-Some.b (omega arith) c.in-Some.ensures)
    ∙ c.loop-high.invariant

pub returns : goal.returns
returns c =
    hex_end (vec_items c.loop-high.bytes) c.as_chunks.result.0.now c.loop-high.high-index (omega arith) ∙ c.loop-high.invariant
