use Rattle.std.proofs.Common.{ap, ◌∙◌}
use Rattle.elmd.specs.Refusals.{mark_number}
use Rattle.exports.specs.Exports.{key_of, eight_of}
use Rattle.exports.proofs.Choices.{mark_back, opens_for}
use Rattle.exports.proofs.proved_open.Goals as goal

pub returns : goal.returns
returns c =
    let arm = c.in-Ok in
    let named = rw c.in-Some.is at c.cipher_for.ensures in
    let mark = ap mark_number arm.ensures.1 ∙ mark_back c.args.mark arm.ensures.0 in
    let opened = rw (c.eight.ensures, c.eight-2.ensures, mark) at c.open.ensures.opened in
    let answer = opens_for _ (eight_of c.args.settings.now) (eight_of c.args.nonce.now) c.args.heading.now c.args.stream.now c.args.mark c.args.out.now c.open.new.out c.open.result opened c.args.label (key_of c.args.key.now) named arm.ensures.0 in
    rw c.unwrap_or.ensures answer
