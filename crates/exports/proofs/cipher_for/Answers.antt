use Rattle.std.proofs.Common.{eqb, None, sym, ap, ◌∙◌, arith}
use Rattle.std.proofs.lemmas.Bool.{cond-false, ne_eqb}
use Rattle.labelled.specs.Labels.{cipher_of}
use Rattle.exports.specs.Exports.{key_of}
use Rattle.exports.proofs.Choices.{key_back}
use Rattle.exports.proofs.cipher_for.Goals as goal

pub returns-in_default : goal.returns-in_default
returns-in_default c =
    let label = c.args.label in
    let key = key_of c.args.key.now in
    let number = key_back c.load.result c.to_bytes.result key c.to_bytes.ensures c.load.ensures in
    c.for_label.ensures ∙ ap (cipher_of label) number ∙ sym (cond-false (eqb label 255) None (cipher_of label key) (ne_eqb label 255 (λ e. omega arith)))
