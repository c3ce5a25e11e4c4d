use Rattle.std.proofs.Common.{get_or, refl, ap, ◌∙◌, arith}
use Rattle.speck.specs.Speck.{join}
use Rattle.speck.specs.Rounds.{rounds_value}
use Rattle.speck.proofs.Folds.{rounds_folded}
use Rattle.speck.proofs.SpeckCipher.encrypt.Goals as goal

pub returns : goal.returns
returns c =
    let self = c.args.self.now in
    let keys = self.round_keys in
    let words = c.encrypted_words-x.ensures ∙ rounds_folded keys _ (omega arith) in
    record { value = c.new.ensures ∙ ap join words ∙ rounds_value self.key c.args.b (λ i. get_or keys i 0) self.scheduled; same = refl }
