use Rattle.std.proofs.Common.{◌≡◌, ℕ, List, refl, ap, ◌∙◌, subst, arith}
use Rattle.std.proofs.lemmas.List.{take_all}
use Rattle.block.specs.Value.{value}
use Rattle.block.specs.Bytes.{bytes_of, padded}
use Rattle.block.proofs.Bytes.{length_bytes_of}
use Rattle.block.proofs.Filling.{padded_whole}
use Rattle.elmd.specs.Refusals.{mark_number}
use Rattle.elmd.proofs.Steps.{one_end}
use Rattle.opening.specs.Last.{Begins80}
use Rattle.opening.proofs.Tags.{judged}
use Rattle.opening.proofs.last.message_bytes.Goals as goal

pub returns-in-Whole : goal.returns-in-Whole
returns-in-Whole c =
    let v = bytes_of (value c.args.last) in
    let l = length_bytes_of (value c.args.last) in
    let k : mark_number c.args.outline.mark ≡ 1 = ap mark_number c.in-Whole.is in
    judged v (mark_number c.args.outline.mark) c.args.outline.settings.short_tag c.args.outline.shape.tag 16 c.fitting.result c.fitting.ensures (omega arith) (λ e. refl) (λ e. omega arith)
    (ap padded (take_all 16 v (omega arith)) ∙ padded_whole v l) (λ j b. b.whole k)

pub returns-in_ok-k-in-Filled : goal.returns-in_ok-k-in-Filled
returns-in_ok-k-in-Filled c =
    let v = bytes_of (value c.args.last) in
    let l = length_bytes_of (value c.args.last) in
    let z : mark_number c.args.outline.mark ≡ 0 = ap mark_number c.in-Filled.is in
    let k = c.in_ok-k-in-Filled.k in
    let b : Begins80 v k = subst (λ (x : List ℕ). Begins80 x k) c.to_bytes-v.ensures c.in_ok-k-in-Filled.ensures in
    judged v (mark_number c.args.outline.mark) c.args.outline.settings.short_tag c.args.outline.shape.tag k c.fitting-in-Filled.result c.fitting-in-Filled.ensures b.some (λ e. omega arith) (λ e. b.few) b.filled
    (λ j d. one_end v j k l (d.few z) b.few d.filled b.filled)
