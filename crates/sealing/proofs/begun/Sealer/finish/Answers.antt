use Rattle.std.proofs.Common.{◌≡◌, ℕ, ◌%◌, cond, eqb, ◌++◌, sym, ap, ◌∙◌, arith, rules}
use Rattle.elmd.specs.Laws.{inner_x}
use Rattle.elmd.specs.Refusals.{mark_of}
use Rattle.elmd.specs.Stream.{places}
use Rattle.elmd.proofs.Counts.{marked_is}
use Rattle.sealing.specs.Handing.{sealed_blocks}
use Rattle.sealing.proofs.Parts.{rest_is, whole_stream, last_runs, last_held}
use Rattle.sealing.proofs.begun.Sealer.finish.Goals as goal

pub returns-then-out-tag-clause-answer : goal.returns-then-out-tag-clause-answer
returns-then-out-tag-clause-answer g c =
    let s = c.args.self in
    let full : s.k ≡ s.n = omega arith in
    let rest = rest_is s full _ (c.tag_length-tag.ensures ∙ ap (λ (i : ℕ). cond s.settings.short_tag i 16) c.unsealed-held.ensures) in
    search (rules, rest)

pub returns-clause-answer : goal.returns-clause-answer
returns-clause-answer g c =
    let s = c.args.self in
    let full : s.k ≡ s.n = omega arith in
    let rest = rest_is s full _ (c.tag_length-tag.ensures ∙ ap (λ (i : ℕ). cond s.settings.short_tag i 16) c.unsealed-held.ensures) in
    search (rules, rest)

pub returns-clause-bytes : goal.returns-clause-bytes
returns-clause-bytes g c u acc ec o =
    let s = c.args.self in
    let full : s.k ≡ s.n = omega arith in
    let tag = c.tag_length-tag.ensures ∙ ap (λ (i : ℕ). cond s.settings.short_tag i 16) c.unsealed-held.ensures in
    let mark = marked_is acc c.of_length-mark.result (c.of_length-mark.ensures ∙ ap (λ (i : ℕ). mark_of (cond (eqb (i % 16) 0) 1 0)) (sym full ∙ o.size)) in
    let last = last_held s full _ tag u acc _ _ o c.unsealed-held.ensures c.load.ensures in
    whole_stream s full _ tag u acc o ∙ ap (λ z. places u (inner_x u acc) (sealed_blocks s.n s.n) ++ z) (sym (c.write_end.ensures.ends u acc (sealed_blocks s.n s.n) ec (last_runs s full _ tag u acc o) mark last))
