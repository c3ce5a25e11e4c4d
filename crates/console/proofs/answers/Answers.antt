use Rattle.std.proofs.Common.{◌≡◌, ◌∷◌, eqb, vec_items, sym, ap, ◌∙◌, rules}
use Rattle.std.specs.Slice.Iter.{split_inclusive_rest}
use Rattle.std.proofs.lemmas.Fn.{always_returns_same}
use Rattle.console.specs.Known.{known_of, nothing}
use Rattle.console.specs.Lines.{lines_of}
use Rattle.console.proofs.Splits.{first_part}
use Rattle.console.proofs.Texts.{goes_start, goes_step, goes_end}
use Rattle.console.proofs.answers.Goals as goal

pub loop-part-init : goal.loop-part-init
loop-part-init c =
    let none : known_of c.default-given.result ≡ nothing = cc in
    goes_start c.args.text.now _ _ _ none
    (ap split_inclusive_rest c.into_iter-part-iterator.ensures.into_iter_gives ∙ c.split_inclusive-part-items.ensures.rest) c.new-out.ensures.items

pub loop-part-preserved : goal.loop-part-preserved
loop-part-preserved c =
    let s = c.in-Some.ensures.steps in
    let first = s.1.2 (λ b. eqb b 10) (always_returns_same _ _ _ (λ a r q k. search rules)) in
    let rest = split_inclusive_rest c.loop-part.part-iterator in
    let behind = split_inclusive_rest c.next.new.self in
    let lines = first_part rest c.in-Some.part.now behind s.1.0 s.2 s.0 s.1.1 first.1 in
    goes_step c.args.text.now rest c.without_newline.result.now behind (known_of c.loop-part.given) (known_of c.answer.new.self)
    (vec_items c.loop-part.out) (vec_items c.answer.new.out)
    (lines ∙ ap (λ q. q ∷ lines_of behind) (sym c.without_newline.ensures))
    c.in_ok-answer.ensures.1 c.in_ok-answer.ensures.0 c.loop-part.invariant

pub returns : goal.returns
returns c =
    goes_end c.args.text.now (split_inclusive_rest c.loop-part.part-iterator) (known_of c.loop-part.given) (vec_items c.loop-part.out)
    c.in-None.ensures.steps.0 c.loop-part.invariant
