use Rattle.std.proofs.Common.{◌≡◌, Err, sym, refl, ap, ◌∙◌, arith}
use Rattle.std.specs.Option.{ok_or}
use Rattle.std.proofs.lemmas.Bool.{true≢false}
use Rattle.std.proofs.lemmas.Result.{err_from_is_err_and}
use Rattle.elmd.specs.declared.refusal.Refusal.TheVariants.{StreamLength}
use Rattle.elmd.specs.Refusals.{mark_number}
use Rattle.elmd.specs.Opening.{blocks_of}
use Rattle.elmd.specs.Stream.{checks}
use Rattle.elmd.proofs.Shapes.{mark_is, shape_found, shape_given}
use Rattle.elmd.proofs.settings.Settings.shape.Goals as goal

pub returns-then-stream_length-lt17 : goal.returns-then-stream_length-lt17
returns-then-stream_length-lt17 c =
    (refl, λ u es m hm. let g = shape_given u c.args.self c.args.stream_length (mark_number c.args.mark) es m hm in let l = g.long in omega arith)

pub returns-in_err-checks : goal.returns-in_err-checks
returns-in_err-checks c =
    let none = c.in_err-checks.ensures.ok_part in
    let why : Err c.in_err-checks.field-0.0 ≡ Err StreamLength = c.in_err-checks.ensures.value ∙ ap (λ r. ok_or r StreamLength) none in
    let k = rw c.from.ensures at c.checks_among.ensures in
    let p = err_from_is_err_and c.from_residual.result c.from_residual.ensures.1 in
    rw (p.1, p.2) (cc, λ u es m hm. let g = shape_given u c.args.self c.args.stream_length (mark_number c.args.mark) es m hm in let z = sym g.among ∙ sym k ∙ none in cc)

pub returns-then-blocks-gt-BLOCKS_MOST : goal.returns-then-blocks-gt-BLOCKS_MOST
returns-then-blocks-gt-BLOCKS_MOST c = (
  refl,
  λ u es m hm.
      let g = shape_given u c.args.self c.args.stream_length (mark_number c.args.mark) es m hm in
      let a = g.among in
      let e = c.in_ok-checks.ensures in
      let h : c.in_ok-checks.checks ≡ checks u (blocks_of u c.args.stream_length) = cc in
      let b = g.blocks_are in
      let f = g.few in
      omega arith,
)

pub returns-then-not-tag_fits : goal.returns-then-not-tag_fits
returns-then-not-tag_fits c = (
  refl,
  λ u es m hm.
      let g = shape_given u c.args.self c.args.stream_length (mark_number c.args.mark) es m hm in
      true≢false (sym g.fits ∙ sym c.tag_fits.ensures ∙ c.if-not-tag_fits.true),
)

pub returns : goal.returns
returns c = λ u es.
    shape_found u c.args.self c.args.stream_length (mark_number c.args.mark) c.in_ok-checks.checks _ es (omega arith) (mark_is c.args.mark) (sym (rw c.from.ensures at c.checks_among.ensures) ∙ c.in_ok-checks.ensures.ok_part) refl refl refl (omega arith)
    (sym c.tag_fits.ensures ∙ c.if-not-tag_fits.false)
