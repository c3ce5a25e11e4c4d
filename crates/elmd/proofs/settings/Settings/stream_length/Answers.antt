use Rattle.std.proofs.Common.{◌≡◌, ℕ, pred, ◌+◌, ◌-◌, ◌*◌, false, cond, ◌||◌, eqb, ltb, Ok, Err, sym, ap, ◌∙◌, arith}
use Rattle.std.proofs.lemmas.Bool.{cond-false, or_from, ne_eqb, le-ltb}
use Rattle.elmd.specs.declared.refusal.Refusal.TheVariants.{MessageLength}
use Rattle.elmd.specs.Sizes.{stream_size, blocks_in}
use Rattle.elmd.proofs.Counts.{stream_size_lem}
use Rattle.elmd.proofs.settings.Settings.stream_length.Goals as goal

size : (c : goal.After-tag_length) → 16 * (blocks_in c.args.n + c.checks_in-h.result) + c.tag_length.result ≡ stream_size c.args.self.interval c.args.self.short_tag c.args.n
unfolding stream_size
size c =
    let n = c.args.n in
    let e : blocks_in n - 1 ≡ pred (blocks_in n) = omega arith in
    let h = c.checks_in-h.ensures in
    let t : c.tag_length.result ≡ cond c.args.self.short_tag (n - 16 * pred (blocks_in n)) 16 = c.tag_length.ensures ∙ ap (λ (z : ℕ). cond c.args.self.short_tag (n - 16 * z) 16) e in
    cc

pub returns : goal.returns
returns c =
    let n = c.args.n in
    let no : (eqb n 0 || ltb 16777216 n) ≡ false = or_from (eqb n 0) (ltb 16777216 n) (ne_eqb n 0 c.if-n-eq0.false) (le-ltb 16777216 n c.if-n-gt-MESSAGE_MOST.false) in
    record {
      answer = ap Ok (size c) ∙ sym (cond-false (eqb n 0 || ltb 16777216 n) (Err MessageLength) (Ok (stream_size c.args.self.interval c.args.self.short_tag n)) no);
      exact = λ u m e l. stream_size_lem u m c.args.self n e l (omega arith) ∙ sym (size c);
    }
