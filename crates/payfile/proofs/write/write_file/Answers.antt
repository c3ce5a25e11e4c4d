use Rattle.std.proofs.Common.{◌≡◌, ℕ, ◌≤◌, min, List, length, take, sym, ap, ◌∙◌, arith, length-take, rules}
use Rattle.elmd.specs.Heading.{frame_of}
use Rattle.elmd.specs.Stream.{Frame}
use Rattle.payfile.specs.Layout.{heading_of}
use Rattle.payfile.specs.Write.{sealed_answer, written}
use Rattle.payfile.specs.Refusals.{after}
use Rattle.payfile.proofs.Files.{all_bytes}
use Rattle.payfile.proofs.Opened.{given_back}
use Rattle.payfile.proofs.write.write_file.Goals as goal

few_of : (xs ys : List ℕ) (n : ℕ) (ds : List ℕ) → n ≤ 6 → xs ≡ take n ds → xs ≡ ys → length ys ≤ 65536
few_of xs ys n ds h e f = let a : length ys ≡ min n (length ds) = ap length (sym f ∙ e) ∙ length-take n ds in omega arith

pub returns : goal.returns
returns g c =
    let u = frame_of (g.C.Cipher.meaning c.args.c.now) c.args.settings.now c.args.nonce.now (heading_of c.args.shed c.args.week) in
    let m = c.args.message.now in
    let head = c.as_bytes.ensures ∙ c.in_ok-heading.ensures.value in
    let frame = ap (frame_of (g.C.Cipher.meaning c.args.c.now) c.args.settings.now c.args.nonce.now) head in
    let answer = c.write_under.ensures.answer ∙ ap (λ (v : Frame). sealed_answer v m (length c.args.out.now)) frame in
    let output = c.write_under.ensures.output ∙ ap (λ (v : Frame). written v m c.args.out.now c.write_under.result) frame in
    let few : length (heading_of c.args.shed c.args.week) ≤ 65536 = few_of _ _ c.in_ok-heading.heading.len c.in_ok-heading.heading.digits c.in_ok-heading.heading.ok c.as_bytes.ensures head in
    record {
      answer = answer ∙ ap (λ x. after x (sealed_answer u m (length c.args.out.now))) c.in_ok-heading.ensures.answer;
      output = output;
      given_back = given_back u m c.args.out.now c.write_under.new.out (length c.args.out.now) c.write_under.result answer output (all_bytes m c.type_inv.message) (search rules) (search rules) few;
      same = c.write_under.ensures.same;
    }
