use Rattle.std.proofs.Common.{◌≡◌, ◌+◌, ◌%◌, List, [], ◌∷◌, ◌++◌, length, take, sym, ap, ◌∙◌, append_assoc, arith}
use Rattle.std.proofs.lemmas.List.{take_more_set, append-nil}
use Rattle.payfile.specs.Layout.{digits}
use Rattle.payfile.proofs.Numerals.{digits_none, digits_step, length_step}
use Rattle.payfile.proofs.heading.FileHeading.+push.Goals as goal

pub returns-then-n-eq0 : goal.returns-then-n-eq0
returns-then-n-eq0 t c =
    let z : digits c.args.n ≡ [] = ap digits c.if-n-eq0.true ∙ digits_none in
    let l : length (digits c.args.n) ≡ 0 = ap length z in
    record {
      len = omega arith;
      digits = sym (ap (λ (ds : List _). take c.args.self.now.len c.args.self.now.digits ++ ds) z ∙ append-nil (take c.args.self.now.len c.args.self.now.digits));
    }

pub push-requires : goal.push-requires
push-requires t c = let s = length_step c.args.n (omega arith) in (omega arith, omega arith)

pub bounds-self-self : goal.bounds-self-self
bounds-self-self t c = let s = length_step c.args.n (omega arith) in omega arith

pub invariant_of-self : goal.invariant_of-self
invariant_of-self t c = record { ok = let s = length_step c.args.n (omega arith) in omega arith }

pub returns : goal.returns
returns t c =
    let s = length_step c.args.n (omega arith) in
    let now = c.push.new.self in
    let more = take_more_set now.digits now.len (48 + c.args.n % 10) (omega arith) in
    record {
      len = omega arith;
      digits = more ∙ ap (λ (ds : List _). ds ++ (48 + c.args.n % 10) ∷ []) c.push.ensures.digits
          ∙ append_assoc (take c.args.self.now.len c.args.self.now.digits) (digits _) ((48 + c.args.n % 10) ∷ [])
          ∙ ap (λ (ds : List _). take c.args.self.now.len c.args.self.now.digits ++ ds) (sym (digits_step c.args.n (omega arith)));
    }
