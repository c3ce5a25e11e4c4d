use Rattle.std.proofs.Common.{◌≡◌, ℕ, suc, ◌+◌, ◌-◌, ◌*◌, ◌/◌, ◌≤◌, List, ◌++◌, length, take, sym, refl, ap, ◌∙◌, arith, rules}
use Rattle.std.proofs.lemmas.Slice.{take-put_mid}
use borrow.Rule.Slice.PartMut.{put_mid, same_len_mid}
use Rattle.elmd.proofs.Strides.{since_is}
use Rattle.sealing.specs.Handing.{sealed_blocks}
use Rattle.sealing.specs.Sealer.{unsealed}
use Rattle.sealing.proofs.Parts.{grows_on, grows_past, one_more, no_more, gained_one}
use Rattle.sealing.proofs.begun.Sealer.push.Goals as goal

-- what is held, with the bytes behind it
held_with : (pending part new : List ℕ) (fill k : ℕ) → length pending ≡ 16 → k + length part ≤ 16 → fill ≡ k → new ≡ part → take (k + length part) (put_mid fill (fill + length part - fill) pending new) ≡ take k pending ++ part
held_with pending part new fill k l h e f =
    rw e (take-put_mid k (k + length part - k) pending new (k + length part) (ap (λ z. k + length z) (sym f)) (omega arith) ∙ ap (λ z. take k pending ++ z) f)

pub returns-then-not-whole-clause-grows : goal.returns-then-not-whole-clause-grows
returns-then-not-whole-clause-grows g c =
    let s = c.args.self.now in
    let part = c.args.part.now in
    let e = no_more s.n s.k (length part) _ _ c.sealed_blocks-2.ensures c.sealed_blocks.ensures c.if-not-whole.true in
    let held = held_with s.pending part c.copy_from_slice.new.self _ (unsealed s) (search rules) c.requires.within c.unsealed-fill.ensures c.copy_from_slice.ensures.after in
    grows_on (g.C.Cipher.meaning c.args.c.now) s _ part (record { n_kept = refl; settings_kept = refl; counted = refl }) held refl e

pub seal_block-requires-clause-room : goal.seal_block-requires-clause-room
seal_block-requires-clause-room g c =
    let s = c.args.self.now in
    let size = length c.args.part.now in
    let more = one_more s.n s.k size _ _ c.sealed_blocks-2.ensures c.sealed_blocks.ensures c.if-not-whole.false c.requires.within in
    rw (c.from.ensures, gained_one s size more.0) c.requires.room

pub invariant_of-self-2-clause-counts : goal.invariant_of-self-2-clause-counts
invariant_of-self-2-clause-counts g c =
    let s = c.args.self.now in
    let size = length c.args.part.now in
    let t = s.settings.interval in
    let more = one_more s.n s.k size _ _ c.sealed_blocks-2.ensures c.sealed_blocks.ensures c.if-not-whole.false c.requires.within in
    let since = since_is (sealed_blocks s.n s.k) t s.running.since s.counts ∙ ap (λ (i : ℕ). suc (sealed_blocks s.n s.k) / t * t + i) (sym (rw c.from.ensures at c.seal_block.ensures.since)) in
    rw more.0 since

pub returns-clause-size : goal.returns-clause-size
returns-clause-size g c =
    let s = c.args.self.now in
    let size = length c.args.part.now in
    let more = one_more s.n s.k size _ _ c.sealed_blocks-2.ensures c.sealed_blocks.ensures c.if-not-whole.false c.requires.within in
    (rw c.from.ensures at c.seal_block.ensures.size) ∙ gained_one s size more.0

pub returns-clause-grows : goal.returns-clause-grows
returns-clause-grows g c =
    let s = c.args.self.now in
    let part = c.args.part.now in
    let more = one_more s.n s.k (length part) _ _ c.sealed_blocks-2.ensures c.sealed_blocks.ensures c.if-not-whole.false c.requires.within in
    let sixteen : length s.pending ≡ 16 = search rules in
    let held = held_with s.pending part c.copy_from_slice.new.self _ (unsealed s) sixteen c.requires.within c.unsealed-fill.ensures c.copy_from_slice.ensures.after in
    grows_past (g.C.Cipher.meaning c.args.c.now) s _ part (record { n_kept = refl; settings_kept = refl; counted = refl }) held _ _ (same_len_mid c.unsealed-fill.result _ s.pending c.copy_from_slice.new.self c.copy_from_slice.ensures.len ∙ sixteen) c.from_bytes-b.ensures more.0 more.1 (rw c.from.ensures at c.seal_block.ensures.steps)
