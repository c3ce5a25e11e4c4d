-- The eight bytes of the settings: the label; t in two bytes, highest first; seven bits for the length of the checks (0 stands for 128
-- bits, the only length) and the bit f; the length of the tag, 128 bits; three zeros.
use Rattle.std.specs.Prelude.{◌≡◌, ℕ, ◌+◌, ◌*◌, Bool, cond, not, List, [], ◌∷◌, Ok, Result, ◌==◌, nat_lt, slice_index}
use Rattle.elmd.specs.declared.refusal.Refusal.{Refusal}
use Rattle.elmd.specs.declared.refusal.Refusal.TheVariants.{OtherLabel, Interval, CheckLength, TagLength, SpareByte}
use Rattle.elmd.specs.declared.settings.Settings.{Settings}
use Rattle.elmd.specs.Refusals.{refuse}

abbrev pub settings_bytes : Settings → List ℕ
settings_bytes s = s.label ∷ 0 ∷ s.interval ∷ cond s.short_tag 1 0 ∷ 128 ∷ 0 ∷ 0 ∷ 0 ∷ []

-- what eight bytes are refused for under a cipher's label, the first cause first
abbrev pub settings_answer : ℕ → List ℕ → Result Unit Refusal
settings_answer label b =
    refuse (not (slice_index b 0 == label)) OtherLabel
    (refuse (nat_lt 127 (256 * slice_index b 1 + slice_index b 2)) Interval
    (refuse (nat_lt 1 (slice_index b 3)) CheckLength
    (refuse (not (slice_index b 4 == 128)) TagLength
    (refuse (nat_lt 0 (slice_index b 5 + slice_index b 6 + slice_index b 7)) SpareByte (Ok tt)))))

abbrev pub interval_answer : ℕ → Result Unit Refusal
interval_answer t = refuse (nat_lt 127 t) Interval (Ok tt)

abbrev pub Chosen : ℕ → ℕ → Bool → Settings → Type 0
Chosen label t f s = (s.label ≡ label) × (s.interval ≡ t) × (s.short_tag ≡ f)
