-- The numbers of an opener, whatever the cipher is.
use Rattle.std.specs.Prelude.{◌≡◌, ℕ, pred, ◌+◌, ◌*◌, ◌/◌, ◌<◌, ◌≤◌, cond, nat_lt}
use Rattle.elmd.specs.declared.settings.Settings.{Settings}
use Rattle.elmd.specs.declared.shape.Shape.{Shape}
use Rattle.opening.specs.declared.state.Reading.{Reading}

-- the end of check j + 1 of h, or of a stream of S bytes behind the last check
abbrev pub end_of : (t h S j : ℕ) → ℕ
end_of t h S j = cond (nat_lt j h) (16 * (j * (t + 1)) + 16 * (t + 1)) S

-- the layout is that of a stream with checks
abbrev pub Lies : Settings → Shape → (S : ℕ) → Type 0
Lies settings h S = (1 ≤ h.blocks) × (h.blocks ≤ 1048576) × (h.checks ≡ pred h.blocks / settings.interval) × (S ≡ 16 * (h.blocks + h.checks) + h.tag)

abbrev pub Tagged : Settings → Shape → Type 0
Tagged settings h = (1 ≤ h.tag) × (h.tag ≤ 16) × (1 ≤ settings.interval)

-- `fill` bytes came since the last check
abbrev pub Stands : Settings → Shape → Reading → (taken fill : ℕ) → Type 0
Stands settings h state taken fill = (state.checks ≤ h.checks) × (taken ≡ 16 * (state.checks * (settings.interval + 1)) + fill)

-- and no other is complete
abbrev pub Within : Settings → Shape → (S : ℕ) → Reading → (taken fill : ℕ) → Type 0
Within settings h S state taken fill = (taken ≤ S) × (state.checks < h.checks → fill < 16 * (settings.interval + 1))
