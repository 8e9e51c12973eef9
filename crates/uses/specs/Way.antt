-- The ways of a pin.
use Rattle.std.specs.Prelude.{◌≡◌, ℕ, Result, MatchResult, ◌≢◌}
use Rattle.uses.specs.declared.SheetRefusal.{SheetRefusal}
use Rattle.uses.specs.declared.SheetRefusal.TheVariants.{Value}
use Rattle.uses.specs.declared.Way.{Way}
use Rattle.uses.specs.declared.Way.TheVariants.{Holds, Fails}

-- the number of each way: its byte in a partial
abbrev pub way_number : Way → ℕ
way_number Holds = 1
way_number Fails = 2

-- the way by a byte: 1 holds, 2 fails, and any other is refused
abbrev pub IsWayOf : ℕ → Result Way SheetRefusal → Type 0
IsWayOf byte r = MatchResult r (λ way. way_number way ≡ byte) (λ e. (e ≡ Value) × (byte ≢ 1) × (byte ≢ 2))
