-- Rows that leave no plan.
use Rattle.std.specs.Prelude.{Bool, ◌&&◌, ◌==◌}
use Rattle.rulebook.specs.declared.row.RuleRow.{RuleRow}

-- a headless rule with an empty body
abbrev pub bodiless : RuleRow → Bool
bodiless r = r.head == 65535 && r.count == 0
