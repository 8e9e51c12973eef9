-- Tables cut to their counts.
use Rattle.std.proofs.Common.{◌≡◌, ℕ, ◌<◌, ◌≤◌, Bool, false, List, length, take, Ok, Err, Result, arith}
use Rattle.std.specs.Prelude.{IsErr}
use Rattle.std.proofs.lemmas.Bool.Decides.{nat_tests}
use Rattle.std.proofs.lemmas.Grind.{common_steps}
use Rattle.std.proofs.lemmas.List.{length-take-le}
use Rattle.rulebook.specs.declared.row.RuleRow.{RuleRow}
use Rattle.rulebook.specs.declared.sealed.Rulebook.{Rulebook}
use Rattle.rulebook.specs.declared.SealRefusal.{SealRefusal}
use Rattle.rulebook.specs.declared.SealRefusal.TheVariants.{Outside}
use Rattle.rulebook.specs.Sealing.{within, sealable, Sealing, refused}

module _ (names rules used : ℕ) (rows : List RuleRow) (entries : List ℕ) where
  pub few_rows : length rows < rules → sealable names rules used rows entries ≡ false
  few_rows h = grind (arith, nat_tests, common_steps)

  pub few_entries : length entries < used → sealable names rules used rows entries ≡ false
  few_entries h = grind (arith, nat_tests, common_steps)

  pub cut : {rs : List RuleRow} {es : List ℕ} {b : Bool} → (rules ≤ length rows) × (rs ≡ take rules rows) → (used ≤ length entries) × (es ≡ take used entries) → b ≡ within names rs es → sealable names rules used rows entries ≡ b
  cut r e t = let a = length-take-le rules rows r.0 in let b = length-take-le used entries e.0 in grind (arith, nat_tests, common_steps, a, b)

  pub refusal : (b : Rulebook) (r : Result (Unit {0}) SealRefusal) → IsErr r → sealable names rules used rows entries ≡ false → Sealing names rules used rows entries b r b
  refusal b (Ok u) e f = absurd (cc)
  refusal b (Err Outside) e f = refused f
