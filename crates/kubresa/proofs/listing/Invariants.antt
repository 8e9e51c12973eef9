use Rattle.std.proofs.Common.{◌≡◌, vec_items}
use Rattle.text.specs.Counted.{counts_of}
use Rattle.kubresa.specs.Output.{listed}
use Rattle.kubresa.proofs.listing.Given as goal

abbrev pub invariant-loop-i : goal.invariant-loop-i
invariant-loop-i l = vec_items l.out ≡ listed (counts_of l.draft) l.texts.region.now l.texts.harbour.now l.names l.i
