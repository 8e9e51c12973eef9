use Rattle.std.proofs.lemmas.List.{drop-replicate}
use Rattle.rulebook.proofs.padded.Goals as goal

pub returns : goal.returns
returns g c = rw (c.copy_from_slice.ensures.after, drop-replicate)
