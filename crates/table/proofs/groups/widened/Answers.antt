use Rattle.std.proofs.Common.{◌≡◌, ◌++◌, length, drop, get_or, replicate, sym, subst}
use Rattle.table.proofs.Past.{padded}
use Rattle.table.proofs.groups.widened.Goals as goal

pub returns : goal.returns
returns c =
    λ k. subst (λ xs. get_or (xs ++ drop (length c.args.group.now) (replicate 512 0)) k 0 ≡ get_or c.args.group.now k 0) (sym c.copy_from_slice.ensures.after) (padded c.args.group.now 512 k)
