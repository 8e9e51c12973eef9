use Rattle.std.proofs.Common.{◌≡◌, ◌+◌, ◌*◌, true, false, subst, arith}
use Rattle.closing.specs.Turns.{Made}
use Rattle.turns.proofs.Steps.{decided_turn}
use Rattle.turns.proofs.founded.fail_unfounded.Goals as goal

pub returns-else-founded : goal.returns-else-founded
returns-else-founded c =
    let p = c.args.p.now in let q = c.decide.new.p in
    decided_turn (λ C. c.args.founded ≡ false → C (2 * c.args.s + 1) ≡ true) p q _ _ (omega (arith, c.requires.at)) c.requires.bytes (subst (λ e. Made p e q c.decide.result) c.failing.ensures c.decide.ensures)
    (λ C l u. l c.if-founded.false) (λ h z. h)
