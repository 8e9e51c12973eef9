use Rattle.std.proofs.Common.{rules, ◌≡◌, true, false, None, get_or, sym, subst, arith}
use Rattle.std.proofs.lemmas.List.{get_or_default}
use Rattle.rulebook.specs.Rows.{blank}
use Rattle.turns.specs.Table.{Hit, SupportIs}
use Rattle.turns.specs.Chain.{Walked, newest_row}
use Rattle.turns.proofs.Chaining.{walk_in, walk_cancelled, walk_only, walk_several, walk_end, walk_next, walk_down, none_of, some_of}
use Rattle.turns.proofs.chains.ChainedTable.supporters.Goals.{then-not-body_cancelled+else-is_some, else-not-body_cancelled}
use Rattle.turns.proofs.chains.ChainedTable.supporters.Goals as goal

pub bounds-self-i : goal.bounds-self-i
bounds-self-i c = let t = c.args.self.now.table in walk_in c.args.p.now t.rows.now t.entries.now c.args.s c.in-Some.i _ _ c.in-Some.is c.loop-next.invariant

pub body-requires : goal.body-requires
body-requires c = let t = c.args.self.now.table in let i = c.in-Some.i in
    let l = walk_in c.args.p.now t.rows.now t.entries.now c.args.s i _ _ c.in-Some.is c.loop-next.invariant in (i, l, get_or_default t.rows.now i _ blank l)

pub returns-then-is_some : goal.returns-then-is_some
returns-then-is_some c = let t = c.args.self.now.table in let j = some_of c.loop-next.only (sym c.if-is_some.ensures) in
    walk_several c.args.p.now t.rows.now t.entries.now c.args.s c.in-Some.i _ _ c.in-Some.is c.loop-next.invariant j.0 j.1
    (subst (λ b. Hit c.args.p.now b false) c.body.ensures.value c.if-not-body_cancelled.ensures)

pub bounds-self-i-in-Some : goal.bounds-self-i-in-Some
bounds-self-i-in-Some c = let t = c.args.self.now.table in let few = c.args.self.now.few in
    let l = walk_in c.args.p.now t.rows.now t.entries.now c.args.s c.in-Some.i _ _ c.in-Some.is c.loop-next.invariant in omega arith

pub loop-next-smaller : goal.loop-next-smaller
loop-next-smaller c = let t = c.args.self.now.table in
    walk_down c.args.p.now t.rows.now t.entries.now c.args.s c.in-Some.i _ _ c.in-Some.is c.loop-next.invariant _
    (walk_next c.args.p.now t.rows.now t.entries.now c.args.s c.in-Some.i _ _ c.in-Some.is c.loop-next.invariant c.args.self.now.chains.older c.args.self.now.links c.requires.at)

pub loop-next-preserved : goal.loop-next-preserved
loop-next-preserved c =
    let t = c.args.self.now.table in let p = c.args.p.now in let s = c.args.s in let i = c.in-Some.i in let w = c.loop-next.invariant in
    let next = get_or c.args.self.now.chains.older i None in
    let e : next ≡ newest_row t.rows.now s i = walk_next p t.rows.now t.entries.now s i _ _ c.in-Some.is w c.args.self.now.chains.older c.args.self.now.links c.requires.at in
    elim c.if-not-body_cancelled.branch [
      | then-not-body_cancelled+else-is_some v ↦ subst (Walked p t.rows.now t.entries.now s next) (sym v.only-is)
          (walk_only p t.rows.now t.entries.now s i _ _ c.in-Some.is w next e (none_of c.loop-next.only (sym v.if-is_some.ensures)) (subst (λ b. Hit p b false) c.body.ensures.value v.if-not-body_cancelled.ensures))
      | else-not-body_cancelled v ↦ subst (Walked p t.rows.now t.entries.now s next) (sym v.only-is)
          (walk_cancelled p t.rows.now t.entries.now s i _ _ c.in-Some.is w next e (subst (λ b. Hit p b true) c.body.ensures.value v.if-not-body_cancelled.ensures))
    ]

pub returns : goal.returns
returns c = let t = c.args.self.now.table in
    subst (SupportIs c.args.p.now t.rows.now t.entries.now c.args.s) (sym (search rules)) (walk_end c.args.p.now t.rows.now t.entries.now c.args.s _ c.loop-next.only c.in_default.is c.loop-next.invariant)
