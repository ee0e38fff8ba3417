use Rattle.std.proofs.lemmas.Bool.{false≢true}
use Rattle.trail_arena.specs.Chains.{blocks}
use Rattle.trail_arena.proofs.Piles.{uncovered}
use Rattle.trail_arena.proofs.stack.uncover.Goals as goal

pub returns-then-not-has_item-clause-holds : goal.returns-then-not-has_item-clause-holds
returns-then-not-has_item-clause-holds g c =
    (uncovered (blocks c.args.used.now) (blocks c.args.free.now) (blocks c.move_top.new.self) (blocks c.move_top.new.to) c.requires.piles c.requires.items (λ h. false≢true (c.if-not-has_item.ensures.1 h)) c.move_top.ensures).0

pub returns-then-not-has_item-clause-item : goal.returns-then-not-has_item-clause-item
returns-then-not-has_item-clause-item g c =
    (uncovered (blocks c.args.used.now) (blocks c.args.free.now) (blocks c.move_top.new.self) (blocks c.move_top.new.to) c.requires.piles c.requires.items (λ h. false≢true (c.if-not-has_item.ensures.1 h)) c.move_top.ensures).1
