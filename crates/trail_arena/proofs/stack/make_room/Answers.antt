use Rattle.std.proofs.lemmas.Bool.{false≢true}
use Rattle.trail_arena.specs.Chains.{blocks}
use Rattle.trail_arena.proofs.Piles.{is_one_free, room_made}
use Rattle.trail_arena.proofs.stack.make_room.Goals as goal

pub move_top-requires : goal.move_top-requires
move_top-requires g c = is_one_free (blocks c.args.used.now) (blocks c.args.free.now) c.requires.piles c.requires.room (λ h. false≢true (c.if-not-has_room.ensures.1 h))

pub returns-then-not-has_room-clause-holds : goal.returns-then-not-has_room-clause-holds
returns-then-not-has_room-clause-holds g c =
    (room_made (blocks c.args.used.now) (blocks c.args.free.now) (blocks c.move_top.new.to) (blocks c.move_top.new.self) c.requires.piles c.requires.room (λ h. false≢true (c.if-not-has_room.ensures.1 h)) c.move_top.ensures).0

pub returns-then-not-has_room-clause-room : goal.returns-then-not-has_room-clause-room
returns-then-not-has_room-clause-room g c =
    (room_made (blocks c.args.used.now) (blocks c.args.free.now) (blocks c.move_top.new.to) (blocks c.move_top.new.self) c.requires.piles c.requires.room (λ h. false≢true (c.if-not-has_room.ensures.1 h)) c.move_top.ensures).1
