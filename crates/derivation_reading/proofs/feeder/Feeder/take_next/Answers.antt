use Rattle.std.proofs.Common.{[], ◌∷◌, arith}
use Rattle.derivation_reading.proofs.Coming.{comes_next}
use Rattle.derivation_reading.proofs.feeder.Feeder.take_next.Goals as goal

pub returns : goal.returns
returns c =
    let accepted = c.accept_all.ensures in
    let room = c.requires.room in
    comes_next c.args.self.now c.accept_all.new.self c.take-taken.new.self c.args.symbol c.take-taken.result (c.args.byte ∷ []) c.args.out.now.events
    c.accept_all.new.out.events c.requires.«open» (omega (arith, room)) c.take-taken.ensures.taken accepted.keeps accepted.grown accepted.reaches accepted.stops
