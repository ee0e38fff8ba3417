use Rattle.std.proofs.Common.{ℕ, List, length, sym, subst, arith}
use Rattle.std.proofs.lemmas.List.{take_all}
use Rattle.derivation_reading.specs.Feeding.{Comes}
use Rattle.derivation_reading.proofs.Pieces.{stays_closed}
use Rattle.derivation_reading.proofs.Staying.{stays_as_is}
use Rattle.derivation_reading.proofs.feeder.Feeder.take_some.Goals as goal

pub returns-in_default : goal.returns-in_default
returns-in_default c =
    let f = c.args.self.now in
    let piece = c.args.piece.now in
    let before = c.args.out.now.events in
    let some = c.requires.some in
    record {
      come = subst (λ (x : List ℕ). Comes f f x before before) (sym (take_all (length piece) piece (omega arith))) (stays_closed f piece before c.in_default.not-Open);
      stays = stays_as_is f.progress before;
      inside = omega arith;
      some = omega (arith, some);
    }
