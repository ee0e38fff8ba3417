use Rattle.std.proofs.Common.{◌≡◌, ℕ, ◌-◌, List, length, take, drop, sym, ap, subst, arith}
use Rattle.std.proofs.lemmas.List.{take_all, length-drop}
use Rattle.std.proofs.Math.Seq.{take-add}
use Rattle.derivation_reading.specs.Feeding.{Comes}
use Rattle.derivation_reading.proofs.Pieces.{nothing_comes, comes_both}
use Rattle.derivation_reading.proofs.Staying.{stays_as_is, stays_both, answered}
use Rattle.derivation_reading.proofs.Recorded.{comes_fitting, comes_tree}
use Rattle.derivation_reading.proofs.feeder.Feeder.feed.Goals as goal

pub loop-at-init : goal.loop-at-init
loop-at-init c = record {
  come = nothing_comes c.args.self.now c.args.out.now.events;
  stays = stays_as_is c.args.self.now.progress c.args.out.now.events;
  inside = omega arith;
}

pub loop-at-preserved : goal.loop-at-preserved
loop-at-preserved c =
    let piece = c.args.piece.now in
    let at = c.loop-at.at in
    let some = c.take_some-at.ensures in
    let n = c.take_some-at.result in
    let rest : take (length piece - at) (drop at piece) ≡ drop at piece = take_all (length piece - at) (drop at piece) (omega (arith, length-drop at piece)) in
    let size : length (take (length piece - at) (drop at piece)) ≡ length (drop at piece) = ap length rest in
    record {
      come = subst (λ (x : List ℕ). Comes c.args.self.now c.take_some-at.new.self x c.args.out.now.events c.take_some-at.new.out.events) (sym (take-add at n piece))
          (comes_both c.args.self.now c.loop-at.self c.take_some-at.new.self (take at piece) (take n (drop at piece)) c.args.out.now.events c.loop-at.out.events
          c.take_some-at.new.out.events c.loop-at.invariant.come
          (subst (λ (x : List ℕ). Comes c.loop-at.self c.take_some-at.new.self (take n x) c.loop-at.out.events c.take_some-at.new.out.events) rest some.come));
      stays = stays_both c.args.self.now.progress c.loop-at.self.progress c.take_some-at.new.self.progress c.args.out.now.events c.loop-at.out.events
          c.take_some-at.new.out.events c.loop-at.invariant.stays some.stays;
      inside = omega (arith, some.inside, size, length-drop at piece, c.loop-at.invariant.inside);
    }

all_come : (c : goal.After-answer) → Comes c.args.self.now c.loop-at.self c.args.piece.now c.args.out.now.events c.loop-at.out.events
all_come c =
    subst (λ (x : List ℕ). Comes c.args.self.now c.loop-at.self x c.args.out.now.events c.loop-at.out.events)
    (take_all c.loop-at.at c.args.piece.now c.loop-at-test.false) c.loop-at.invariant.come

pub returns-clause-come : goal.returns-clause-come
returns-clause-come c = all_come c

pub returns-clause-fits : goal.returns-clause-fits
returns-clause-fits c =
    comes_fitting c.args.self.now c.loop-at.self c.args.out.now.events c.loop-at.out.events c.dims-dims.ensures.whole c.args.piece.now (all_come c)

pub returns-clause-tree : goal.returns-clause-tree
returns-clause-tree c =
    comes_tree c.args.self.now c.loop-at.self c.answer.result c.args.out.now.events c.loop-at.out.events c.answer.ensures c.args.piece.now (all_come c)

pub returns-clause-stays : goal.returns-clause-stays
returns-clause-stays c =
    answered c.args.self.now.progress c.loop-at.self c.answer.result c.args.out.now.events c.loop-at.out.events c.answer.ensures c.loop-at.invariant.stays
