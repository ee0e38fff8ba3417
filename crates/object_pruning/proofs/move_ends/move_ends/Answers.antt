use Rattle.std.proofs.Common.{map, sym, ◌∙◌, subst, arith}
use Rattle.geo_conditions.specs.Reach.{State, IsState, Inside}
use Rattle.geo_conditions.proofs.Points.{inside_trans}
use Rattle.derivation.proofs.Continuing.{growth_on, growth_failed}
use Rattle.object_pruning.specs.Same.{SameBut}
use Rattle.object_pruning.proofs.Ends.{moves_on, moves_end}
use Rattle.object_pruning.proofs.Narrowing.{same_trans}
use Rattle.derivation.proofs.Chains.{led_on}
use Rattle.object_pruning.proofs.move_ends.move_ends.Goals as goal

pub returns-in_err-moved-2-clause-alone : goal.returns-in_err-moved-2-clause-alone
returns-in_err-moved-2-clause-alone g c =
    let S = c.args.t.now.state in
    let T = c.loop-d.t.state in
    let U = c.move_end.new.t.state in
    let m = c.in_ok-moved.ensures.moves in
    let i = c.loop-d.invariant.moves in
    subst (λ (X : State). SameBut c.args.o.0 S X × Inside X S) (sym c.in_err-moved-2.ensures.unmoved) ((same_trans _ c.args.o.0 S T U i.points m.points).alone, inside_trans U T S m.inside i.inside)

pub loop-d-preserved : goal.loop-d-preserved
loop-d-preserved g c =
    let S = c.args.t.now.state in
    let T = c.loop-d.t.state in
    let U = c.move_end.new.t.state in
    let V = c.move_end-in-loop-d.new.t.state in
    let x = c.in_ok-moved.ensures in
    let y = c.in_ok-moved-2.ensures in
    let i = c.loop-d.invariant in
    let all = map g.I.Indexical.cond c.args.list.now in
    let list = g.R.Recorder.list in
    let old = list c.args.rec.now in
    let mid = list c.loop-d.rec in
    let later = list c.move_end.new.rec in
    let new = list c.move_end-in-loop-d.new.rec in
    record {
      moves = moves_on _ c.args.o.0 c.loop-d.d S T U V c.loop-d.moved c.in_ok-moved.field-0 c.in_ok-moved-2.field-0 i.moves x.moves y.moves;
      led = λ kept. led_on all S T V old mid new (i.led kept) (led_on all T U V mid later new (x.led kept) (y.led kept));
      can = c.move_end-in-loop-d.ensures.can;
      kept = c.move_end-in-loop-d.ensures.kept;
      levels = c.move_end-in-loop-d.ensures.levels.0 ∙ c.move_end.ensures.levels.0 ∙ i.levels;
      restores = c.move_end-in-loop-d.ensures.levels.1 ∙ c.move_end.ensures.levels.1 ∙ i.restores;
      grows = growth_on (growth_on i.grows x.grows) y.grows;
    }

pub returns-clause-moves : goal.returns-clause-moves
returns-clause-moves g c =
    let S = c.args.t.now.state in
    let shape : IsState g.row.K S = subst (IsState g.row.K) c.state.ensures.value c.objects-objects.ensures.shape in
    moves_end g.row.K _ c.args.o.0 c.loop-d.d S c.loop-d.moved c.loop-d.t.state shape c.requires.object (omega (arith, c.loop-d-test.false)) c.loop-d.invariant.moves

pub returns-in_err-moved-clause-grows : goal.returns-in_err-moved-clause-grows
returns-in_err-moved-clause-grows g c = growth_failed (growth_on c.loop-d.invariant.grows c.in_err-moved.ensures.grows) _ c.from_residual.ensures.0

pub returns-in_err-moved-2-clause-grows : goal.returns-in_err-moved-2-clause-grows
returns-in_err-moved-2-clause-grows g c = growth_failed (growth_on (growth_on c.loop-d.invariant.grows c.in_ok-moved.ensures.grows) c.in_err-moved-2.ensures.grows) _ c.from_residual-in_err-moved-2.ensures.0

pub returns-clause-grows : goal.returns-clause-grows
returns-clause-grows g c = c.loop-d.invariant.grows
