use Rattle.std.proofs.Common.{◌≤◌, ℕ, length, subst, sym, arith, below_more}
use Rattle.geo_base.specs.Tuple.{spot}
use Rattle.problem_data.specs.Problem.{BoxData}
use Rattle.problem_data.specs.Cells.{box_at}
use Rattle.box_ends.proofs.Corners.{box_there}
use Rattle.geo_load.specs.Blocks.{BoxBlocksOne}
use Rattle.geo_load.proofs.Walls.{object_in, object_out}
use Rattle.geo_load.proofs.reach.blocks.Goals as goal

pub loop-a-preserved : goal.loop-a-preserved
loop-a-preserved c =
    let x = (spot c.args.layout.now c.args.i.0).origin in
    let P : ℕ → Type 0 = λ n. BoxBlocksOne c.args.problem.now c.args.layout.now c.args.d (box_at c.boxes-own.result.now n) x c.args.j.0 → ⊥ in
    below_more P c.loop-a.a-index c.loop-a.invariant
    (λ h. c.if-box_blocks_one.ensures.no
    (subst (λ (a : BoxData). BoxBlocksOne c.args.problem.now c.args.layout.now c.args.d a x c.args.j.0) (sym (box_there c.boxes-own.result.now c.loop-a.a-index c.a-item.result c.a-item.is c.loop-a-test.true)) h))

pub returns-then-box_blocks_one-clause-yes : goal.returns-then-box_blocks_one-clause-yes
returns-then-box_blocks_one-clause-yes c =
    let x = (spot c.args.layout.now c.args.i.0).origin in
    object_in c.args.problem.now c.args.layout.now c.args.d c.args.i.0 c.args.j.0 c.boxes-own.result.now c.loop-a.a-index c.boxes-own.ensures.same c.loop-a-test.true
    (subst (λ (a : BoxData). BoxBlocksOne c.args.problem.now c.args.layout.now c.args.d a x c.args.j.0) (box_there c.boxes-own.result.now c.loop-a.a-index c.a-item.result c.a-item.is c.loop-a-test.true) c.if-box_blocks_one.ensures.yes)

pub returns-clause-no : goal.returns-clause-no
returns-clause-no c =
    object_out c.args.problem.now c.args.layout.now c.args.d c.args.i.0 c.args.j.0 c.boxes-own.result.now c.boxes-own.ensures.same
    (λ n l. c.loop-a.invariant n (let e : length c.boxes-own.result.now ≤ c.loop-a.a-index = c.loop-a-test.false in omega (arith, l, e)))
