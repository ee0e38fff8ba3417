use Rattle.std.proofs.Common.{◌≤◌, ℕ, length, subst, sym, arith, below_more}
use Rattle.geo_base.specs.Tuple.{spot}
use Rattle.problem_data.specs.Problem.{BoxData}
use Rattle.problem_data.specs.Cells.{box_at}
use Rattle.box_ends.proofs.Corners.{box_there}
use Rattle.geo_load.specs.Blocks.{BoxBlocks}
use Rattle.geo_load.proofs.Walls.{box_in, box_out}
use Rattle.geo_load.proofs.reach.box_blocks_one.Goals as goal

pub loop-b-preserved : goal.loop-b-preserved
loop-b-preserved c =
    let x = (spot c.args.layout.now c.args.i.0).origin in
    let y = (spot c.args.layout.now c.args.j.0).origin in
    let P : ℕ → Type 0 = λ n. BoxBlocks c.args.problem.now.dims c.args.d c.args.a.now x (box_at c.boxes-others.result.now n) y → ⊥ in
    below_more P c.loop-b.b-index c.loop-b.invariant
    (λ h. c.if-box_blocks.ensures.no
    (subst (λ (k : ℕ). BoxBlocks k c.args.d c.args.a.now x c.b-item.result y) (sym c.dims.ensures)
    (subst (λ (b : BoxData). BoxBlocks c.args.problem.now.dims c.args.d c.args.a.now x b y) (sym (box_there c.boxes-others.result.now c.loop-b.b-index c.b-item.result c.b-item.is c.loop-b-test.true)) h)))

pub returns-then-box_blocks-clause-yes : goal.returns-then-box_blocks-clause-yes
returns-then-box_blocks-clause-yes c =
    let x = (spot c.args.layout.now c.args.i.0).origin in
    let y = (spot c.args.layout.now c.args.j.0).origin in
    box_in c.args.problem.now c.args.layout.now c.args.d c.args.a.now x c.args.j.0 c.boxes-others.result.now c.loop-b.b-index c.boxes-others.ensures.same c.loop-b-test.true
    (subst (λ (b : BoxData). BoxBlocks c.args.problem.now.dims c.args.d c.args.a.now x b y) (box_there c.boxes-others.result.now c.loop-b.b-index c.b-item.result c.b-item.is c.loop-b-test.true)
    (subst (λ (k : ℕ). BoxBlocks k c.args.d c.args.a.now x c.b-item.result y) c.dims.ensures c.if-box_blocks.ensures.yes))

pub returns-clause-no : goal.returns-clause-no
returns-clause-no c =
    box_out c.args.problem.now c.args.layout.now c.args.d c.args.a.now (spot c.args.layout.now c.args.i.0).origin c.args.j.0 c.boxes-others.result.now c.boxes-others.ensures.same
    (λ n l. c.loop-b.invariant n (let e : length c.boxes-others.result.now ≤ c.loop-b.b-index = c.loop-b-test.false in omega (arith, l, e)))
