use Rattle.std.proofs.Common.{◌≡◌, ℕ, length, subst, arith}
use Rattle.problem_data.specs.Problem.{ProblemData}
use Rattle.problem_data.specs.Tuple.{Tuple}
use Rattle.layout_drawing.proofs.Owned.{AreBelow, more_below, all_below}
use Rattle.layout_drawing.proofs.blocks.blocks_of.Goals as goal

pub loop-o-preserved : goal.loop-o-preserved
loop-o-preserved c = more_below c.args.problem.now c.args.layout.now c.loop-o.o c.loop-o.blocks.items c.push_blocks.new.into.items c.loop-o.invariant c.in_ok-push_blocks.ensures

pub returns : goal.returns
returns c =
    let p : ProblemData = c.args.problem.now in
    let t : Tuple = c.args.layout.now in
    let len : c.len-o-end.result ≡ length t = c.len-o-end.ensures in
    let all : c.loop-o.o ≡ length t = omega arith in
    all_below p t c.loop-o.blocks.items (subst (λ (n : ℕ). AreBelow p t n c.loop-o.blocks.items) all c.loop-o.invariant)
