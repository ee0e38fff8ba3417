use Rattle.std.proofs.Common.{◌≡◌, ◌<◌, List, [], ◌∷◌, ◌++◌, length, map, take, get_or, sym, ap, ◌∙◌, arith}
use Rattle.problem_data.specs.Problem.{ObjectData, ProblemData}
use Rattle.problem_data.specs.Tuple.{Spot, Tuple}
use Rattle.problem_text.proofs.Listed.{inside, stands}
use Rattle.layout_text.specs.Tree.{LineTree}
use Rattle.layout_text.specs.View.{line_view}
use Rattle.layout_text.specs.Faults.{spot_of, spots_of}
use Rattle.layout_text.proofs.Tuples.{spots_none, spots_more}
use Rattle.layout_text.proofs.build.build.Goals as goal

pub loop-i-init : goal.loop-i-init
loop-i-init c = c.new-layout.ensures ∙ sym (spots_none c.args.problem.now c.args.problem.now.objects)

pub loop-i-preserved : goal.loop-i-preserved
loop-i-preserved c =
    let p : ProblemData = c.args.problem.now in
    let ls : List LineTree = map line_view c.args.lines.now in
    let o : ObjectData = c.index-objects-i.result in
    let l : LineTree = line_view c.index-lines-i.result in
    let few : c.loop-i.i < length p.objects = (let lt : c.loop-i.i < length c.args.lines.now = c.loop-i-test.true in omega (arith, c.requires.lines)) in
    let object : o ≡ get_or p.objects c.loop-i.i o = c.index-objects-i.is ∙ ap (λ (os : List ObjectData). get_or os c.loop-i.i o) c.objects.ensures in
    let line : l ≡ get_or ls c.loop-i.i l = stands line_view c.args.lines.now c.loop-i.i c.index-lines-i.result c.loop-i-test.true c.index-lines-i.is in
    c.in_ok-put.ensures ∙ ap (λ (t : Tuple). t ++ spot_of p o l ∷ []) c.loop-i.invariant
    ∙ ap (λ (s : Spot). spots_of p p.objects (take c.loop-i.i ls) ++ s ∷ []) (ap (λ (a : ObjectData). spot_of p a l) object ∙ ap (λ (b : LineTree). spot_of p (get_or p.objects c.loop-i.i o) b) line)
    ∙ sym (spots_more p p.objects ls c.loop-i.i o l few (inside line_view c.args.lines.now c.loop-i.i c.index-lines-i.result c.loop-i-test.true c.index-lines-i.is))
