use Rattle.std.proofs.Common.{◌≡◌, ◌+◌, ℕ, List, [], length, sym, ap, ◌∙◌, subst, arith}
use Rattle.std.proofs.lemmas.List.{get_or_default}
use Rattle.geo_base.specs.Tuple.{spot}
use Rattle.problem_data.specs.Cells.{box_at}
use Rattle.problem_data.specs.Problem.{BoxData, ProblemData}
use Rattle.problem_data.specs.Tuple.{Tuple, boxes_in}
use Rattle.layout_drawing.specs.declared.blocks.Block.{Block}
use Rattle.layout_drawing.specs.Blocks.{IsBlockOf}
use Rattle.layout_drawing.proofs.Owned.{Added, added_more, added_all}
use Rattle.layout_drawing.proofs.blocks.push_blocks.Goals as goal

pub loop-part-preserved : goal.loop-part-preserved
loop-part-preserved c =
    let p : ProblemData = c.args.problem.now in
    let t : Tuple = c.args.layout.now in
    let o : ℕ = c.args.o.0 in
    let n : ℕ = c.loop-part.part-index in
    let a : BoxData = c.part-item.result in
    let dims : length (spot t o).origin ≡ p.dims = (c.requires.layout.each o c.requires.object).dimensions in
    let box : a ≡ box_at (boxes_in p t o) n =
    c.part-item.is ∙ get_or_default c.boxes-parts.result.now n a (record { offsets = []; sizes = [] }) c.loop-part-test.true ∙ ap (λ (bs : List BoxData). box_at bs n) c.boxes-parts.ensures.same in
    let is : IsBlockOf p.dims (box_at (boxes_in p t o) n) (spot t o).origin o c.in_ok-block_of.field-0 =
    subst (λ (x : BoxData). IsBlockOf p.dims x (spot t o).origin o c.in_ok-block_of.field-0) box (subst (λ (k : ℕ). IsBlockOf k a (spot t o).origin o c.in_ok-block_of.field-0) dims c.in_ok-block_of.ensures) in
    subst (λ (bs : List Block). Added p t o (n + 1) c.args.into.now.items bs) (sym c.in_ok-push.ensures.items) (added_more p t o n c.args.into.now.items c.loop-part.into.items c.in_ok-block_of.field-0 c.loop-part.invariant is)

pub returns : goal.returns
returns c =
    let p : ProblemData = c.args.problem.now in
    let t : Tuple = c.args.layout.now in
    let o : ℕ = c.args.o.0 in
    let e : c.loop-part.part-index ≡ length c.boxes-parts.result.now = omega arith in
    let all : c.loop-part.part-index ≡ length (boxes_in p t o) = e ∙ ap length c.boxes-parts.ensures.same in
    added_all p t o c.args.into.now.items c.loop-part.into.items (subst (λ (n : ℕ). Added p t o n c.args.into.now.items c.loop-part.into.items) all c.loop-part.invariant)
