use Rattle.std.proofs.Common.{◌≡◌, ◌<◌, ◌≤◌, List, take, map, length, get_or, ap, ◌∙◌, subst}
use Rattle.problem_data.specs.declared.tree.BoxText.{BoxText}
use Rattle.problem_data.specs.View.{box_view}
use Rattle.problem_data.specs.Faults.{BoxFault}
use Rattle.problem_data.proofs.InLists.{among_none, more_view, all_view, before_length}
use Rattle.statement_faults.proofs.shapes.shape_fault.Goals as goal

pub loop-i-init : goal.loop-i-init
loop-i-init c = among_none (BoxFault c.args.k)

pub loop-i-preserved : goal.loop-i-preserved
loop-i-preserved c =
    let same = c.deref-part-items.ensures.value in
    let lt : c.loop-i.i < length c.args.shape.now.boxes.items = subst (λ (bs : List BoxText). c.loop-i.i < length bs) same c.loop-i-test.true in
    let item : c.part-item.result ≡ get_or c.args.shape.now.boxes.items c.loop-i.i c.part-item.result = c.part-item.is ∙ ap (λ (bs : List BoxText). get_or bs c.loop-i.i c.part-item.result) same in
    more_view box_view c.args.shape.now.boxes.items c.loop-i.i (BoxFault c.args.k) c.part-item.result _ _ _ lt item c.earlier-found.ensures c.loop-i.invariant
    (c.box_fault-here.ensures (take c.loop-i.i (map box_view c.args.shape.now.boxes.items)) (before_length box_view c.args.shape.now.boxes.items c.loop-i.i lt))

pub returns : goal.returns
returns c =
    let le : length c.args.shape.now.boxes.items ≤ c.loop-i.i = subst (λ (bs : List BoxText). length bs ≤ c.loop-i.i) c.deref-part-items.ensures.value c.loop-i-test.false in
    all_view box_view c.args.shape.now.boxes.items c.loop-i.i (BoxFault c.args.k) _ le c.loop-i.invariant
