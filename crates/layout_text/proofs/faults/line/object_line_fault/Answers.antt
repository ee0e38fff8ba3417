use Rattle.problem_data.proofs.Firsts.{joined}
use Rattle.layout_text.specs.Tree.{LineTree}
use Rattle.layout_text.specs.View.{line_view}
use Rattle.layout_text.specs.Faults.{NameFault, PutFault}
use Rattle.layout_text.proofs.faults.line.object_line_fault.Goals as goal

pub returns : goal.returns
returns c =
    let l : LineTree = line_view c.args.line.now in
    joined (NameFault c.args.object.now l) (PutFault c.args.problem.now c.args.object.now l.put) _ _ _ c.earlier.ensures c.name_fault-name.ensures c.put_fault-put.ensures
