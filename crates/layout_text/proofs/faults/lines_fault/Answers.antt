use Rattle.std.proofs.Common.{ℕ, length, subst, sym}
use Rattle.std.specs.Prelude.{slice_get}
use Rattle.problem_data.specs.Least.{IsLeast}
use Rattle.problem_data.proofs.InLists.{among_none, more_view, all_view, before_length}
use Rattle.layout_text.specs.View.{line_view}
use Rattle.layout_text.specs.Faults.{LineFault}
use Rattle.layout_text.proofs.faults.lines_fault.Goals as goal

pub loop-i-init : goal.loop-i-init
loop-i-init c = among_none (λ before. LineFault c.args.problem.now (slice_get c.args.problem.now.objects (length before)))

pub loop-i-preserved : goal.loop-i-preserved
loop-i-preserved c =
    more_view line_view c.args.lines.now c.loop-i.i (λ before. LineFault c.args.problem.now (slice_get c.args.problem.now.objects (length before))) c.index-lines-i.result _ _ _ c.loop-i-test.true c.index-lines-i.is c.earlier-found.ensures c.loop-i.invariant
    (subst (λ (n : ℕ). IsLeast (LineFault c.args.problem.now (slice_get c.args.problem.now.objects n) (line_view c.index-lines-i.result)) c.line_fault-here.result) (sym (before_length line_view c.args.lines.now c.loop-i.i c.loop-i-test.true)) c.line_fault-here.ensures)

pub returns : goal.returns
returns c = all_view line_view c.args.lines.now c.loop-i.i (λ before. LineFault c.args.problem.now (slice_get c.args.problem.now.objects (length before))) _ c.loop-i-test.false c.loop-i.invariant
