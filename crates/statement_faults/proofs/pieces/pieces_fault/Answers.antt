use Rattle.std.proofs.Common.{pos}
use Rattle.problem_data.specs.Faults.{PieceFault}
use Rattle.problem_data.proofs.InLists.{more, among_all}
use Rattle.statement_faults.proofs.pieces.pieces_fault.Goals as goal

pub loop-i-preserved : goal.loop-i-preserved
loop-i-preserved c =
    more PieceFault c.args.pieces.now c.loop-i.i (record { low = record { place = 0; value = pos 0 }; high = record { place = 0; value = pos 0 } }) _ _ _ c.loop-i-test.true c.earlier-found.ensures c.loop-i.invariant c.piece_fault-here.ensures

pub returns : goal.returns
returns c = among_all PieceFault c.args.pieces.now c.loop-i.i _ c.loop-i-test.false c.loop-i.invariant
