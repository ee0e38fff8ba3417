use Rattle.std.proofs.Common.{List, map, sym, subst}
use Rattle.sweep.proofs.PickedConditions.{mapped_picks}
use Rattle.object_pruning.specs.declared.rows.Group.{Group}
use Rattle.object_pruning.specs.Runs.{AreRuns}
use Rattle.object_pruning.proofs.LivePicks.{rows_some}
use Rattle.object_pruning.proofs.gathering.row_at.Goals as goal

pub returns-clause-groups : goal.returns-clause-groups
returns-clause-groups g c = rows_some (map g.I.Indexical.cond c.args.list.now) c.args.s.now c.args.o.0 c.requires.fits c.requires.object c.args.picks.now c.args.rows.now c.requires.rows (mapped_picks g.I.Indexical.cond c.args.list.now c.args.picks.now c.requires.picks) c.args.r c.row.result.now c.row.ensures

pub returns-clause-runs : goal.returns-clause-runs
returns-clause-runs g c = subst (λ (gs : List Group). AreRuns gs c.runs.result.now) (sym c.row.ensures) c.runs.ensures
