use Rattle.std.proofs.Common.{ℕ, List, map, get_or, sym, subst, None, false}
use Rattle.std.proofs.lemmas.Option.{slice_get-get_or}
use Rattle.object_pruning.specs.declared.rows.Group.{Group}
use Rattle.object_pruning.specs.declared.rows.Run.{Run}
use Rattle.object_pruning.specs.Runs.{IsRun}
use Rattle.object_pruning.proofs.RunPicks.{run_fits}
use Rattle.object_pruning.proofs.gathering.run_at.Goals as goal

-- what stands in place of a run that is not there
abbrev none : Run
none = record { other = None; asks = false; first = 0; end = 0 }

at_its_start : (gs : List Group) (from : ℕ) (run : Run) → IsRun gs from run → IsRun gs run.first run
at_its_start gs from run is = subst (λ (n : ℕ). IsRun gs n run) (sym is.first) is

pub returns-clause-at : goal.returns-clause-at
returns-clause-at g c = slice_get-get_or c.args.runs.now c.args.j none c.requires.j

pub returns-clause-run : goal.returns-clause-run
returns-clause-run g c = at_its_start _ _ _ (c.requires.runs.each c.args.j (get_or c.args.runs.now c.args.j none) (slice_get-get_or c.args.runs.now c.args.j none c.requires.j))

pub returns-clause-other : goal.returns-clause-other
returns-clause-other g c =
    run_fits (map g.I.Indexical.cond c.args.list.now) c.args.s.now c.args.o.0 c.requires.fits c.requires.object c.args.groups.now c.requires.groups (get_or c.args.runs.now c.args.j none)
    (at_its_start _ _ _ (c.requires.runs.each c.args.j (get_or c.args.runs.now c.args.j none) (slice_get-get_or c.args.runs.now c.args.j none c.requires.j)))
