use Rattle.std.proofs.Common.{map, sym, subst}
use Rattle.sweep.specs.Picks.{PicksAt}
use Rattle.sweep.proofs.PickedConditions.{picks-map, fits_at}
use Rattle.sweep.proofs.ask.condition_of.Goals as goal
use Rattle.sweep.proofs.ask.condition_of.Goals.{After-index-list-picks}

-- the condition is the one that the pick names
named : (g : _) (c : After-index-list-picks g) → PicksAt (map g.I.Indexical.cond c.args.list.now) c.args.picks.now c.args.k (g.I.Indexical.cond c.index-list-picks.result)
named g c = subst (λ (y : _). PicksAt (map g.I.Indexical.cond c.args.list.now) c.args.picks.now c.args.k (g.I.Indexical.cond y)) (sym c.index-list-picks.is)
    (picks-map g.I.Indexical.cond c.args.list.now c.args.picks.now c.args.k c.index-list-picks.result c.requires.picks c.requires.k)

pub returns-clause-pick : goal.returns-clause-pick
returns-clause-pick g c = named g c

pub returns-clause-fits : goal.returns-clause-fits
returns-clause-fits g c = fits_at (map g.I.Indexical.cond c.args.list.now) c.args.s.now c.args.picks.now c.args.k (g.I.Indexical.cond c.index-list-picks.result) c.requires.fits (named g c)
