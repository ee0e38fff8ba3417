use Rattle.std.proofs.Common.{map}
use Rattle.indexical.specs.declared.any.AnyIndexical.{AnyIndexical}
use Rattle.watches.proofs.Holding.{hold_noted}
use Rattle.watches.proofs.watches.Watches.find.Goals as goal

pub returns-clause-hold : goal.returns-clause-hold
returns-clause-hold g c = hold_noted (map (λ (x : AnyIndexical g.row.K). x.cond) c.args.list.now) c.args.s.now c.loop.self c.note.new.self c.loop.invariant c.note.ensures
