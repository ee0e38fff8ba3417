use Rattle.std.proofs.Common.{sym, ◌∙◌, rules}
use Rattle.object_pruning.proofs.Supports.{kept_can_be}
use Rattle.object_pruning.proofs.kept.is_kept_there.Goals as goal

pub returns-then-has_coordinate : goal.returns-then-has_coordinate
returns-then-has_coordinate g c = λ t cs all.
    let q = c.in-Some.q in
    let is = c.is_there.ensures in (
      q.place,
      q.point.coordinates,
      kept_can_be cs c.args.s.now c.args.o.0 c.args.kept.now c.args.slot q (sym c.kept_in.ensures ∙ c.in-Some.is) (is.place t) (is.point t) all,
      search (rules, c.has_coordinate.ensures c.if-has_coordinate.true),
    )
