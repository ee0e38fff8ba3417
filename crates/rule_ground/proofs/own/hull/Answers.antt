use Rattle.std.proofs.Common.{◌<◌, List, [], get_or, sym, ap, ◌∙◌, subst}
use Rattle.problem_data.specs.Problem.{RangeData, ObjectData}
use Rattle.problem_data.specs.Pieces.{pieces_at}
use Rattle.problem_data.specs.WellFormed.{IsObject, IsRange}
use Rattle.problem_data.proofs.Hulls.{hull_is_range}
use Rattle.rule_ground.proofs.Starts.{object-at}
use Rattle.rule_ground.proofs.own.hull.Goals as goal

pub returns-clause-range : goal.returns-clause-range
returns-clause-range c =
    let o : ObjectData = c.index-objects-o.result in
    let i : IsObject c.args.problem.now o = object-at c.args.problem.now c.args.o.0 o c.is_said.ensures.formed
    (c.index-objects-o.is ∙ ap (λ (os : List ObjectData). get_or os c.args.o.0 o) c.objects.ensures) c.requires.o in
    subst (λ (r : RangeData). IsRange r) (sym c.hull.ensures)
    (hull_is_range (pieces_at o c.args.d) (i.pieces c.args.d [] (subst (λ n. c.args.d < n) (sym i.dimensions) c.requires.d)))
