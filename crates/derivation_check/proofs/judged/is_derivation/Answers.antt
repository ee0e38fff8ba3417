use Rattle.std.proofs.Common.{ℕ, List, length, subst}
use Rattle.std.specs.List.{All}
use Rattle.derivation.specs.declared.event.Event.{Event}
use Rattle.derivation.specs.Fits.{EventFits}
use Rattle.derivation_check.specs.Trees.{IsOneTree}
use Rattle.derivation_check.proofs.Answered.{yes_where_valid}
use Rattle.derivation_check.proofs.judged.is_derivation.Goals as goal

pub returns : goal.returns
returns g c =
    let S = c.args.first.now in
    let some = c.events-events.result.now in
    yes_where_valid g.row.K c.args.conditions.now S c.args.log.now.events c.in_ok-answer.answer
    (subst (λ (es : List Event). All (EventFits (length S) g.row.K) es) c.events-events.ensures
    (subst (λ (n : ℕ). All (EventFits n g.row.K) some) c.objects.ensures.number (c.all_fit.ensures.0 c.if-not-all_fit.false)))
    (subst IsOneTree c.events-events.ensures (c.in_ok-is_one_tree.ensures.0 c.if-not-branch.false))
    c.in_ok-answer.ensures.judges c.is_yes.result c.is_yes.ensures
