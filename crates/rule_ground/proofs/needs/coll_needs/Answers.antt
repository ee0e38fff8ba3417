use Rattle.std.proofs.Common.{◌∙◌, sym, ap}
use Rattle.rule_expand.specs.PlainView.{plain_coll_view}
use Rattle.rule_expand.specs.declared.plain.PlainColl.{PlainColl}
use Rattle.rule_ground.specs.Grounding.{coll_needs}
use Rattle.rule_ground.proofs.needs.coll_needs.Goals as goal

pub returns-in-BoxesOf : goal.returns-in-BoxesOf
returns-in-BoxesOf c = c.same_subject.ensures ∙ sym (ap (λ (q : PlainColl). coll_needs c.args.s (plain_coll_view q)) c.in-BoxesOf.is)
