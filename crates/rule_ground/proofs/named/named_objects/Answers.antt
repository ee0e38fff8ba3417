use Rattle.std.proofs.Common.{◌∙◌, ◌++◌, ap, sym}
use Rattle.std.specs.Prelude.{if◌then◌else◌, [], ◌∷◌}
use Rattle.rule_expand.specs.PlainView.{plain_formula_view}
use Rattle.rule_expand.specs.declared.plain.Subject.TheVariants as subjects
use Rattle.rule_ground.specs.Grounding.{needs}
use Rattle.rule_ground.proofs.Lists.{filter-more}
use Rattle.rule_ground.proofs.named.named_objects.Goals as goal

pub loop-o-preserved : goal.loop-o-preserved
loop-o-preserved c =
    c.in_ok-push_named.ensures ∙ ap (λ l. l ++ (if c.needs.result then c.loop-o.o ∷ [] else [])) c.loop-o.invariant
    ∙ sym (filter-more (λ u. needs (subjects.Object u) (plain_formula_view c.args.f.now)) c.loop-o.o c.needs.result (sym c.needs.ensures))
