use Rattle.std.proofs.Common.{List, map, sym, subst}
use Rattle.std.specs.Bool.{OnTrue, OnFalse}
use Rattle.problem_data.specs.declared.problem.RangeDef.{RangeDef}
use Rattle.problem_data.specs.ProblemView.{range_data}
use Rattle.problem_data.specs.Cells.{IsWithin}
use Rattle.rule_expand.specs.declared.plain.PlainBody.{PlainBody}
use Rattle.rule_expand.specs.Rules.{body_data}
use Rattle.geo_meaning.specs.Judged.{PlainHolds}
use Rattle.geo_meaning.proofs.judging.rule_holds.Goals as goal

pub returns-in-Within-clause-yes : goal.returns-in-Within-clause-yes
returns-in-Within-clause-yes c =
    subst (λ (b : PlainBody). OnTrue c.all_within.result (PlainHolds c.args.problem.now c.args.layout.now (body_data b))) (sym c.in-Within.is)
    (subst (λ (rs : List RangeDef). OnTrue c.all_within.result (IsWithin c.args.problem.now (map range_data rs) c.args.layout.now)) c.deref.ensures.value c.all_within.ensures.yes)

pub returns-in-Within-clause-no : goal.returns-in-Within-clause-no
returns-in-Within-clause-no c =
    subst (λ (b : PlainBody). OnFalse c.all_within.result (PlainHolds c.args.problem.now c.args.layout.now (body_data b) → ⊥)) (sym c.in-Within.is)
    (subst (λ (rs : List RangeDef). OnFalse c.all_within.result (IsWithin c.args.problem.now (map range_data rs) c.args.layout.now → ⊥)) c.deref.ensures.value c.all_within.ensures.no)
