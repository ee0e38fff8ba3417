use Rattle.std.proofs.Common.{◌≡◌, ℕ, List, map, Ok, Err, false, true, sym, ap, ◌∙◌, subst}
use Rattle.std.proofs.lemmas.Bool.{false≢true}
use Rattle.problem_data.specs.Cells.{IsTuple}
use Rattle.problem_data.specs.Problem.{ProblemData}
use Rattle.problem_data.specs.Tuple.{Tuple}
use Rattle.layout_text.specs.declared.tree.GroupText.{GroupText}
use Rattle.layout_text.specs.Tree.{GroupTree}
use Rattle.layout_text.specs.Token.{IsTokenOf, AnswersToken, tuple_in}
use Rattle.layout_text.specs.View.{group_view, group_views}
use Rattle.layout_text.proofs.TokenRead.{no_groups, passed_on, no_tuple, other_token, read_as}
use Rattle.layout_text.proofs.token.read_token.Goals as goal

-- the tuple, by another name of the groups
tuple_as : (gs hs : List GroupText) → gs ≡ hs → tuple_in (map group_view gs) ≡ tuple_in (map group_view hs)
tuple_as gs hs e = ap (λ (xs : List GroupText). tuple_in (map group_view xs)) e

pub returns-in_err-groups-clause-answer : goal.returns-in_err-groups-clause-answer
returns-in_err-groups-clause-answer c =
    passed_on c.args.problem.now c.is_said.ensures.formed c.is_said.ensures.said c.args.word.now c.from_residual.result c.in_err-groups.field-0.0 c.from_residual.ensures.1
    (no_groups c.args.problem.now c.is_said.ensures.formed c.is_said.ensures.said c.args.word.now c.in_err-groups.field-0.0 c.in_err-groups.ensures)

pub returns-in_err-groups-clause-printed : goal.returns-in_err-groups-clause-printed
returns-in_err-groups-clause-printed c =
    read_as c.args.problem.now c.is_said.ensures.formed c.is_said.ensures.said c.args.word.now c.from_residual.result
    (passed_on c.args.problem.now c.is_said.ensures.formed c.is_said.ensures.said c.args.word.now c.from_residual.result c.in_err-groups.field-0.0 c.from_residual.ensures.1
    (no_groups c.args.problem.now c.is_said.ensures.formed c.is_said.ensures.said c.args.word.now c.in_err-groups.field-0.0 c.in_err-groups.ensures))

pub returns-then-not-give_tuple-clause-answer : goal.returns-then-not-give_tuple-clause-answer
returns-then-not-give_tuple-clause-answer c =
    no_tuple c.args.problem.now c.is_said.ensures.formed c.is_said.ensures.said c.args.word.now (group_views c.in_ok-groups.groups) c.in_ok-groups.ensures
    (λ h. false≢true (sym c.if-not-give_tuple.true ∙ c.give_tuple.ensures.1 (subst (IsTuple c.args.problem.now) (sym (tuple_as c.as_slice.result.now c.in_ok-groups.groups.items c.as_slice.ensures.value)) h)))

pub returns-then-not-give_tuple-clause-printed : goal.returns-then-not-give_tuple-clause-printed
returns-then-not-give_tuple-clause-printed c =
    no_tuple c.args.problem.now c.is_said.ensures.formed c.is_said.ensures.said c.args.word.now (group_views c.in_ok-groups.groups) c.in_ok-groups.ensures
    (λ h. false≢true (sym c.if-not-give_tuple.true ∙ c.give_tuple.ensures.1 (subst (IsTuple c.args.problem.now) (sym (tuple_as c.as_slice.result.now c.in_ok-groups.groups.items c.as_slice.ensures.value)) h)))

pub returns-then-not-branch-clause-answer : goal.returns-then-not-branch-clause-answer
returns-then-not-branch-clause-answer c =
    other_token c.args.problem.now c.is_said.ensures.formed c.is_said.ensures.said c.args.word.now (group_views c.in_ok-groups.groups) c.in_ok-groups.ensures c.in_ok-layout.layout
    (c.in_ok-layout.ensures ∙ tuple_as c.as_slice-2.result.now c.in_ok-groups.groups.items c.as_slice-2.ensures.value)
    (λ h. false≢true (sym c.if-not-branch.true ∙ c.in_ok-is_token.ensures.1 h))

pub returns-then-not-branch-clause-printed : goal.returns-then-not-branch-clause-printed
returns-then-not-branch-clause-printed c =
    other_token c.args.problem.now c.is_said.ensures.formed c.is_said.ensures.said c.args.word.now (group_views c.in_ok-groups.groups) c.in_ok-groups.ensures c.in_ok-layout.layout
    (c.in_ok-layout.ensures ∙ tuple_as c.as_slice-2.result.now c.in_ok-groups.groups.items c.as_slice-2.ensures.value)
    (λ h. false≢true (sym c.if-not-branch.true ∙ c.in_ok-is_token.ensures.1 h))

pub returns-clause-printed : goal.returns-clause-printed
returns-clause-printed c =
    let same : c.in_ok-layout.layout ≡ tuple_in (map group_view c.as_slice.result.now) =
    c.in_ok-layout.ensures ∙ tuple_as c.as_slice-2.result.now c.in_ok-groups.groups.items c.as_slice-2.ensures.value ∙ sym (tuple_as c.as_slice.result.now c.in_ok-groups.groups.items c.as_slice.ensures.value) in
    read_as c.args.problem.now c.is_said.ensures.formed c.is_said.ensures.said c.args.word.now (Ok c.in_ok-layout.layout)
    (record {
      tuple = subst (IsTuple c.args.problem.now) (sym same) (c.give_tuple.ensures.0 c.if-not-give_tuple.false);
      spelled = c.in_ok-is_token.ensures.0 c.if-not-branch.false;
    })
