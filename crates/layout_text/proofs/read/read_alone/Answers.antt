use Rattle.std.proofs.Common.{◌≡◌, ℕ, List, length, map, Result, Ok, Err, sym, ap, ◌∙◌, subst, arith}
use Rattle.std.specs.Result.{IsErrAnd}
use Rattle.std.proofs.lemmas.List.{length-map}
use Rattle.geo_conditions.specs.declared.layout.Layout.{Layout}
use Rattle.geo_tokens.specs.declared.token.Token.{Token}
use Rattle.geo_tokens.specs.declared.fault.TextFault.{TextFault}
use Rattle.geo_tokens.specs.Cut.{IsTokens}
use Rattle.problem_data.specs.Problem.{ProblemData}
use Rattle.problem_data.specs.declared.fault.Fault.{Fault}
use Rattle.problem_data.specs.Least.{IsLeast}
use Rattle.layout_text.specs.declared.tree.LineText.{LineText}
use Rattle.layout_text.specs.View.{line_view, layout_view}
use Rattle.layout_text.specs.Faults.{tuple_of, IsFault}
use Rattle.layout_text.proofs.Tuples.{as_many}
use Rattle.layout_text.proofs.Answered.{Answer, too_long, not_cut, not_spelled, at_fault, accepted}
use Rattle.layout_text.proofs.read.read_alone.Goals as goal

-- what `?` passed on
passed : (p : ProblemData) (text : List ℕ) (r : Result Layout TextFault) (e : TextFault) → IsErrAnd r (λ f. f ≡ e) → Answer (Err e) p text → Answer r p text
passed p text (Ok t) e h a = absurd h
passed p text (Err f) e h a = subst (λ (x : TextFault). Answer (Err x) p text) (sym h) a

-- the tokens, by another name
module _ (text : List ℕ) (list list1 : List Token) (same : list1 ≡ list) (cuts : IsTokens text list) where
  stands : IsTokens text list1
  stands = subst (λ (us : List Token). IsTokens text us) (sym same) cuts

  one_of : ((us : List Token) → IsTokens text us → us ≡ list) → (us : List Token) → IsTokens text us → us ≡ list1
  one_of only us h = only us h ∙ sym same

pub returns-then-text-gt-MOST_BYTES-clause-answer : goal.returns-then-text-gt-MOST_BYTES-clause-answer
returns-then-text-gt-MOST_BYTES-clause-answer c = (too_long c.args.problem.now c.args.text.now c.if-text-gt-MOST_BYTES.true).answer

pub returns-in_err-list-clause-only : goal.returns-in_err-list-clause-only
returns-in_err-list-clause-only c =
    (passed c.args.problem.now c.args.text.now c.from_residual.result c.in_err-list.field-0.0 c.from_residual.ensures.1 (not_cut c.args.problem.now c.args.text.now c.if-text-gt-MOST_BYTES.false c.in_err-list.field-0.0 c.in_err-list.ensures.value c.in_err-list.ensures.only)).only

pub returns-in_err-said-clause-answer : goal.returns-in_err-said-clause-answer
returns-in_err-said-clause-answer c =
    (passed c.args.problem.now c.args.text.now c.from_residual-in_err-said.result c.in_err-said.field-0.0 c.from_residual-in_err-said.ensures.1
    (not_spelled c.args.problem.now c.args.text.now c.if-text-gt-MOST_BYTES.false c.as_slice.result.now
    (stands c.args.text.now c.in_ok-list.list.items c.as_slice.result.now c.as_slice.ensures.value c.in_ok-list.ensures.value)
    (one_of c.args.text.now c.in_ok-list.list.items c.as_slice.result.now c.as_slice.ensures.value c.in_ok-list.ensures.value c.in_ok-list.ensures.only.0)
    c.in_ok-list.ensures.only.1 c.in_err-said.field-0.0 c.in_err-said.ensures.answer c.in_err-said.ensures.only)).answer

pub returns-in_err-said-clause-only : goal.returns-in_err-said-clause-only
returns-in_err-said-clause-only c =
    (passed c.args.problem.now c.args.text.now c.from_residual-in_err-said.result c.in_err-said.field-0.0 c.from_residual-in_err-said.ensures.1
    (not_spelled c.args.problem.now c.args.text.now c.if-text-gt-MOST_BYTES.false c.as_slice.result.now
    (stands c.args.text.now c.in_ok-list.list.items c.as_slice.result.now c.as_slice.ensures.value c.in_ok-list.ensures.value)
    (one_of c.args.text.now c.in_ok-list.list.items c.as_slice.result.now c.as_slice.ensures.value c.in_ok-list.ensures.value c.in_ok-list.ensures.only.0)
    c.in_ok-list.ensures.only.1 c.in_err-said.field-0.0 c.in_err-said.ensures.answer c.in_err-said.ensures.only)).only

pub returns-in-Some-clause-answer : goal.returns-in-Some-clause-answer
returns-in-Some-clause-answer c =
    (at_fault c.args.problem.now c.args.text.now c.if-text-gt-MOST_BYTES.false c.as_slice.result.now
    (stands c.args.text.now c.in_ok-list.list.items c.as_slice.result.now c.as_slice.ensures.value c.in_ok-list.ensures.value)
    (one_of c.args.text.now c.in_ok-list.list.items c.as_slice.result.now c.as_slice.ensures.value c.in_ok-list.ensures.value c.in_ok-list.ensures.only.0)
    c.in_ok-list.ensures.only.1 (layout_view c.in_ok-said.said) c.in_ok-said.ensures.answer c.in_ok-said.ensures.only.0 c.in_ok-said.ensures.only.1 c.in-Some.fault
    (subst (λ o. IsLeast (IsFault c.args.problem.now (length c.args.text.now) (layout_view c.in_ok-said.said)) o) c.in-Some.is c.first_fault.ensures)).answer

pub returns-in-Some-clause-only : goal.returns-in-Some-clause-only
returns-in-Some-clause-only c =
    (at_fault c.args.problem.now c.args.text.now c.if-text-gt-MOST_BYTES.false c.as_slice.result.now
    (stands c.args.text.now c.in_ok-list.list.items c.as_slice.result.now c.as_slice.ensures.value c.in_ok-list.ensures.value)
    (one_of c.args.text.now c.in_ok-list.list.items c.as_slice.result.now c.as_slice.ensures.value c.in_ok-list.ensures.value c.in_ok-list.ensures.only.0)
    c.in_ok-list.ensures.only.1 (layout_view c.in_ok-said.said) c.in_ok-said.ensures.answer c.in_ok-said.ensures.only.0 c.in_ok-said.ensures.only.1 c.in-Some.fault
    (subst (λ o. IsLeast (IsFault c.args.problem.now (length c.args.text.now) (layout_view c.in_ok-said.said)) o) c.in-Some.is c.first_fault.ensures)).only

pub build-requires : goal.build-requires
build-requires c =
    let right : (f : Fault) → IsFault c.args.problem.now (length c.args.text.now) (layout_view c.in_ok-said.said) f → ⊥ = subst (λ o. IsLeast (IsFault c.args.problem.now (length c.args.text.now) (layout_view c.in_ok-said.said)) o) c.in-None.is c.first_fault.ensures in
    let many : length (map line_view c.in_ok-said.said.lines.items) ≡ length c.args.problem.now.objects = as_many c.args.problem.now (length c.args.text.now) (layout_view c.in_ok-said.said) right in
    let size : length c.as_slice-in-None.result.now ≡ length c.in_ok-said.said.lines.items = ap length c.as_slice-in-None.ensures.value in
    let n = length-map c.in_ok-said.said.lines.items line_view in
    omega arith

pub returns : goal.returns
returns c =
    let a : Answer (Ok c.in_ok-build-in-None.field-0) c.args.problem.now c.args.text.now =
    accepted c.args.problem.now c.args.text.now c.if-text-gt-MOST_BYTES.false c.as_slice.result.now
    (stands c.args.text.now c.in_ok-list.list.items c.as_slice.result.now c.as_slice.ensures.value c.in_ok-list.ensures.value)
    (one_of c.args.text.now c.in_ok-list.list.items c.as_slice.result.now c.as_slice.ensures.value c.in_ok-list.ensures.value c.in_ok-list.ensures.only.0)
    c.in_ok-list.ensures.only.1 (layout_view c.in_ok-said.said) c.in_ok-said.ensures.answer c.in_ok-said.ensures.only.0 c.in_ok-said.ensures.only.1 c.in_ok-build-in-None.field-0
    (subst (λ o. IsLeast (IsFault c.args.problem.now (length c.args.text.now) (layout_view c.in_ok-said.said)) o) c.in-None.is c.first_fault.ensures)
    (c.in_ok-build-in-None.ensures ∙ ap (λ (ls : List LineText). tuple_of c.args.problem.now (map line_view ls)) c.as_slice-in-None.ensures.value) in
    record { answer = a.answer; only = a.only }
