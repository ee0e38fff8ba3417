use Rattle.std.proofs.Common.{◌≡◌, ◌++◌, ◌∷◌, [], FitsSigned, List, ℤ, get_or, map, pos, rules, ap, subst, sym, ◌∙◌, of_z, to_z, to_z-of_z}
use Rattle.std.specs.Prelude.{IfOk}
use Rattle.std.specs.Int.{w64}
use Rattle.std.proofs.lemmas.List.{map-append, take_all, take_more}
use Rattle.geo_conditions.specs.Form.{IsForm, Sum}
use Rattle.geo_conditions.specs.Terms.{term_of}
use Rattle.geo_conditions.specs.declared.form.Term.{Term}
use Rattle.rule_ground.proofs.flat.copied_form.Goals as goal

-- the term that the program reads where there is none
abbrev none : Term
none = record { object = record { 0 = 0 }; dimension = 0; factor = pos 0 }

pub loop-term-preserved : goal.loop-term-preserved
loop-term-preserved c =
    let all = c.terms-term-items.result.now in
    let i = c.loop-term.term-index in
    let t : Term = get_or all i none in
    let factor : to_z w64 (of_z w64 t.factor) ≡ t.factor = search rules in
    ap (map term_of) c.in_ok-push.ensures.ok ∙ map-append term_of c.loop-term.terms.items (_ ∷ [])
    ∙ (λ j. c.loop-term.invariant j ++ record { object = t.object; dimension = t.dimension; factor = factor j } ∷ []) ∙ sym (take_more all i none c.loop-term-test.true)

pub new-requires : goal.new-requires
new-requires c =
    let fits : FitsSigned w64 c.constant.result = record { sfits = c.constant.type_inv } in
    let terms : map term_of c.as_slice.result.now ≡ c.args.f.now.terms =
    ap (map term_of) c.as_slice.ensures ∙ c.loop-term.invariant
    ∙ take_all c.loop-term.term-index c.terms-term-items.result.now c.loop-term-test.false ∙ c.terms-term-items.ensures.value in
    subst (λ (z : ℤ). IsForm (map term_of c.as_slice.result.now) z) (sym (to_z-of_z fits ∙ c.constant.ensures))
    (subst (λ (ts : List Term). IsForm ts c.args.f.now.constant) (sym terms) c.terms-term-items.ensures.form)

pub returns : goal.returns
returns c =
    let fits : FitsSigned w64 c.constant.result = record { sfits = c.constant.type_inv } in
    let terms : map term_of c.as_slice.result.now ≡ c.args.f.now.terms =
    ap (map term_of) c.as_slice.ensures ∙ c.loop-term.invariant
    ∙ take_all c.loop-term.term-index c.terms-term-items.result.now c.loop-term-test.false ∙ c.terms-term-items.ensures.value in
    let constant : to_z w64 (of_z w64 c.constant.result) ≡ c.args.f.now.constant = to_z-of_z fits ∙ c.constant.ensures in
    subst (λ (f : Sum). IfOk c.new.result (λ g. g ≡ f)) (λ i. record { terms = terms i; constant = constant i }) c.new.ensures
