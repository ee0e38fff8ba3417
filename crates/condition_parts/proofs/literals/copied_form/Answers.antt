use Rattle.std.proofs.Common.{◌≡◌, ◌≤◌, ◌∙◌, ℕ, ℤ, List, length, map, take, sym, ap, subst}
use Rattle.std.specs.Prelude.{IfOk}
use Rattle.std.proofs.lemmas.List.{take_all}
use Rattle.geo_conditions.specs.Form.{IsForm}
use Rattle.geo_conditions.specs.Terms.{term_of}
use Rattle.geo_conditions.specs.declared.object.ObjId.{ObjId}
use Rattle.geo_conditions.specs.declared.form.Form.{Form}
use Rattle.geo_conditions.specs.declared.form.Term.{Term}
use Rattle.geo_state.proofs.Numbers.{kept64}
use Rattle.condition_parts.proofs.literals.copied_form.Goals as goal

-- once all terms were passed, they are those of the form
all_terms : (given list : List (ObjId × ℕ × ℤ)) (items terms : List Term) (n : ℕ) → given ≡ list → map term_of list ≡ take n items → length items ≤ n → items ≡ terms → map term_of given ≡ terms
all_terms given list items terms n is passed past same = ap (map term_of) is ∙ passed ∙ take_all n items past ∙ same

-- what has the terms and the constant of a form is one
form_again : (given terms : List Term) (v constant : ℤ) → IsForm terms constant → given ≡ terms → v ≡ constant → IsForm given v
form_again given terms v constant form a b = subst (λ (xs : List Term). IsForm xs v) (sym a) (subst (IsForm terms) (sym b) form)

-- a form is its terms and its constant
same_form : (terms : List Term) (constant : ℤ) (f : Form) → terms ≡ f.terms → constant ≡ f.constant → (let g : Form = record { terms = terms; constant = constant } in g ≡ f)
same_form terms constant f a b = λ i. record { terms = a i; constant = b i }

pub new-requires : goal.new-requires
new-requires c =
    let f = c.args.f.now in
    let terms = all_terms c.as_slice.result.now c.loop-term.terms.items c.terms-term-items.result.now f.terms c.loop-term.term-index c.as_slice.ensures c.loop-term.invariant c.loop-term-test.false c.terms-term-items.ensures.value in
    form_again _ f.terms _ f.constant c.terms-term-items.ensures.form terms (kept64 c.constant.result c.constant.type_inv ∙ c.constant.ensures)

pub returns : goal.returns
returns c =
    let f = c.args.f.now in
    let terms = all_terms c.as_slice.result.now c.loop-term.terms.items c.terms-term-items.result.now f.terms c.loop-term.term-index c.as_slice.ensures c.loop-term.invariant c.loop-term-test.false c.terms-term-items.ensures.value in
    subst (λ (x : Form). IfOk c.new.result (λ g. g ≡ x)) (same_form _ _ f terms (kept64 c.constant.result c.constant.type_inv ∙ c.constant.ensures)) c.new.ensures
