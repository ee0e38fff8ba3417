use Rattle.std.proofs.Common.{◌≡◌, List, drop, rules, refl, sym, ap, ◌∙◌, ◌+◌, ◌+ℤ◌, subst}
use Rattle.std.proofs.lemmas.List.{drop_all, drop_more}
use Rattle.geo_conditions.specs.declared.form.Term.{Term}
use Rattle.linear_conditions.specs.Room.{HaveRoom}
use Rattle.linear_conditions.specs.Sums.{add_terms}
use Rattle.linear_conditions.specs.Views.{wide_terms}
use Rattle.linear_conditions.specs.declared.wide.WideTerm.{WideTerm}
use Rattle.linear_conditions.proofs.WideSteps.{nothing}
use Rattle.linear_conditions.proofs.wide.WideSum.add.Goals as goal

pub loop-a-init : goal.loop-a-init
loop-a-init c = record {
  terms = refl;
  room = subst (λ (ws : List WideTerm). HaveRoom (wide_terms c.args.self.now.terms.items) (wide_terms ws)) (sym c.as_slice-a-items.ensures) c.requires.terms;
  constant = refl;
}

pub add_at-requires : goal.add_at-requires
add_at-requires c =
    (subst (λ (ws : List WideTerm). HaveRoom (wide_terms c.loop-a.self.terms.items) (wide_terms ws)) (drop_more c.as_slice-a-items.result.now c.loop-a.a-index nothing c.loop-a-test.true) c.loop-a.invariant.room).0

pub loop-a-preserved : goal.loop-a-preserved
loop-a-preserved c =
    let ws = c.as_slice-a-items.result.now in
    let i = c.loop-a.a-index in
    let old = wide_terms c.loop-a.self.terms.items in
    let more = drop_more ws i nothing c.loop-a-test.true in
    let added = (c.in_ok-add_at.ensures {u = tt}).terms in
    record {
      terms =
          ap (λ (ts : List Term). add_terms ts (wide_terms (drop (i + 1) ws))) added
          ∙ sym (ap (λ (vs : List WideTerm). add_terms old (wide_terms vs)) more) ∙ c.loop-a.invariant.terms;
      room = subst (λ (ts : List Term). HaveRoom ts (wide_terms (drop (i + 1) ws))) (sym added) (subst (λ (vs : List WideTerm). HaveRoom old (wide_terms vs)) more c.loop-a.invariant.room).1;
      constant = c.add_at.ensures.constant ∙ c.loop-a.invariant.constant;
    }

pub returns : goal.returns
returns c =
    let old = wide_terms c.args.self.now.terms.items in
    let new = wide_terms c.loop-a.self.terms.items in
    let terms : new ≡ add_terms old (wide_terms c.args.other.now.terms.items) =
    sym (ap (λ (vs : List WideTerm). add_terms new (wide_terms vs)) (drop_all c.loop-a.a-index c.as_slice-a-items.result.now c.loop-a-test.false))
    ∙ c.loop-a.invariant.terms ∙ ap (λ (vs : List WideTerm). add_terms old (wide_terms vs)) c.as_slice-a-items.ensures in
    let constant : c.loop-a.self.constant ≡ c.args.self.now.constant +ℤ c.args.other.now.constant = search rules in
    λ i. record { terms = terms i; constant = constant i }
