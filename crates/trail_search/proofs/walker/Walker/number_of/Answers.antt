use Rattle.std.proofs.Common.{ap, sym, ◌∙◌, map}
use Rattle.std.proofs.lemmas.Bool.{false≢true}
use Rattle.trail_search.specs.Walker.{Position}
use Rattle.trail_search.specs.declared.variable.Variable.TheVariants.{Place}
use Rattle.trail_search.specs.Variables.{variable_of}
use Rattle.trail_search.proofs.Finding.{none_at_more, not_none_at}
use Rattle.trail_search.proofs.walker.Walker.number_of.Goals as goal

pub loop-i-preserved : goal.loop-i-preserved
loop-i-preserved g c = none_at_more c.args.o.0 c.args.d c.deref-x-items.result.now c.loop-i.i _ c.loop-i.invariant c.loop-i-test.true (λ y. false≢true (sym c.if-is_at.false ∙ c.is_at.ensures.1 y))

pub returns-clause-at : goal.returns-clause-at
returns-clause-at g c = absurd (not_none_at c.args.o.0 c.args.d c.deref-x-items.result.now c.args.self.now.variables c.loop-i.i (Place (record { 0 = 0 }))
    (ap (map variable_of) c.deref-x-items.ensures.value ∙ ap (λ (p : Position). p.variables) c.self.view_is) c.requires.named c.loop-i-test.false c.loop-i.invariant)
