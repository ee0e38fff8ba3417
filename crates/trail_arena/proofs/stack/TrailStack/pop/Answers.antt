use Rattle.std.proofs.Common.{◌≡◌, ◌+◌, length, refl, sym, ap, ◌∙◌, arith}
use Rattle.std.proofs.lemmas.List.{nil_from_length}
use Rattle.trail_arena.specs.Chains.{blocks}
use Rattle.trail_arena.specs.Stack.{Pile, stacked}
use Rattle.trail_arena.proofs.Stacks.{popped}
use Rattle.trail_arena.proofs.stack.TrailStack.pop.Goals as goal

pub returns-then-self-eq0 : goal.returns-then-self-eq0
returns-then-self-eq0 g c =
    let none : length (stacked (blocks c.self.inside.used)) ≡ 0 = omega (arith, c.self.invariant.count, c.if-self-eq0.true) in
    (ap (λ (v : Pile g.row.T.Denot). v.items) (sym c.self.view_is) ∙ nil_from_length (stacked (blocks c.self.inside.used)) none, refl)

pub invariant_of-self : goal.invariant_of-self
invariant_of-self g c =
    let p = c.self.inside in let i = c.self.invariant in
    (popped _ _ _ _ p.len p.spare c.take-item.result (record { piles = c.uncover.ensures.holds.piles; items = c.uncover.ensures.holds.items; spare = c.uncover.ensures.holds.spare ∙ i.spare }) i.count i.fits c.uncover.ensures.item c.take-item.ensures).0

pub returns : goal.returns
returns g c =
    let p = c.self.inside in let i = c.self.invariant in
    let r = popped _ _ _ _ p.len p.spare c.take-item.result (record { piles = c.uncover.ensures.holds.piles; items = c.uncover.ensures.holds.items; spare = c.uncover.ensures.holds.spare ∙ i.spare }) i.count i.fits c.uncover.ensures.item c.take-item.ensures in
    (ap (λ (v : Pile g.row.T.Denot). v.items) (sym c.self.view_is) ∙ r.1, ap (λ (v : Pile g.row.T.Denot). v.spare + 1) c.self.view_is)
