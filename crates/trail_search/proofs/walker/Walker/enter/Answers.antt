use Rattle.std.proofs.Common.{◌≡◌, ◌<◌, length, ap, sym, ◌∙◌, subst, arith, ℤ}
use Rattle.geo_conditions.specs.Reach.{State, reach, NotEmpty}
use Rattle.geo_conditions.specs.Walk.{IsFixed, IsFirstValue, object_of}
use Rattle.trail_search.specs.Variables.{variable_of}
use Rattle.trail_search.specs.Walker.{Position}
use Rattle.trail_search.specs.Cursor.{Narrows}
use Rattle.geo_state.proofs.Numbers.{kept64}
use Rattle.trail_search.proofs.walker.Walker.enter.Goals as goal

pub fix-requires : goal.fix-requires
fix-requires g c =
    let e : c.args.self.now.trail.state ≡ c.push_level.new.self.state = sym (c.push_level.ensures.state ∙ ap (λ (p : Position). p.trail.state) c.self.view_is) in
    let k = sym (kept64 c.args.u c.ranges.u.sfits) in (
      omega arith,
      (
        c.requires.k,
        (
          subst (λ (S : State). object_of (variable_of c.args.x) < length S) e c.requires.object,
          (
            c.requires.dimension,
            (
              subst (λ (S : State). NotEmpty (reach S (object_of (variable_of c.args.x)))) e c.requires.full,
              subst (λ (z : ℤ). IsFirstValue c.push_level.new.self.state (variable_of c.args.x) z) k (subst (λ (S : State). IsFirstValue S (variable_of c.args.x) c.args.u) e c.requires.first),
            ),
          ),
        ),
      ),
    )

pub returns-clause-narrows : goal.returns-clause-narrows
returns-clause-narrows g c =
    let e : c.push_level.new.self.state ≡ c.args.self.now.trail.state = c.push_level.ensures.state ∙ ap (λ (p : Position). p.trail.state) c.self.view_is in
    let k = kept64 c.args.u c.ranges.u.sfits in
    subst (λ (S : State). Narrows S c.fix.new.t.state (λ T. IsFixed T (variable_of c.args.x) c.args.u)) e
    (subst (λ (z : ℤ). Narrows c.push_level.new.self.state c.fix.new.t.state (λ T. IsFixed T (variable_of c.args.x) z)) k c.fix.ensures.narrows)
