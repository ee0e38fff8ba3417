use Rattle.std.proofs.Common.{◌≡◌, ℤ, pos, negsuc, ◌-ℤ◌, ◌≤ℤ◌, ◌-◌, ◌^◌, sym, ap, ◌∙◌, subst, arith, Some}
use Rattle.std.proofs.lemmas.Int.{ints}
use mir.Val.{to_z, of_z}
use mir.Syntax.{w64}
use Rattle.indexical.specs.Bound.{IsSidePart}
use Rattle.indexical.proofs.Numbers.{kept64}
use Rattle.indexical.proofs.Bounds.{IsPart, side_alone, until_part}
use Rattle.indexical.proofs.bound.BoundIndexical.broken_part.Goals as goal
use Rattle.indexical.proofs.bound.BoundIndexical.broken_part.Goals.{After-at_most, In-None}

until : (g : _) (c : After-at_most g) → IsPart c.args.self.now c.args.place c.args.region.now (c.has_asked.ensures.0 c.if-not-has_asked.false) c.at_most.result
until g c = until_part c.args.self.now c.args.place c.args.region.now (c.has_asked.ensures.0 c.if-not-has_asked.false) c.in_ok-part.part
    (subst (λ x. IsSidePart c.args.self.now c.args.region.now x) c.in_ok-part.was c.side_part.ensures) c.in-Some.first c.in-Some.is c.at_most.result (to_z w64 (of_z w64 c.just_before.result))
    (kept64 c.just_before.result c.just_before.type_inv ∙ c.just_before.ensures ∙ ap (λ (z : ℤ). z -ℤ pos 1) (let n = c.args.self.now.near c.in-Some.first c.in-Some.is in kept64 c.in-Some.first (omega (arith, ints, n.0, n.1))))
    c.at_most.ensures.none c.at_most.ensures.some c.at_most.ensures.lo c.at_most.ensures.hi c.at_most.ensures.others

alone : (g : _) (c : In-None g) → IsPart c.args.self.now c.args.place c.args.region.now (c.has_asked.ensures.0 c.if-not-has_asked.false) (Some c.in_ok-part.part)
alone g c = side_alone c.args.self.now c.args.place c.args.region.now (c.has_asked.ensures.0 c.if-not-has_asked.false) c.in_ok-part.part c.in-None.is
    (subst (λ x. IsSidePart c.args.self.now c.args.region.now x) c.in_ok-part.was c.side_part.ensures)

pub just_before-requires : goal.just_before-requires
just_before-requires g c =
    let n = c.args.self.now.near c.in-Some.first c.in-Some.is in
    let e : to_z w64 (of_z w64 c.in-Some.first) ≡ c.in-Some.first = kept64 c.in-Some.first (omega (arith, ints, n.0, n.1)) in
    subst (λ (z : ℤ). (negsuc (10 ^ 14 - 1) ≤ℤ z) × (z ≤ℤ pos (10 ^ 14))) (sym e) n

pub returns-in-Some-clause-none : goal.returns-in-Some-clause-none
returns-in-Some-clause-none g c = (until g c).none

pub returns-in-Some-clause-within : goal.returns-in-Some-clause-within
returns-in-Some-clause-within g c = (until g c).within

pub returns-in-Some-clause-passes : goal.returns-in-Some-clause-passes
returns-in-Some-clause-passes g c = (until g c).passes

pub returns-in-Some-clause-whole : goal.returns-in-Some-clause-whole
returns-in-Some-clause-whole g c = (until g c).whole

pub returns-in-None-clause-whole : goal.returns-in-None-clause-whole
returns-in-None-clause-whole g c = (alone g c).whole
