use Rattle.std.proofs.Common.{◌≡◌, ◌+◌, ℕ, length, sym, subst, arith}
use Rattle.std.proofs.lemmas.Grind.{common_steps}
use Rattle.rule_ground.proofs.Said.{said-small}
use Rattle.extent_caps.specs.Extents.{IsBoxEndOf, IsEnd, IsGreatestOf}
use Rattle.extent_caps.proofs.Ending.{Below, ends-reachable, greatest-more}
use Rattle.extent_caps.proofs.ends.end_of.Goals as goal

pub end_of_object-requires-clause-shapes : goal.end_of_object-requires-clause-shapes
end_of_object-requires-clause-shapes c = said-small c.args.problem.now c.is_said.ensures.said

pub loop-o-preserved : goal.loop-o-preserved
loop-o-preserved c =
    let Ends = IsBoxEndOf c.args.problem.now c.args.layout.now c.args.d in
    subst (IsGreatestOf (Below Ends (c.loop-o.o + 1))) (sym c.later-greatest.ensures) (greatest-more Ends c.loop-o.o c.loop-o.greatest c.end_of_object.result c.loop-o.invariant c.end_of_object.ensures)

pub returns-clause-end : goal.returns-clause-end
returns-clause-end c =
    let all : c.loop-o.o ≡ length c.args.problem.now.objects = grind (arith, common_steps) in
    subst (λ (n : ℕ). IsGreatestOf (Below (IsBoxEndOf c.args.problem.now c.args.layout.now c.args.d) n) c.loop-o.greatest) all c.loop-o.invariant

pub returns-clause-small : goal.returns-clause-small
returns-clause-small c =
    let all : c.loop-o.o ≡ length c.args.problem.now.objects = grind (arith, common_steps) in
    let end : IsEnd c.args.problem.now c.args.layout.now c.args.d c.loop-o.greatest = subst (λ (n : ℕ). IsGreatestOf (Below (IsBoxEndOf c.args.problem.now c.args.layout.now c.args.d) n) c.loop-o.greatest) all c.loop-o.invariant in
    ends-reachable c.args.problem.now c.args.layout.now c.is_said.ensures.formed c.requires.layout c.args.d c.loop-o.greatest (said-small c.args.problem.now c.is_said.ensures.said) c.requires.d end
