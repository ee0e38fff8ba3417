use Rattle.std.proofs.Common.{ap, ◌∙◌, [], ◌∷◌, ℤ, to_z-of_z, pos, negsuc, ◌+ℤ◌}
use Rattle.std.specs.Prelude.{◌-ℤ◌}
use Rattle.std.specs.Int.{w64}
use mir.Val.{SFits}
use Rattle.geo_base.specs.Boxes.{coordinate}
use Rattle.linear_conditions.specs.CondTree.{CondTree, cond_view, linear}
use Rattle.rule_ground.specs.Shapes.{term}
use Rattle.rule_ground.proofs.Pairs.{two_more}
use Rattle.rule_ground.proofs.apart.push_parted.Goals as goal

pub returns : goal.returns
returns c =
    let a = c.args.a.now in
    let b = c.args.b.now in
    let d = c.args.d in
    let first : ℤ → CondTree = λ (z : ℤ). linear (record { terms = term c.args.i.0 d (pos 1) ∷ (term c.args.j.0 d (negsuc 0) ∷ []); constant = z }) in
    let second : ℤ → CondTree = λ (z : ℤ). linear (record { terms = term c.args.i.0 d (negsuc 0) ∷ (term c.args.j.0 d (pos 1) ∷ []); constant = z }) in
    let left : SFits w64 c.reach_beyond.result = record { sfits = c.reach_beyond.type_inv } in
    let right : SFits w64 c.reach_beyond-2.result = record { sfits = c.reach_beyond-2.type_inv } in
    two_more cond_view c.args.parts.now.items.items c.push.new.self.items.items c.push-2.new.self.items.items c.in_ok-first.first c.in_ok-second.second
    (first ((coordinate a.offsets d +ℤ coordinate a.sizes d) -ℤ coordinate b.offsets d)) (second ((coordinate b.offsets d +ℤ coordinate b.sizes d) -ℤ coordinate a.offsets d))
    c.in_ok-push.ensures.ok c.in_ok-push-2.ensures.ok (c.in_ok-first.ensures ∙ ap first (to_z-of_z left ∙ c.reach_beyond.ensures.value)) (c.in_ok-second.ensures ∙ ap second (to_z-of_z right ∙ c.reach_beyond-2.ensures.value))
