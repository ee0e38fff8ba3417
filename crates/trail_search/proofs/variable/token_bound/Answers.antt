use Rattle.std.proofs.Common.{sym, ◌∙◌, arith, pos, map, get_or}
use Rattle.std.proofs.lemmas.List.{length-map}
use Rattle.trail_search.specs.Variables.{variable_of}
use Rattle.trail_search.proofs.Token.{bound_inner}
use Rattle.geo_state.proofs.Numbers.{kept64, small_kept}
use Rattle.trail_search.proofs.Walking.{bound_of}
use Rattle.trail_search.proofs.variable.token_bound.Goals as goal

pub returns-then-m-variables : goal.returns-then-m-variables
returns-then-m-variables c =
    let l = length-map c.args.variables.now variable_of in
    small_kept (get_or c.args.t.now c.args.m (pos 0)) (c.requires.small c.args.m (pos 0) (omega (arith, c.requires.lengths, c.requires.number))) ∙ sym (bound_inner (map variable_of c.args.variables.now) c.args.t.now c.args.m (omega (arith, l, c.requires.lengths)) (omega (arith, l, c.if-m-variables.true)))

pub returns-else-m-variables : goal.returns-else-m-variables
returns-else-m-variables c =
    let k = small_kept (get_or c.args.t.now c.args.m (pos 0)) (c.requires.small c.args.m (pos 0) (omega (arith, c.requires.lengths, c.requires.number))) in
    kept64 c.after.result c.after.type_inv ∙ bound_of c.args.variables.now c.args.t.now c.args.m _ c.after.result _ c.requires.lengths c.requires.number c.if-m-variables.false c.after.ensures k
