use Rattle.std.proofs.Common.{[], ◌∙◌, length, arith, ap, sym, map}
use Rattle.std.specs.Option.{option_map_or}
use Rattle.std.proofs.lemmas.List.FromFn.{length-map-range_with_len}
use Rattle.problem_data.specs.Value.{Object, Part}
use Rattle.rule_expand.specs.PlainView.{plain_coll_view}
use Rattle.rule_values.specs.Elements.{elements_at, object_in}
use Rattle.rule_values.specs.Shapes.{boxes_at}
use Rattle.rule_values.specs.View.{env_view}
use Rattle.rule_values.proofs.Seen.{as-placed}
use Rattle.rule_values.proofs.elements.elements_of.Goals as goal

pub returns-in-Objects-clause-few : goal.returns-in-Objects-clause-few
returns-in-Objects-clause-few c = let l = length-map-range_with_len Object 0 (length c.objects.result.now) in omega (arith, l)

pub returns-in-Some-clause-same : goal.returns-in-Some-clause-same
returns-in-Some-clause-same c =
    let p = c.args.problem.now in
    ap (map Part) c.boxes_at.ensures.same
    ∙ sym (ap (λ k. elements_at p c.args.place (plain_coll_view k) (env_view c.args.env.now)) c.in-BoxesOf.is
    ∙ ap (λ o. option_map_or (λ o. map Part (boxes_at p o c.args.place)) o []) (ap object_in (sym c.subject.ensures) ∙ sym c.object_in.ensures ∙ c.in-Some.is))

pub returns-in-Some-clause-tuple : goal.returns-in-Some-clause-tuple
returns-in-Some-clause-tuple c = λ t placed. returns-in-Some-clause-same c ∙ as-placed c.args.problem.now t c.args.place (plain_coll_view c.args.coll.now) (env_view c.args.env.now) placed
