-- Each turn appends one more spot at zero.
use Rattle.std.proofs.Common.{◌≡◌, ◌∙◌, pos, replicate, take, [], ◌∷◌, ◌++◌, List, ℤ, ap}
use Rattle.std.proofs.lemmas.List.{replicate_more, take-replicate}
use Rattle.geo_base.specs.declared.TheConstants.{MAX_DIMS}
use Rattle.geo_base.specs.Tuple.{Spot}
use Rattle.geo_conditions.proofs.layout.Layout.with_room.Goals as goal

at_first_place : List ℤ → Spot
at_first_place x = record { place = 1; origin = x }

pub objects-preserved : goal.objects-preserved
unfolding at_first_place
objects-preserved c =
    let zeros : take c.args.dims (replicate MAX_DIMS (pos 0)) ≡ replicate c.args.dims (pos 0) = take-replicate c.args.dims MAX_DIMS (pos 0) c.requires in
    c.in_ok-push.ensures.ok
    ∙ (ap (λ t. t ++ at_first_place (take c.args.dims (replicate MAX_DIMS (pos 0))) ∷ []) c.objects.invariant
    ∙ (ap (λ x. replicate c.objects._done (at_first_place (replicate c.args.dims (pos 0))) ++ at_first_place x ∷ []) zeros
    ∙ replicate_more c.objects._done (at_first_place (replicate c.args.dims (pos 0)))))
