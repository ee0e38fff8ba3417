use Rattle.std.proofs.Common.{List, Bool, set, ap, ◌∙◌, ◌-◌, false, replicate}
use Rattle.geo_conditions.specs.declared.object.TheConstants.{MAX_SHAPES}
use Rattle.derivation_check.proofs.NextPlaces.{alone_is}
use Rattle.derivation_check.proofs.cuts.alone.Goals as goal

pub returns : goal.returns
returns c =
    c.set.ensures ∙ ap (λ (xs : List Bool). set xs (c.args.place - 1) c.has.result) c.up_to-left.ensures
    ∙ ap (λ (x : Bool). set (replicate MAX_SHAPES false) (c.args.place - 1) x) c.has.ensures ∙ alone_is c.args.place c.args.places c.requires.place.least c.requires.whole
