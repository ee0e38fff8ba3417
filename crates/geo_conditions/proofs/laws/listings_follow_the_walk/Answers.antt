use Rattle.geo_conditions.proofs.Beginnings.{listing_follows}
use Rattle.geo_conditions.proofs.laws.listings_follow_the_walk.Goals as goal

pub returns : goal.returns
returns c = listing_follows
