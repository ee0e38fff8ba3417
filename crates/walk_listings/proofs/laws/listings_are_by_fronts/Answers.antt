use Rattle.walk_listings.proofs.Listings.{lists_listing}
use Rattle.walk_listings.proofs.laws.listings_are_by_fronts.Goals as goal

pub returns : goal.returns
returns c = λ W w most n found word walk. lists_listing W w walk most n found word
