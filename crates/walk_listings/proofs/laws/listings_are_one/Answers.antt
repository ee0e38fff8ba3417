use Rattle.walk_listings.proofs.Listings.{one_listing}
use Rattle.walk_listings.proofs.laws.listings_are_one.Goals as goal

pub returns : goal.returns
returns c = λ W w most n found other word last walk. one_listing W w walk most n found other word last
