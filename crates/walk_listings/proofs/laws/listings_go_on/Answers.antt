use Rattle.walk_listings.proofs.Listings.{goes_on_from}
use Rattle.walk_listings.proofs.laws.listings_go_on.Goals as goal

pub returns : goal.returns
returns c = λ W w v most n walk. goes_on_from W w walk v most n
