use Rattle.walk_listings.proofs.Pages as pages
use Rattle.walk_listings.proofs.laws.pages_join.Goals as goal

pub returns : goal.returns
returns c = pages.pages_join
