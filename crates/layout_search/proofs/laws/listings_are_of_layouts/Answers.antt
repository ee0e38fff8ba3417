use Rattle.layout_search.proofs.Stated.{full-members-are, lists-layouts}
use Rattle.layout_search.proofs.laws.listings_are_of_layouts.Goals as goal

pub returns : goal.returns
returns c = λ p cs well are. (full-members-are p cs well are, lists-layouts p cs well are)
