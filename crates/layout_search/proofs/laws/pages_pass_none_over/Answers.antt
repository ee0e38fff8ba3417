use Rattle.layout_search.proofs.Unpassed.{passes-none-over}
use Rattle.layout_search.proofs.laws.pages_pass_none_over.Goals as goal

pub returns : goal.returns
returns c = λ p cs after most n ts word well are page. passes-none-over p cs after most n ts word well are page
