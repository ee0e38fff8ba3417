use Rattle.blank_texts.proofs.Moved.{tokens_moved, bytes_moved}
use Rattle.blank_texts.proofs.laws.tokens_move.Goals as goal

pub returns : goal.returns
returns c = λ before text rest end ts d. (tokens_moved before text rest end ts d, λ t. bytes_moved before text t)
