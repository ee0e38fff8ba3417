use Rattle.std.proofs.Common.{◌≡◌, ◌+◌, ◌*◌, length}
use Rattle.geo_tokens.specs.Words.{word}
use Rattle.geo_tokens.specs.Reading.{many_at}
use Rattle.geo_tokens.specs.Gives.{with_front}
use Rattle.geo_tokens.specs.declared.token.Keyword.TheVariants as keywords
use Rattle.rule_syntax.specs.Reading.{and_unary_at, or_conjunction_at}
use Rattle.rule_syntax.specs.View.{formula_views}
use Rattle.rule_reading.proofs.formula.+formula.Given as goal

abbrev pub decreases-formula : goal.decreases-formula
decreases-formula l = 20 * l.levels + 12

abbrev pub decreases-equivalent : goal.decreases-equivalent
decreases-equivalent l = 20 * l.levels + 11

abbrev pub decreases-implication : goal.decreases-implication
decreases-implication l = 20 * l.levels + 10

abbrev pub decreases-implied : goal.decreases-implied
decreases-implied l = 20 * l.levels + 9

abbrev pub decreases-disjunction : goal.decreases-disjunction
decreases-disjunction l = 20 * l.levels + 8

abbrev pub decreases-more_conjunctions : goal.decreases-more_conjunctions
decreases-more_conjunctions l = 20 * l.levels + 7

abbrev pub decreases-or_conjunction : goal.decreases-or_conjunction
decreases-or_conjunction l = 20 * l.levels + 6

abbrev pub decreases-conjunction : goal.decreases-conjunction
decreases-conjunction l = 20 * l.levels + 5

abbrev pub decreases-more_unaries : goal.decreases-more_unaries
decreases-more_unaries l = 20 * l.levels + 4

abbrev pub decreases-and_unary : goal.decreases-and_unary
decreases-and_unary l = 20 * l.levels + 3

abbrev pub decreases-unary : goal.decreases-unary
decreases-unary l = 20 * l.levels + 2

abbrev pub decreases-nested_unary : goal.decreases-nested_unary
decreases-nested_unary l = 20 * l.levels + 1

abbrev pub decreases-negation : goal.decreases-negation
decreases-negation l = 20 * l.below + 13

abbrev pub decreases-brackets : goal.decreases-brackets
decreases-brackets l = 20 * l.below + 13

abbrev pub decreases-quantified : goal.decreases-quantified
decreases-quantified l = 20 * l.below + 13

abbrev pub invariant-more_unaries-items : goal.invariant-more_unaries-items
invariant-more_unaries-items l = with_front (formula_views l.operands) (many_at (word keywords.And) (and_unary_at l.text l.levels) l.rest) ≡ many_at (word keywords.And) (and_unary_at l.text l.levels) l.fn.tokens

abbrev pub decreases-more_unaries-items : goal.decreases-more_unaries-items
decreases-more_unaries-items l = length l.rest

abbrev pub invariant-more_conjunctions-items : goal.invariant-more_conjunctions-items
invariant-more_conjunctions-items l = with_front (formula_views l.operands) (many_at (word keywords.Or) (or_conjunction_at l.text l.levels) l.rest) ≡ many_at (word keywords.Or) (or_conjunction_at l.text l.levels) l.fn.tokens

abbrev pub decreases-more_conjunctions-items : goal.decreases-more_conjunctions-items
decreases-more_conjunctions-items l = length l.rest
