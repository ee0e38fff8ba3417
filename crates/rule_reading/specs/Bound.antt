-- Reading a quantified formula in two parts: what is bound, and the body.
use Rattle.std.specs.Prelude.{ℕ, List, Some}
use Rattle.geo_tokens.specs.declared.token.Keyword.TheVariants as keywords
use Rattle.geo_tokens.specs.declared.token.Sym.TheVariants as syms
use Rattle.geo_tokens.specs.Words.{word, symbol}
use Rattle.geo_tokens.specs.Reading.{Got, ◌>>=◌, token_at}
use Rattle.rule_syntax.specs.declared.tree.PlacedName.{PlacedName}
use Rattle.rule_syntax.specs.declared.tree.QuantKind.{QuantKind}
use Rattle.rule_syntax.specs.declared.tree.Coll.{Coll}
use Rattle.rule_syntax.specs.Tree.{CollTree, FormulaTree, quantified}
use Rattle.rule_syntax.specs.Reading.{Reader, named_at, quantifier_at, collection_at}
use Rattle.rule_syntax.specs.View.{coll_view}

-- what a variable ranges over, between the word `in` and the colon
abbrev pub range_at : List ℕ → Reader CollTree
range_at text w = token_at (word keywords.In) w >>= λ t y. collection_at text y >>= λ c z. token_at (symbol syms.Colon) z >>= λ u last. Got (Some c) last

-- a quantifier, its variable and what that ranges over
abbrev pub Bound : Type 0 → Type 0
Bound C = ℕ × QuantKind × PlacedName × C

abbrev pub bound_view : Bound Coll → Bound CollTree
bound_view b = (b.0, b.1, b.2, coll_view b.3)

abbrev pub bound_at : List ℕ → Reader (Bound CollTree)
bound_at text w = quantifier_at w >>= λ q v. named_at text v >>= λ a x. range_at text x >>= λ c last. Got (Some (q.0, q.1, a, c)) last

abbrev pub quantified_over_at : List ℕ → Reader FormulaTree → Reader FormulaTree
quantified_over_at text inner w = bound_at text w >>= λ b rest. inner rest >>= λ f last. Got (Some (quantified b.0 b.1 b.2 b.3 f)) last
