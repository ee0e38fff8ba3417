-- Reading the grammar of layout texts from the left: one definition for each language, of the same
-- form.
use Rattle.std.specs.Prelude.{ℕ, List, [], ◌∷◌, Option, Some, None}
use Rattle.geo_tokens.specs.declared.token.Keyword.TheVariants as keywords
use Rattle.geo_tokens.specs.declared.token.Sym.TheVariants as symbols
use Rattle.geo_tokens.specs.Words.{names, numbers, word, symbol}
use Rattle.geo_tokens.specs.Reading.{Got, ◌>>=◌, token_at, either_at, opt_at, many_at}
use Rattle.rule_syntax.specs.Reading.{Reader, named_at}
use Rattle.problem_syntax.specs.Reading.{next_at, int_at, ints_at}
use Rattle.layout_text.specs.Tree.{PutTree, placed, absent, LineTree, GroupTree, TokenTree, LayoutTree}
use Rattle.layout_text.specs.Grammar.{line_tree, group_tree, token_tree, layout_tree}

unfoldable pub placed_at : List ℕ → Reader PutTree
placed_at text w =
    token_at (word keywords.As) w >>= λ t w1. named_at text w1 >>= λ s w2. token_at (word keywords.At) w2 >>= λ u w3.
    ints_at w3 >>= λ xs rest. Got (Some (placed s xs)) rest

unfoldable pub absent_at : Reader PutTree
absent_at w = token_at (word keywords.Absent) w >>= λ t rest. Got (Some (absent t.start)) rest

unfoldable pub put_at : List ℕ → Reader PutTree
put_at text = either_at (word keywords.As) (placed_at text) absent_at

unfoldable pub line_at : List ℕ → Reader LineTree
line_at text w = named_at text w >>= λ a w1. put_at text w1 >>= λ p rest. Got (Some (line_tree a p)) rest

unfoldable pub group_at : Reader GroupTree
group_at w = token_at numbers w >>= λ n w1. many_at (symbol symbols.Comma) (next_at int_at) w1 >>= λ xs rest. Got (Some (group_tree n xs)) rest

-- a slash and a group
abbrev pub next_group_at : Reader GroupTree
next_group_at w = token_at (symbol symbols.Slash) w >>= λ s rest. group_at rest

abbrev pub no_groups_at : Reader (List GroupTree)
no_groups_at w = token_at (symbol symbols.Minus) w >>= λ m rest. Got (Some []) rest

abbrev pub some_groups_at : Reader (List GroupTree)
some_groups_at w = group_at w >>= λ g w1. many_at (symbol symbols.Slash) next_group_at w1 >>= λ gs rest. Got (Some (g ∷ gs)) rest

unfoldable pub tuple_at : Reader (List GroupTree)
tuple_at = either_at (symbol symbols.Minus) no_groups_at some_groups_at

unfoldable pub token_line_at : Reader TokenTree
token_line_at w = token_at (word keywords.Token) w >>= λ t w1. tuple_at w1 >>= λ gs rest. Got (Some (token_tree t gs)) rest

abbrev pub some_token_line_at : Reader (Option TokenTree)
some_token_line_at w = token_line_at w >>= λ t rest. Got (Some (Some t)) rest

unfoldable pub end_at : Reader (Option TokenTree)
end_at = opt_at (word keywords.Token) some_token_line_at None

unfoldable pub layout_at : List ℕ → ℕ → Reader LayoutTree
layout_at text n w = token_at (word keywords.Layout) w >>= λ l w1. many_at names (line_at text) w1 >>= λ ls w2. end_at w2 >>= λ t rest. Got (Some (layout_tree ls t)) rest
