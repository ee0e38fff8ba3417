-- Each reader of layout texts reads its language.
use Rattle.std.proofs.Common.{ℕ, List, [], ◌++◌, true, false, None, refl}
use Rattle.geo_tokens.specs.declared.token.Keyword.TheVariants as keywords
use Rattle.geo_tokens.specs.declared.token.Sym.TheVariants as symbols
use Rattle.geo_tokens.specs.Words.{names, numbers, word, symbol, Bind, Tok}
use Rattle.geo_tokens.proofs.Good.{Good, pure_good, bind_good, either_good, opt_good, many_good}
use Rattle.geo_tokens.proofs.OneToken.{number_good, word_good, symbol_good}
use Rattle.rule_syntax.proofs.Expressions.{named_good}
use Rattle.problem_data.specs.Marks.{int_firsts}
use Rattle.problem_data.specs.Grammar.{IntWords}
use Rattle.problem_syntax.specs.Reading.{next_at, int_at}
use Rattle.problem_syntax.proofs.Right.{int_good, ints_good, next_good}
use Rattle.layout_text.specs.Grammar.{PlacedWords, AbsentWord, PutWords, LineWords, GroupWords, NoGroups, SomeGroups, TupleWords, TokenWords, TokenLine, LayoutWords}
use Rattle.layout_text.specs.Reading.{placed_at, absent_at, put_at, line_at, group_at, next_group_at, no_groups_at, some_groups_at, tuple_at, token_line_at, end_at, layout_at}

placed_good : (text : List ℕ) → Good (PlacedWords text) (placed_at text) false (word keywords.As) int_firsts
unfolding placed_at
placed_good text =
    bind_good refl (word_good keywords.As) (λ t. bind_good refl (named_good text) (λ s.
    bind_good refl (word_good keywords.At) (λ u. bind_good refl ints_good (λ xs. pure_good _))))

absent_good : Good AbsentWord absent_at false (word keywords.Absent) []
unfolding absent_at
absent_good = bind_good refl (word_good keywords.Absent) (λ t. pure_good _)

put_good : (text : List ℕ) → Good (PutWords text) (put_at text) false (word keywords.As ++ word keywords.Absent) (int_firsts ++ [])
unfolding PutWords put_at
put_good text = either_good refl (placed_good text) absent_good

pub line_good : (text : List ℕ) → Good (LineWords text) (line_at text) false names int_firsts
unfolding LineWords line_at
line_good text = bind_good refl (named_good text) (λ a. bind_good refl (put_good text) (λ p. pure_good _))

-- a number behind a comma
pub next_int_good : Good (Bind (Tok (symbol symbols.Comma)) (λ mark. IntWords)) (next_at int_at) false (symbol symbols.Comma) []
next_int_good = next_good int_good

pub group_good : Good GroupWords group_at false numbers (symbol symbols.Comma)
unfolding GroupWords group_at
group_good = bind_good refl number_good (λ n. bind_good refl (many_good refl next_int_good) (λ xs. pure_good _))

pub next_group_good : Good (Bind (Tok (symbol symbols.Slash)) (λ s. GroupWords)) next_group_at false (symbol symbols.Slash) (symbol symbols.Comma)
next_group_good = bind_good refl (symbol_good symbols.Slash) (λ s. group_good)

no_groups_good : Good NoGroups no_groups_at false (symbol symbols.Minus) []
no_groups_good = bind_good refl (symbol_good symbols.Minus) (λ m. pure_good _)

some_groups_good : Good SomeGroups some_groups_at false numbers (symbol symbols.Slash ++ (symbol symbols.Comma ++ symbol symbols.Comma))
some_groups_good = bind_good refl group_good (λ g. bind_good refl (many_good refl next_group_good) (λ gs. pure_good _))

pub tuple_good : Good TupleWords tuple_at false (symbol symbols.Minus ++ numbers) (symbol symbols.Slash ++ (symbol symbols.Comma ++ symbol symbols.Comma))
unfolding TupleWords tuple_at
tuple_good = either_good refl no_groups_good some_groups_good

token_line_good : Good TokenWords token_line_at false (word keywords.Token) (symbol symbols.Slash ++ (symbol symbols.Comma ++ symbol symbols.Comma))
unfolding TokenWords token_line_at
token_line_good = bind_good refl (word_good keywords.Token) (λ t. bind_good refl tuple_good (λ gs. pure_good _))

end_good : Good TokenLine end_at true (word keywords.Token) (word keywords.Token ++ (symbol symbols.Slash ++ (symbol symbols.Comma ++ symbol symbols.Comma)))
unfolding TokenLine end_at
end_good = opt_good None (bind_good refl token_line_good (λ t. pure_good _))

pub layout_good : (text : List ℕ) (n : ℕ) → Good (LayoutWords text n) (layout_at text n) false (word keywords.Layout) (word keywords.Token ++ ((symbol symbols.Slash ++ (symbol symbols.Comma ++ symbol symbols.Comma)) ++ (names ++ int_firsts)))
unfolding LayoutWords layout_at
layout_good text n = bind_good refl (word_good keywords.Layout) (λ l. bind_good refl (many_good refl (line_good text)) (λ ls. bind_good refl end_good (λ t. pure_good _)))
