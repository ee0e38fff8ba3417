-- The grammar of layout texts: which tokens of a text spell which lines. It opens no level.
--
--   text  = 'layout' { line } [ 'token' tuple ]
--   line  = NAME ( 'as' NAME 'at' int { int } | 'absent' )
--   tuple = '-' | group { '/' group }
--   group = NUM { ',' int }
--   int   = [ '-' ] NUM
use Rattle.std.specs.Prelude.{ℕ, List, [], ◌∷◌, Option, Some, None}
use Rattle.geo_tokens.specs.declared.token.Keyword.TheVariants as keywords
use Rattle.geo_tokens.specs.declared.token.Sym.TheVariants as symbols
use Rattle.geo_tokens.specs.declared.token.Token.{Token}
use Rattle.geo_tokens.specs.Class.{number_in}
use Rattle.geo_tokens.specs.Words.{numbers, word, symbol, Lang, Pure, Tok, Bind, Either, Opt, Many}
use Rattle.rule_syntax.specs.declared.tree.PlacedName.{PlacedName}
use Rattle.rule_syntax.specs.Grammar.{Named}
use Rattle.problem_data.specs.declared.tree.Int.{Int}
use Rattle.problem_data.specs.Grammar.{OneOrMore, IntWords}
use Rattle.layout_text.specs.Tree.{PutTree, placed, absent, LineTree, GroupTree, TokenTree, LayoutTree}

-- ---- what tokens say

abbrev pub line_tree : PlacedName → PutTree → LineTree
line_tree a p = record { name = a; put = p }

abbrev pub group_tree : Token → List Int → GroupTree
group_tree n xs = record { shape = number_in n.kind; origin = xs }

abbrev pub token_tree : Token → List GroupTree → TokenTree
token_tree t gs = record { place = t.start; groups = gs }

abbrev pub layout_tree : List LineTree → Option TokenTree → LayoutTree
layout_tree ls t = record { lines = ls; token = t }

-- ---- the productions

abbrev pub PlacedWords : List ℕ → Lang PutTree
PlacedWords text =
    Bind (Tok (word keywords.As)) (λ t. Bind (Named text) (λ s. Bind (Tok (word keywords.At)) (λ u.
    Bind (OneOrMore IntWords) (λ xs. Pure (placed s xs)))))

abbrev pub AbsentWord : Lang PutTree
AbsentWord = Bind (Tok (word keywords.Absent)) (λ t. Pure (absent t.start))

unfoldable pub PutWords : List ℕ → Lang PutTree
PutWords text = Either (PlacedWords text) AbsentWord

unfoldable pub LineWords : List ℕ → Lang LineTree
LineWords text = Bind (Named text) (λ a. Bind (PutWords text) (λ p. Pure (line_tree a p)))

unfoldable pub GroupWords : Lang GroupTree
GroupWords = Bind (Tok numbers) (λ n. Bind (Many (Bind (Tok (symbol symbols.Comma)) (λ c. IntWords))) (λ xs. Pure (group_tree n xs)))

abbrev pub NoGroups : Lang (List GroupTree)
NoGroups = Bind (Tok (symbol symbols.Minus)) (λ m. Pure [])

abbrev pub SomeGroups : Lang (List GroupTree)
SomeGroups = Bind GroupWords (λ g. Bind (Many (Bind (Tok (symbol symbols.Slash)) (λ s. GroupWords))) (λ gs. Pure (g ∷ gs)))

unfoldable pub TupleWords : Lang (List GroupTree)
TupleWords = Either NoGroups SomeGroups

unfoldable pub TokenWords : Lang TokenTree
TokenWords = Bind (Tok (word keywords.Token)) (λ t. Bind TupleWords (λ gs. Pure (token_tree t gs)))

-- the token line, which may be left out
unfoldable pub TokenLine : Lang (Option TokenTree)
TokenLine = Opt (Bind TokenWords (λ t. Pure (Some t))) None

-- n levels may be opened
unfoldable pub LayoutWords : List ℕ → ℕ → Lang LayoutTree
LayoutWords text n = Bind (Tok (word keywords.Layout)) (λ l. Bind (Many (LineWords text)) (λ ls. Bind TokenLine (λ t. Pure (layout_tree ls t))))
