-- Languages of one token, by its kind; and a chain of lists with marks between them.
use Rattle.std.proofs.Common.{[], ◌∷◌, false, ◌||◌, ap, refl}
use Rattle.std.proofs.lemmas.Bool.{eq-eqb}
use Rattle.geo_tokens.specs.declared.token.Token.{Token}
use Rattle.geo_tokens.specs.declared.token.Keyword.{Keyword}
use Rattle.geo_tokens.specs.declared.token.Sym.{Sym}
use Rattle.geo_tokens.specs.declared.token.Kind.{Kind}
use Rattle.geo_tokens.specs.declared.token.Kind.TheVariants as kinds
use Rattle.geo_tokens.specs.Class.{class_of}
use Rattle.geo_tokens.specs.Words.{Kinds, Of, names, numbers, word, symbol, Lang, Pure, Tok, Cut, Chain}
use Rattle.geo_tokens.specs.Reading.{token_at, cut_at}
use Rattle.geo_tokens.proofs.Good.{Good, one_good}
use Rattle.geo_tokens.proofs.Levels.{Splits, Above, same_splits, tok_above, pure_above, bind_splits, bind_above, many_splits, many_above}

-- some token of this kind
abbrev pub of_kind : Kind → Token
of_kind k = record { kind = k; start = 0; end = 0 }

-- a kind is in the set of it alone
pub has_self : (k : Kind) → Of (class_of k ∷ []) (of_kind k)
has_self k = ap (λ b. b || false) (eq-eqb (class_of k) (class_of k) refl)

-- a token of this kind, as it is or as one that opens a level too many
pub kind_good : (k : Kind) → Good (Tok (class_of k ∷ [])) (token_at (class_of k ∷ [])) false (class_of k ∷ []) []
kind_good k = one_good (class_of k ∷ []) _ (of_kind k) (has_self k)

pub kind_cut_good : {A : Type 0} (k : Kind) → Good (Cut {A = A} (class_of k ∷ [])) (cut_at (class_of k ∷ [])) false (class_of k ∷ []) []
kind_cut_good k = one_good (class_of k ∷ []) _ (of_kind k) (has_self k)

pub kind_above : (k : Kind) → Above (Tok (class_of k ∷ [])) (Tok (class_of k ∷ []))
kind_above k = tok_above (class_of k ∷ []) (of_kind k) (has_self k)

-- the same of each sort of kind
pub name_good : Good (Tok names) (token_at names) false names []
name_good = kind_good kinds.Name

pub number_good : Good (Tok numbers) (token_at numbers) false numbers []
number_good = kind_good (kinds.Number 0)

pub word_good : (w : Keyword) → Good (Tok (word w)) (token_at (word w)) false (word w) []
word_good w = kind_good (kinds.Word w)

pub symbol_good : (s : Sym) → Good (Tok (symbol s)) (token_at (symbol s)) false (symbol s) []
symbol_good s = kind_good (kinds.Symbol s)

pub word_cut_good : {A : Type 0} (w : Keyword) → Good (Cut {A = A} (word w)) (cut_at (word w)) false (word w) []
word_cut_good w = kind_cut_good (kinds.Word w)

pub symbol_cut_good : {A : Type 0} (s : Sym) → Good (Cut {A = A} (symbol s)) (cut_at (symbol s)) false (symbol s) []
symbol_cut_good s = kind_cut_good (kinds.Symbol s)

pub name_above : Above (Tok names) (Tok names)
name_above = kind_above kinds.Name

pub number_above : Above (Tok numbers) (Tok numbers)
number_above = kind_above (kinds.Number 0)

pub word_above : (w : Keyword) → Above (Tok (word w)) (Tok (word w))
word_above w = kind_above (kinds.Word w)

pub symbol_above : (s : Sym) → Above (Tok (symbol s)) (Tok (symbol s))
symbol_above s = kind_above (kinds.Symbol s)

-- ---- a chain

module _ {A : Type 0} (L M : Lang A) (marks : Kinds) where
  pub chain_splits : Splits L M → Splits (Chain L marks) (Chain M marks)
  chain_splits s = bind_splits L M _ _ s (λ a. bind_splits _ _ _ _ (many_splits _ _ (bind_splits (Tok marks) (Tok marks) _ _ (same_splits (Tok marks)) (λ t. s))) (λ others. same_splits (Pure (a, others))))

  pub chain_above : (t : Token) → Of marks t → Above L M → Above (Chain L marks) (Chain M marks)
  chain_above t i h = bind_above L M _ _ h (λ a. bind_above _ _ _ _ (many_above _ _ (bind_above (Tok marks) (Tok marks) _ _ (tok_above marks t i) (λ u. h))) (λ others. pure_above (a, others)))
