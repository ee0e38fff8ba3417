-- Languages of tokens: which lists of tokens spell a value.
use Rattle.std.specs.Prelude.{◌≡◌, ℕ, zero, suc, List, [], ◌∷◌, ◌++◌, Option, Some, None, option_map, map, Bool, true, false, ◌==◌, ◌||◌}
use Rattle.geo_tokens.specs.declared.token.Token.{Token}
use Rattle.geo_tokens.specs.declared.token.Keyword.{Keyword}
use Rattle.geo_tokens.specs.declared.token.Sym.{Sym}
use Rattle.geo_tokens.specs.declared.token.Kind.{Kind}
use Rattle.geo_tokens.specs.declared.token.Kind.TheVariants.{Name, Number, Word, Symbol}
use Rattle.geo_tokens.specs.Class.{class_of}

-- a set of kinds, as the list of their numbers
abbrev pub Kinds : Type 0
Kinds = List ℕ

-- the set has a kind of this number
abbrev pub has : Kinds → ℕ → Bool
has [] n = false
has (m ∷ ms) n = (n == m) || has ms n

-- all names; all numbers; one reserved word; one symbol; these kinds
abbrev pub names : Kinds
names = class_of Name ∷ []

abbrev pub numbers : Kinds
numbers = class_of (Number 0) ∷ []

abbrev pub word : Keyword → Kinds
word w = class_of (Word w) ∷ []

abbrev pub symbol : Sym → Kinds
symbol s = class_of (Symbol s) ∷ []

abbrev pub kinds_of : List Kind → Kinds
kinds_of ks = map class_of ks

-- the token is of one of these kinds
abbrev pub Of : Kinds → Token → Type 0
Of ks t = has ks (class_of t.kind) ≡ true

-- A language of A: which lists of tokens spell the value a, for `Some a`. For `None` a list is cut
-- behind a token that opens one level more than there may be.
abbrev pub Lang : Type 0 → Type 1
Lang A = Option A → List Token → Type 0

-- no token, and this value
abbrev pub Pure : {A : Type 0} → A → Lang A
Pure a o w = (o ≡ Some a) × (w ≡ [])

-- one token of these kinds
abbrev pub OneOf : {A : Type 0} → Kinds → (Token → Option A) → Lang A
OneOf ks f o w = (t : Token) × Of ks t × (o ≡ f t) × (w ≡ t ∷ [])

-- one token of these kinds, which is the value
abbrev pub Tok : Kinds → Lang Token
Tok ks = OneOf ks (λ t. Some t)

-- a token of these kinds, which opens a level too many
abbrev pub Cut : {A : Type 0} → Kinds → Lang A
Cut ks = OneOf ks (λ t. None)

-- one after the other; the second may depend on the first one's value
pub data Bind {A B : Type 0} (L : Lang A) (M : A → Lang B) (o : Option B) (w : List Token) : Type 0 where
  cut : o ≡ None → L None w → Bind L M o w
  both : (a : A) (x y : List Token) → L (Some a) x → M a o y → w ≡ x ++ y → Bind L M o w

-- one or the other
pub data Either {A : Type 0} (L M : Lang A) (o : Option A) (w : List Token) : Type 0 where
  left : L o w → Either L M o w
  right : M o w → Either L M o w

-- a list of the language, or no token and this value
pub data Opt {A : Type 0} (L : Lang A) (a : A) (o : Option A) (w : List Token) : Type 0 where
  there : L o w → Opt L a o w
  not_there : o ≡ Some a → w ≡ [] → Opt L a o w

-- at most k lists of the language, one after the other
abbrev pub UpTo : {A : Type 0} → Lang A → ℕ → Lang (List A)
UpTo L zero = Pure []
UpTo L (suc k) = Opt (Bind L (λ a. Bind (UpTo L k) (λ others. Pure (a ∷ others)))) []

-- lists of the language, one after the other
abbrev pub Many : {A : Type 0} → Lang A → Lang (List A)
Many L o w = (k : ℕ) × UpTo L k o w

-- at most k lists of L, each behind a mark; or fewer, and then a mark and a list of E, which ends them
abbrev pub UpToEnded : {A B : Type 0} → Kinds → Lang A → Lang B → ℕ → Lang (List A × Option B)
UpToEnded marks L E zero = Pure ([], None)
UpToEnded marks L E (suc k) = Opt (Bind (Tok marks) (λ m. Either
    (Bind L (λ a. Bind (UpToEnded marks L E k) (λ r. Pure (a ∷ r.0, r.1))))
    (Bind E (λ e. Pure ([], Some e))))) ([], None)

-- lists of L, each behind a mark, and in the end perhaps a mark and a list of E
abbrev pub Ended : {A B : Type 0} → Kinds → Lang A → Lang B → Lang (List A × Option B)
Ended marks L E o w = (k : ℕ) × UpToEnded marks L E k o w

-- the place of the first token
abbrev pub start_of : List Token → ℕ
start_of [] = 0
start_of (t ∷ w) = t.start

-- a list of the language, with a value made of the place of its first token and of its own value
abbrev pub Placed : {A B : Type 0} → Lang A → (ℕ → A → B) → Lang B
Placed {A} L made o w = (p : Option A) × L p w × (o ≡ option_map (made (start_of w)) p)

-- one list of the language, then any number of others, each behind a token of these kinds
abbrev pub Chain : {A : Type 0} → Lang A → Kinds → Lang (A × List A)
Chain L marks = Bind L (λ a. Bind (Many (Bind (Tok marks) (λ mark. L))) (λ others. Pure (a, others)))
