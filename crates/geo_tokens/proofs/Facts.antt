-- What composing needs of a language.
use Rattle.std.proofs.Common.{◌≡◌, ℕ, List, [], ◌∷◌, ◌++◌, Option, Some, None, Bool, true}
use Rattle.geo_tokens.specs.declared.token.Token.{Token}
use Rattle.geo_tokens.specs.Words.{Kinds, has, Of, Lang}
use Rattle.geo_tokens.proofs.Lists.{subset, has_subset}
use Rattle.geo_tokens.specs.Class.{class_of}

-- a cut list goes on in no list of the language, a whole one by tokens of these kinds alone
abbrev pub GoesOn : {A : Type 0} → Kinds → Option A → Token → Type 0
GoesOn ks None t = ⊥
GoesOn ks (Some a) t = Of ks t

-- a whole list may be empty where the language is nullable, a cut one never
abbrev pub MayBeEmpty : {A : Type 0} → Bool → Option A → Type 0
MayBeEmpty b None = ⊥
MayBeEmpty b (Some a) = b ≡ true

-- The language is nullable or not, begins with exactly the tokens of these kinds (its first set), and a list
-- of it goes on to a longer one by tokens of those kinds alone; a list spells one thing; and there is some list.
pub record Facts {A : Type 0} (L : Lang A) (nullable : Bool) (firsts behinds : Kinds) : Type 0 where
  pub empty : (o : Option A) → L o [] → MayBeEmpty nullable o
  pub blank : nullable ≡ true → (a : A) × L (Some a) []
  pub first : (o : Option A) (t : Token) (v : List Token) → L o (t ∷ v) → Of firsts t
  pub begins : (t : Token) → Of firsts t → (o : Option A) × (v : List Token) × L o (t ∷ v)
  pub behind : (o p : Option A) (x : List Token) (t : Token) (v : List Token) → L o x → L p (x ++ t ∷ v) → GoesOn behinds o t
  pub same : (o p : Option A) (x : List Token) → L o x → L p x → o ≡ p
  pub value : Option A
  pub list : List Token
  pub word : L value list

goes_on_more : {A : Type 0} (ks ms : Kinds) (o : Option A) (t : Token) → ((c : ℕ) → has ks c ≡ true → has ms c ≡ true) → GoesOn ks o t → GoesOn ms o t
goes_on_more ks ms None t s h = h
goes_on_more ks ms (Some a) t s h = s (class_of t.kind) h

-- the same first set, written otherwise, and a larger set behind
pub wider_by : {A : Type 0} (L : Lang A) (b : Bool) (f e f' e' : Kinds) → ((c : ℕ) → has f c ≡ true → has f' c ≡ true) → ((c : ℕ) → has f' c ≡ true → has f c ≡ true)
    → ((c : ℕ) → has e c ≡ true → has e' c ≡ true) → Facts L b f e → Facts L b f' e'
wider_by L b f e f' e' p p' q h = record {
  empty = h.empty;
  blank = h.blank;
  first = λ o t v l. p (class_of t.kind) (h.first o t v l);
  begins = λ t i. h.begins t (p' (class_of t.kind) i);
  behind = λ o r x t v l m. goes_on_more e e' o t q (h.behind o r x t v l m);
  same = h.same;
  value = h.value;
  list = h.list;
  word = h.word;
}

pub wider : {A : Type 0} (L : Lang A) (b : Bool) (f e f' e' : Kinds) → subset f f' ≡ true → subset f' f ≡ true → subset e e' ≡ true → Facts L b f e → Facts L b f' e'
wider L b f e f' e' p p' q h = wider_by L b f e f' e' (λ c. has_subset f f' c p) (λ c. has_subset f' f c p') (λ c. has_subset e e' c q) h
