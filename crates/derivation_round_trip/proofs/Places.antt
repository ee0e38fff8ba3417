-- Places in the lines of a derivation: names of shapes, and the word `absent`.
use Rattle.std.proofs.Common.{◌≡◌, ℕ, List, [], ◌∷◌, ◌++◌, Bool, true, false, if◌then◌else◌, refl, sym, ap, ◌∙◌, subst, inl, inr}
use Rattle.std.specs.Prelude.{codes, ◌⊎◌}
use Rattle.std.specs.Str.{bytes_eq}
use Rattle.std.proofs.lemmas.Bool.{cases_Bool, false≢true}
use Rattle.std.proofs.lemmas.Slice.Eq.{bytes_eq-Decides}
use Rattle.geo_tokens.specs.declared.token.Keyword.TheVariants as keywords
use Rattle.geo_tokens.specs.Names.{IsNameText, IsPlaceText}
use Rattle.rule_print.specs.Canonical.{Written, name, word, kind_of, spelling}
use Rattle.layout_text.proofs.TextParts.{Part, blank, lexeme, all_bytes, Fits}
use Rattle.derivation_reading.specs.declared.symbol.Symbol.{Symbol}
use Rattle.derivation_reading.specs.Terminals.{Lexeme, terminal_of, name_by}
use Rattle.derivation_reading.specs.Grammar.{Lookup, Next, at, place_by}

-- a token as the grammar sees it
abbrev pub seen : Written → Lexeme
seen w = record { is = terminal_of (kind_of w); name = name_by (kind_of w) (spelling w) }

abbrev word_or_name : Bool → List ℕ → Written
word_or_name b bytes = if b then word keywords.Absent else name bytes

-- the token of these bytes
abbrev pub place_word : List ℕ → Written
place_word bytes = word_or_name (bytes_eq bytes (codes "absent")) bytes

-- by whether the bytes are the word
by_word : (P : Bool → List ℕ → Type 0) (bytes : List ℕ) → P true (codes "absent") → (bytes_eq bytes (codes "absent") ≡ false → P false bytes) → P (bytes_eq bytes (codes "absent")) bytes
by_word P bytes there other = elim (cases_Bool (bytes_eq bytes (codes "absent"))) [
  | inl e ↦ subst (λ (b : Bool). P b bytes) (sym e) (subst (P true) (sym ((bytes_eq-Decides bytes (codes "absent")).0 e)) there)
  | inr e ↦ subst (λ (b : Bool). P b bytes) (sym e) (other e)
]

pub place_spelled : (bytes : List ℕ) → spelling (place_word bytes) ≡ bytes
place_spelled bytes = by_word (λ b x. spelling (word_or_name b x) ≡ x) bytes refl (λ e. refl)

-- a name that is not that word
plain_name : (bytes : List ℕ) → IsPlaceText bytes → bytes_eq bytes (codes "absent") ≡ false → IsNameText bytes
plain_name bytes (inl h) e = h
plain_name bytes (inr h) e = absurd (false≢true (sym e ∙ (bytes_eq-Decides bytes (codes "absent")).1 h))

-- where a line ends behind it
pub place_fits : (bytes : List ℕ) (u : List ℕ) → IsPlaceText bytes → Fits (lexeme (place_word bytes) ∷ blank 10 ∷ []) u
place_fits bytes u h = by_word (λ b x. Fits (lexeme (word_or_name b x) ∷ blank 10 ∷ []) u) bytes (tt, refl, (refl, tt)) (λ e. (plain_name bytes h e, refl, (refl, tt)))

-- the grammar sees a place
pub place_seen : (L : Lookup) (s : Symbol) (bytes : List ℕ) → ((w : List ℕ) → at L s (seen (name w)) ≡ place_by L s w) → at L s (seen (word keywords.Absent)) ≡ place_by L s (codes "absent")
    → at L s (seen (place_word bytes)) ≡ place_by L s bytes
place_seen L s bytes named absent = by_word (λ b x. at L s (seen (word_or_name b x)) ≡ place_by L s x) bytes absent (λ e. named bytes)
