-- Bytes behind a text change no token of it; and the tokens of a text with one more token.
use Rattle.std.proofs.Common.{◌≡◌, ℕ, ◌-◌, ◌≤◌, List, [], ◌∷◌, ◌++◌, length, take, drop, All, inl, inr, refl, sym, ap, ap₂, ◌∙◌, arith}
use Rattle.std.proofs.lemmas.List.{length-drop, take-append-le, drop-append-le, map_push}
use Rattle.std.proofs.lemmas.List.Elements.{All-head, All-tail}
use Rattle.std.proofs.lemmas.Bool.{cases_lt}
use Rattle.geo_tokens.specs.declared.token.Token.{Token}
use Rattle.geo_tokens.specs.Bytes.{bytes_of}
use Rattle.derivation_reading.specs.Terminals.{name_by, lexeme, lexemes}

-- the bytes of a token
pub same_bytes : (text more : List ℕ) (t : Token) → t.end ≤ length text → bytes_of (text ++ more) t ≡ bytes_of text t
same_bytes text more t h = elim (cases_lt t.end t.start) [
  | inr l ↦ ap (λ (x : List ℕ). take (t.end - t.start) x) (drop-append-le t.start text more (omega arith))
      ∙ take-append-le (t.end - t.start) (drop t.start text) more (omega (arith, length-drop t.start text))
  | inl g ↦ (let none : t.end - t.start ≡ 0 = omega arith in ap (λ (m : ℕ). take m (drop t.start (text ++ more))) none ∙ sym (ap (λ (m : ℕ). take m (drop t.start text)) none))
]

-- what it says
pub same_lexeme : (text more : List ℕ) (t : Token) → t.end ≤ length text → lexeme (text ++ more) t ≡ lexeme text t
same_lexeme text more t h = ap (λ (x : List ℕ). record { is = (lexeme text t).is; name = name_by t.kind x }) (same_bytes text more t h)

-- and what many say
pub same_lexemes : (text more : List ℕ) (ts : List Token) → All (λ t. t.end ≤ length text) ts → lexemes (text ++ more) ts ≡ lexemes text ts
same_lexemes text more [] h = refl
same_lexemes text more (t ∷ ts) h =
    ap₂ (λ x xs. x ∷ xs) (same_lexeme text more t (All-head (λ u. u.end ≤ length text) t ts h)) (same_lexemes text more ts (All-tail (λ u. u.end ≤ length text) t ts h))

-- one token more
pub lexemes_more : (text : List ℕ) (ts : List Token) (t : Token) → lexemes text (ts ++ t ∷ []) ≡ lexemes text ts ++ lexeme text t ∷ []
lexemes_more text ts t = map_push (lexeme text) ts t
