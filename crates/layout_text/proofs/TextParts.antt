-- Texts that are put together of tokens and white space, and what they are cut into.
use Rattle.std.proofs.Common.{◌≡◌, ℕ, ◌+◌, ◌-◌, List, [], ◌∷◌, ◌++◌, length, take, drop, true, refl, sym, ap, ◌∙◌, subst, append_assoc, arith}
use Rattle.std.specs.Prelude.{slice_index, flat_map}
use Rattle.std.proofs.lemmas.Grind.{flat_map-append}
use Rattle.std.proofs.lemmas.List.{append-nil, drop_at, length-append}
use Rattle.std.proofs.Math.Seq.{take-append_seam}
use Rattle.geo_tokens.specs.declared.token.Token.{Token}
use Rattle.geo_tokens.specs.declared.token.Sym.TheVariants as syms
use Rattle.geo_tokens.specs.Bytes.{is_white}
use Rattle.geo_tokens.specs.Cut.{Cut, here, behind_gap, behind_token, white, IsTokens}
use Rattle.geo_tokens.proofs.Cuts.{token_of}
use Rattle.rule_print.specs.Canonical.{Written, name, number, word, symbol, sign, kind_of, spelling}
use Rattle.rule_print.proofs.Lexemes.{IsWritten, ends_at, token_at, EndsAll, space_ends, line_ends}
use Rattle.rule_print.proofs.ShownTokens.{Stands}

-- a byte of white space, or a token
pub data Part : Type 0 where
  blank : ℕ → Part
  lexeme : Written → Part

abbrev pub part_bytes : Part → List ℕ
part_bytes (blank b) = b ∷ []
part_bytes (lexeme w) = spelling w

abbrev pub all_bytes : List Part → List ℕ
all_bytes ps = flat_map part_bytes ps

abbrev pub lexemes : List Part → List Written
lexemes [] = []
lexemes (blank b ∷ ps) = lexemes ps
lexemes (lexeme w ∷ ps) = w ∷ lexemes ps

abbrev pub tokens_from : ℕ → List Part → List Token
tokens_from e [] = []
tokens_from e (blank b ∷ ps) = tokens_from (e + 1) ps
tokens_from e (lexeme w ∷ ps) = token_of (kind_of w) e (length (spelling w)) ∷ tokens_from (e + length (spelling w)) ps

-- each part ends where the next one begins; u stands behind the last one
abbrev pub Fits : List Part → List ℕ → Type 0
Fits [] u = Unit {0}
Fits (blank b ∷ ps) u = (is_white b ≡ true) × Fits ps u
Fits (lexeme w ∷ ps) u = IsWritten w × (ends_at w (slice_index (all_bytes ps ++ u) 0) ≡ true) × Fits ps u

pub bytes_both : (ps qs : List Part) → all_bytes (ps ++ qs) ≡ all_bytes ps ++ all_bytes qs
bytes_both ps qs = flat_map-append part_bytes ps qs

behind_both : (ps qs : List Part) (u : List ℕ) → all_bytes (ps ++ qs) ++ u ≡ all_bytes ps ++ (all_bytes qs ++ u)
behind_both ps qs u = ap (λ (v : List ℕ). v ++ u) (bytes_both ps qs) ∙ append_assoc (all_bytes ps) (all_bytes qs) u

pub fits_both : (ps qs : List Part) (u : List ℕ) → Fits ps (all_bytes qs ++ u) → Fits qs u → Fits (ps ++ qs) u
fits_both [] qs u h g = g
fits_both (blank b ∷ ps) qs u h g = (h.0, fits_both ps qs u h.1 g)
fits_both (lexeme w ∷ ps) qs u h g = (h.0, ap (λ (v : List ℕ). ends_at w (slice_index v 0)) (behind_both ps qs u) ∙ h.1, fits_both ps qs u h.2 g)

pub lexemes_both : (ps qs : List Part) → lexemes (ps ++ qs) ≡ lexemes ps ++ lexemes qs
lexemes_both [] qs = refl
lexemes_both (blank b ∷ ps) qs = lexemes_both ps qs
lexemes_both (lexeme w ∷ ps) qs = ap (λ (us : List Written). w ∷ us) (lexemes_both ps qs)

-- ---- cutting

module _ (end : ℕ) where
  parts_cut : (e : ℕ) (ps : List Part) → Fits ps [] → e + length (all_bytes ps) ≡ end → Cut end [] e (all_bytes ps) (tokens_from e ps)
  parts_cut e [] h q = let same : e ≡ end = (let z : e + 0 ≡ end = q in omega arith) in here e [] [] same refl refl
  parts_cut e (blank b ∷ ps) h q =
      let at : e + 1 + length (all_bytes ps) ≡ end = (let z : e + length (b ∷ all_bytes ps) ≡ end = q in omega arith) in
      behind_gap e (b ∷ all_bytes ps) (tokens_from (e + 1) ps) 1 (white h.0 refl) (parts_cut (e + 1) ps h.1 at)
  parts_cut e (lexeme w ∷ ps) h q =
      let at : e + length (spelling w) + length (all_bytes ps) ≡ end = (let z : e + length (spelling w ++ all_bytes ps) ≡ end = q in omega (arith, length-append (spelling w) (all_bytes ps))) in
      let ends : ends_at w (slice_index (all_bytes ps) 0) ≡ true = ap (λ (v : List ℕ). ends_at w (slice_index v 0)) (sym (append-nil (all_bytes ps))) ∙ h.1 in
      behind_token e (spelling w ++ all_bytes ps) _ (kind_of w) (length (spelling w)) (tokens_from (e + length (spelling w)) ps) (token_at w (all_bytes ps) h.0 ends) refl
      (subst (λ (v : List ℕ). Cut end [] (e + length (spelling w)) v (tokens_from (e + length (spelling w)) ps)) (sym (drop_at (spelling w) (all_bytes ps) (length (spelling w)) refl)) (parts_cut (e + length (spelling w)) ps h.2 at))

-- the text is cut into the parts' tokens
pub parts_are_tokens : (ps : List Part) → Fits ps [] → IsTokens (all_bytes ps) (tokens_from 0 ps)
parts_are_tokens ps h = parts_cut (length (all_bytes ps)) 0 ps h (omega arith)

part_of : (before part behind text : List ℕ) (s : ℕ) → s ≡ length before → text ≡ before ++ (part ++ behind) → take ((s + length part) - s) (drop s text) ≡ part
part_of before part behind text s e q =
    let size : (s + length part) - s ≡ length part = omega arith in
    let at : drop s text ≡ part ++ behind = ap (λ (v : List ℕ). drop s v) q ∙ drop_at before (part ++ behind) s (sym e) in
    ap (λ (k : ℕ). take k (drop s text)) size ∙ ap (λ (v : List ℕ). take (length part) v) at ∙ take-append_seam part behind

parts_stand : (text before : List ℕ) (e : ℕ) (ps : List Part) → e ≡ length before → text ≡ before ++ all_bytes ps → Stands text (lexemes ps) (tokens_from e ps)
parts_stand text before e [] l q = tt
parts_stand text before e (blank b ∷ ps) l q =
    let place : e + 1 ≡ length (before ++ b ∷ []) = omega (arith, length-append before (b ∷ [])) in
    parts_stand text (before ++ b ∷ []) (e + 1) ps place (q ∙ sym (append_assoc before (b ∷ []) (all_bytes ps)))
parts_stand text before e (lexeme w ∷ ps) l q =
    let place : e + length (spelling w) ≡ length (before ++ spelling w) = omega (arith, length-append before (spelling w)) in (
      refl,
      part_of before (spelling w) (all_bytes ps) text e l q,
      parts_stand text (before ++ spelling w) (e + length (spelling w)) ps place (q ∙ sym (append_assoc before (spelling w) (all_bytes ps))),
    )

pub parts_stand_whole : (ps : List Part) → Stands (all_bytes ps) (lexemes ps) (tokens_from 0 ps)
parts_stand_whole ps = parts_stand (all_bytes ps) [] 0 ps refl refl

-- ---- marks

comma_ends : EndsAll 44
comma_ends (name bytes) = refl
comma_ends (number n) = refl
comma_ends (word w) = refl
comma_ends (symbol syms.Dot) = refl
comma_ends (symbol syms.Less) = refl
comma_ends (symbol syms.Greater) = refl
comma_ends (symbol _) = refl
comma_ends sign = refl

slash_ends : EndsAll 47
slash_ends (name bytes) = refl
slash_ends (number n) = refl
slash_ends (word w) = refl
slash_ends (symbol syms.Dot) = refl
slash_ends (symbol syms.Less) = refl
slash_ends (symbol syms.Greater) = refl
slash_ends (symbol _) = refl
slash_ends sign = refl

-- a part of one byte with which each token ends, and that ends before everything
pub record IsMark (m : Part) : Type 0 where
  pub ends : (u : List ℕ) → EndsAll (slice_index (part_bytes m ++ u) 0)
  pub fits : (ps : List Part) (u : List ℕ) → Fits ps u → Fits (m ∷ ps) u

pub space_mark : IsMark (blank 32)
space_mark = record { ends = λ u. space_ends; fits = λ ps u h. (refl, h) }

pub line_mark : IsMark (blank 10)
line_mark = record { ends = λ u. line_ends; fits = λ ps u h. (refl, h) }

pub comma_mark : IsMark (lexeme (symbol syms.Comma))
comma_mark = record { ends = λ u. comma_ends; fits = λ ps u h. (tt, refl, h) }

pub slash_mark : IsMark (lexeme (symbol syms.Slash))
slash_mark = record { ends = λ u. slash_ends; fits = λ ps u h. (tt, refl, h) }

-- a mark in front of others
pub mark_ends : (m : Part) (ps : List Part) (u : List ℕ) → IsMark m → EndsAll (slice_index (all_bytes (m ∷ ps) ++ u) 0)
mark_ends m ps u h = subst (λ (v : List ℕ). EndsAll (slice_index v 0)) (sym (append_assoc (part_bytes m) (all_bytes ps) u)) (h.ends (all_bytes ps ++ u))
