-- The parts of a layout block: they are its bytes, and they are cut where they end.
use Rattle.std.proofs.Common.{◌≡◌, ℕ, suc, ◌≤◌, ℤ, Bool, true, false, if◌then◌else◌, List, [], ◌∷◌, ◌++◌, length, refl, sym, ap, ◌∙◌, subst, append_assoc}
use Rattle.std.specs.Prelude.{pos, negsuc, slice_index, codes, flat_map, decimal}
use Rattle.std.specs.Fmt.{signed_decimal}
use Rattle.std.specs.List.{range_with_len}
use Rattle.std.proofs.lemmas.List.{append-nil}
use Rattle.geo_tokens.specs.declared.token.Keyword.TheVariants as keywords
use Rattle.geo_tokens.specs.declared.token.Sym.TheVariants as syms
use Rattle.geo_tokens.specs.Names.{IsNameText}
use Rattle.rule_print.specs.Canonical.{Written, name, number, word, symbol, sign}
use Rattle.rule_print.proofs.Lexemes.{EndsAll, space_ends, line_ends}
use Rattle.rule_print.proofs.Respelled.{AllOf, joined}
use Rattle.problem_data.specs.Problem.{ProblemData}
use Rattle.problem_data.specs.Places.{is_absent_at}
use Rattle.problem_data.specs.Tuple.{Spot, Tuple, spot, object_of}
use Rattle.problem_text.specs.Canonical.{int_spelling}
use Rattle.problem_text.proofs.PrintingParts.{IsTextNumber}
use Rattle.layout_text.specs.Block.{shape_name, coordinates, placed_line, absent_line, line_of, lines_of, group_of, later_group, token_of, token_line, block_of}
use Rattle.layout_text.proofs.TextParts.{Part, blank, lexeme, part_bytes, all_bytes, lexemes, Fits, bytes_both, fits_both, lexemes_both, IsMark, space_mark, comma_mark, slash_mark, mark_ends}

-- ---- numbers

abbrev pub int_parts : ℤ → List Part
int_parts (pos n) = lexeme (number n) ∷ []
int_parts (negsuc n) = lexeme sign ∷ lexeme (number (suc n)) ∷ []

int_bytes : (v : ℤ) → all_bytes (int_parts v) ≡ signed_decimal v
int_bytes (pos n) = append-nil (decimal n)
int_bytes (negsuc n) = ap (λ (u : List ℕ). 45 ∷ u) (append-nil (decimal (suc n)))

int_lexemes : (v : ℤ) → lexemes (int_parts v) ≡ int_spelling v
int_lexemes (pos n) = refl
int_lexemes (negsuc n) = refl

int_fits : (v : ℤ) (u : List ℕ) → IsTextNumber v → EndsAll (slice_index u 0) → Fits (int_parts v) u
int_fits (pos n) u h f = (h, f (number n), tt)
int_fits (negsuc n) u h f = (tt, refl, (h, f (number (suc n)), tt))

-- ---- coordinates, each behind a mark

abbrev pub coordinate_parts : Part → List ℤ → List Part
coordinate_parts m [] = []
coordinate_parts m (v ∷ vs) = m ∷ (int_parts v ++ coordinate_parts m vs)

coordinate_bytes : (m : Part) (vs : List ℤ) → all_bytes (coordinate_parts m vs) ≡ coordinates (part_bytes m) vs
coordinate_bytes m [] = refl
coordinate_bytes m (v ∷ vs) =
    ap (λ (u : List ℕ). part_bytes m ++ u) (bytes_both (int_parts v) (coordinate_parts m vs) ∙ ap (λ (u : List ℕ). u ++ all_bytes (coordinate_parts m vs)) (int_bytes v) ∙ ap (λ (u : List ℕ). signed_decimal v ++ u) (coordinate_bytes m vs))
    ∙ sym (append_assoc (part_bytes m) (signed_decimal v) (coordinates (part_bytes m) vs))

coordinates_end : (m : Part) (vs : List ℤ) (u : List ℕ) → IsMark m → EndsAll (slice_index u 0) → EndsAll (slice_index (all_bytes (coordinate_parts m vs) ++ u) 0)
coordinates_end m [] u k f = f
coordinates_end m (v ∷ vs) u k f = mark_ends m (int_parts v ++ coordinate_parts m vs) u k

coordinate_fits : (m : Part) (vs : List ℤ) (u : List ℕ) → IsMark m → AllOf IsTextNumber vs → EndsAll (slice_index u 0) → Fits (coordinate_parts m vs) u
coordinate_fits m [] u k h f = tt
coordinate_fits m (v ∷ vs) u k h f =
    k.fits (int_parts v ++ coordinate_parts m vs) u
    (fits_both (int_parts v) (coordinate_parts m vs) u (int_fits v (all_bytes (coordinate_parts m vs) ++ u) h.0 (coordinates_end m vs u k f)) (coordinate_fits m vs u k h.1 f))

pub spaced_lexemes : (vs : List ℤ) → lexemes (coordinate_parts (blank 32) vs) ≡ flat_map int_spelling vs
spaced_lexemes [] = refl
spaced_lexemes (v ∷ vs) = lexemes_both (int_parts v) (coordinate_parts (blank 32) vs) ∙ ap (λ (us : List Written). us ++ lexemes (coordinate_parts (blank 32) vs)) (int_lexemes v) ∙ ap (λ (us : List Written). int_spelling v ++ us) (spaced_lexemes vs)

pub comma_lexemes : (vs : List ℤ) → lexemes (coordinate_parts (lexeme (symbol syms.Comma)) vs) ≡ joined (λ v. symbol syms.Comma ∷ int_spelling v) vs
comma_lexemes [] = refl
comma_lexemes (v ∷ vs) =
    ap (λ (us : List Written). symbol syms.Comma ∷ us)
    (lexemes_both (int_parts v) (coordinate_parts (lexeme (symbol syms.Comma)) vs) ∙ ap (λ (us : List Written). us ++ lexemes (coordinate_parts (lexeme (symbol syms.Comma)) vs)) (int_lexemes v) ∙ ap (λ (us : List Written). int_spelling v ++ us) (comma_lexemes vs))

-- ---- lines

-- what can be written of an object
pub record CanWriteSpot (s : Spot) : Type 0 where
  pub place : s.place ≤ 1000000000
  pub origin : AllOf IsTextNumber s.origin

module _ (p : ProblemData) (t : Tuple) where
  abbrev pub placed_parts : ℕ → List Part
  placed_parts o =
      lexeme (name (object_of p o).name) ∷ blank 32 ∷ lexeme (word keywords.As) ∷ blank 32 ∷ lexeme (name (shape_name p t o)) ∷ blank 32 ∷ lexeme (word keywords.At)
      ∷ (coordinate_parts (blank 32) (spot t o).origin ++ blank 10 ∷ [])

  abbrev pub absent_parts : ℕ → List Part
  absent_parts o = lexeme (name (object_of p o).name) ∷ blank 32 ∷ lexeme (word keywords.Absent) ∷ blank 10 ∷ []

  -- of an object that is absent, or is not
  abbrev pub parts_where : Bool → ℕ → List Part
  parts_where true o = absent_parts o
  parts_where false o = placed_parts o

  abbrev pub line_parts : ℕ → List Part
  line_parts o = parts_where (is_absent_at (object_of p o) (spot t o).place) o

  placed_bytes : (o : ℕ) → all_bytes (placed_parts o) ≡ placed_line p t o
  placed_bytes o =
      let n : List ℕ = (object_of p o).name in
      let s : List ℕ = shape_name p t o in
      let tail : List ℕ = coordinates (codes " ") (spot t o).origin ++ codes "\n" in
      let same : all_bytes (coordinate_parts (blank 32) (spot t o).origin ++ blank 10 ∷ []) ≡ tail = bytes_both (coordinate_parts (blank 32) (spot t o).origin) (blank 10 ∷ []) ∙ ap (λ (u : List ℕ). u ++ codes "\n") (coordinate_bytes (blank 32) (spot t o).origin) in
      ap (λ (u : List ℕ). n ++ (codes " as " ++ (s ++ (codes " at" ++ u)))) same
      ∙ sym (append_assoc n (codes " as " ++ (s ++ codes " at")) tail ∙ ap (λ (u : List ℕ). n ++ (codes " as " ++ u)) (append_assoc s (codes " at") tail))

  line_bytes : (b : Bool) (o : ℕ) → all_bytes (parts_where b o) ≡ (if b then absent_line p o else placed_line p t o)
  line_bytes true o = refl
  line_bytes false o = placed_bytes o

  placed_fits : (o : ℕ) (u : List ℕ) → IsNameText (object_of p o).name → IsNameText (shape_name p t o) → CanWriteSpot (spot t o) → Fits (placed_parts o) u
  placed_fits o u hn hs h =
      let cs : List Part = coordinate_parts (blank 32) (spot t o).origin in
      let last : Fits (cs ++ blank 10 ∷ []) u = fits_both cs (blank 10 ∷ []) u (coordinate_fits (blank 32) (spot t o).origin (10 ∷ u) space_mark h.origin line_ends) (refl, tt) in
      let ends : EndsAll (slice_index (all_bytes (cs ++ blank 10 ∷ []) ++ u) 0) =
      subst (λ (v : List ℕ). EndsAll (slice_index v 0)) (sym (ap (λ (v : List ℕ). v ++ u) (bytes_both cs (blank 10 ∷ [])) ∙ append_assoc (all_bytes cs) (10 ∷ []) u)) (coordinates_end (blank 32) (spot t o).origin (10 ∷ u) space_mark line_ends) in
      (hn, space_ends (name (object_of p o).name), (refl, (tt, space_ends (word keywords.As), (refl, (hs, space_ends (name (shape_name p t o)), (refl, (tt, ends (word keywords.At), last)))))))

  line_fits : (b : Bool) (o : ℕ) (u : List ℕ) → IsNameText (object_of p o).name → (b ≡ false → IsNameText (shape_name p t o)) → CanWriteSpot (spot t o) → Fits (parts_where b o) u
  line_fits true o u hn hs h = (hn, space_ends (name (object_of p o).name), (refl, (tt, line_ends (word keywords.Absent), (refl, tt))))
  line_fits false o u hn hs h = placed_fits o u hn (hs refl) h

  pub placed_lexemes : (o : ℕ) → lexemes (placed_parts o) ≡ name (object_of p o).name ∷ word keywords.As ∷ name (shape_name p t o) ∷ word keywords.At ∷ flat_map int_spelling (spot t o).origin
  placed_lexemes o =
      ap (λ (us : List Written). name (object_of p o).name ∷ word keywords.As ∷ name (shape_name p t o) ∷ word keywords.At ∷ us)
      (lexemes_both (coordinate_parts (blank 32) (spot t o).origin) (blank 10 ∷ []) ∙ append-nil (lexemes (coordinate_parts (blank 32) (spot t o).origin)) ∙ spaced_lexemes (spot t o).origin)

-- ---- groups

abbrev pub group_parts : Spot → List Part
group_parts s = lexeme (number s.place) ∷ coordinate_parts (lexeme (symbol syms.Comma)) s.origin

abbrev pub later_parts : Spot → List Part
later_parts s = lexeme (symbol syms.Slash) ∷ group_parts s

abbrev pub token_parts : Tuple → List Part
token_parts [] = lexeme (symbol syms.Minus) ∷ []
token_parts (s ∷ ss) = group_parts s ++ flat_map later_parts ss

group_bytes : (s : Spot) → all_bytes (group_parts s) ≡ group_of s
group_bytes s = ap (λ (u : List ℕ). decimal s.place ++ u) (coordinate_bytes (lexeme (symbol syms.Comma)) s.origin)

later_bytes : (ss : List Spot) → all_bytes (flat_map later_parts ss) ≡ flat_map later_group ss
later_bytes [] = refl
later_bytes (s ∷ ss) =
    ap (λ (u : List ℕ). 47 ∷ u) (bytes_both (group_parts s) (flat_map later_parts ss) ∙ ap (λ (u : List ℕ). u ++ all_bytes (flat_map later_parts ss)) (group_bytes s) ∙ ap (λ (u : List ℕ). group_of s ++ u) (later_bytes ss))

pub token_bytes : (t : Tuple) → all_bytes (token_parts t) ≡ token_of t
token_bytes [] = refl
token_bytes (s ∷ ss) = bytes_both (group_parts s) (flat_map later_parts ss) ∙ ap (λ (u : List ℕ). u ++ all_bytes (flat_map later_parts ss)) (group_bytes s) ∙ ap (λ (u : List ℕ). group_of s ++ u) (later_bytes ss)

group_fits : (s : Spot) (u : List ℕ) → CanWriteSpot s → EndsAll (slice_index u 0) → Fits (group_parts s) u
group_fits s u h f =
    (h.place, coordinates_end (lexeme (symbol syms.Comma)) s.origin u comma_mark f (number s.place), coordinate_fits (lexeme (symbol syms.Comma)) s.origin u comma_mark h.origin f)

later_end : (ss : List Spot) (u : List ℕ) → EndsAll (slice_index u 0) → EndsAll (slice_index (all_bytes (flat_map later_parts ss) ++ u) 0)
later_end [] u f = f
later_end (s ∷ ss) u f = mark_ends (lexeme (symbol syms.Slash)) (group_parts s ++ flat_map later_parts ss) u slash_mark

later_fits : (ss : List Spot) (u : List ℕ) → AllOf CanWriteSpot ss → EndsAll (slice_index u 0) → Fits (flat_map later_parts ss) u
later_fits [] u h f = tt
later_fits (s ∷ ss) u h f =
    slash_mark.fits (group_parts s ++ flat_map later_parts ss) u
    (fits_both (group_parts s) (flat_map later_parts ss) u (group_fits s (all_bytes (flat_map later_parts ss) ++ u) h.0 (later_end ss u f)) (later_fits ss u h.1 f))

pub token_fits : (t : Tuple) (u : List ℕ) → AllOf CanWriteSpot t → EndsAll (slice_index u 0) → Fits (token_parts t) u
token_fits [] u h f = (tt, refl, tt)
token_fits (s ∷ ss) u h f = fits_both (group_parts s) (flat_map later_parts ss) u (group_fits s (all_bytes (flat_map later_parts ss) ++ u) h.0 (later_end ss u f)) (later_fits ss u h.1 f)

-- ---- the block

module _ (p : ProblemData) (t : Tuple) where
  abbrev pub end_parts : List Part
  end_parts = lexeme (word keywords.Token) ∷ blank 32 ∷ (token_parts t ++ blank 10 ∷ [])

  abbrev pub block_parts : List Part
  block_parts = lexeme (word keywords.Layout) ∷ blank 10 ∷ (flat_map (line_parts p t) (range_with_len 0 (length t)) ++ end_parts)

  lines_bytes : (os : List ℕ) → all_bytes (flat_map (line_parts p t) os) ≡ flat_map (line_of p t) os
  lines_bytes [] = refl
  lines_bytes (o ∷ os) = bytes_both (line_parts p t o) (flat_map (line_parts p t) os) ∙ ap (λ (u : List ℕ). u ++ all_bytes (flat_map (line_parts p t) os)) (line_bytes p t (is_absent_at (object_of p o) (spot t o).place) o) ∙ ap (λ (u : List ℕ). line_of p t o ++ u) (lines_bytes os)

  end_bytes : all_bytes end_parts ≡ token_line t
  end_bytes = ap (λ (u : List ℕ). codes "token " ++ u) (bytes_both (token_parts t) (blank 10 ∷ []) ∙ ap (λ (u : List ℕ). u ++ codes "\n") (token_bytes t))

  pub block_bytes : all_bytes block_parts ≡ block_of p t
  block_bytes =
      ap (λ (u : List ℕ). codes "layout\n" ++ u)
      (bytes_both (flat_map (line_parts p t) (range_with_len 0 (length t))) end_parts ∙ ap (λ (u : List ℕ). u ++ all_bytes end_parts) (lines_bytes (range_with_len 0 (length t))) ∙ ap (λ (u : List ℕ). lines_of p t ++ u) end_bytes)

  -- what can be written of an object's line
  pub record CanWriteLine (o : ℕ) : Type 0 where
    pub name : IsNameText (object_of p o).name
    pub shape : is_absent_at (object_of p o) (spot t o).place ≡ false → IsNameText (shape_name p t o)
    pub spot : CanWriteSpot (spot t o)

  lines_fit : (os : List ℕ) (u : List ℕ) → AllOf CanWriteLine os → Fits (flat_map (line_parts p t) os) u
  lines_fit [] u h = tt
  lines_fit (o ∷ os) u h = fits_both (line_parts p t o) (flat_map (line_parts p t) os) u (line_fits p t (is_absent_at (object_of p o) (spot t o).place) o (all_bytes (flat_map (line_parts p t) os) ++ u) h.0.name h.0.shape h.0.spot) (lines_fit os u h.1)

  pub block_fits : AllOf CanWriteLine (range_with_len 0 (length t)) → AllOf CanWriteSpot t → Fits block_parts []
  block_fits h g =
      let behind : Fits (token_parts t ++ blank 10 ∷ []) [] = fits_both (token_parts t) (blank 10 ∷ []) [] (token_fits t (10 ∷ []) g line_ends) (refl, tt) in
      let end : Fits end_parts [] = (tt, space_ends (word keywords.Token), (refl, behind)) in
      (tt, line_ends (word keywords.Layout), (refl, fits_both (flat_map (line_parts p t) (range_with_len 0 (length t))) end_parts [] (lines_fit (range_with_len 0 (length t)) (all_bytes end_parts ++ []) h) end))
