-- The parts of the lines of a derivation: they are its bytes, and each is cut where it ends.
use Rattle.std.proofs.Common.{◌≡◌, ◌≤ℤ◌, ℕ, suc, ◌+◌, ◌<◌, ◌≤◌, ℤ, pos, negsuc, List, [], ◌∷◌, ◌++◌, length, true, None, refl, sym, ap, ◌∙◌, arith, lit≤}
use Rattle.std.specs.Prelude.{slice_index, codes, All}
use Rattle.std.specs.Fmt.{signed_decimal}
use Rattle.std.specs.List.{prefix_len}
use Rattle.std.proofs.lemmas.Int.{ints}
use Rattle.std.proofs.lemmas.List.Elements.{All-head, All-tail}
use Rattle.std.proofs.Math.Seq.{take-length}
use Rattle.geo_tokens.specs.declared.token.Keyword.TheVariants as keywords
use Rattle.geo_tokens.specs.declared.token.Sym.TheVariants as syms
use Rattle.geo_tokens.specs.Bytes.{is_letter, is_word_byte}
use Rattle.geo_tokens.specs.Class.{word_bytes}
use Rattle.geo_tokens.specs.Spelled.{spelled_as, words_of}
use Rattle.geo_tokens.specs.Names.{NameTable, IsNameText, IsNameTable}
use Rattle.geo_tokens.proofs.Spellings.{reserved}
use Rattle.rule_print.specs.Canonical.{name, number, word, symbol}
use Rattle.rule_print.proofs.Lexemes.{EndsAll, space_ends, line_ends}
use Rattle.layout_text.proofs.PrintedParts.{int_parts}
use Rattle.layout_text.proofs.TextParts.{Part, blank, lexeme, all_bytes, Fits, bytes_both, fits_both}
use Rattle.derivation.specs.declared.event.Event.{Event}
use Rattle.derivation.specs.declared.event.Event.TheVariants.{SplitShape, SplitUpto, SplitFrom, Drop, Raise, Lower, Gone, Dead, Cover, EndCovers, By, Cut, CutFrom}
use Rattle.derivation_text.specs.Lines.{object_name, shape_name, line_of, listed, lines_of, derivation_text, IsNamed, AreNamed}
use Rattle.derivation_round_trip.specs.Limits.{IsTextNumber, IsLimited}
use Rattle.derivation_round_trip.proofs.Found.{object_text, shape_text}
use Rattle.derivation_round_trip.proofs.Places.{place_word, place_spelled, place_fits}

-- ---- the parts

abbrev coordinate_parts : List ℕ → List ℕ → ℕ → List Part → ℤ → List Part → List Part
coordinate_parts first object d between v end =
    lexeme (name first) ∷ blank 32 ∷ lexeme (name object) ∷ blank 32 ∷ lexeme (number (d + 1)) ∷ (between ++ (int_parts v ++ end))

abbrev space_parts : List Part
space_parts = blank 32 ∷ []

abbrev word_parts : List ℕ → List Part
word_parts w = blank 32 ∷ lexeme (name w) ∷ blank 32 ∷ []

abbrev pub end_parts : List Part
end_parts = blank 10 ∷ []

abbrev place_parts : List ℕ → List Part
place_parts bytes = lexeme (place_word bytes) ∷ end_parts

abbrev pub open_parts : List Part
open_parts = blank 32 ∷ lexeme (symbol syms.BracketOpen) ∷ blank 10 ∷ []

abbrev cut_parts : List ℕ → ℕ → ℤ → List Part
cut_parts first d v = lexeme (name first) ∷ blank 32 ∷ lexeme (number (d + 1)) ∷ blank 32 ∷ (int_parts v ++ end_parts)

abbrev number_parts : List ℕ → ℕ → List Part
number_parts first i = lexeme (name first) ∷ blank 32 ∷ lexeme (number i) ∷ end_parts

-- the parts of the line of an event
abbrev pub line_parts : NameTable → ℕ → Event → List Part
line_parts n o (SplitShape u s) =
    lexeme (name (codes "split")) ∷ blank 32 ∷ lexeme (name (object_name n u.0)) ∷ blank 32 ∷ lexeme (word keywords.Shape) ∷ blank 32 ∷ place_parts (shape_name n u.0 s)
line_parts n o (SplitUpto u d v) = coordinate_parts (codes "split") (object_name n u.0) d (word_parts (codes "upto")) v end_parts
line_parts n o (SplitFrom u d v) = coordinate_parts (codes "split") (object_name n u.0) d (word_parts (codes "from")) v end_parts
line_parts n o (Drop u s) = lexeme (name (codes "drop")) ∷ blank 32 ∷ lexeme (name (object_name n u.0)) ∷ blank 32 ∷ place_parts (shape_name n u.0 s)
line_parts n o (Raise u d v) = coordinate_parts (codes "raise") (object_name n u.0) d space_parts v open_parts
line_parts n o (Lower u d v) = coordinate_parts (codes "lower") (object_name n u.0) d space_parts v open_parts
line_parts n o (Gone u) = lexeme (name (codes "gone")) ∷ blank 32 ∷ lexeme (name (object_name n u.0)) ∷ open_parts
line_parts n o (Dead i) = number_parts (codes "dead") i
line_parts n o (Cover s) = place_parts (shape_name n o s)
line_parts n o EndCovers = lexeme (symbol syms.BracketClose) ∷ end_parts
line_parts n o (By i) = number_parts (codes "by") i
line_parts n o (Cut d v) = cut_parts (codes "cut") d v
line_parts n o (CutFrom d v) = cut_parts (codes "from") d v

abbrev pub lines_parts : NameTable → ℕ → List Event → List Part
lines_parts n o [] = []
lines_parts n o (e ∷ es) = line_parts n o e ++ lines_parts n (listed o e) es

abbrev pub qed_parts : List Part
qed_parts = lexeme (word keywords.Qed) ∷ end_parts

abbrev pub text_parts : NameTable → List Event → List Part
text_parts n es = lines_parts n 0 es ++ qed_parts

-- ---- their bytes

int_bytes : (v : ℤ) (end : List Part) → all_bytes (int_parts v ++ end) ≡ signed_decimal v ++ all_bytes end
int_bytes (pos k) end = refl
int_bytes (negsuc k) end = refl

place_bytes : (bytes : List ℕ) → all_bytes (place_parts bytes) ≡ bytes ++ codes "\n"
place_bytes bytes = ap (λ (b : List ℕ). b ++ codes "\n") (place_spelled bytes)

line_bytes : (n : NameTable) (o : ℕ) (e : Event) → all_bytes (line_parts n o e) ≡ line_of n o e
line_bytes n o (SplitShape u s) = ap (λ (b : List ℕ). codes "split " ++ (object_name n u.0 ++ (codes " shape " ++ b))) (place_bytes (shape_name n u.0 s))
line_bytes n o (SplitUpto u d v) =
    ap (λ (b : List ℕ). codes "split " ++ (object_name n u.0 ++ (codes " " ++ (signed_decimal (pos (d + 1)) ++ (codes " upto " ++ b))))) (int_bytes v end_parts)
line_bytes n o (SplitFrom u d v) =
    ap (λ (b : List ℕ). codes "split " ++ (object_name n u.0 ++ (codes " " ++ (signed_decimal (pos (d + 1)) ++ (codes " from " ++ b))))) (int_bytes v end_parts)
line_bytes n o (Drop u s) = ap (λ (b : List ℕ). codes "drop " ++ (object_name n u.0 ++ (codes " " ++ b))) (place_bytes (shape_name n u.0 s))
line_bytes n o (Raise u d v) =
    ap (λ (b : List ℕ). codes "raise " ++ (object_name n u.0 ++ (codes " " ++ (signed_decimal (pos (d + 1)) ++ (codes " " ++ b))))) (int_bytes v open_parts)
line_bytes n o (Lower u d v) =
    ap (λ (b : List ℕ). codes "lower " ++ (object_name n u.0 ++ (codes " " ++ (signed_decimal (pos (d + 1)) ++ (codes " " ++ b))))) (int_bytes v open_parts)
line_bytes n o (Gone u) = refl
line_bytes n o (Dead i) = refl
line_bytes n o (Cover s) = place_bytes (shape_name n o s)
line_bytes n o EndCovers = refl
line_bytes n o (By i) = refl
line_bytes n o (Cut d v) = ap (λ (b : List ℕ). codes "cut " ++ (signed_decimal (pos (d + 1)) ++ (codes " " ++ b))) (int_bytes v end_parts)
line_bytes n o (CutFrom d v) = ap (λ (b : List ℕ). codes "from " ++ (signed_decimal (pos (d + 1)) ++ (codes " " ++ b))) (int_bytes v end_parts)

lines_bytes : (n : NameTable) (o : ℕ) (es : List Event) → all_bytes (lines_parts n o es) ≡ lines_of n o es
lines_bytes n o [] = refl
lines_bytes n o (e ∷ es) =
    bytes_both (line_parts n o e) (lines_parts n (listed o e) es) ∙ ap (λ (b : List ℕ). b ++ all_bytes (lines_parts n (listed o e) es)) (line_bytes n o e)
    ∙ ap (λ (b : List ℕ). line_of n o e ++ b) (lines_bytes n (listed o e) es)

pub text_bytes : (n : NameTable) (es : List Event) → all_bytes (text_parts n es) ≡ derivation_text n es
text_bytes n es = bytes_both (lines_parts n 0 es) qed_parts ∙ ap (λ (b : List ℕ). b ++ codes "qed\n") (lines_bytes n 0 es)

-- ---- their ends

plain_word : (bytes : List ℕ) → is_letter (slice_index bytes 0) ≡ true → length bytes ≡ prefix_len is_word_byte bytes → length bytes ≤ 40
    → None ≡ spelled_as word_bytes (words_of (length bytes)) bytes → IsNameText bytes
plain_word bytes b l s e = record {
  form = record { begins = b; longest = l; short = s };
  free = λ w q. reserved (length bytes) None bytes refl e w (sym (take-length bytes) ∙ q);
}

split_text : IsNameText (codes "split")
split_text = plain_word (codes "split") refl refl (lit≤ tt) refl

drop_text : IsNameText (codes "drop")
drop_text = plain_word (codes "drop") refl refl (lit≤ tt) refl

raise_text : IsNameText (codes "raise")
raise_text = plain_word (codes "raise") refl refl (lit≤ tt) refl

lower_text : IsNameText (codes "lower")
lower_text = plain_word (codes "lower") refl refl (lit≤ tt) refl

gone_text : IsNameText (codes "gone")
gone_text = plain_word (codes "gone") refl refl (lit≤ tt) refl

dead_text : IsNameText (codes "dead")
dead_text = plain_word (codes "dead") refl refl (lit≤ tt) refl

upto_text : IsNameText (codes "upto")
upto_text = plain_word (codes "upto") refl refl (lit≤ tt) refl

from_text : IsNameText (codes "from")
from_text = plain_word (codes "from") refl refl (lit≤ tt) refl

by_text : IsNameText (codes "by")
by_text = plain_word (codes "by") refl refl (lit≤ tt) refl

cut_text : IsNameText (codes "cut")
cut_text = plain_word (codes "cut") refl refl (lit≤ tt) refl

small_number : (k : ℕ) → IsTextNumber (pos k) → k ≤ 1000000000
small_number k h = let high : pos k ≤ℤ pos 1000000000 = h.1 in omega (arith, ints)

int_fits : (v : ℤ) (u : List ℕ) → IsTextNumber v → EndsAll (slice_index u 0) → Fits (int_parts v) u
int_fits (pos k) u h f = (small_number k h, f (number k), tt)
int_fits (negsuc k) u h f = let low : negsuc 999999999 ≤ℤ negsuc k = h.0 in (tt, refl, (omega (arith, ints), f (number (suc k)), tt))

-- an int in front of others
int_then : (v : ℤ) (end : List Part) (u : List ℕ) → IsTextNumber v → EndsAll (slice_index (all_bytes end ++ u) 0) → Fits end u → Fits (int_parts v ++ end) u
int_then v end u h f g = fits_both (int_parts v) end u (int_fits v (all_bytes end ++ u) h f) g

module _ (n : NameTable) (table : IsNameTable n) where
  counted : (d : ℕ) → d < n.dims → d + 1 ≤ 1000000000
  counted d h = let most : n.dims ≤ 1000000000 = table.dims in omega arith

  coordinate_fits : (first object : List ℕ) (d : ℕ) (v : ℤ) (end : List Part) (u : List ℕ) → IsNameText first → IsNameText object → d < n.dims → IsTextNumber v
      → EndsAll (slice_index (all_bytes end ++ u) 0) → Fits end u → Fits (coordinate_parts first object d space_parts v end) u
  coordinate_fits first object d v end u hf ho hd hv f g = (hf, refl, (refl, (ho, refl, (refl, (counted d hd, refl, (refl, int_then v end u hv f g))))))

  split_fits : (between object : List ℕ) (d : ℕ) (v : ℤ) (u : List ℕ) → IsNameText between → IsNameText object → d < n.dims → IsTextNumber v
      → Fits (coordinate_parts (codes "split") object d (word_parts between) v end_parts) u
  split_fits between object d v u hb ho hd hv =
      (split_text, refl, (refl, (ho, refl, (refl, (counted d hd, refl, (refl, (hb, refl, (refl, int_then v end_parts u hv line_ends (refl, tt)))))))))

  cut_fits : (first : List ℕ) (d : ℕ) (v : ℤ) (u : List ℕ) → IsNameText first → d < n.dims → IsTextNumber v → Fits (cut_parts first d v) u
  cut_fits first d v u hf hd hv = (hf, refl, (refl, (counted d hd, refl, (refl, int_then v end_parts u hv line_ends (refl, tt)))))

  number_fits : (first : List ℕ) (i : ℕ) (u : List ℕ) → IsNameText first → IsTextNumber (pos i) → Fits (number_parts first i) u
  number_fits first i u hf hi = (hf, refl, (refl, (small_number i hi, refl, (refl, tt))))

  line_fits : (o : ℕ) (e : Event) (u : List ℕ) → IsNamed n o e → IsLimited e → Fits (line_parts n o e) u
  line_fits o (SplitShape p s) u h l = (split_text, refl, (refl, (object_text n table p.0 h.0, refl, (refl, (tt, refl, (refl, place_fits (shape_name n p.0 s) u (shape_text n table p.0 s h)))))))
  line_fits o (SplitUpto p d v) u h l = split_fits (codes "upto") (object_name n p.0) d v u upto_text (object_text n table p.0 h.0) h.1 l
  line_fits o (SplitFrom p d v) u h l = split_fits (codes "from") (object_name n p.0) d v u from_text (object_text n table p.0 h.0) h.1 l
  line_fits o (Drop p s) u h l = (drop_text, refl, (refl, (object_text n table p.0 h.0, refl, (refl, place_fits (shape_name n p.0 s) u (shape_text n table p.0 s h)))))
  line_fits o (Raise p d v) u h l = coordinate_fits (codes "raise") (object_name n p.0) d v open_parts u raise_text (object_text n table p.0 h.0) h.1 l space_ends (refl, (tt, refl, (refl, tt)))
  line_fits o (Lower p d v) u h l = coordinate_fits (codes "lower") (object_name n p.0) d v open_parts u lower_text (object_text n table p.0 h.0) h.1 l space_ends (refl, (tt, refl, (refl, tt)))
  line_fits o (Gone p) u h l = (gone_text, refl, (refl, (object_text n table p.0 h, refl, (refl, (tt, refl, (refl, tt))))))
  line_fits o (Dead i) u h l = number_fits (codes "dead") i u dead_text l
  line_fits o (Cover s) u h l = place_fits (shape_name n o s) u (shape_text n table o s h)
  line_fits o EndCovers u h l = (tt, refl, (refl, tt))
  line_fits o (By i) u h l = number_fits (codes "by") i u by_text l
  line_fits o (Cut d v) u h l = cut_fits (codes "cut") d v u cut_text h l
  line_fits o (CutFrom d v) u h l = cut_fits (codes "from") d v u from_text h l

  lines_fit : (o : ℕ) (es : List Event) (u : List ℕ) → AreNamed n o es → All IsLimited es → Fits (lines_parts n o es) u
  lines_fit o [] u h l = tt
  lines_fit o (e ∷ es) u h l =
      fits_both (line_parts n o e) (lines_parts n (listed o e) es) u (line_fits o e (all_bytes (lines_parts n (listed o e) es) ++ u) h.0 (All-head IsLimited e es l))
      (lines_fit (listed o e) es u h.1 (All-tail IsLimited e es l))

  pub text_fits : (es : List Event) → AreNamed n 0 es → All IsLimited es → Fits (text_parts n es) []
  text_fits es h l = fits_both (lines_parts n 0 es) qed_parts [] (lines_fit 0 es (all_bytes qed_parts ++ []) h l) (tt, refl, (refl, tt))
