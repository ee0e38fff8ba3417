-- The lines of a derivation are ASCII, since names, words and small numbers are.
use Rattle.std.proofs.Common.{inl, inr, ℕ, ℤ, pos, negsuc, ◌+◌, ◌<◌, List, [], ◌∷◌, ◌++◌, length, refl, sym, subst, arith, codes}
use Rattle.std.specs.Prelude.{All}
use Rattle.std.specs.Fmt.{signed_decimal}
use Rattle.std.specs.Str.{IsAscii}
use Rattle.std.proofs.lemmas.Int.{ints}
use Rattle.std.proofs.lemmas.Fmt.{IsAscii-signed}
use Rattle.std.proofs.lemmas.List.Elements.{All-head, All-tail}
use Rattle.std.proofs.lemmas.Str.{IsAscii-append}
use Rattle.std.proofs.lemmas.Str.Ascii.{IsAscii-nil}
use Rattle.geo_tokens.specs.declared.token.Keyword.TheVariants as keywords
use Rattle.geo_tokens.specs.Class.{word_bytes}
use Rattle.geo_tokens.specs.Names.{NameTable, IsNameText, IsPlaceText, IsNameTable}
use Rattle.derivation.specs.declared.event.Event.{Event}
use Rattle.derivation.specs.declared.event.Event.TheVariants.{SplitShape, SplitUpto, SplitFrom, Drop, Raise, Lower, Gone, Dead, Cover, EndCovers, By, Cut, CutFrom}
use Rattle.derivation_text.specs.Lines.{object_name, shape_name, joined, dimension, number, coordinate_line, shape_line, cut_line, number_line, line_of, listed, lines_of, HasShape, HasDimension, IsNamed, AreNamed}
use Rattle.derivation_round_trip.specs.Limits.{IsTextNumber, IsLimited}
use Rattle.derivation_round_trip.proofs.Found.{object_text, shape_text}
use Rattle.printed_derivation.specs.Printable.{IsPrintable}
use Rattle.json_parts.proofs.Words.{name_word, word_ascii}
use Rattle.geo_json.proofs.Shown.{plain_ascii}

-- ---- the parts of a line

name_ascii : (text : List ℕ) → IsNameText text → IsAscii text
name_ascii text h = word_ascii text (name_word text h)

place_ascii : (text : List ℕ) → IsPlaceText text → IsAscii text
place_ascii text (inl h) = name_ascii text h
place_ascii text (inr e) = subst IsAscii (sym e) (plain_ascii (word_bytes keywords.Absent) refl)

small_ascii : (z : ℤ) → IsTextNumber z → IsAscii (signed_decimal z)
small_ascii (pos n) (low, high) = IsAscii-signed (pos n) (omega (arith, ints, high))
small_ascii (negsuc n) (low, high) = IsAscii-signed (negsuc n) (omega (arith, ints, low))

abbrev AreAscii : List (List ℕ) → Type 0
AreAscii [] = Unit {0}
AreAscii (p ∷ ps) = IsAscii p × AreAscii ps

joined_ascii : (ps : List (List ℕ)) → AreAscii ps → IsAscii (joined ps)
joined_ascii [] h = IsAscii-nil
joined_ascii (p ∷ ps) h = IsAscii-append p (joined ps) h.0 (joined_ascii ps h.1)

coordinate_ascii : (word name : List ℕ) (d : ℕ) (between : List ℕ) (v : ℤ) (end : List ℕ) → IsAscii word → IsAscii name → IsAscii (dimension d) → IsAscii between → IsTextNumber v → IsAscii end → IsAscii (coordinate_line word name d between v end)
coordinate_ascii word name d between v end w o k b z e =
    joined_ascii (word ∷ name ∷ codes " " ∷ dimension d ∷ between ∷ signed_decimal v ∷ end ∷ []) (w, (o, (plain_ascii (codes " ") refl, (k, (b, (small_ascii v z, (e, tt)))))))

shape_ascii : (word name between shape : List ℕ) → IsAscii word → IsAscii name → IsAscii between → IsAscii shape → IsAscii (shape_line word name between shape)
shape_ascii word name between shape w o b s = joined_ascii (word ∷ name ∷ between ∷ shape ∷ codes "\n" ∷ []) (w, (o, (b, (s, (plain_ascii (codes "\n") refl, tt)))))

cut_ascii : (word : List ℕ) (d : ℕ) (v : ℤ) → IsAscii word → IsAscii (dimension d) → IsTextNumber v → IsAscii (cut_line word d v)
cut_ascii word d v w k z = joined_ascii (word ∷ dimension d ∷ codes " " ∷ signed_decimal v ∷ codes "\n" ∷ []) (w, (k, (plain_ascii (codes " ") refl, (small_ascii v z, (plain_ascii (codes "\n") refl, tt)))))

counted_ascii : (word : List ℕ) (i : ℕ) → IsAscii word → IsTextNumber (pos i) → IsAscii (number_line word i)
counted_ascii word i w z = joined_ascii (word ∷ number i ∷ codes "\n" ∷ []) (w, (small_ascii (pos i) z, (plain_ascii (codes "\n") refl, tt)))

-- ---- the lines

module _ (n : NameTable) (table : IsNameTable n) where
  object_ascii : (o : ℕ) → o < length n.objects → IsAscii (object_name n o)
  object_ascii o lt = name_ascii (object_name n o) (object_text n table o lt)

  shape_name_ascii : (o s : ℕ) → HasShape n o s → IsAscii (shape_name n o s)
  shape_name_ascii o s has = place_ascii (shape_name n o s) (shape_text n table o s has)

  dimension_ascii : (d : ℕ) → HasDimension n d → IsAscii (dimension d)
  dimension_ascii d lt = IsAscii-signed (pos (d + 1)) (let most = table.dims in omega (arith, ints, lt, most))

  line_ascii : (o : ℕ) (e : Event) → IsNamed n o e → IsLimited e → IsAscii (line_of n o e)
  line_ascii o (SplitShape u s) h l =
      shape_ascii (codes "split ") (object_name n u.0) (codes " shape ") (shape_name n u.0 s) (plain_ascii (codes "split ") refl) (object_ascii u.0 h.0) (plain_ascii (codes " shape ") refl) (shape_name_ascii u.0 s h)
  line_ascii o (SplitUpto u d v) h l =
      coordinate_ascii (codes "split ") (object_name n u.0) d (codes " upto ") v (codes "\n") (plain_ascii (codes "split ") refl) (object_ascii u.0 h.0) (dimension_ascii d h.1) (plain_ascii (codes " upto ") refl) l
      (plain_ascii (codes "\n") refl)
  line_ascii o (SplitFrom u d v) h l =
      coordinate_ascii (codes "split ") (object_name n u.0) d (codes " from ") v (codes "\n") (plain_ascii (codes "split ") refl) (object_ascii u.0 h.0) (dimension_ascii d h.1) (plain_ascii (codes " from ") refl) l
      (plain_ascii (codes "\n") refl)
  line_ascii o (Drop u s) h l =
      shape_ascii (codes "drop ") (object_name n u.0) (codes " ") (shape_name n u.0 s) (plain_ascii (codes "drop ") refl) (object_ascii u.0 h.0) (plain_ascii (codes " ") refl) (shape_name_ascii u.0 s h)
  line_ascii o (Raise u d v) h l =
      coordinate_ascii (codes "raise ") (object_name n u.0) d (codes " ") v (codes " [\n") (plain_ascii (codes "raise ") refl) (object_ascii u.0 h.0) (dimension_ascii d h.1) (plain_ascii (codes " ") refl) l
      (plain_ascii (codes " [\n") refl)
  line_ascii o (Lower u d v) h l =
      coordinate_ascii (codes "lower ") (object_name n u.0) d (codes " ") v (codes " [\n") (plain_ascii (codes "lower ") refl) (object_ascii u.0 h.0) (dimension_ascii d h.1) (plain_ascii (codes " ") refl) l
      (plain_ascii (codes " [\n") refl)
  line_ascii o (Gone u) h l =
      joined_ascii (codes "gone " ∷ object_name n u.0 ∷ codes " [\n" ∷ []) (plain_ascii (codes "gone ") refl, (object_ascii u.0 h, (plain_ascii (codes " [\n") refl, tt)))
  line_ascii o (Dead i) h l = counted_ascii (codes "dead ") i (plain_ascii (codes "dead ") refl) l
  line_ascii o (Cover s) h l = joined_ascii (shape_name n o s ∷ codes "\n" ∷ []) (shape_name_ascii o s h, (plain_ascii (codes "\n") refl, tt))
  line_ascii o EndCovers h l = plain_ascii (codes "]\n") refl
  line_ascii o (By i) h l = counted_ascii (codes "by ") i (plain_ascii (codes "by ") refl) l
  line_ascii o (Cut d v) h l = cut_ascii (codes "cut ") d v (plain_ascii (codes "cut ") refl) (dimension_ascii d h) l
  line_ascii o (CutFrom d v) h l = cut_ascii (codes "from ") d v (plain_ascii (codes "from ") refl) (dimension_ascii d h) l

  lines_ascii : (o : ℕ) (es : List Event) → AreNamed n o es → All IsLimited es → IsAscii (lines_of n o es)
  lines_ascii o [] h l = IsAscii-nil
  lines_ascii o (e ∷ es) h l =
      IsAscii-append (line_of n o e) (lines_of n (listed o e) es) (line_ascii o e h.0 (All-head IsLimited e es l)) (lines_ascii (listed o e) es h.1 (All-tail IsLimited e es l))

  -- the lines of events that can be printed, up to the last line feed
  pub unended_ascii : (es : List Event) → IsPrintable n es → IsAscii (lines_of n 0 es ++ codes "qed")
  unended_ascii es h = IsAscii-append (lines_of n 0 es) (codes "qed") (lines_ascii 0 es h.named h.limited) (plain_ascii (codes "qed") refl)
