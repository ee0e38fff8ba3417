-- The words of the lines of a derivation are read as its events.
use Rattle.std.proofs.Common.{◌≡◌, ℕ, suc, ◌+◌, ◌<◌, ℤ, pos, negsuc, List, [], ◌∷◌, ◌++◌, length, map, Option, Some, Bool, true, false, if◌then◌else◌, inl, inr, refl, sym, ap, ◌∙◌, subst, append_assoc}
use Rattle.std.specs.Prelude.{codes}
use Rattle.std.specs.Str.{bytes_eq}
use Rattle.std.proofs.lemmas.Bool.{cases_Bool}
use Rattle.std.proofs.lemmas.List.{append-nil, map-append}
use Rattle.std.proofs.lemmas.Slice.Eq.{bytes_eq-Decides}
use Rattle.geo_tokens.specs.Names.{NameTable, IsNameTable}
use Rattle.geo_tokens.specs.declared.token.Keyword.TheVariants as keywords
use Rattle.rule_print.specs.Canonical.{name, number, word, sign}
use Rattle.layout_text.proofs.PrintedParts.{int_parts}
use Rattle.layout_text.proofs.TextParts as parts
use Rattle.layout_text.proofs.TextParts.{Part, lexemes_both}
use Rattle.derivation.specs.declared.event.Event.{Event}
use Rattle.derivation.specs.declared.event.Event.TheVariants as events
use Rattle.derivation.specs.declared.side.Side.{Side}
use Rattle.derivation.specs.declared.side.Side.TheVariants as sides
use Rattle.derivation.specs.declared.half.Half.{Half}
use Rattle.derivation.specs.declared.half.Half.TheVariants.{OfPlace, OfSide}
use Rattle.derivation.specs.Covers.{CoverTree, Leaf, Fork, cut_event, events_of}
use Rattle.derivation.specs.PlaceCovers.{PlaceCover, open_events, covers_events}
use Rattle.derivation.specs.Chains.{bound_event}
use Rattle.derivation.specs.Nodes as nodes
use Rattle.derivation.specs.Nodes.{split_event, node_events}
use Rattle.derivation_text.specs.Lines.{object_name, shape_name, listed, HasShape, IsNamed, AreNamed}
use Rattle.derivation_reading.specs.declared.symbol.Part.TheVariants.{Upto, From}
use Rattle.derivation_reading.specs.declared.symbol.Sign.{Sign}
use Rattle.derivation_reading.specs.declared.symbol.Sign.TheVariants.{Plus, Minus}
use Rattle.derivation_reading.specs.declared.symbol.Symbol.{Symbol}
use Rattle.derivation_reading.specs.declared.symbol.Symbol.TheVariants.{Text, Node, Qed, SplitObject, SplitBy, SplitShape, SplitPart, SplitNumber, DropObject, DropShape, BoundObject, BoundDimension, BoundNumber, BoundCovers, GoneObject, GoneCovers, DeadNumber, Covers, Cover, ByNumber, CutDimension, CutNumber}
use Rattle.derivation_reading.specs.declared.symbol.Terminal.{Terminal}
use Rattle.derivation_reading.specs.declared.symbol.Terminal.TheVariants as terminals
use Rattle.derivation_reading.specs.Terminals.{Lexeme}
use Rattle.derivation_reading.specs.Grammar.{Lookup, lookup, Next, Wrong, Goes, goes, gives, known, an, node_by, text_by, next, at, place_by}
use Rattle.derivation_reading.specs.Machine.{Leaves, on, Spells}
use Rattle.derivation_reading.proofs.Steps.{none_taken, at_once, first_step, joined}
use Rattle.derivation_round_trip.proofs.Found.{object_found, shape_found, dimension_found}
use Rattle.derivation_round_trip.proofs.Places.{seen, place_word, place_seen}
use Rattle.derivation_round_trip.proofs.LineParts.{line_parts, lines_parts, text_parts, qed_parts, end_parts, open_parts}

-- ---- words

-- the tokens of some parts as the grammar sees them
abbrev pub words : List Part → List Lexeme
words ps = map seen (parts.lexemes ps)

words_both : (ps qs : List Part) → words (ps ++ qs) ≡ words ps ++ words qs
words_both ps qs = ap (map seen) (lexemes_both ps qs) ∙ map-append seen (parts.lexemes ps) (parts.lexemes qs)

-- ---- the object whose covers are listed

-- behind some events
abbrev behind : ℕ → List Event → ℕ
behind o [] = o
behind o (e ∷ es) = behind (listed o e) es

behind_both : (o : ℕ) (es fs : List Event) → behind o (es ++ fs) ≡ behind (behind o es) fs
behind_both o [] fs = refl
behind_both o (e ∷ es) fs = behind_both (listed o e) es fs

-- behind some that change nothing, and others that do not either
unchanged : (o : ℕ) (es fs : List Event) → behind o es ≡ o → behind o fs ≡ o → behind o (es ++ fs) ≡ o
unchanged o es fs e f = behind_both o es fs ∙ ap (λ (m : ℕ). behind m fs) e ∙ f

cut_listed : (side : Side) (o : ℕ) → listed o (cut_event side) ≡ o
cut_listed (sides.Upto d v) o = refl
cut_listed (sides.From d v) o = refl

bound_listed : (side : Side) (p o : ℕ) → listed o (bound_event p side) ≡ p
bound_listed (sides.Upto d v) p o = refl
bound_listed (sides.From d v) p o = refl

split_listed : (half : Half) (p o : ℕ) → listed o (split_event p half) ≡ o
split_listed (OfPlace s) p o = refl
split_listed (OfSide (sides.Upto d v)) p o = refl
split_listed (OfSide (sides.From d v)) p o = refl

tree_behind : (t : CoverTree) (o : ℕ) → behind o (events_of t) ≡ o
tree_behind (Leaf i) o = refl
tree_behind (Fork side a b) o =
    ap (λ (m : ℕ). behind m (events_of a ++ events_of b)) (cut_listed side o) ∙ unchanged o (events_of a) (events_of b) (tree_behind a o) (tree_behind b o)

open_behind : (list : List PlaceCover) (o : ℕ) → behind o (open_events list) ≡ o
open_behind [] o = refl
open_behind (c ∷ more) o = unchanged o (events_of c.tree) (open_events more) (tree_behind c.tree o) (open_behind more o)

covers_behind : (list : List PlaceCover) (o : ℕ) → behind o (covers_events list) ≡ o
covers_behind list o = unchanged o (open_events list) (events.EndCovers ∷ []) (open_behind list o) refl

module _ (n : NameTable) where
  lines_both : (o : ℕ) (es fs : List Event) → lines_parts n o (es ++ fs) ≡ lines_parts n o es ++ lines_parts n (behind o es) fs
  lines_both o [] fs = refl
  lines_both o (e ∷ es) fs =
      ap (λ (ps : List Part). line_parts n o e ++ ps) (lines_both (listed o e) es fs) ∙ sym (append_assoc (line_parts n o e) (lines_parts n (listed o e) es) (lines_parts n (behind (listed o e) es) fs))

  named_both : (o : ℕ) (es fs : List Event) → AreNamed n o (es ++ fs) → AreNamed n o es × AreNamed n (behind o es) fs
  named_both o [] fs h = (tt, h)
  named_both o (e ∷ es) fs h = let r = named_both (listed o e) es fs h.1 in ((h.0, r.0), r.1)

  -- of events that change nothing
  named_apart : (o : ℕ) (es fs : List Event) → behind o es ≡ o → AreNamed n o (es ++ fs) → AreNamed n o es × AreNamed n o fs
  named_apart o es fs e h = let r = named_both o es fs h in (r.0, subst (λ (m : ℕ). AreNamed n m fs) e r.1)

-- ---- readings

module _ (n : NameTable) where
  -- the words of these parts are read as these events
  abbrev Reads : List Symbol → List Symbol → List Part → List Event → Type 0
  Reads left start ps es = Leaves (lookup n) left start (words ps) es

  -- the same of the lines of the events
  abbrev ReadsLines : List Symbol → List Symbol → ℕ → List Event → Type 0
  ReadsLines left start o es = Reads left start (lines_parts n o es) es

  both_read : (left middle start : List Symbol) (ps qs : List Part) (es fs : List Event) → Reads middle start ps es → Reads left middle qs fs → Reads left start (ps ++ qs) (es ++ fs)
  both_read left middle start ps qs es fs d f =
      subst (λ (ws : List Lexeme). Leaves (lookup n) left start ws (es ++ fs)) (sym (words_both ps qs)) (joined (words ps) (words qs) es fs d f)

  -- a line, and the lines behind it
  line_then : (left middle start : List Symbol) (o m : ℕ) (e : Event) (es : List Event) → listed o e ≡ m → Reads middle start (line_parts n o e) (e ∷ []) → ReadsLines left middle m es
      → ReadsLines left start o (e ∷ es)
  line_then left middle start o m e es q d f =
      both_read left middle start (line_parts n o e) (lines_parts n (listed o e) es) (e ∷ []) es d (subst (λ (k : ℕ). ReadsLines left middle k es) (sym q) f)

  lines_then : (left middle start : List Symbol) (o m : ℕ) (es fs : List Event) → behind o es ≡ m → ReadsLines middle start o es → ReadsLines left middle m fs → ReadsLines left start o (es ++ fs)
  lines_then left middle start o m es fs q d f =
      subst (λ (ps : List Part). Reads left start ps (es ++ fs)) (sym (lines_both n o es fs))
      (both_read left middle start (lines_parts n o es) (lines_parts n (behind o es) fs) es fs d (subst (λ (k : ℕ). ReadsLines left middle k fs) (sym q) f))

  -- one word, and those behind it
  go : {left ss : List Symbol} {s : Symbol} {w : Lexeme} {ws : List Lexeme} {es : List Event} (more : List Symbol) → at (lookup n) s w ≡ goes more → Leaves (lookup n) left (more ++ ss) ws es
      → Leaves (lookup n) left (s ∷ ss) (w ∷ ws) es
  go {left} {ss} {s} {w} {ws} {es} more a d = on s w more ss [] es es ws a d refl

  give : {left ss : List Symbol} {s : Symbol} {w : Lexeme} {ws : List Lexeme} {es : List Event} (e : Event) (more : List Symbol) → at (lookup n) s w ≡ gives e more
      → Leaves (lookup n) left (more ++ ss) ws es → Leaves (lookup n) left (s ∷ ss) (w ∷ ws) (e ∷ es)
  give {left} {ss} {s} {w} {ws} {es} e more a d = on s w more ss (e ∷ []) es (e ∷ es) ws a d refl

  -- a symbol that may be read as an int, and what becomes of it at one
  record TakesInt (s : Sign → Symbol) (more : ℤ → List Symbol) (ds : ℤ → List Event) : Type 0 where
    minus : at (lookup n) (s Plus) (seen sign) ≡ goes (s Minus ∷ [])
    plain : (k : ℕ) → at (lookup n) (s Plus) (seen (number k)) ≡ Goes (more (pos k)) (ds (pos k))
    negative : (k : ℕ) → at (lookup n) (s Minus) (seen (number (suc k))) ≡ Goes (more (negsuc k)) (ds (negsuc k))

  int_then : {left ss : List Symbol} {es : List Event} (s : Sign → Symbol) (more : ℤ → List Symbol) (ds : ℤ → List Event) (v : ℤ) (end : List Part) → TakesInt s more ds
      → Reads left (more v ++ ss) end es → Reads left (s Plus ∷ ss) (int_parts v ++ end) (ds v ++ es)
  int_then {left} {ss} {es} s more ds (pos k) end t d = on (s Plus) (seen (number k)) (more (pos k)) ss (ds (pos k)) es (ds (pos k) ++ es) (words end) (t.plain k) d refl
  int_then {left} {ss} {es} s more ds (negsuc k) end t d =
      go (s Minus ∷ []) t.minus (on (s Minus) (seen (number (suc k))) (more (negsuc k)) ss (ds (negsuc k)) es (ds (negsuc k) ++ es) (words end) (t.negative k) d refl)

-- ---- the line of an event

known_is : (x : Option ℕ) (k : ℕ) (f : ℕ → Next) → x ≡ Some k → known x f ≡ f k
known_is x k f e = ap (λ (y : Option ℕ). known y f) e

module _ (n : NameTable) (table : IsNameTable n) where
  -- an object's name, a shape's and a dimension
  object_is : (o : ℕ) (f : ℕ → Next) → o < length n.objects → known ((lookup n).object (object_name n o)) f ≡ f o
  object_is o f h = known_is ((lookup n).object (object_name n o)) o f (object_found n table o h)

  -- where the symbol is a place of the object
  shape_is : (x : Symbol) (o s : ℕ) (f : ℕ → Next) → HasShape n o s → ((w : List ℕ) → at (lookup n) x (seen (name w)) ≡ known ((lookup n).place o w) f)
      → at (lookup n) x (seen (word keywords.Absent)) ≡ known ((lookup n).place o (codes "absent")) f → ((w : List ℕ) → known ((lookup n).place o w) f ≡ place_by (lookup n) x w)
      → at (lookup n) x (seen (place_word (shape_name n o s))) ≡ f s
  shape_is x o s f h named absent by =
      place_seen (lookup n) x (shape_name n o s) (λ w. named w ∙ by w) (absent ∙ by (codes "absent")) ∙ sym (by (shape_name n o s))
      ∙ known_is ((lookup n).place o (shape_name n o s)) s f (shape_found n table o s h)

  dimension_is : (d : ℕ) (f : ℕ → Next) → d < n.dims → known ((lookup n).dimension (d + 1)) f ≡ f d
  dimension_is d f h = known_is ((lookup n).dimension (d + 1)) d f (dimension_found n d h)

  split_line : (ss : List Symbol) (o p : ℕ) (half : Half) → IsNamed n o (split_event p half) → Reads n (Node ∷ Node ∷ ss) (Node ∷ ss) (line_parts n o (split_event p half)) (split_event p half ∷ [])
  split_line ss o p (OfPlace s) h =
      go n (SplitObject ∷ []) refl
      (go n (SplitBy (an p) ∷ []) (object_is p (λ x. goes (SplitBy (an x) ∷ [])) h.0)
      (go n (SplitShape (an p) ∷ []) refl
      (give n (events.SplitShape (an p) s) (Node ∷ Node ∷ []) (shape_is (SplitShape (an p)) p s (λ x. gives (events.SplitShape (an p) x) (Node ∷ Node ∷ [])) h (λ w. refl) refl (λ w. refl))
      (at_once (lookup n) (Node ∷ Node ∷ ss)))))
  split_line ss o p (OfSide (sides.Upto d v)) h =
      go n (SplitObject ∷ []) refl
      (go n (SplitBy (an p) ∷ []) (object_is p (λ x. goes (SplitBy (an x) ∷ [])) h.0)
      (go n (SplitPart (an p) d ∷ []) (dimension_is d (λ x. goes (SplitPart (an p) x ∷ [])) h.1)
      (go n (SplitNumber Upto (an p) d Plus ∷ []) refl
      (int_then n (SplitNumber Upto (an p) d) (λ x. Node ∷ Node ∷ []) (λ x. events.SplitUpto (an p) d x ∷ []) v end_parts (record { minus = refl; plain = λ k. refl; negative = λ k. refl })
      (at_once (lookup n) (Node ∷ Node ∷ ss))))))
  split_line ss o p (OfSide (sides.From d v)) h =
      go n (SplitObject ∷ []) refl
      (go n (SplitBy (an p) ∷ []) (object_is p (λ x. goes (SplitBy (an x) ∷ [])) h.0)
      (go n (SplitPart (an p) d ∷ []) (dimension_is d (λ x. goes (SplitPart (an p) x ∷ [])) h.1)
      (go n (SplitNumber From (an p) d Plus ∷ []) refl
      (int_then n (SplitNumber From (an p) d) (λ x. Node ∷ Node ∷ []) (λ x. events.SplitFrom (an p) d x ∷ []) v end_parts (record { minus = refl; plain = λ k. refl; negative = λ k. refl })
      (at_once (lookup n) (Node ∷ Node ∷ ss))))))

  drop_line : (ss : List Symbol) (o p s : ℕ) → HasShape n p s → Reads n (Cover ∷ Node ∷ ss) (Node ∷ ss) (line_parts n o (events.Drop (an p) s)) (events.Drop (an p) s ∷ [])
  drop_line ss o p s h =
      go n (DropObject ∷ []) refl
      (go n (DropShape (an p) ∷ []) (object_is p (λ x. goes (DropShape (an x) ∷ [])) h.0)
      (give n (events.Drop (an p) s) (Cover ∷ Node ∷ []) (shape_is (DropShape (an p)) p s (λ x. gives (events.Drop (an p) x) (Cover ∷ Node ∷ [])) h (λ w. refl) refl (λ w. refl))
      (at_once (lookup n) (Cover ∷ Node ∷ ss))))

  bound_line : (ss : List Symbol) (o p : ℕ) (side : Side) → IsNamed n o (bound_event p side) → Reads n (Covers (an p) ∷ Node ∷ ss) (Node ∷ ss) (line_parts n o (bound_event p side)) (bound_event p side ∷ [])
  bound_line ss o p (sides.Upto d v) h =
      go n (BoundObject Upto ∷ []) refl
      (go n (BoundDimension Upto (an p) ∷ []) (object_is p (λ x. goes (BoundDimension Upto (an x) ∷ [])) h.0)
      (go n (BoundNumber Upto (an p) d Plus ∷ []) (dimension_is d (λ x. goes (BoundNumber Upto (an p) x Plus ∷ [])) h.1)
      (int_then n (BoundNumber Upto (an p) d) (λ x. BoundCovers Upto (an p) d x ∷ []) (λ x. []) v open_parts (record { minus = refl; plain = λ k. refl; negative = λ k. refl })
      (give n (events.Lower (an p) d v) (Covers (an p) ∷ Node ∷ []) refl
      (at_once (lookup n) (Covers (an p) ∷ Node ∷ ss))))))
  bound_line ss o p (sides.From d v) h =
      go n (BoundObject From ∷ []) refl
      (go n (BoundDimension From (an p) ∷ []) (object_is p (λ x. goes (BoundDimension From (an x) ∷ [])) h.0)
      (go n (BoundNumber From (an p) d Plus ∷ []) (dimension_is d (λ x. goes (BoundNumber From (an p) x Plus ∷ [])) h.1)
      (int_then n (BoundNumber From (an p) d) (λ x. BoundCovers From (an p) d x ∷ []) (λ x. []) v open_parts (record { minus = refl; plain = λ k. refl; negative = λ k. refl })
      (give n (events.Raise (an p) d v) (Covers (an p) ∷ Node ∷ []) refl
      (at_once (lookup n) (Covers (an p) ∷ Node ∷ ss))))))

  gone_line : (ss : List Symbol) (o p : ℕ) → p < length n.objects → Reads n (Covers (an p) ∷ ss) (Node ∷ ss) (line_parts n o (events.Gone (an p))) (events.Gone (an p) ∷ [])
  gone_line ss o p h =
      go n (GoneObject ∷ []) refl
      (go n (GoneCovers (an p) ∷ []) (object_is p (λ x. goes (GoneCovers (an x) ∷ [])) h)
      (give n (events.Gone (an p)) (Covers (an p) ∷ []) refl (at_once (lookup n) (Covers (an p) ∷ ss))))

  dead_line : (ss : List Symbol) (o i : ℕ) → Reads n ss (Node ∷ ss) (line_parts n o (events.Dead i)) (events.Dead i ∷ [])
  dead_line ss o i = go n (DeadNumber ∷ []) refl (give n (events.Dead i) [] refl (at_once (lookup n) ss))

  place_line : (ss : List Symbol) (o s : ℕ) → HasShape n o s → Reads n (Cover ∷ Covers (an o) ∷ ss) (Covers (an o) ∷ ss) (line_parts n o (events.Cover s)) (events.Cover s ∷ [])
  place_line ss o s h =
      give n (events.Cover s) (Cover ∷ Covers (an o) ∷ []) (shape_is (Covers (an o)) o s (λ x. gives (events.Cover x) (Cover ∷ Covers (an o) ∷ [])) h (λ w. refl) refl (λ w. refl)) (at_once (lookup n) (Cover ∷ Covers (an o) ∷ ss))

  end_line : (ss : List Symbol) (o : ℕ) → Reads n ss (Covers (an o) ∷ ss) (line_parts n o events.EndCovers) (events.EndCovers ∷ [])
  end_line ss o = give n events.EndCovers [] refl (at_once (lookup n) ss)

  leaf_line : (ss : List Symbol) (o i : ℕ) → Reads n ss (Cover ∷ ss) (line_parts n o (events.By i)) (events.By i ∷ [])
  leaf_line ss o i = go n (ByNumber ∷ []) refl (give n (events.By i) [] refl (at_once (lookup n) ss))

  fork_line : (ss : List Symbol) (o : ℕ) (side : Side) → IsNamed n o (cut_event side) → Reads n (Cover ∷ Cover ∷ ss) (Cover ∷ ss) (line_parts n o (cut_event side)) (cut_event side ∷ [])
  fork_line ss o (sides.Upto d v) h =
      go n (CutDimension Upto ∷ []) refl
      (go n (CutNumber Upto d Plus ∷ []) (dimension_is d (λ x. goes (CutNumber Upto x Plus ∷ [])) h)
      (int_then n (CutNumber Upto d) (λ x. Cover ∷ Cover ∷ []) (λ x. events.Cut d x ∷ []) v end_parts (record { minus = refl; plain = λ k. refl; negative = λ k. refl })
      (at_once (lookup n) (Cover ∷ Cover ∷ ss))))
  fork_line ss o (sides.From d v) h =
      go n (CutDimension From ∷ []) refl
      (go n (CutNumber From d Plus ∷ []) (dimension_is d (λ x. goes (CutNumber From x Plus ∷ [])) h)
      (int_then n (CutNumber From d) (λ x. Cover ∷ Cover ∷ []) (λ x. events.CutFrom d x ∷ []) v end_parts (record { minus = refl; plain = λ k. refl; negative = λ k. refl })
      (at_once (lookup n) (Cover ∷ Cover ∷ ss))))

  -- ---- covers

  tree_read : (ss : List Symbol) (o : ℕ) (t : CoverTree) → AreNamed n o (events_of t) → ReadsLines n ss (Cover ∷ ss) o (events_of t)
  tree_read ss o (Leaf i) h = line_then n ss ss (Cover ∷ ss) o o (events.By i) [] refl (leaf_line ss o i) (at_once (lookup n) ss)
  tree_read ss o (Fork side a b) h =
      let parts_named = subst (λ (m : ℕ). AreNamed n m (events_of a ++ events_of b)) (cut_listed side o) h.1 in
      let each = named_apart n o (events_of a) (events_of b) (tree_behind a o) parts_named in
      line_then n ss (Cover ∷ Cover ∷ ss) (Cover ∷ ss) o o (cut_event side) (events_of a ++ events_of b) (cut_listed side o) (fork_line ss o side h.0)
      (lines_then n ss (Cover ∷ ss) (Cover ∷ Cover ∷ ss) o o (events_of a) (events_of b) (tree_behind a o) (tree_read (Cover ∷ ss) o a each.0) (tree_read ss o b each.1))

  covers_read : (ss : List Symbol) (o : ℕ) (list : List PlaceCover) → AreNamed n o (covers_events list) → ReadsLines n ss (Covers (an o) ∷ ss) o (covers_events list)
  covers_read ss o [] h = line_then n ss ss (Covers (an o) ∷ ss) o o events.EndCovers [] refl (end_line ss o) (at_once (lookup n) ss)
  covers_read ss o (c ∷ more) h =
      let apart = append_assoc (events_of c.tree) (open_events more) (events.EndCovers ∷ []) in
      let each = named_apart n o (events_of c.tree) (covers_events more) (tree_behind c.tree o) (subst (AreNamed n o) apart h.1) in
      subst (λ (es : List Event). ReadsLines n ss (Covers (an o) ∷ ss) o (events.Cover c.place ∷ es)) (sym apart)
      (line_then n ss (Cover ∷ Covers (an o) ∷ ss) (Covers (an o) ∷ ss) o o (events.Cover c.place) (events_of c.tree ++ covers_events more) refl (place_line ss o c.place h.0)
      (lines_then n ss (Covers (an o) ∷ ss) (Cover ∷ Covers (an o) ∷ ss) o o (events_of c.tree) (covers_events more) (tree_behind c.tree o) (tree_read (Covers (an o) ∷ ss) o c.tree each.0) (covers_read ss o more each.1)))

  -- ---- nodes

  node_read : (ss : List Symbol) (o : ℕ) (root : nodes.Node) → AreNamed n o (node_events root) → ReadsLines n ss (Node ∷ ss) o (node_events root)
  node_read ss o (nodes.Split p half a b) h =
      let parts_named = subst (λ (m : ℕ). AreNamed n m (node_events a ++ node_events b)) (split_listed half p o) h.1 in
      let each = named_both n o (node_events a) (node_events b) parts_named in
      let m = behind o (node_events a) in
      line_then n ss (Node ∷ Node ∷ ss) (Node ∷ ss) o o (split_event p half) (node_events a ++ node_events b) (split_listed half p o) (split_line ss o p half h.0)
      (lines_then n ss (Node ∷ ss) (Node ∷ Node ∷ ss) o m (node_events a) (node_events b) refl (node_read (Node ∷ ss) o a each.0) (node_read ss m b each.1))
  node_read ss o (nodes.DropNode p s tree rest) h =
      let each = named_apart n o (events_of tree) (node_events rest) (tree_behind tree o) h.1 in
      line_then n ss (Cover ∷ Node ∷ ss) (Node ∷ ss) o o (events.Drop (an p) s) (events_of tree ++ node_events rest) refl (drop_line ss o p s h.0)
      (lines_then n ss (Node ∷ ss) (Cover ∷ Node ∷ ss) o o (events_of tree) (node_events rest) (tree_behind tree o) (tree_read (Node ∷ ss) o tree each.0) (node_read ss o rest each.1))
  node_read ss o (nodes.Bound p side list rest) h =
      let parts_named = subst (λ (m : ℕ). AreNamed n m (covers_events list ++ node_events rest)) (bound_listed side p o) h.1 in
      let each = named_apart n p (covers_events list) (node_events rest) (covers_behind list p) parts_named in
      line_then n ss (Covers (an p) ∷ Node ∷ ss) (Node ∷ ss) o p (bound_event p side) (covers_events list ++ node_events rest) (bound_listed side p o) (bound_line ss o p side h.0)
      (lines_then n ss (Node ∷ ss) (Covers (an p) ∷ Node ∷ ss) p p (covers_events list) (node_events rest) (covers_behind list p) (covers_read (Node ∷ ss) p list each.0) (node_read ss p rest each.1))
  node_read ss o (nodes.GoneNode p list) h =
      line_then n ss (Covers (an p) ∷ ss) (Node ∷ ss) o p (events.Gone (an p)) (covers_events list) refl (gone_line ss o p h.0) (covers_read ss p list h.1)
  node_read ss o (nodes.DeadNode i) h = line_then n ss ss (Node ∷ ss) o o (events.Dead i) [] refl (dead_line ss o i) (at_once (lookup n) ss)

-- ---- the start of a text

-- The second goes on as the first does, with the word `qed` wanted behind that.
abbrev WithQed : Next → Next → Type 0
WithQed x y = (more : List Symbol) (ds : List Event) → x ≡ Goes more ds → y ≡ Goes (more ++ Qed ∷ []) ds

qed_if : (b : Bool) (x y z u : Next) → WithQed x z → WithQed y u → WithQed (if b then x else y) (if b then z else u)
qed_if true x y z u f g = f
qed_if false x y z u f g = g

qed_goes : (s : Symbol) → WithQed (goes (s ∷ [])) (goes (s ∷ Qed ∷ []))
qed_goes s more ds e =
    let same : s ∷ [] ≡ more = cc in
    let none : [] ≡ ds = cc in
    ap (λ (ss : List Symbol). Goes (ss ++ Qed ∷ []) []) same ∙ ap (λ (es : List Event). Goes (more ++ Qed ∷ []) es) none

qed_wrong : (y : Next) → WithQed Wrong y
qed_wrong y more ds e = absurd cc

qed_node : (w : List ℕ) → WithQed (node_by w []) (node_by w (Qed ∷ []))
qed_node w =
    qed_if (bytes_eq w (codes "split")) _ _ _ _ (qed_goes SplitObject) (qed_if (bytes_eq w (codes "drop")) _ _ _ _ (qed_goes DropObject)
    (qed_if (bytes_eq w (codes "raise")) _ _ _ _ (qed_goes (BoundObject From)) (qed_if (bytes_eq w (codes "lower")) _ _ _ _ (qed_goes (BoundObject Upto))
    (qed_if (bytes_eq w (codes "gone")) _ _ _ _ (qed_goes GoneObject) (qed_if (bytes_eq w (codes "dead")) _ _ _ _ (qed_goes DeadNumber) (qed_wrong Wrong))))))

-- the word `none` begins no node
qed_text : (w : List ℕ) → WithQed (node_by w []) (text_by w)
qed_text w = elim (cases_Bool (bytes_eq w (codes "none"))) [
  | inl e ↦ subst (λ (v : List ℕ). WithQed (node_by v []) (text_by v)) (sym ((bytes_eq-Decides w (codes "none")).0 e)) (qed_wrong (text_by (codes "none")))
  | inr e ↦ subst (λ (b : Bool). WithQed (node_by w []) (if b then goes (Node ∷ Qed ∷ []) else node_by w (Qed ∷ []))) (sym e) (qed_node w)
]

qed_next : (L : Lookup) (t : Terminal) (w : List ℕ) → WithQed (next L Node t w) (next L Text t w)
qed_next L terminals.Name w = qed_text w
qed_next L _ w = qed_wrong Wrong

-- what is read as a node and the word `qed` is read as a text
text_read : (L : Lookup) (ws : List Lexeme) (es : List Event) → Leaves L [] (Node ∷ Qed ∷ []) ws es → Spells L ws es
text_read L [] es d = absurd (let r = none_taken d in let e : Node ∷ Qed ∷ [] ≡ [] = r.0 in cc)
text_read L (w ∷ ws) es d =
    let r = first_step d in
    on Text w (r.0 ++ Qed ∷ []) [] r.1 r.2 es ws (qed_next L w.is w.name r.0 r.1 r.3) (subst (λ (ss : List Symbol). Leaves L [] ss ws r.2) (sym (append-nil (r.0 ++ Qed ∷ []))) r.4) r.5

-- The words of the text of a derivation are read as its events.
pub words_read : (n : NameTable) → IsNameTable n → (root : nodes.Node) → AreNamed n 0 (node_events root) → Spells (lookup n) (words (text_parts n (node_events root))) (node_events root)
words_read n table root h =
    let qed = on Qed (seen (word keywords.Qed)) [] [] [] [] [] [] refl (at_once (lookup n) []) refl in
    let all = both_read n [] (Qed ∷ []) (Node ∷ Qed ∷ []) (lines_parts n 0 (node_events root)) qed_parts (node_events root) [] (node_read n table (Qed ∷ []) 0 root h) qed in
    text_read (lookup n) (words (text_parts n (node_events root))) (node_events root)
    (subst (λ (es : List Event). Leaves (lookup n) [] (Node ∷ Qed ∷ []) (words (text_parts n (node_events root))) es) (append-nil (node_events root)) all)
