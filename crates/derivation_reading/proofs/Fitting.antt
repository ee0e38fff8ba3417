-- The events of what was read name objects, places and dimensions that exist, and small numbers.
use Rattle.std.proofs.Common.{◌≡◌, ◌+◌, ◌-◌, ◌<◌, ◌≤◌, ◌&&◌, ℕ, ℤ, pos, negsuc, ◌≤ℤ◌, Bool, true, false, List, [], ◌∷◌, ◌++◌, length, Option, Some, None, if◌then◌else◌, refl, sym, subst, arith}
use Rattle.std.specs.Prelude.{codes, nat_le, suc, option_map}
use Rattle.std.specs.Str.{bytes_eq}
use Rattle.std.specs.List.{All, AllByRecursion, position}
use Rattle.std.proofs.lemmas.Int.{ints}
use Rattle.std.proofs.lemmas.Bool.{leb-true, and_parts}
use Rattle.std.proofs.lemmas.List.Quantifiers.{position-Some}
use Rattle.std.proofs.lemmas.List.Elements.{All-nil, All-cons, All-get_or, All-from_recursion, recursion_from_All}
use Rattle.geo_tokens.specs.declared.token.Token.{Token}
use Rattle.geo_tokens.specs.declared.token.Kind.{Kind}
use Rattle.geo_tokens.specs.declared.token.Kind.TheVariants as kinds
use Rattle.geo_tokens.specs.declared.token.Keyword.TheVariants as keywords
use Rattle.geo_tokens.specs.declared.token.Sym.TheVariants as symbols
use Rattle.geo_tokens.specs.Cut.{Cut, IsToken}
use Rattle.geo_tokens.specs.Cut as cuts
use Rattle.geo_tokens.specs.Names.{NameTable, IsNameTable, IsShapeList}
use Rattle.geo_conditions.specs.declared.object.ObjId.{ObjId}
use Rattle.derivation.specs.declared.event.Event.{Event}
use Rattle.derivation.specs.Fits.{EventFits, IsPlace}
use Rattle.derivation_reading.specs.declared.symbol.Part.{Part}
use Rattle.derivation_reading.specs.declared.symbol.Part.TheVariants.{Upto, From}
use Rattle.derivation_reading.specs.declared.symbol.Sign.{Sign}
use Rattle.derivation_reading.specs.declared.symbol.Sign.TheVariants.{Plus, Minus}
use Rattle.derivation_reading.specs.declared.symbol.Symbol.{Symbol}
use Rattle.derivation_reading.specs.declared.symbol.Symbol.TheVariants.{Text, Node, Qed, SplitObject, SplitBy, SplitShape, SplitPart, SplitNumber, DropObject, DropShape, BoundObject, BoundDimension, BoundNumber, BoundCovers, GoneObject, GoneCovers, DeadNumber, Covers, Cover, ByNumber, CutDimension, CutNumber}
use Rattle.derivation_reading.specs.declared.symbol.Terminal.{Terminal}
use Rattle.derivation_reading.specs.declared.symbol.Terminal.TheVariants as terminals
use Rattle.derivation_reading.specs.Terminals.{Lexeme, lexeme, lexemes, terminal_of}
use Rattle.derivation_reading.specs.Grammar.{Lookup, lookup, shapes_of, has_name, Next, Wrong, Unknown, Goes, known, signed, split_at, bound_at, cut_at, node_by, cover_by, part_by, next, at}
use Rattle.derivation_reading.specs.Machine.{Leaves, here, on, Opens}

-- a number among the tokens is within the limit
abbrev pub IsLimitedTerminal : Terminal → Type 0
IsLimitedTerminal (terminals.Number v) = v ≤ 1000000000
IsLimitedTerminal t = Unit {0}

abbrev pub IsLimitedLexeme : Lexeme → Type 0
IsLimitedLexeme w = IsLimitedTerminal w.is

-- and so is each number of a text that is cut into tokens
small_kind : (kind : Kind) (n : ℕ) (bytes : List ℕ) → IsToken kind n bytes → IsLimitedTerminal (terminal_of kind)
small_kind (kinds.Number v) n bytes h = h.small
small_kind (kinds.Word keywords.Shape) n bytes h = tt
small_kind (kinds.Word keywords.Qed) n bytes h = tt
small_kind (kinds.Symbol symbols.Minus) n bytes h = tt
small_kind (kinds.Symbol symbols.BracketOpen) n bytes h = tt
small_kind (kinds.Symbol symbols.BracketClose) n bytes h = tt
small_kind kind n bytes h = tt

pub cut_small : {end : ℕ} {rest : List ℕ} {place : ℕ} {bytes : List ℕ} {ts : List Token} (text : List ℕ) → Cut end rest place bytes ts → All IsLimitedLexeme (lexemes text ts)
cut_small text (cuts.here _ _ _ a b c) = subst (λ (us : List Token). All IsLimitedLexeme (lexemes text us)) (sym c) (All-nil IsLimitedLexeme)
cut_small text (cuts.behind_gap _ _ _ n g d) = cut_small text d
cut_small {ts} text (cuts.behind_token place bytes _ kind n us h e d) =
    subst (λ (vs : List Token). All IsLimitedLexeme (lexemes text vs)) (sym e)
    (All-cons IsLimitedLexeme (lexeme text (record { kind = kind; start = place; end = place + n })) (lexemes text us) (small_kind kind n bytes h) (cut_small text d))

-- a number that a derivation can have
abbrev IsWithin : ℤ → Type 0
IsWithin v = (negsuc 999999999 ≤ℤ v) × (v ≤ℤ pos 1000000000)

signed_within : (sign : Sign) (v : ℕ) → v ≤ 1000000000 → IsWithin (signed sign v)
signed_within Plus v h = (omega (arith, ints), omega (arith, ints))
signed_within Minus v h = (omega (arith, ints), omega (arith, ints))

-- what names and dimensions stand for exists
record Finds (L : Lookup) (n K : ℕ) : Type 0 where
  object : (w : List ℕ) (o : ℕ) → L.object w ≡ Some o → o < n
  place : (o : ℕ) (w : List ℕ) (s : ℕ) → o < n → L.place o w ≡ Some s → IsPlace s
  dimension : (v d : ℕ) → L.dimension v ≡ Some d → d < K

both : {X : Type 0} (P : X → Type 0) (xs ys : List X) → AllByRecursion P xs → AllByRecursion P ys → AllByRecursion P (xs ++ ys)
both P [] ys h i = i
both P (x ∷ xs) ys h i = (h.0, both P xs ys h.1 i)

-- ---- what symbols carry

module _ (n K : ℕ) where
  -- the objects, dimensions and numbers that the symbol carries exist
  abbrev SymbolFits : Symbol → Type 0
  SymbolFits (SplitBy o) = o.0 < n
  SymbolFits (SplitShape o) = o.0 < n
  SymbolFits (SplitPart o d) = (o.0 < n) × (d < K)
  SymbolFits (SplitNumber part o d sign) = (o.0 < n) × (d < K)
  SymbolFits (DropShape o) = o.0 < n
  SymbolFits (BoundDimension part o) = o.0 < n
  SymbolFits (BoundNumber part o d sign) = (o.0 < n) × (d < K)
  SymbolFits (BoundCovers part o d v) = (o.0 < n) × (d < K) × IsWithin v
  SymbolFits (GoneCovers o) = o.0 < n
  SymbolFits (Covers o) = o.0 < n
  SymbolFits (CutNumber part d sign) = d < K
  SymbolFits s = Unit {0}

  abbrev SymbolsFit : List Symbol → Type 0
  SymbolsFit ss = AllByRecursion SymbolFits ss

  abbrev EventsFit : List Event → Type 0
  EventsFit es = AllByRecursion (EventFits n K) es

  -- where it goes on, that is so of what comes behind and of the events
  abbrev NextFits : Next → Type 0
  NextFits Wrong = Unit {0}
  NextFits Unknown = Unit {0}
  NextFits (Goes more es) = SymbolsFit more × EventsFit es

  fits_if : (b : Bool) (x y : Next) → NextFits x → NextFits y → NextFits (if b then x else y)
  fits_if true x y f g = f
  fits_if false x y f g = g

  fits_known : (o : Option ℕ) (f : ℕ → Next) → ((i : ℕ) → o ≡ Some i → NextFits (f i)) → NextFits (known o f)
  fits_known None f g = tt
  fits_known (Some i) f g = g i refl

  fits_node : (w : List ℕ) (more : List Symbol) → SymbolsFit more → NextFits (node_by w more)
  fits_node w more m =
      fits_if (bytes_eq w (codes "split")) _ _ ((tt, m), tt) (fits_if (bytes_eq w (codes "drop")) _ _ ((tt, m), tt)
      (fits_if (bytes_eq w (codes "raise")) _ _ ((tt, m), tt) (fits_if (bytes_eq w (codes "lower")) _ _ ((tt, m), tt)
      (fits_if (bytes_eq w (codes "gone")) _ _ ((tt, m), tt) (fits_if (bytes_eq w (codes "dead")) _ _ ((tt, m), tt) tt)))))

  fits_cover : (w : List ℕ) → NextFits (cover_by w)
  fits_cover w = fits_if (bytes_eq w (codes "by")) _ _ ((tt, tt), tt) (fits_if (bytes_eq w (codes "cut")) _ _ ((tt, tt), tt) (fits_if (bytes_eq w (codes "from")) _ _ ((tt, tt), tt) tt))

  fits_part : (o : ObjId) (d : ℕ) (w : List ℕ) → (o.0 < n) × (d < K) → NextFits (part_by o d w)
  fits_part o d w h = fits_if (bytes_eq w (codes "upto")) _ _ ((h, tt), tt) (fits_if (bytes_eq w (codes "from")) _ _ ((h, tt), tt) tt)

  split_fits : (part : Part) (o : ObjId) (d : ℕ) (v : ℤ) → o.0 < n → d < K → IsWithin v → EventFits n K (split_at part o d v)
  split_fits Upto o d v i j r = (i, (j, r.0, r.1))
  split_fits From o d v i j r = (i, (j, r.0, r.1))

  bound_fits : (part : Part) (o : ObjId) (d : ℕ) (v : ℤ) → o.0 < n → d < K → IsWithin v → EventFits n K (bound_at part o d v)
  bound_fits Upto o d v i j r = (i, (j, r.0, r.1))
  bound_fits From o d v i j r = (i, (j, r.0, r.1))

  cut_fits : (part : Part) (d : ℕ) (v : ℤ) → d < K → IsWithin v → EventFits n K (cut_at part d v)
  cut_fits Upto d v j r = (j, r.0, r.1)
  cut_fits From d v j r = (j, r.0, r.1)

  -- ---- all steps

  module _ (L : Lookup) (finds : Finds L n K) where
    fits_next : (s : Symbol) (t : Terminal) (w : List ℕ) → SymbolFits s → IsLimitedTerminal t → NextFits (next L s t w)
    fits_next Text terminals.Name w h i = fits_if (bytes_eq w (codes "none")) _ _ ((tt, (tt, tt)), tt) (fits_node w (Qed ∷ []) (tt, tt))
    fits_next Node terminals.Name w h i = fits_node w [] tt
    fits_next Qed terminals.Qed w h i = (tt, tt)
    fits_next SplitObject terminals.Name w h i = fits_known (L.object w) _ (λ o e. ((finds.object w o e, tt), tt))
    fits_next (SplitBy o) terminals.Shape w h i = ((h, tt), tt)
    fits_next (SplitBy o) (terminals.Number v) w h i = fits_known (L.dimension v) _ (λ d e. (((h, finds.dimension v d e), tt), tt))
    fits_next (SplitShape o) terminals.Name w h i = fits_known (L.place o.0 w) _ (λ s e. ((tt, (tt, tt)), ((h, finds.place o.0 w s h e), tt)))
    fits_next (SplitShape o) terminals.Absent w h i = fits_known (L.place o.0 (codes "absent")) _ (λ s e. ((tt, (tt, tt)), ((h, finds.place o.0 (codes "absent") s h e), tt)))
    fits_next (SplitPart o d) terminals.Name w h i = fits_part o d w h
    fits_next (SplitNumber part o d Plus) terminals.Minus w h i = ((h, tt), tt)
    fits_next (SplitNumber part o d Plus) (terminals.Number v) w h i = ((tt, (tt, tt)), (split_fits part o d (signed Plus v) h.0 h.1 (signed_within Plus v i), tt))
    fits_next (SplitNumber part o d Minus) (terminals.Number v) w h i = ((tt, (tt, tt)), (split_fits part o d (signed Minus v) h.0 h.1 (signed_within Minus v i), tt))
    fits_next DropObject terminals.Name w h i = fits_known (L.object w) _ (λ o e. ((finds.object w o e, tt), tt))
    fits_next (DropShape o) terminals.Name w h i = fits_known (L.place o.0 w) _ (λ s e. ((tt, (tt, tt)), ((h, finds.place o.0 w s h e), tt)))
    fits_next (DropShape o) terminals.Absent w h i = fits_known (L.place o.0 (codes "absent")) _ (λ s e. ((tt, (tt, tt)), ((h, finds.place o.0 (codes "absent") s h e), tt)))
    fits_next (BoundObject part) terminals.Name w h i = fits_known (L.object w) _ (λ o e. ((finds.object w o e, tt), tt))
    fits_next (BoundDimension part o) (terminals.Number v) w h i = fits_known (L.dimension v) _ (λ d e. (((h, finds.dimension v d e), tt), tt))
    fits_next (BoundNumber part o d Plus) terminals.Minus w h i = ((h, tt), tt)
    fits_next (BoundNumber part o d Plus) (terminals.Number v) w h i = (((h.0, h.1, signed_within Plus v i), tt), tt)
    fits_next (BoundNumber part o d Minus) (terminals.Number v) w h i = (((h.0, h.1, signed_within Minus v i), tt), tt)
    fits_next (BoundCovers part o d v) terminals.Open w h i = ((h.0, (tt, tt)), (bound_fits part o d v h.0 h.1 h.2, tt))
    fits_next GoneObject terminals.Name w h i = fits_known (L.object w) _ (λ o e. ((finds.object w o e, tt), tt))
    fits_next (GoneCovers o) terminals.Open w h i = ((h, tt), (h, tt))
    fits_next DeadNumber (terminals.Number v) w h i = (tt, (tt, tt))
    fits_next (Covers o) terminals.Name w h i = fits_known (L.place o.0 w) _ (λ s e. ((tt, (h, tt)), (finds.place o.0 w s h e, tt)))
    fits_next (Covers o) terminals.Absent w h i = fits_known (L.place o.0 (codes "absent")) _ (λ s e. ((tt, (h, tt)), (finds.place o.0 (codes "absent") s h e, tt)))
    fits_next (Covers o) terminals.Close w h i = (tt, (tt, tt))
    fits_next Cover terminals.Name w h i = fits_cover w
    fits_next ByNumber (terminals.Number v) w h i = (tt, (tt, tt))
    fits_next (CutDimension part) (terminals.Number v) w h i = fits_known (L.dimension v) _ (λ d e. ((finds.dimension v d e, tt), tt))
    fits_next (CutNumber part d Plus) terminals.Minus w h i = ((h, tt), tt)
    fits_next (CutNumber part d Plus) (terminals.Number v) w h i = ((tt, (tt, tt)), (cut_fits part d (signed Plus v) h (signed_within Plus v i), tt))
    fits_next (CutNumber part d Minus) (terminals.Number v) w h i = ((tt, (tt, tt)), (cut_fits part d (signed Minus v) h (signed_within Minus v i), tt))
    fits_next s t w h i = tt

    fits_at : (s : Symbol) (w : Lexeme) (x : Next) → SymbolFits s → IsLimitedLexeme w → at L s w ≡ x → NextFits x
    fits_at s w x h i e = subst NextFits e (fits_next s w.is w.name h i)

    -- and so of all tokens
    fits_all : (left ss : List Symbol) (ws : List Lexeme) (es : List Event) → Leaves L left ss ws es → SymbolsFit ss → AllByRecursion IsLimitedLexeme ws → EventsFit es × SymbolsFit left
    fits_all left ss ws es (here _ _ _ a b c) h i = (subst EventsFit (sym c) tt, subst SymbolsFit a h)
    fits_all left ss ws es (on s w more ts ds us _ vs a d e) h i =
        let f = fits_at s w (Goes more ds) h.0 i.0 a in
        let r = fits_all left (more ++ ts) vs us d (both SymbolFits more ts f.0 h.1) i.1 in
        (subst EventsFit (sym e) (both (EventFits n K) ds us f.1 r.0), r.1)

-- ---- a table of names

module _ (n : NameTable) (is_table : IsNameTable n) where
  abbrev how_many : ℕ
  how_many = length n.objects

  object_below : (w : List ℕ) (o : ℕ) → position (λ x. bytes_eq w x.0) n.objects ≡ Some o → o < how_many
  object_below w o e = (position-Some (λ x. bytes_eq w x.0) n.objects o ([], []) e).0

  place_within : (o : ℕ) (w : List ℕ) (s : ℕ) → o < how_many → option_map suc (position (has_name n w) (shapes_of n o)) ≡ Some s → IsPlace s
  place_within o w s there e = by (position (has_name n w) (shapes_of n o)) refl e
    where
      by : (p : Option ℕ) → position (has_name n w) (shapes_of n o) ≡ p → option_map suc p ≡ Some s → IsPlace s
      by None q f = absurd cc
      by (Some i) q f =
          let below : i < length (shapes_of n o) = (position-Some (has_name n w) (shapes_of n o) i 0 q).0 in
          let is_list : IsShapeList (length n.shapes) (shapes_of n o) = All-get_or (λ x. IsShapeList (length n.shapes) x.1) n.objects o ([], []) there is_table.lists in
          let few : length (shapes_of n o) ≤ 16 = is_list.few in
          let same : suc i ≡ s = cc in
          record { least = omega arith; most = omega arith }

  dimension_below : (v d : ℕ) → (if nat_le 1 v && nat_le v n.dims then Some (v - 1) else None) ≡ Some d → d < n.dims
  dimension_below v d e = by (nat_le 1 v && nat_le v n.dims) refl e
    where
      by : (b : Bool) → nat_le 1 v && nat_le v n.dims ≡ b → (if b then Some (v - 1) else None) ≡ Some d → d < n.dims
      by true q f =
          let both = and_parts (nat_le 1 v) (nat_le v n.dims) q in
          let low : 1 ≤ v = leb-true 1 v both.0 in
          let high : v ≤ n.dims = leb-true v n.dims both.1 in
          let same : v - 1 ≡ d = cc in
          omega arith
      by false q f = absurd cc

  -- the events of what was read are events of what exists
  pub opens_fit : {ws : List Lexeme} {ss : List Symbol} {es : List Event} → All IsLimitedLexeme ws → Opens (lookup n) ws ss es → All (EventFits (length n.objects) n.dims) es
  opens_fit {ws} {ss} {es} small d =
      let finds : Finds (lookup n) how_many n.dims = record { object = object_below; place = place_within; dimension = dimension_below } in
      let r = fits_all how_many n.dims (lookup n) finds ss (Text ∷ []) ws es d (tt, tt) (recursion_from_All IsLimitedLexeme ws small) in
      All-from_recursion (EventFits how_many n.dims) es r.0
