-- What begins a text over some names begins a text of the grammar; and a token that goes on in no way there goes on in no text.
use Rattle.std.proofs.Common.{◌≡◌, ℕ, ℤ, pos, Bool, true, false, List, [], ◌∷◌, ◌++◌, map, Option, Some, None, if◌then◌else◌, refl, ap, append_assoc, subst}
use Rattle.std.specs.Prelude.{codes}
use Rattle.std.specs.Str.{bytes_eq}
use Rattle.std.proofs.lemmas.List.{append-nil, map-append}
use Rattle.geo_tokens.specs.Names.{NameTable}
use Rattle.geo_conditions.specs.declared.object.ObjId.{ObjId}
use Rattle.derivation.specs.declared.event.Event.{Event}
use Rattle.derivation_reading.specs.declared.symbol.Part.{Part}
use Rattle.derivation_reading.specs.declared.symbol.Part.TheVariants.{Upto}
use Rattle.derivation_reading.specs.declared.symbol.Sign.{Sign}
use Rattle.derivation_reading.specs.declared.symbol.Sign.TheVariants.{Plus, Minus}
use Rattle.derivation_reading.specs.declared.symbol.Symbol.{Symbol}
use Rattle.derivation_reading.specs.declared.symbol.Symbol.TheVariants.{Text, Node, Qed, SplitObject, SplitBy, SplitShape, SplitPart, SplitNumber, DropObject, DropShape, BoundObject, BoundDimension, BoundNumber, BoundCovers, GoneObject, GoneCovers, DeadNumber, Covers, Cover, ByNumber, CutDimension, CutNumber}
use Rattle.derivation_reading.specs.declared.symbol.Terminal.{Terminal}
use Rattle.derivation_reading.specs.declared.symbol.Terminal.TheVariants as terminals
use Rattle.derivation_reading.specs.Terminals.{Lexeme}
use Rattle.derivation_reading.specs.Grammar.{Lookup, lookup, anything, Next, Wrong, Unknown, Goes, known, an, signed, node_by, cover_by, next, at}
use Rattle.derivation_reading.specs.Machine.{Leaves, here, on, Opens}
use Rattle.derivation_reading.specs.Begins.{Begins}
use Rattle.derivation_reading.proofs.Steps.{at_once, joined, one_more, rest_of, first_step}

-- ---- whatever names stand for

-- with the numbers that `anything` gives to all names and dimensions
abbrev bare : Symbol → Symbol
bare (SplitBy o) = SplitBy (an 0)
bare (SplitShape o) = SplitShape (an 0)
bare (SplitPart o d) = SplitPart (an 0) 0
bare (SplitNumber part o d sign) = SplitNumber part (an 0) 0 sign
bare (DropShape o) = DropShape (an 0)
bare (BoundDimension part o) = BoundDimension part (an 0)
bare (BoundNumber part o d sign) = BoundNumber part (an 0) 0 sign
bare (BoundCovers part o d v) = BoundCovers part (an 0) 0 v
bare (GoneCovers o) = GoneCovers (an 0)
bare (Covers o) = Covers (an 0)
bare (CutNumber part d sign) = CutNumber part 0 sign
bare s = s

-- The second goes on wherever the first does, with bare symbols, or lacks a name; and it is wrong where the first is.
abbrev Follows : Next → Next → Type 0
Follows Wrong x = x ≡ Wrong
Follows Unknown x = (more : List Symbol) × (es : List Event) × (x ≡ Goes more es)
Follows (Goes more es) x = (fs : List Event) × (x ≡ Goes (map bare more) fs)

follows_if : (b : Bool) (x y z u : Next) → Follows x z → Follows y u → Follows (if b then x else y) (if b then z else u)
follows_if true x y z u f g = f
follows_if false x y z u f g = g

follows_known : (o : Option ℕ) (f : ℕ → Next) (more : List Symbol) (es : List Event) → ((i : ℕ) → Follows (f i) (Goes more es)) → Follows (known o f) (Goes more es)
follows_known None f more es g = (more, es, refl)
follows_known (Some i) f more es g = g i

follows_node : (w : List ℕ) (more : List Symbol) → Follows (node_by w more) (node_by w (map bare more))
follows_node w more =
    follows_if (bytes_eq w (codes "split")) _ _ _ _ ([], refl) (follows_if (bytes_eq w (codes "drop")) _ _ _ _ ([], refl)
    (follows_if (bytes_eq w (codes "raise")) _ _ _ _ ([], refl) (follows_if (bytes_eq w (codes "lower")) _ _ _ _ ([], refl)
    (follows_if (bytes_eq w (codes "gone")) _ _ _ _ ([], refl) (follows_if (bytes_eq w (codes "dead")) _ _ _ _ ([], refl) refl)))))

follows_cover : (w : List ℕ) → Follows (cover_by w) (cover_by w)
follows_cover w =
    follows_if (bytes_eq w (codes "by")) _ _ _ _ ([], refl) (follows_if (bytes_eq w (codes "cut")) _ _ _ _ ([], refl) (follows_if (bytes_eq w (codes "from")) _ _ _ _ ([], refl) refl))

follows_next : (L : Lookup) (s : Symbol) (t : Terminal) (w : List ℕ) → Follows (next L s t w) (next anything (bare s) t w)
follows_next L Text terminals.Name w = follows_if (bytes_eq w (codes "none")) _ _ _ _ ([], refl) (follows_node w (Qed ∷ []))
follows_next L Node terminals.Name w = follows_node w []
follows_next L Qed terminals.Qed w = ([], refl)
follows_next L SplitObject terminals.Name w = follows_known (L.object w) _ _ _ (λ o. ([], refl))
follows_next L (SplitBy o) terminals.Shape w = ([], refl)
follows_next L (SplitBy o) (terminals.Number n) w = follows_known (L.dimension n) _ _ _ (λ d. ([], refl))
follows_next L (SplitShape o) terminals.Name w = follows_known (L.place o.0 w) _ _ _ (λ s. (_, refl))
follows_next L (SplitShape o) terminals.Absent w = follows_known (L.place o.0 (codes "absent")) _ _ _ (λ s. (_, refl))
follows_next L (SplitPart o d) terminals.Name w = follows_if (bytes_eq w (codes "upto")) _ _ _ _ ([], refl) (follows_if (bytes_eq w (codes "from")) _ _ _ _ ([], refl) refl)
follows_next L (SplitNumber part o d Plus) terminals.Minus w = ([], refl)
follows_next L (SplitNumber part o d Plus) (terminals.Number n) w = (_, refl)
follows_next L (SplitNumber part o d Minus) (terminals.Number n) w = (_, refl)
follows_next L DropObject terminals.Name w = follows_known (L.object w) _ _ _ (λ o. ([], refl))
follows_next L (DropShape o) terminals.Name w = follows_known (L.place o.0 w) _ _ _ (λ s. (_, refl))
follows_next L (DropShape o) terminals.Absent w = follows_known (L.place o.0 (codes "absent")) _ _ _ (λ s. (_, refl))
follows_next L (BoundObject part) terminals.Name w = follows_known (L.object w) _ _ _ (λ o. ([], refl))
follows_next L (BoundDimension part o) (terminals.Number n) w = follows_known (L.dimension n) _ _ _ (λ d. ([], refl))
follows_next L (BoundNumber part o d Plus) terminals.Minus w = ([], refl)
follows_next L (BoundNumber part o d Plus) (terminals.Number n) w = (_, refl)
follows_next L (BoundNumber part o d Minus) (terminals.Number n) w = (_, refl)
follows_next L (BoundCovers part o d v) terminals.Open w = (_, refl)
follows_next L GoneObject terminals.Name w = follows_known (L.object w) _ _ _ (λ o. ([], refl))
follows_next L (GoneCovers o) terminals.Open w = (_, refl)
follows_next L DeadNumber (terminals.Number i) w = (_, refl)
follows_next L (Covers o) terminals.Name w = follows_known (L.place o.0 w) _ _ _ (λ s. (_, refl))
follows_next L (Covers o) terminals.Absent w = follows_known (L.place o.0 (codes "absent")) _ _ _ (λ s. (_, refl))
follows_next L (Covers o) terminals.Close w = (_, refl)
follows_next L Cover terminals.Name w = follows_cover w
follows_next L ByNumber (terminals.Number i) w = (_, refl)
follows_next L (CutDimension part) (terminals.Number n) w = follows_known (L.dimension n) _ _ _ (λ d. ([], refl))
follows_next L (CutNumber part d Plus) terminals.Minus w = ([], refl)
follows_next L (CutNumber part d Plus) (terminals.Number n) w = (_, refl)
follows_next L (CutNumber part d Minus) (terminals.Number n) w = (_, refl)
follows_next L s t w = refl

follows_at : (L : Lookup) (s : Symbol) (w : Lexeme) (x : Next) → at L s w ≡ x → Follows x (at anything (bare s) w)
follows_at L s w x e = subst (λ (y : Next). Follows y (at anything (bare s) w)) e (follows_next L s w.is w.name)

-- what is left under some names is left under `anything`, with bare symbols and some events
bared : (L : Lookup) (left start : List Symbol) (ws : List Lexeme) (es : List Event) → Leaves L left start ws es → (fs : List Event) × Leaves anything (map bare left) (map bare start) ws fs
bared L left start ws es (here _ _ _ a b c) = ([], here (map bare start) ws [] (ap (map bare) a) b refl)
bared L left start ws es (on s w more ss ds us _ vs a d e) =
    let r = bared L left (more ++ ss) vs us d in
    let q = follows_at L s w (Goes more ds) a in
    let rest = subst (λ (x : List Symbol). Leaves anything (map bare left) x vs r.0) (map-append bare more ss) r.1 in
    (q.0 ++ r.0, on (bare s) w (map bare more) (map bare ss) q.0 r.0 (q.0 ++ r.0) vs q.1 rest refl)

-- ---- what is open can be closed

-- in front of any other symbols, some tokens take these away
abbrev Closes : List Symbol → Type 0
Closes ss = (left : List Symbol) → (ws : List Lexeme) × (es : List Event) × Leaves anything left (ss ++ left) ws es

nothing_closes : Closes []
nothing_closes left = ([], [], at_once anything left)

one_closes : (s : Symbol) (w : Lexeme) (more : List Symbol) (es : List Event) → at anything s w ≡ Goes more es → Closes more → Closes (s ∷ [])
one_closes s w more es a c left = let r = c left in (w ∷ r.0, es ++ r.1, on s w more left es r.1 (es ++ r.1) r.0 a r.2 refl)

more_closes : (s : Symbol) (ss : List Symbol) → Closes (s ∷ []) → Closes ss → Closes (s ∷ ss)
more_closes s ss c d left =
    let q = c (ss ++ left) in
    let r = d left in
    (q.0 ++ r.0, q.1 ++ r.1, joined q.0 r.0 q.1 r.1 q.2 r.2)

abbrev token : Terminal → Lexeme
token t = record { is = t; name = [] }

abbrev word : List ℕ → Lexeme
word w = record { is = terminals.Name; name = w }

dead_closes : Closes (DeadNumber ∷ [])
dead_closes = one_closes DeadNumber (token (terminals.Number 0)) _ _ refl nothing_closes

node_closes : Closes (Node ∷ [])
node_closes = one_closes Node (word (codes "dead")) _ _ refl dead_closes

qed_closes : Closes (Qed ∷ [])
qed_closes = one_closes Qed (token terminals.Qed) _ _ refl nothing_closes

nodes_close : Closes (Node ∷ Node ∷ [])
nodes_close = more_closes Node (Node ∷ []) node_closes node_closes

by_closes : Closes (ByNumber ∷ [])
by_closes = one_closes ByNumber (token (terminals.Number 0)) _ _ refl nothing_closes

cover_closes : Closes (Cover ∷ [])
cover_closes = one_closes Cover (word (codes "by")) _ _ refl by_closes

split_shape_closes : (o : ObjId) → Closes (SplitShape o ∷ [])
split_shape_closes o = one_closes (SplitShape o) (word []) _ _ refl nodes_close

split_by_closes : (o : ObjId) → Closes (SplitBy o ∷ [])
split_by_closes o = one_closes (SplitBy o) (token terminals.Shape) _ _ refl (split_shape_closes o)

split_number_closes : (part : Part) (o : ObjId) (d : ℕ) (sign : Sign) → Closes (SplitNumber part o d sign ∷ [])
split_number_closes part o d Plus = one_closes (SplitNumber part o d Plus) (token (terminals.Number 0)) _ _ refl nodes_close
split_number_closes part o d Minus = one_closes (SplitNumber part o d Minus) (token (terminals.Number 0)) _ _ refl nodes_close

drop_shape_closes : (o : ObjId) → Closes (DropShape o ∷ [])
drop_shape_closes o = one_closes (DropShape o) (word []) _ _ refl (more_closes Cover (Node ∷ []) cover_closes node_closes)

covers_close : (o : ObjId) → Closes (Covers o ∷ [])
covers_close o = one_closes (Covers o) (token terminals.Close) _ _ refl nothing_closes

bound_covers_closes : (part : Part) (o : ObjId) (d : ℕ) (v : ℤ) → Closes (BoundCovers part o d v ∷ [])
bound_covers_closes part o d v = one_closes (BoundCovers part o d v) (token terminals.Open) _ _ refl (more_closes (Covers o) (Node ∷ []) (covers_close o) node_closes)

bound_number_closes : (part : Part) (o : ObjId) (d : ℕ) (sign : Sign) → Closes (BoundNumber part o d sign ∷ [])
bound_number_closes part o d Plus = one_closes (BoundNumber part o d Plus) (token (terminals.Number 0)) _ _ refl (bound_covers_closes part o d (pos 0))
bound_number_closes part o d Minus = one_closes (BoundNumber part o d Minus) (token (terminals.Number 0)) _ _ refl (bound_covers_closes part o d (signed Minus 0))

bound_dimension_closes : (part : Part) (o : ObjId) → Closes (BoundDimension part o ∷ [])
bound_dimension_closes part o = one_closes (BoundDimension part o) (token (terminals.Number 0)) _ _ refl (bound_number_closes part o 0 Plus)

gone_covers_closes : (o : ObjId) → Closes (GoneCovers o ∷ [])
gone_covers_closes o = one_closes (GoneCovers o) (token terminals.Open) _ _ refl (covers_close o)

cut_number_closes : (part : Part) (d : ℕ) (sign : Sign) → Closes (CutNumber part d sign ∷ [])
cut_number_closes part d Plus = one_closes (CutNumber part d Plus) (token (terminals.Number 0)) _ _ refl (more_closes Cover (Cover ∷ []) cover_closes cover_closes)
cut_number_closes part d Minus = one_closes (CutNumber part d Minus) (token (terminals.Number 0)) _ _ refl (more_closes Cover (Cover ∷ []) cover_closes cover_closes)

each_closes : (s : Symbol) → Closes (s ∷ [])
each_closes Text = one_closes Text (word (codes "dead")) _ _ refl (more_closes DeadNumber (Qed ∷ []) dead_closes qed_closes)
each_closes Node = node_closes
each_closes Qed = qed_closes
each_closes SplitObject = one_closes SplitObject (word []) _ _ refl (split_by_closes (an 0))
each_closes (SplitBy o) = split_by_closes o
each_closes (SplitShape o) = split_shape_closes o
each_closes (SplitPart o d) = one_closes (SplitPart o d) (word (codes "upto")) _ _ refl (split_number_closes Upto o d Plus)
each_closes (SplitNumber part o d sign) = split_number_closes part o d sign
each_closes DropObject = one_closes DropObject (word []) _ _ refl (drop_shape_closes (an 0))
each_closes (DropShape o) = drop_shape_closes o
each_closes (BoundObject part) = one_closes (BoundObject part) (word []) _ _ refl (bound_dimension_closes part (an 0))
each_closes (BoundDimension part o) = bound_dimension_closes part o
each_closes (BoundNumber part o d sign) = bound_number_closes part o d sign
each_closes (BoundCovers part o d v) = bound_covers_closes part o d v
each_closes GoneObject = one_closes GoneObject (word []) _ _ refl (gone_covers_closes (an 0))
each_closes (GoneCovers o) = gone_covers_closes o
each_closes DeadNumber = dead_closes
each_closes (Covers o) = covers_close o
each_closes Cover = cover_closes
each_closes ByNumber = by_closes
each_closes (CutDimension part) = one_closes (CutDimension part) (token (terminals.Number 0)) _ _ refl (cut_number_closes part 0 Plus)
each_closes (CutNumber part d sign) = cut_number_closes part d sign

all_close : (ss : List Symbol) → Closes ss
all_close [] = nothing_closes
all_close (s ∷ ss) = more_closes s ss (each_closes s) (all_close ss)

-- so what is open under `anything` begins a text
opened : (ss : List Symbol) (ws : List Lexeme) (es : List Event) → Opens anything ws ss es → Begins ws
opened ss ws es d =
    let r = all_close ss [] in
    let closed = subst (λ (x : List Symbol). Leaves anything [] x r.0 r.1) (append-nil ss) r.2 in
    (r.0, es ++ r.1, joined ws r.0 es r.1 d closed)

-- ---- the laws

module _ (n : NameTable) where
  -- what is read begins a text
  pub opens_begins : (ws : List Lexeme) (ss : List Symbol) (es : List Event) → Opens (lookup n) ws ss es → Begins ws
  opens_begins ws ss es d = let r = bared (lookup n) ss (Text ∷ []) ws es d in opened (map bare ss) ws r.0 r.1

  -- and so they do with a name or a dimension that stands for nothing
  pub unknown_begins : (ws : List Lexeme) (s : Symbol) (ss : List Symbol) (es : List Event) (w : Lexeme) → Opens (lookup n) ws (s ∷ ss) es → at (lookup n) s w ≡ Unknown → Begins (ws ++ w ∷ [])
  unknown_begins ws s ss es w d e =
      let r = bared (lookup n) (s ∷ ss) (Text ∷ []) ws es d in
      let q = follows_at (lookup n) s w Unknown e in
      opened (q.0 ++ map bare ss) (ws ++ w ∷ []) (r.0 ++ q.1) (one_more w r.1 q.2)

  -- with a token that goes on in no way they begin none
  pub wrong_begins_none : (ws : List Lexeme) (s : Symbol) (ss : List Symbol) (es : List Event) (w : Lexeme) → Opens (lookup n) ws (s ∷ ss) es → at (lookup n) s w ≡ Wrong → Begins (ws ++ w ∷ []) → ⊥
  wrong_begins_none ws s ss es w d e b =
      let r = bared (lookup n) (s ∷ ss) (Text ∷ []) ws es d in
      let wrong = follows_at (lookup n) s w Wrong e in
      let whole = subst (λ (x : List Lexeme). Leaves anything [] (Text ∷ []) x b.1) (append_assoc ws (w ∷ []) b.0) b.2 in
      let goes = (first_step (rest_of (w ∷ b.0) r.1 whole).2).3 in
      absurd cc
