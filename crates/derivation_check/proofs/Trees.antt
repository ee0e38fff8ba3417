-- The events that spell one node are those of a tree, and the other way round.
use Rattle.std.proofs.Common.{◌≡◌, ℕ, ◌+◌, ◌<◌, ◌≤◌, ◌&&◌, ◌↔◌, IsTrue, Bool, true, false, List, [], ◌∷◌, ◌++◌, length, reverse, get_or, drop, drop-cons, add-one, Option, Some, None, refl, sym, ap, ◌∙◌, append_assoc, subst}
use Rattle.std.specs.Prelude.{◌==◌}
use Rattle.std.proofs.Math.Dec.{eqb-suc-zero}
use Rattle.std.proofs.lemmas.Bool.{false≢true}
use Rattle.std.proofs.lemmas.List.{append-nil, drop_all, length-reverse}
use Rattle.derivation.specs.declared.event.Event.{Event}
use Rattle.derivation.specs.declared.event.Event.TheVariants as events
use Rattle.derivation.specs.declared.side.Side.{Side}
use Rattle.derivation.specs.declared.side.Side.TheVariants as sides
use Rattle.derivation.specs.declared.half.Half.{Half}
use Rattle.derivation.specs.declared.half.Half.TheVariants.{OfPlace, OfSide}
use Rattle.derivation.specs.Covers.{CoverTree, Leaf, Fork, events_of, cut_event}
use Rattle.derivation.specs.PlaceCovers.{PlaceCover, open_events, covers_events}
use Rattle.derivation.specs.Chains.{bound_event}
use Rattle.derivation.specs.Nodes as nodes
use Rattle.derivation_check.specs.Trees.{IsOneTree}
use Rattle.derivation_check.specs.Wanted.{follows, if_some, spells}
use Rattle.derivation_check.specs.declared.tree.Wanted.{Wanted}
use Rattle.derivation_check.specs.declared.tree.Wanted.TheVariants.{Node, Cover, Covers}

-- ---- the events of a tree are wanted

cover_spelt : (t : CoverTree) (es : List Event) (ws : List Wanted) → spells (events_of t ++ es) (Cover ∷ ws) ≡ spells es ws
cover_spelt (Leaf i) es ws = refl
cover_spelt (Fork (sides.Upto d v) a b) es ws =
    ap (λ (x : List Event). spells x (Cover ∷ Cover ∷ ws)) (append_assoc (events_of a) (events_of b) es)
    ∙ cover_spelt a (events_of b ++ es) (Cover ∷ ws) ∙ cover_spelt b es ws
cover_spelt (Fork (sides.From d v) a b) es ws =
    ap (λ (x : List Event). spells x (Cover ∷ Cover ∷ ws)) (append_assoc (events_of a) (events_of b) es)
    ∙ cover_spelt a (events_of b ++ es) (Cover ∷ ws) ∙ cover_spelt b es ws

covers_spelt : (list : List PlaceCover) (es : List Event) (ws : List Wanted) → spells (covers_events list ++ es) (Covers ∷ ws) ≡ spells es ws
covers_spelt [] es ws = refl
covers_spelt (c ∷ more) es ws =
    let end : List Event = events.EndCovers ∷ [] in
    ap (λ (x : List Event). spells x (Cover ∷ Covers ∷ ws))
    (ap (λ (x : List Event). x ++ es) (append_assoc (events_of c.tree) (open_events more) end) ∙ append_assoc (events_of c.tree) (open_events more ++ end) es)
    ∙ cover_spelt c.tree (covers_events more ++ es) (Covers ∷ ws) ∙ covers_spelt more es ws

node_spelt : (n : nodes.Node) (es : List Event) (ws : List Wanted) → spells (nodes.node_events n ++ es) (Node ∷ ws) ≡ spells es ws
node_spelt (nodes.Split o (OfPlace s) a b) es ws =
    ap (λ (x : List Event). spells x (Node ∷ Node ∷ ws)) (append_assoc (nodes.node_events a) (nodes.node_events b) es)
    ∙ node_spelt a (nodes.node_events b ++ es) (Node ∷ ws) ∙ node_spelt b es ws
node_spelt (nodes.Split o (OfSide (sides.Upto d v)) a b) es ws =
    ap (λ (x : List Event). spells x (Node ∷ Node ∷ ws)) (append_assoc (nodes.node_events a) (nodes.node_events b) es)
    ∙ node_spelt a (nodes.node_events b ++ es) (Node ∷ ws) ∙ node_spelt b es ws
node_spelt (nodes.Split o (OfSide (sides.From d v)) a b) es ws =
    ap (λ (x : List Event). spells x (Node ∷ Node ∷ ws)) (append_assoc (nodes.node_events a) (nodes.node_events b) es)
    ∙ node_spelt a (nodes.node_events b ++ es) (Node ∷ ws) ∙ node_spelt b es ws
node_spelt (nodes.DropNode o s tree rest) es ws =
    ap (λ (x : List Event). spells x (Cover ∷ Node ∷ ws)) (append_assoc (events_of tree) (nodes.node_events rest) es)
    ∙ cover_spelt tree (nodes.node_events rest ++ es) (Node ∷ ws) ∙ node_spelt rest es ws
node_spelt (nodes.Bound o (sides.Upto d v) list rest) es ws =
    ap (λ (x : List Event). spells x (Covers ∷ Node ∷ ws)) (append_assoc (covers_events list) (nodes.node_events rest) es)
    ∙ covers_spelt list (nodes.node_events rest ++ es) (Node ∷ ws) ∙ node_spelt rest es ws
node_spelt (nodes.Bound o (sides.From d v) list rest) es ws =
    ap (λ (x : List Event). spells x (Covers ∷ Node ∷ ws)) (append_assoc (covers_events list) (nodes.node_events rest) es)
    ∙ covers_spelt list (nodes.node_events rest ++ es) (Node ∷ ws) ∙ node_spelt rest es ws
node_spelt (nodes.GoneNode o list) es ws = covers_spelt list es ws
node_spelt (nodes.DeadNode i) es ws = refl

pub tree_spelt : (es : List Event) → IsOneTree es → spells es (Node ∷ []) ≡ true
tree_spelt es h =
    ap (λ (x : List Event). spells x (Node ∷ [])) (h.1 ∙ sym (append-nil (nodes.node_events h.0))) ∙ node_spelt h.0 [] []

-- ---- what is wanted are the events of a tree

-- what is wanted, made of these events
abbrev Makes : Wanted → List Event → Type 0
Makes Node es = (n : nodes.Node) × (nodes.node_events n ≡ es)
Makes Cover es = (t : CoverTree) × (events_of t ≡ es)
Makes Covers es = (list : List PlaceCover) × (covers_events list ≡ es)

-- a piece for each thing that is wanted, one behind the other
abbrev MakeAll : List Wanted → List Event → Type 0
MakeAll [] es = es ≡ []
MakeAll (w ∷ ws) es = (a b : List Event) × Makes w a × MakeAll ws b × (es ≡ a ++ b)

make_both : (vs ws : List Wanted) (es : List Event) → MakeAll (vs ++ ws) es → (a b : List Event) × MakeAll vs a × MakeAll ws b × (es ≡ a ++ b)
make_both [] ws es m = ([], es, refl, m, refl)
make_both (v ∷ vs) ws es m =
    let r = make_both vs ws m.1 m.3 in
    (m.0 ++ r.0, r.1, (m.0, r.0, m.2, r.2, refl), r.3, m.4 ∙ ap (λ (x : List Event). m.0 ++ x) r.4 ∙ sym (append_assoc m.0 r.0 r.1))

-- the piece of one thing, and the pieces of two
one : (v : Wanted) (es : List Event) → MakeAll (v ∷ []) es → Makes v es
one v es m = subst (Makes v) (sym (m.4 ∙ ap (λ (x : List Event). m.0 ++ x) m.3 ∙ append-nil m.0)) m.2

two : (v w : Wanted) (es : List Event) → MakeAll (v ∷ w ∷ []) es → (a b : List Event) × Makes v a × Makes w b × (a ++ b ≡ es)
two v w es m = (m.0, m.1, m.2, one w m.1 m.3, sym m.4)

-- with the event in front of what comes behind it
abbrev Adds : Wanted → Event → Option (List Wanted) → Type 0
Adds w e None = Unit {0}
Adds w e (Some more) = (es : List Event) → MakeAll more es → Makes w (e ∷ es)

adds_split : (o : ℕ) (half : Half) → Adds Node (nodes.split_event o half) (Some (Node ∷ Node ∷ []))
adds_split o half es m = let r = two Node Node es m in (nodes.Split o half r.2.0 r.3.0, cc)

adds_bound : (o : ℕ) (side : Side) → Adds Node (bound_event o side) (Some (Covers ∷ Node ∷ []))
adds_bound o side es m = let r = two Covers Node es m in (nodes.Bound o side r.2.0 r.3.0, cc)

adds_drop : (o s : ℕ) → Adds Node (events.Drop (record { 0 = o }) s) (Some (Cover ∷ Node ∷ []))
adds_drop o s es m = let r = two Cover Node es m in (nodes.DropNode o s r.2.0 r.3.0, cc)

adds_gone : (o : ℕ) → Adds Node (events.Gone (record { 0 = o })) (Some (Covers ∷ []))
adds_gone o es m = let r = one Covers es m in (nodes.GoneNode o r.0, ap (λ (x : List Event). events.Gone (record { 0 = o }) ∷ x) r.1)

adds_fork : (side : Side) → Adds Cover (cut_event side) (Some (Cover ∷ Cover ∷ []))
adds_fork side es m = let r = two Cover Cover es m in (Fork side r.2.0 r.3.0, cc)

adds_place : (s : ℕ) → Adds Covers (events.Cover s) (Some (Cover ∷ Covers ∷ []))
adds_place s es m =
    let r = two Cover Covers es m in
    let c : PlaceCover = record { place = s; tree = r.2.0 } in
    let same : events_of c.tree ++ covers_events r.3.0 ≡ es = cc in
    (c ∷ r.3.0, ap (λ (x : List Event). events.Cover s ∷ x) (append_assoc (events_of c.tree) (open_events r.3.0) (events.EndCovers ∷ []) ∙ same))

adds : (w : Wanted) (e : Event) → Adds w e (follows w e)
adds Node (events.SplitShape o s) = adds_split o.0 (OfPlace s)
adds Node (events.SplitUpto o d v) = adds_split o.0 (OfSide (sides.Upto d v))
adds Node (events.SplitFrom o d v) = adds_split o.0 (OfSide (sides.From d v))
adds Node (events.Drop o s) = adds_drop o.0 s
adds Node (events.Raise o d v) = adds_bound o.0 (sides.From d v)
adds Node (events.Lower o d v) = adds_bound o.0 (sides.Upto d v)
adds Node (events.Gone o) = adds_gone o.0
adds Node (events.Dead i) = λ es m. (nodes.DeadNode i, ap (λ (x : List Event). events.Dead i ∷ x) (sym m))
adds Cover (events.By i) = λ es m. (Leaf i, ap (λ (x : List Event). events.By i ∷ x) (sym m))
adds Cover (events.Cut d v) = adds_fork (sides.Upto d v)
adds Cover (events.CutFrom d v) = adds_fork (sides.From d v)
adds Covers (events.Cover s) = adds_place s
adds Covers events.EndCovers = λ es m. ([], ap (λ (x : List Event). events.EndCovers ∷ x) (sym m))
adds w e = tt

add_all : (w : Wanted) (e : Event) (x : Option (List Wanted)) (es : List Event) (ws : List Wanted) → Adds w e x
    → ((vs : List Wanted) → spells es vs ≡ true → MakeAll vs es) → if_some x (λ more. spells es (more ++ ws)) ≡ true → MakeAll (w ∷ ws) (e ∷ es)
add_all w e None es ws f on h = absurd (false≢true h)
add_all w e (Some more) es ws f on h =
    let r = make_both more ws es (on (more ++ ws) h) in
    (e ∷ r.0, r.1, f r.0 r.2, r.3, ap (λ (x : List Event). e ∷ x) r.4)

spelt_makes : (es : List Event) (ws : List Wanted) → spells es ws ≡ true → MakeAll ws es
spelt_makes [] [] h = refl
spelt_makes [] (w ∷ ws) h = absurd (false≢true h)
spelt_makes (e ∷ es) [] h = absurd (false≢true h)
spelt_makes (e ∷ es) (w ∷ ws) h = add_all w e (follows w e) es ws (adds w e) (spelt_makes es) h

pub spelt_tree : (es : List Event) → spells es (Node ∷ []) ≡ true → IsOneTree es
spelt_tree es h = let r = one Node es (spelt_makes es (Node ∷ []) h) in (r.0, sym r.1)

-- ---- so the test decides

pub decides : (es : List Event) (b : Bool) → spells es (Node ∷ []) ≡ b → IsTrue b ↔ IsOneTree es
decides es b e = (λ h. spelt_tree es (e ∙ h), λ t. sym e ∙ tree_spelt es t)

-- one event more
pub one_more : (es : List Event) (i : ℕ) (d : Event) (goes : Bool) (ws vs : List Wanted) → i < length es → spells (drop i es) ws ≡ spells es (Node ∷ [])
    → ((rest : List Event) → spells (get_or es i d ∷ rest) ws ≡ goes && spells rest vs) → goes && spells (drop (i + 1) es) vs ≡ spells es (Node ∷ [])
one_more es i d goes ws vs h before step =
    let more : drop i es ≡ get_or es i d ∷ drop (i + 1) es = rw (add-one, drop-cons es i d) refl in
    sym (step (drop (i + 1) es)) ∙ ap (λ (x : List Event). spells x ws) (sym more) ∙ before

-- and one that does not go on
pub refused : (es : List Event) (i : ℕ) (d : Event) (goes : Bool) (ws vs : List Wanted) → i < length es → spells (drop i es) ws ≡ spells es (Node ∷ [])
    → ((rest : List Event) → spells (get_or es i d ∷ rest) ws ≡ goes && spells rest vs) → goes ≡ false → IsTrue false ↔ IsOneTree es
refused es i d goes ws vs h before step halts =
    decides es false (sym (one_more es i d goes ws vs h before step) ∙ ap (λ (b : Bool). b && spells (drop (i + 1) es) vs) halts)

nothing_left : (ws : List Wanted) → spells [] ws ≡ (length ws == 0)
nothing_left [] = refl
nothing_left (w ∷ ws) = sym (eqb-suc-zero (length ws))

-- behind the last one
pub all_taken : (es : List Event) (i n : ℕ) (stack : List Wanted) (b : Bool) → length es ≤ i → spells (drop i es) (reverse stack) ≡ spells es (Node ∷ [])
    → n ≡ length stack → b ≡ (n == 0) → IsTrue b ↔ IsOneTree es
all_taken es i n stack b h before count e =
    decides es b (sym before ∙ ap (λ (x : List Event). spells x (reverse stack)) (drop_all i es h) ∙ nothing_left (reverse stack)
    ∙ ap (λ (m : ℕ). m == 0) (length-reverse stack ∙ sym count) ∙ sym e)
