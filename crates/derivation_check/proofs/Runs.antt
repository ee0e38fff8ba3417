-- What the machine does with the events of a whole derivation.
use Rattle.std.proofs.Common.{◌≡◌, ℕ, suc, ◌+◌, Bool, true, false, ◌||◌, ◌&&◌, List, [], ◌∷◌, ◌++◌, length, refl, sym, ap, ◌∙◌, arith, Option, Some, None, length-append, append_assoc}
use Rattle.geo_conditions.specs.declared.cond.Cond.{Cond}
use Rattle.geo_conditions.specs.declared.object.ObjId.{ObjId}
use Rattle.geo_conditions.specs.Reach.{State, Region, reach, with_at}
use Rattle.derivation.specs.declared.event.Event.{Event}
use Rattle.derivation.specs.declared.event.Event.TheVariants.{EndCovers}
use Rattle.derivation.specs.declared.side.Side.{Side}
use Rattle.derivation.specs.declared.side.Side.TheVariants.{Upto, From}
use Rattle.derivation.specs.declared.half.Half.{Half}
use Rattle.derivation.specs.declared.half.Half.TheVariants.{OfPlace, OfSide}
use Rattle.derivation.specs.Cuts.{near, far, is_empty}
use Rattle.derivation.specs.Covers.{CoverTree, Leaf, Fork, events_of, cut_event, refutes, covers}
use Rattle.derivation.specs.PlaceCovers.{PlaceCover, open_events, covers_events, next_place, is_that, is_nothing, all_cover}
use Rattle.derivation.specs.Chains.{bound_event}
use Rattle.derivation.specs.Nodes.{Node, Split, DropNode, Bound, GoneNode, DeadNode, node_events, split_event, size}
use Rattle.derivation.specs.Valid.{first_part, second_part, change, rows}
use Rattle.derivation.proofs.Empty.{fork_is}
use Rattle.derivation_check.specs.declared.saved.Saved.{Saved}
use Rattle.derivation_check.specs.declared.progress.Task.{Task}
use Rattle.derivation_check.specs.declared.progress.Task.TheVariants.{Again, Last}
use Rattle.derivation_check.specs.declared.progress.Owner.{Owner}
use Rattle.derivation_check.specs.declared.progress.Owner.TheVariants as owners
use Rattle.derivation_check.specs.declared.progress.Work.{Work}
use Rattle.derivation_check.specs.declared.progress.Work.TheVariants.{AtNode, OfDrop, OfList}
use Rattle.derivation_check.specs.Machine.{Machine, undo, saved, note, finish, settle, step, run, leaf, close_by}
use Rattle.derivation_check.proofs.Undo.{undo_first, undo_second}

abbrev pub machine : State → List Task → Work → List Region → ℕ → Option ℕ → Machine
machine S ts w bs k f = record { state = S; tasks = ts; work = w; boxes = bs; nodes = k; failed = f }

-- a node is read
abbrev pub ready : State → List Task → ℕ → Option ℕ → Machine
ready S ts k f = machine S ts AtNode [] k f

-- the tests of nodes, from number k + 1 on
abbrev pub notes : Option ℕ → ℕ → List Bool → Option ℕ
notes f k [] = f
notes f k (b ∷ bs) = notes (note f (k + 1) b) (k + 1) bs

pub run_append : (cs : List Cond) (es fs : List Event) (m : Machine) → run cs (es ++ fs) m ≡ run cs fs (run cs es m)
run_append cs [] fs m = refl
run_append cs (e ∷ es) fs m = run_append cs es fs (step cs m e)

note_true : (f : Option ℕ) (k : ℕ) → note f k true ≡ f
note_true None k = refl
note_true (Some n) k = refl

note_twice : (f : Option ℕ) (k : ℕ) (a b : Bool) → note (note f k a) k b ≡ note f k (a && b)
note_twice (Some n) k a b = refl
note_twice None k true b = refl
note_twice None k false b = refl

-- what a tree's place is
abbrev OfWork : Work → ℕ → ℕ → Type 0
OfWork AtNode o s = ⊥
OfWork (OfDrop p t) o s = (p.0 ≡ o) × (t ≡ s)
OfWork (OfList p c n t) o s = (p.0 ≡ o) × (t ≡ s)

leaf_is : (cs : List Cond) (i : ℕ) (w : Work) (S : State) (b : Region) (o s : ℕ) → OfWork w o s → leaf cs i w S b ≡ (is_empty b || refutes cs i (with_at S o s b))
leaf_is cs i AtNode S b o s h = absurd h
leaf_is cs i (OfDrop p t) S b o s h = ap (λ (x : ℕ). is_empty b || refutes cs i (with_at S x t b)) h.0 ∙ ap (λ (x : ℕ). is_empty b || refutes cs i (with_at S o x b)) h.1
leaf_is cs i (OfList p c n t) S b o s h = ap (λ (x : ℕ). is_empty b || refutes cs i (with_at S x t b)) h.0 ∙ ap (λ (x : ℕ). is_empty b || refutes cs i (with_at S o x b)) h.1

fork_step : (cs : List Cond) (side : Side) (S : State) (ts : List Task) (w : Work) (b : Region) (bs : List Region) (k : ℕ) (f : Option ℕ)
    → step cs (machine S ts w (b ∷ bs) k f) (cut_event side) ≡ machine S ts w (near side b ∷ far side b ∷ bs) k f
fork_step cs (Upto d v) S ts w b bs k f = refl
fork_step cs (From d v) S ts w b bs k f = refl

-- the events of a tree take the box off, and note whether it is covered
pub run_tree : (cs : List Cond) (t : CoverTree) (S : State) (ts : List Task) (w : Work) (b : Region) (bs : List Region) (k : ℕ) (f : Option ℕ) (o s : ℕ) → OfWork w o s
    → run cs (events_of t) (machine S ts w (b ∷ bs) k f) ≡ settle bs w (machine S ts w bs k (note f k (covers cs S o s b t)))
run_tree cs (Leaf i) S ts w b bs k f o s h = ap (λ (ok : Bool). settle bs w (machine S ts w bs k (note f k ok))) (leaf_is cs i w S b o s h)
run_tree cs (Fork side x y) S ts w b bs k f o s h =
    ap (run cs (events_of x ++ events_of y)) (fork_step cs side S ts w b bs k f)
    ∙ run_append cs (events_of x) (events_of y) (machine S ts w (near side b ∷ far side b ∷ bs) k f)
    ∙ ap (run cs (events_of y)) (run_tree cs x S ts w (near side b) (far side b ∷ bs) k f o s h)
    ∙ run_tree cs y S ts w (far side b) bs k (note f k (covers cs S o s (near side b) x)) o s h
    ∙ ap (λ (g : Option ℕ). settle bs w (machine S ts w bs k g)) (note_twice f k (covers cs S o s (near side b) x) (covers cs S o s (far side b) y) ∙ ap (note f k) (sym (fork_is cs S o s b side x y)))

-- what is read, and the open nodes, count for nothing where a node ends
pub finish_same : (ts : List Task) (S : State) (us vs : List Task) (w : Work) (bs : List Region) (k : ℕ) (f : Option ℕ) → finish ts (machine S us w bs k f) ≡ finish ts (machine S vs AtNode bs k f)
finish_same ts S us vs w bs k f = refl

close_same : (c : Owner) (o : ObjId) (S : State) (ts : List Task) (w : Work) (bs : List Region) (k : ℕ) (f : Option ℕ) → close_by c o (machine S ts w bs k f) ≡ close_by c o (machine S ts AtNode bs k f)
close_same owners.Gone o S ts w bs k f = finish_same ts S ts ts w bs k f
close_same (owners.Bound side) o S ts w bs k f = refl

-- the events of a list of covers, from the place n on
pub run_covers : (cs : List Cond) (ns : List PlaceCover) (S : State) (ts : List Task) (o : ObjId) (c : Owner) (n t : ℕ) (b : Region) (k : ℕ) (f : Option ℕ)
    → run cs (covers_events ns) (machine S ts (OfList o c n t) (b ∷ []) k f) ≡ close_by c o (machine S ts AtNode [] k (note f k (all_cover cs S o.0 b n ns)))
run_covers cs [] S ts o c n t b k f = close_same c o S ts (OfList o c n t) [] k (note f k (is_nothing (next_place n (reach S o.0).places)))
run_covers cs (x ∷ ns) S ts o c n t b k f =
    let fits = is_that (next_place n (reach S o.0).places) x.place in
    let covered = covers cs S o.0 x.place b x.tree in
    let others = all_cover cs S o.0 b (x.place + 1) ns in
    ap (λ (es : List Event). run cs es (machine S ts (OfList o c (x.place + 1) x.place) (b ∷ b ∷ []) k (note f k fits))) (append_assoc (events_of x.tree) (open_events ns) (EndCovers ∷ []))
    ∙ run_append cs (events_of x.tree) (covers_events ns) (machine S ts (OfList o c (x.place + 1) x.place) (b ∷ b ∷ []) k (note f k fits))
    ∙ ap (run cs (covers_events ns)) (run_tree cs x.tree S ts (OfList o c (x.place + 1) x.place) b (b ∷ []) k (note f k fits) o.0 x.place (refl, refl))
    ∙ run_covers cs ns S ts o c (x.place + 1) x.place b k (note (note f k fits) k covered)
    ∙ ap (λ (g : Option ℕ). close_by c o (machine S ts AtNode [] k g)) (note_twice (note f k fits) k covered others ∙ note_twice f k fits (covered && others))

notes_append : (f : Option ℕ) (k : ℕ) (xs ys : List Bool) → notes f k (xs ++ ys) ≡ notes (notes f k xs) (k + length xs) ys
notes_append f k [] ys = ap (λ (n : ℕ). notes f n ys) (omega arith)
notes_append f k (x ∷ xs) ys = notes_append (note f (k + 1) x) (k + 1) xs ys ∙ ap (λ (n : ℕ). notes (notes (note f (k + 1) x) (k + 1) xs) n ys) (omega arith)

pub rows_size : (cs : List Cond) (S : State) (n : Node) → length (rows cs S n) ≡ size n
rows_size cs S (Split o half a b) = omega (arith, length-append (rows cs (change (first_part half) S o) a) (rows cs (change (second_part half) S o) b), rows_size cs (change (first_part half) S o) a, rows_size cs (change (second_part half) S o) b)
rows_size cs S (DropNode o s t n) = ap suc (rows_size cs (change (second_part (OfPlace s)) S o) n)
rows_size cs S (Bound o side ns n) = ap suc (rows_size cs (change (first_part (OfSide side)) S o) n)
rows_size cs S (GoneNode o ns) = refl
rows_size cs S (DeadNode i) = refl

abbrev an : ℕ → ObjId
an o = record { 0 = o }

split_step : (cs : List Cond) (o : ℕ) (half : Half) (S : State) (ts : List Task) (k : ℕ) (f : Option ℕ)
    → step cs (ready S ts k f) (split_event o half) ≡ ready (change (first_part half) S o) (Again (an o) half (saved half S (an o)) ∷ ts) (k + 1) f
split_step cs o (OfPlace s) S ts k f = refl
split_step cs o (OfSide (Upto d v)) S ts k f = refl
split_step cs o (OfSide (From d v)) S ts k f = refl

bound_step : (cs : List Cond) (o : ℕ) (side : Side) (S : State) (ts : List Task) (k : ℕ) (f : Option ℕ)
    → step cs (ready S ts k f) (bound_event o side) ≡ machine S ts (OfList (an o) (owners.Bound side) 1 0) (far side (reach S o).region ∷ []) (k + 1) f
bound_step cs o (Upto d v) S ts k f = refl
bound_step cs o (From d v) S ts k f = refl

-- the end of a node whose last part has ended: its old state is back
last_done : (S T : State) (old : Saved) (ts us : List Task) (k n : ℕ) (f g : Option ℕ) → undo old T ≡ S → k ≡ n → f ≡ g → finish (Last old ∷ ts) (ready T us k f) ≡ finish ts (ready S ts n g)
last_done S T old ts us k n f g e h i =
    finish_same ts (undo old T) us ts AtNode [] k f ∙ ap (λ (U : State). finish ts (ready U ts k f)) e ∙ ap (λ (m : ℕ). finish ts (ready S ts m f)) h ∙ ap (λ (x : Option ℕ). finish ts (ready S ts n x)) i

-- the events of a node
pub run_node : (cs : List Cond) (n : Node) (S : State) (ts : List Task) (k : ℕ) (f : Option ℕ)
    → run cs (node_events n) (ready S ts k f) ≡ finish ts (ready S ts (k + size n) (notes f k (rows cs S n)))
run_node cs (Split o half a b) S ts k f =
    let S1 = change (first_part half) S o in
    let S2 = change (second_part half) S o in
    let old = saved half S (an o) in
    let g = notes f (k + 1) (rows cs S1 a) in
    let k1 = k + 1 + size a in
    ap (run cs (node_events a ++ node_events b)) (split_step cs o half S ts k f)
    ∙ run_append cs (node_events a) (node_events b) (ready S1 (Again (an o) half old ∷ ts) (k + 1) f)
    ∙ ap (run cs (node_events b)) (run_node cs a S1 (Again (an o) half old ∷ ts) (k + 1) f ∙ ap (λ (U : State). ready (change (second_part half) U o) (Last old ∷ ts) k1 g) (undo_first half S (an o)))
    ∙ run_node cs b S2 (Last old ∷ ts) k1 g
    ∙ last_done S S2 old ts (Last old ∷ ts) (k1 + size b) (k + suc (size a + size b)) (notes g k1 (rows cs S2 b)) (notes f k (rows cs S (Split o half a b))) (undo_second half S (an o)) (omega arith)
    (ap (λ (m : ℕ). notes g m (rows cs S2 b)) (omega (arith, rows_size cs S1 a)) ∙ sym (notes_append f (k + 1) (rows cs S1 a) (rows cs S2 b)) ∙ ap (λ (x : Option ℕ). notes x (k + 1) (rows cs S1 a ++ rows cs S2 b)) (sym (note_true f (k + 1))))
run_node cs (DropNode o s t n) S ts k f =
    let S2 = change (second_part (OfPlace s)) S o in
    let old = saved (OfPlace s) S (an o) in
    let g = note f (k + 1) (covers cs S o s (reach S o).region t) in
    run_append cs (events_of t) (node_events n) (machine S ts (OfDrop (an o) s) ((reach S o).region ∷ []) (k + 1) f)
    ∙ ap (run cs (node_events n)) (run_tree cs t S ts (OfDrop (an o) s) (reach S o).region [] (k + 1) f o s (refl, refl))
    ∙ run_node cs n S2 (Last old ∷ ts) (k + 1) g
    ∙ last_done S S2 old ts (Last old ∷ ts) (k + 1 + size n) (k + suc (size n)) (notes g (k + 1) (rows cs S2 n)) (notes g (k + 1) (rows cs S2 n)) (undo_second (OfPlace s) S (an o)) (omega arith) refl
run_node cs (Bound o side ns n) S ts k f =
    let S1 = change (first_part (OfSide side)) S o in
    let old = saved (OfSide side) S (an o) in
    let b = far side (reach S o).region in
    let g = note f (k + 1) (all_cover cs S o b 1 ns) in
    ap (run cs (covers_events ns ++ node_events n)) (bound_step cs o side S ts k f)
    ∙ run_append cs (covers_events ns) (node_events n) (machine S ts (OfList (an o) (owners.Bound side) 1 0) (b ∷ []) (k + 1) f)
    ∙ ap (run cs (node_events n)) (run_covers cs ns S ts (an o) (owners.Bound side) 1 0 b (k + 1) f)
    ∙ run_node cs n S1 (Last old ∷ ts) (k + 1) g
    ∙ last_done S S1 old ts (Last old ∷ ts) (k + 1 + size n) (k + suc (size n)) (notes g (k + 1) (rows cs S1 n)) (notes g (k + 1) (rows cs S1 n)) (undo_first (OfSide side) S (an o)) (omega arith) refl
run_node cs (GoneNode o ns) S ts k f = run_covers cs ns S ts (an o) owners.Gone 1 0 (reach S o).region (k + 1) f
run_node cs (DeadNode i) S ts k f = refl
