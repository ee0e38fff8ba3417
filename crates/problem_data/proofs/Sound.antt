-- What statements without a fault spell is well formed.
use Rattle.std.proofs.Common.{◌≡◌, ◌≢◌, ◌<◌, ◌≤◌, ℕ, ℤ, pos, negsuc, ◌≤ℤ◌, ◌<ℤ◌, Bool, true, false, not, ◌==◌, ◌+◌, if◌then◌else◌, List, [], ◌∷◌, length, take, map, get_or, subst, sym, ◌∙◌, ap, arith, refl, inl, inr, nat_eq, zero-add}
use Rattle.std.specs.Prelude.{◌⊎◌, All, AllPairs, Contains, Option, Some, None, is_some}
use Rattle.std.specs.List.{range_with_len}
use Rattle.std.specs.Str.{bytes_eq}
use Rattle.std.proofs.Math.Logic.{⊎_elim}
use Rattle.std.proofs.lemmas.Bool.{cases_lt, cases_eq, cases_order, false≢true}
use Rattle.std.proofs.Math.Bool.{not-not}
use Rattle.std.proofs.lemmas.Slice.Eq.{bytes_eq-Decides}
use Rattle.std.proofs.lemmas.List.Sums.{prefix_len_passes, prefix_len_stops}
use Rattle.std.proofs.lemmas.Int.{ints}
use Rattle.std.specs.Bool.{Decides}
use Rattle.std.specs.Set.{is_member}
use Rattle.std.proofs.lemmas.Bool.Decides.{Decides-eqb}
use Rattle.std.proofs.lemmas.Map.Made.{is_member-Decides}
use Rattle.std.proofs.lemmas.List.{get_or-take, get_or_default, length-take, get_or-map, length-map, length-replicate}
use Rattle.std.proofs.lemmas.List.FromFn.{get_or-range_with_len, length-range_with_len}
use Rattle.problem_data.specs.Limits.{IsVersion, most_dims, most_first_dims, most_dims_in}
use Rattle.rule_syntax.specs.declared.tree.PlacedName.{PlacedName}
use Rattle.geo_tokens.specs.Names.{AllDifferent}
use Rattle.geo_tokens.specs.declared.fault.FaultWord.TheVariants as words
use Rattle.problem_data.specs.declared.tree.Int.{Int}
use Rattle.problem_data.specs.declared.tree.Side.TheVariants as sides
use Rattle.problem_data.specs.Tree.{BoxTree, ShapeTree, ObjectTree, OrderTree, SidesTree, MacroTree, DemandTree, RuleTree}
use Rattle.problem_data.specs.Tree as trees
use Rattle.problem_data.specs.Least.{fault}
use Rattle.problem_data.specs.Parts.{Parts}
use Rattle.problem_data.specs.Faults.{Among, PastLimit, Repeated, NotMade, Miscounted, OffsetsFault, OffsetFault, SizesFault, SizeFault, BoxFault, ShapeFault, ShapesFault, ObjectFault, ObjectsFault, OrderFault, IsComplete, SidesFault, DemandFault, RuleFault, RulesFault, DimsFault, VersionFault, PiecesFault, IsFault, shapes, objects, orders, rules, dims, version, count_of, pieces_place, text_of, shape_name, object_name, shape_names, object_names, int_place, side_place}
use Rattle.problem_data.specs.Faults as faults
use Rattle.problem_data.specs.declared.tree.RangeText.{RangeText}
use Rattle.problem_data.specs.Problem.{ShapeData, RuleData, ProblemData}
use Rattle.problem_data.specs.Meaning.{number_of, box_of, shape_of, range_of, pieces_of, object_of, demand_of, rule_of, position_of, order_of, side_of, sides_of, problem_of}
use Rattle.problem_data.specs.WellFormed.{IsBox, ArePieces, IsObject, IsSimple, IsDemand, IsWellFormed}
use Rattle.problem_data.proofs.Signs.{at_most}
use Rattle.problem_data.proofs.NoFault.{NoFault, none_among, within_limit, counted, size_number, all_mapped, ranges_fit}
use Rattle.problem_data.proofs.NoPieceFault.{pieces_fit}
use Rattle.problem_data.proofs.Yielded.{HasParts}

no_int : Int
no_int = record { place = 0; value = pos 0 }

no_name : PlacedName
no_name = record { place = 0; name = [] }

-- ---- shapes

box_fits : (k : ℕ) (before : List BoxTree) (b : BoxTree) → NoFault (BoxFault k before b) → IsBox k (box_of b)
unfolding no_int
box_fits k before b h = record {
  offsets = length-map b.offsets number_of ∙ counted int_place k b.offsets (λ f w. h f (inr (inl (inl w))));
  sizes = length-map b.sizes number_of ∙ counted int_place k b.sizes (λ f w. h f (inr (inr (inl w))));
  solid = all_mapped number_of (λ (n : ℤ). pos 0 <ℤ n) b.sizes (record { place = 0; value = pos 0 }) (λ i l.
      let s = size_number (get_or b.sizes i (record { place = 0; value = pos 0 })) (none_among (λ before. SizeFault) b.sizes (λ f w. h f (inr (inr (inr w)))) i (record { place = 0; value = pos 0 }) l) in omega (arith, ints, s.0));
}

no_box : BoxTree
no_box = record { place = 0; offsets = []; sizes = [] }

shape_fits : (k : ℕ) (s : ShapeTree) → NoFault (ShapeFault k s) → All (IsBox k) (shape_of s).boxes
shape_fits k s h = all_mapped box_of (IsBox k) s.boxes no_box (λ i l. box_fits k (take i s.boxes) (get_or s.boxes i no_box) (none_among (BoxFault k) s.boxes h i no_box l))

no_shape : ShapeTree
no_shape = record { name = no_name; boxes = [] }

shapes_fit : (k : ℕ) (ss : List ShapeTree) → NoFault (ShapesFault k ss) → All (λ s. All (IsBox k) s.boxes) (map shape_of ss)
shapes_fit k ss h = all_mapped shape_of (λ (s : ShapeData). All (IsBox k) s.boxes) ss no_shape (λ i l. shape_fits k (get_or ss i no_shape) (none_among (λ before. ShapeFault k) ss (λ f w. h f (inr w)) i no_shape l))

-- ---- positions of names

module _ (names : List (List ℕ)) (n : PlacedName) where
  other : List ℕ → Bool
  other x = not (bytes_eq n.name x)

  equal : (x : List ℕ) → n.name ≡ x → bytes_eq n.name x ≡ true
  equal x e = (bytes_eq-Decides n.name x).1 e

  -- where a name of the list stands
  pub position_there : Contains names n.name → position_of names n < length names
  unfolding other
  position_there c = ⊎_elim (λ l. l) (λ l.
      let test : not (bytes_eq n.name (get_or names c.0 n.name)) ≡ true = prefix_len_passes (λ x. not (bytes_eq n.name x)) names c.0 n.name (omega (arith, c.1)) in
      let same : bytes_eq n.name (get_or names c.0 n.name) ≡ true = equal (get_or names c.0 n.name) (sym c.2) in
      absurd (false≢true (sym (ap not same) ∙ test)))
      (cases_lt (position_of names n) (length names))

  -- the name that stands there
  pub position_reads : (d : List ℕ) → position_of names n < length names → get_or names (position_of names n) d ≡ n.name
  position_reads d l =
      let test : not (bytes_eq n.name (get_or names (position_of names n) d)) ≡ false = prefix_len_stops (λ x. not (bytes_eq n.name x)) names d l in
      let same : bytes_eq n.name (get_or names (position_of names n) d) ≡ true = sym (not-not (bytes_eq n.name (get_or names (position_of names n) d))) ∙ ap not test in
      sym ((bytes_eq-Decides n.name (get_or names (position_of names n) d)).0 same)

  -- the first place of the name is at most any other
  pub position_first : (k : ℕ) (d : List ℕ) → k < length names → get_or names k d ≡ n.name → position_of names n ≤ k
  position_first k d h e = ⊎_elim (λ l.
      let test : not (bytes_eq n.name (get_or names k d)) ≡ true = prefix_len_passes (λ x. not (bytes_eq n.name x)) names k d l in
      let same : bytes_eq n.name (get_or names k d) ≡ true = equal (get_or names k d) (sym e) in
      absurd (false≢true (sym (ap not same) ∙ test)))
      (λ l. l) (cases_lt k (position_of names n))

made_there : (names : List (List ℕ)) (ns : List PlacedName) → NoFault (NotMade names ns) → All (λ i. i < length names) (map (position_of names) ns)
made_there names ns h = all_mapped (position_of names) (λ i. i < length names) ns no_name (λ i l.
    ⊎_elim (λ lt. lt) (λ le. absurd (none_among (λ before n f. (Contains names n.name → ⊥) × (f ≡ fault n.place words.Unknown)) ns h i no_name l (fault (get_or ns i no_name).place words.Unknown)
    ((λ c. let lt = position_there names (get_or ns i no_name) c in absurd (omega arith)), refl))) (cases_lt (position_of names (get_or ns i no_name)) (length names)))

-- names that are repeated nowhere are different
distinct_names : (ns : List PlacedName) → NoFault (Repeated ns) → (i j : ℕ) (d : PlacedName) → i < j → j < length ns → (get_or ns i d).name ≡ (get_or ns j d).name → ⊥
distinct_names ns h i j d l m e =
    none_among (λ before n f. Contains (map text_of before) n.name × (f ≡ fault n.place words.Twice)) ns h j d m (fault (get_or ns j d).place words.Twice) (
      (
        i,
        (let k : length (map text_of (take j ns)) ≡ length (take j ns) = length-map (take j ns) text_of in let t = length-take j ns in omega (arith, k, t)),
        (let short : i < length (take j ns) = (let t = length-take j ns in omega (arith, t)) in
            get_or-map text_of (take j ns) i d (get_or ns j d).name short ∙ (ap text_of (get_or-take j ns i d l) ∙ e)),
      ),
      refl,
    )

-- the texts of such names are different
pub texts_differ : (ns : List PlacedName) → NoFault (Repeated ns) → AllDifferent (map text_of ns)
texts_differ ns h i j d l m e =
    let n : length (map text_of ns) ≡ length ns = length-map ns text_of in
    let m' : j < length ns = omega (arith, m, n) in
    let l' : i < length ns = omega (arith, l, m') in
    distinct_names ns h i j no_name l m' (sym (get_or-map text_of ns i no_name d l') ∙ (e ∙ get_or-map text_of ns j no_name d m'))

-- and so are their positions, where each is there
positions_differ : (names : List (List ℕ)) (ns : List PlacedName) → NoFault (Repeated ns) → NoFault (NotMade names ns) → AllDifferent (map (position_of names) ns)
positions_differ names ns once made i j d l m e =
    let n : length (map (position_of names) ns) ≡ length ns = length-map ns (position_of names) in
    let m' : j < length ns = omega (arith, m, n) in
    let l' : i < length ns = omega (arith, l, m') in
    let a = get_or-map (position_of names) ns i no_name d l' in
    let b = get_or-map (position_of names) ns j no_name d m' in
    let there_i : position_of names (get_or ns i no_name) < length names = subst (λ x. x < length names) a (made_there names ns made i d (omega (arith, l', n))) in
    let there_j : position_of names (get_or ns j no_name) < length names = subst (λ x. x < length names) b (made_there names ns made j d m) in
    let same : position_of names (get_or ns i no_name) ≡ position_of names (get_or ns j no_name) = sym a ∙ (e ∙ b) in
    distinct_names ns once i j no_name l m' (sym (position_reads names (get_or ns i no_name) [] there_i) ∙ (ap (λ k. get_or names k []) same ∙ position_reads names (get_or ns j no_name) [] there_j))

-- ---- objects

no_pieces : List RangeText
no_pieces = []

-- where the word `absent` stands there is room for one place more
places_few : (absent : Option ℕ) (n : ℕ) → ((place : ℕ) → absent ≡ Some place → 16 ≤ n → ⊥) → n ≤ 16 → n + (if is_some absent then 1 else 0) ≤ 16
places_few None n h few = omega (arith, few)
places_few (Some place) n h few = ⊎_elim (λ l. omega (arith, l)) (λ l. absurd (h place refl l)) (cases_lt n 16)

object_fits : (p : ProblemData) (second : Bool) (k : ℕ) (made : List (List ℕ)) (o : ObjectTree) → k ≡ p.dims → length made ≡ length p.shapes → HasParts second o → NoFault (ObjectFault k made o) → IsObject p (object_of made o)
object_fits p second k made o e m has h =
    let some = has.shapes in
    let n : length (map (position_of made) o.shapes) ≡ length o.shapes = length-map o.shapes (position_of made) in
    let few : length o.shapes ≤ 16 = within_limit 16 o.shapes (λ f w. h f (inl (inl w))) in
    record {
      some = omega (arith, n);
      few = places_few o.absent (length (map (position_of made) o.shapes)) (λ place e most. h (fault place words.Limit) (inr (inr (inr (inr (place, e, omega (arith, n, most), refl)))))) (omega (arith, n, few));
      shapes = subst (λ (c : ℕ). All (λ i. i < c) (map (position_of made) o.shapes)) m (made_there made o.shapes (λ f w. h f (inr (inl w))));
      once = positions_differ made o.shapes (λ f w. h f (inl (inr w))) (λ f w. h f (inr (inl w)));
      dimensions = length-map o.pieces pieces_of ∙ counted pieces_place k o.pieces (λ f w. h f (inr (inr (inl (inl w))))) ∙ e;
      pieces = all_mapped pieces_of ArePieces o.pieces no_pieces (λ i l. pieces_fit (get_or o.pieces i no_pieces) (none_among (λ before. PiecesFault) o.pieces (λ f w. h f (inr (inr (inl (inr w))))) i no_pieces l) (has.pieces i no_pieces l).0);
    }

no_object : ObjectTree
no_object = record { name = no_name; shapes = []; absent = None; pieces = []; attributes = [] }

-- in version 1 each range is one piece, and no object may be absent
simple_object : (made : List (List ℕ)) (o : ObjectTree) → HasParts false o → IsSimple (object_of made o)
simple_object made o has = record {
  pieces = all_mapped pieces_of (λ pieces. length pieces ≡ 1) o.pieces no_pieces (λ i l. length-map (get_or o.pieces i no_pieces) range_of ∙ (has.pieces i no_pieces l).1 refl);
  present = ap is_some (has.present refl);
}

objects_fit : (p : ProblemData) (second : Bool) (k : ℕ) (made : List (List ℕ)) (os : List ObjectTree) → k ≡ p.dims → length made ≡ length p.shapes → All (HasParts second) os → NoFault (ObjectsFault k made os)
    → (length (map (object_of made) os) ≤ 200) × All (IsObject p) (map (object_of made) os)
objects_fit p second k made os e m some h = (
  (let n = length-map os (object_of made) in let c = length-map os object_name in let l = within_limit 200 (map object_name os) (λ f w. h f (inl (inl w))) in omega (arith, n, c, l)),
  all_mapped (object_of made) (IsObject p) os no_object (λ i l. object_fits p second k made (get_or os i no_object) e m (some i no_object l) (none_among (λ before. ObjectFault k made) os (λ f w. h f (inr w)) i no_object l)),
)

-- ---- rules

demand_fits : (k : ℕ) (d : DemandTree) → NoFault (DemandFault k d) → IsDemand k (demand_of d)
demand_fits k trees.apart h = tt
demand_fits k (trees.within rs) h = ranges_fit k rs h
demand_fits k (trees.plain f) h = tt

no_rule : RuleTree
no_rule = record { name = no_name; demand = trees.apart }

rules_fit : (k : ℕ) (rs : List RuleTree) → NoFault (RulesFault k rs) → All (λ (r : RuleData). IsDemand k r.demand) (map rule_of rs)
rules_fit k rs h = all_mapped rule_of (λ (r : RuleData). IsDemand k r.demand) rs no_rule (λ i l. demand_fits k (get_or rs i no_rule).demand (none_among (λ before. RuleFault k) rs (λ f w. h f (inr w)) i no_rule l))

-- ---- the order

module _ (objects : List (List ℕ)) (distinct : (i j : ℕ) (d : List ℕ) → i < j → j < length objects → get_or objects i d ≡ get_or objects j d → ⊥) where
  -- a name stands once
  place_of : (n : PlacedName) (k : ℕ) → k < length objects → get_or objects k [] ≡ n.name → position_of objects n ≡ k
  place_of n k h e =
      let first = position_first objects n k [] h e in
      let l : position_of objects n < length objects = omega (arith, first, h) in
      ⊎_elim (λ same. same) (⊎_elim
      (λ before. absurd (distinct (position_of objects n) k [] before h (position_reads objects n [] l ∙ sym e)))
      (λ after. absurd (omega (arith, first, after)))) (cases_order (position_of objects n) k)

-- a number is in a list, or it is not
contains_or_not : (xs : List ℕ) (x : ℕ) → Contains xs x ⊎ (Contains xs x → ⊥)
contains_or_not xs x = by_test (is_member nat_eq xs x) refl
  where
    decides : Decides (is_member nat_eq xs x) (Contains xs x)
    decides = is_member-Decides Decides-eqb xs x

    by_test : (b : Bool) → is_member nat_eq xs x ≡ b → Contains xs x ⊎ (Contains xs x → ⊥)
    by_test true e = inl ((is_member-Decides Decides-eqb xs x).0 e)
    by_test false e = inr (λ c. false≢true (sym e ∙ (is_member-Decides Decides-eqb xs x).1 c))

pub record IsOrder (n : ℕ) (order : List ℕ) : Type 0 where
  pub numbers : All (λ o. o < n) order
  pub each : (o : ℕ) → o < n → Contains order o
  pub once : AllPairs (λ o u. o ≢ u) order

file_order : (n : ℕ) → IsOrder n (range_with_len 0 n)
file_order n = record {
  numbers = λ k d h. let l : k < n = (let e = length-range_with_len 0 n in omega (arith, e)) in subst (λ i. i < n) (sym (at k d l)) l;
  each = λ o h. (o, (let e = length-range_with_len 0 n in omega (arith, e)), at o o h);
  once = λ i j d l m e. let k : j < n = (let e = length-range_with_len 0 n in omega (arith, e)) in
      let i' : get_or (range_with_len 0 n) i d ≡ i = at i d (omega arith) in let j' : get_or (range_with_len 0 n) j d ≡ j = at j d k in
      absurd (omega (arith, sym i' ∙ (e ∙ j')));
}
  where
    at : (k d : ℕ) → k < n → get_or (range_with_len 0 n) k d ≡ k
    at k d h = get_or-range_with_len 0 n k d h ∙ zero-add k

module _ (objects : List (List ℕ)) (distinct : (i j : ℕ) (d : List ℕ) → i < j → j < length objects → get_or objects i d ≡ get_or objects j d → ⊥) where
  stated_order : (before : List OrderTree) (o : OrderTree) → NoFault (OrderFault objects before o) → IsOrder (length objects) (map (position_of objects) o.names)
  stated_order before o h = record {
    numbers = made;
    each = λ u l. ⊎_elim (λ c. c) (λ never. absurd (h (fault o.place words.Order) (inr (inr (inr ((λ complete. never (stands u l complete)), refl)))))) (contains_or_not (map (position_of objects) o.names) u);
    once = positions_differ objects o.names (λ f w. h f (inr (inl w))) (λ f w. h f (inr (inr (inl w))));
  }
    where
      made : All (λ i. i < length objects) (map (position_of objects) o.names)
      made = made_there objects o.names (λ f w. h f (inr (inr (inl w))))

      stands : (u : ℕ) → u < length objects → IsComplete objects o → Contains (map (position_of objects) o.names) u
      stands u l complete =
          let c = complete (get_or objects u []) (u, l, get_or_default objects u (get_or objects u []) [] l) in
          let k : c.0 < length o.names = (let n = length-map o.names text_of in omega (arith, c.1, n)) in
          let named : text_of (get_or o.names c.0 no_name) ≡ get_or objects u [] = sym (get_or-map text_of o.names c.0 no_name (get_or objects u []) k) ∙ c.2 in (
            c.0,
            (let n = length-map o.names (position_of objects) in omega (arith, k, n)),
            get_or-map (position_of objects) o.names c.0 no_name u k ∙ place_of objects distinct (get_or o.names c.0 no_name) u l (sym named),
          )

-- ---- the whole

-- the version is 1 or 2
pub version_fits : (v : Int) → NoFault (VersionFault v) → (count_of v.value ≡ 1) ⊎ (count_of v.value ≡ 2)
version_fits v h = counted_version v.value (λ n. h (fault v.place words.Limit) (n, refl))
  where
    not_one : (n : ℕ) → (n ≡ 1 → ⊥) → (n ≡ 2 → ⊥) → IsVersion (pos n) → ⊥
    not_one n a b (inl e) = a (ap count_of e)
    not_one n a b (inr e) = b (ap count_of e)

    none_below : (n : ℕ) → IsVersion (negsuc n) → ⊥
    none_below n (inl e) = absurd cc
    none_below n (inr e) = absurd cc

    counted_version : (k : ℤ) → ((IsVersion k → ⊥) → ⊥) → (count_of k ≡ 1) ⊎ (count_of k ≡ 2)
    counted_version (pos n) h = ⊎_elim (λ e. inl e) (λ a. ⊎_elim (λ e. inr e) (λ b. absurd (h (not_one n a b))) (cases_eq n 2)) (cases_eq n 1)
    counted_version (negsuc n) h = absurd (h (none_below n))

-- the number of dimensions that is stated
dims_fit : (v d : Int) → NoFault (DimsFault v d) → (0 < count_of d.value) × (count_of d.value ≤ most_dims_in (count_of v.value))
dims_fit v d h = counted_dims (most_dims_in (count_of v.value)) d.value (at_most (pos 1) d.value (λ n. h (fault d.place words.Limit) ((λ s. n s.0), refl))) (at_most d.value (pos (most_dims_in (count_of v.value))) (λ n. h (fault d.place words.Limit) ((λ s. n s.1), refl)))
  where
    counted_dims : (m : ℕ) (k : ℤ) → pos 1 ≤ℤ k → k ≤ℤ pos m → (0 < count_of k) × (count_of k ≤ m)
    counted_dims m (pos n) l g = (omega (arith, ints, l), omega (arith, ints, g))
    counted_dims m (negsuc n) l g = absurd (omega (arith, ints, l))

few_dims : (k v : ℕ) → k ≤ most_dims_in v → k ≤ most_dims
few_dims k v h = by_test (v == 2) h
  where
    by_test : (b : Bool) → k ≤ (if b then most_dims else most_first_dims) → k ≤ most_dims
    by_test true g = g
    by_test false g = omega (arith, g)

order_fits : (objects : List ObjectTree) (os : List OrderTree) → NoFault (Repeated (map object_name objects)) → NoFault (Among (OrderFault (object_names objects)) os) → IsOrder (length (object_names objects)) (order_of (object_names objects) os)
order_fits os [] named h = file_order (length (object_names os))
order_fits os (o ∷ others) named h = stated_order (object_names os) (texts_differ (map object_name os) named) [] o (none_among (OrderFault (object_names os)) (o ∷ others) h 0 o (omega arith))

sides_fit : (k : ℕ) (ss : List SidesTree) → NoFault (Among (SidesFault k) ss) → length (sides_of k ss) ≡ k
sides_fit k [] h = length-replicate k sides.Low
sides_fit k (s ∷ others) h = length-map s.sides side_of ∙ counted side_place k s.sides (λ f w. none_among (SidesFault k) (s ∷ others) h 0 s (omega arith) f (inr w))

pub sound : (p : Parts) → All (HasParts (count_of p.version.value == 2)) p.objects → NoFault (IsFault p) → IsWellFormed (problem_of p)
sound p some h =
    let k = dims_fit p.version p.dims (λ f w. h f (dims w)) in
    let made = length-map (map shape_name p.shapes) text_of ∙ (length-map p.shapes shape_name ∙ sym (length-map p.shapes shape_of)) in
    let things = objects_fit (problem_of p) (count_of p.version.value == 2) (count_of p.dims.value) (shape_names p.shapes) p.objects refl made some (λ f w. h f (objects w)) in
    let order = order_fits p.objects p.orders (λ f w. h f (objects (inl (inr w)))) (λ f w. h f (orders w)) in
    let n : length (object_names p.objects) ≡ length (map (object_of (shape_names p.shapes)) p.objects) = length-map (map object_name p.objects) text_of ∙ (length-map p.objects object_name ∙ sym (length-map p.objects (object_of (shape_names p.shapes)))) in
    let there = subst (λ c. IsOrder c (order_of (object_names p.objects) p.orders)) n order in
    record {
      version = version_fits p.version (λ f w. h f (version w));
      simple = λ first. (
        subst (λ v. count_of p.dims.value ≤ most_dims_in v) first k.1,
        all_mapped (object_of (shape_names p.shapes)) IsSimple p.objects no_object (λ i l. simple_object (shape_names p.shapes) (get_or p.objects i no_object)
            (subst (λ v. HasParts (v == 2) (get_or p.objects i no_object)) first (some i no_object l))),
      );
      some = k.0;
      dimensions = few_dims (count_of p.dims.value) (count_of p.version.value) k.1;
      boxes = shapes_fit (count_of p.dims.value) p.shapes (λ f w. h f (shapes w));
      few = things.0;
      objects = things.1;
      demands = rules_fit (count_of p.dims.value) p.rules (λ f w. h f (rules w));
      order = there.numbers;
      each = there.each;
      once = there.once;
      sides = sides_fit (count_of p.dims.value) p.sides (λ f w. h f (faults.sides w));
    }
