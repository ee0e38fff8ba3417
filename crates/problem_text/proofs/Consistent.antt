-- A problem that a text says is consistent.
use Rattle.std.proofs.Common.{◌≡◌, ℕ, zero, suc, ◌+◌, ◌<◌, ◌≤◌, List, [], ◌∷◌, length, map, take, Some, true, false, ◌==◌, inl, inr, refl, sym, ap, ◌∙◌, subst, arith}
use Rattle.std.specs.Prelude.{slice_get, slice_index_or, replicate, nat_le}
use Rattle.std.specs.List.{All, list_any, range_with_len, position_or_len}
use Rattle.std.specs.Str.{bytes_eq}
use Rattle.std.proofs.lemmas.Bool.{cases_Bool, cases_lt, eqb-true, eqb-false, leb-true, leb-false, and_parts}
use Rattle.std.proofs.lemmas.List.{length-map, take-map, get_or-take, length-take-le}
use Rattle.rule_syntax.specs.declared.tree.PlacedName.{PlacedName}
use Rattle.geo_tokens.specs.Names.{AllDifferent}
use Rattle.rule_print.proofs.Respelled.{AllOf}
use Rattle.geo_tokens.specs.declared.fault.FaultWord.TheVariants as words
use Rattle.problem_data.specs.declared.fault.Fault.{Fault}
use Rattle.problem_data.specs.declared.tree.Side.{Side}
use Rattle.problem_data.specs.declared.tree.Side.TheVariants.{Low, High}
use Rattle.problem_data.specs.declared.tree.SideText.{SideText}
use Rattle.problem_data.specs.Tree.{ObjectTree, OrderTree, SidesTree}
use Rattle.problem_data.specs.Least.{fault}
use Rattle.problem_data.specs.Parts.{Parts}
use Rattle.problem_data.specs.Faults.{Among, Repeated, text_of, first_place, side_place, OrderFault, SidesFault, IsComplete, IsFault, objects, orders, sides, shape_names, object_name, object_names, count_of}
use Rattle.problem_data.specs.Meaning as meaning
use Rattle.problem_data.specs.Problem.{ObjectData, runs_down}
use Rattle.problem_data.specs.WellFormed.{IsWellFormed}
use Rattle.problem_data.proofs.Sound.{position_reads, position_first, texts_differ}
use Rattle.problem_text.specs.Canonical.{name_at, counts_from}
use Rattle.problem_text.specs.Canonical as canonical
use Rattle.problem_text.proofs.PrintingParts.{name_of, all_as}
use Rattle.problem_text.proofs.ReadStatements.{mapped}
use Rattle.problem_text.proofs.Positions.{Made}
use Rattle.problem_text.proofs.CanonicalParts.{IsPosition, ArePositions, HavePositions, IsConsistent}
use Rattle.problem_text.proofs.SaysAgain.{object_shapes_made, order_made, shape_names_of, object_names_of}

position_is : (names : List (List ℕ)) (n : PlacedName) → Made names n → IsPosition names (meaning.position_of names n)
position_is names n m = ap (λ (b : List ℕ). position_or_len (bytes_eq b) names) m.is

positions_are : (names : List (List ℕ)) (ns : List PlacedName) → AllOf (Made names) ns → ArePositions names (map (meaning.position_of names) ns)
positions_are names [] h = tt
positions_are names (n ∷ ns) h = (position_is names n h.0, positions_are names ns h.1)

objects_are : (names : List (List ℕ)) (os : List ObjectTree) → AllOf (λ (o : ObjectTree). AllOf (Made names) o.shapes) os → HavePositions names (map (meaning.object_of names) os)
objects_are names [] h = tt
objects_are names (o ∷ os) h = (positions_are names o.shapes h.0, objects_are names os h.1)

-- where names are different each stands at its first position
module _ (names : List (List ℕ)) (differ : AllDifferent names) where
  pub position_there : (i : ℕ) → i < length names → IsPosition names i
  position_there i less =
      let n : PlacedName = name_of (name_at names i) in
      let k : ℕ = meaning.position_of names n in
      let first : k ≤ i = position_first names n i [] less refl in
      let inside : k < length names = omega (arith, first, less) in
      let reads : name_at names k ≡ name_at names i = position_reads names n [] inside in
      elim (cases_lt k i) [
        | inl before ↦ absurd (differ k i [] before less reads)
        | inr behind ↦ omega (arith, first, behind)
      ]

  pub positions_there : (is : List ℕ) → All (λ i. i < length names) is → ArePositions names is
  positions_there [] h = tt
  positions_there (i ∷ is) h = (position_there i (h 0 0 (omega arith)), positions_there is (λ k d l. h (suc k) d (omega (arith, l))))

-- ---- numbers

at_least_none : (n : ℕ) → 0 ≤ n
at_least_none n = omega arith

equal_both : (a b : ℕ) → a ≤ b → b ≤ a → a ≡ b
equal_both a b h g = omega arith

no_more : (a b : ℕ) → a < b → a ≤ b
no_more a b h = omega arith

from_none : (a b : ℕ) → a ≡ 0 + b → a ≡ b
from_none a b h = omega arith

from_none_le : (a b : ℕ) → 0 + a ≤ b → a ≤ b
from_none_le a b h = omega arith

-- ---- items of lists

all_at : {A : Type 0} (P : A → Type 0) (xs : List A) (k : ℕ) (x : A) → AllOf P xs → slice_get xs k ≡ Some x → P x
all_at P [] k x h e = absurd cc
all_at P (y ∷ xs) zero x h e = let is : y ≡ x = cc in subst P is h.0
all_at P (y ∷ xs) (suc k) x h e = all_at P xs k x h.1 e

pub map_at : {A B : Type 0} (f : A → B) (xs : List A) (k : ℕ) (x : A) → slice_get xs k ≡ Some x → slice_get (map f xs) k ≡ Some (f x)
map_at f [] k x e = absurd cc
map_at f (y ∷ xs) zero x e = let is : y ≡ x = cc in ap (λ (u : _). Some (f u)) is
map_at f (y ∷ xs) (suc k) x e = map_at f xs k x e

pub record ItemAt (ns : List PlacedName) (i : ℕ) : Type 0 where
  pub item : PlacedName
  pub there : slice_get ns i ≡ Some item
  pub name : name_at (map text_of ns) i ≡ item.name

item_at : (ns : List PlacedName) (i : ℕ) → i < length ns → ItemAt ns i
item_at [] i lt = absurd (omega arith)
item_at (n ∷ ns) zero lt = record { item = n; there = refl; name = refl }
item_at (n ∷ ns) (suc i) lt = let less : i < length ns = omega arith in let r = item_at ns i less in record { item = r.item; there = r.there; name = r.name }

any_default : (xs : List (List ℕ)) (k : ℕ) (d e : List ℕ) → k < length xs → slice_index_or xs k d ≡ slice_index_or xs k e
any_default [] k d e lt = absurd (omega arith)
any_default (x ∷ xs) zero d e lt = refl
any_default (x ∷ xs) (suc k) d e lt = let less : k < length xs = omega arith in any_default xs k d e less

-- two of the names are the same
repeated_at : (ns : List PlacedName) (j i : ℕ) → j < i → i < length ns → name_at (map text_of ns) j ≡ name_at (map text_of ns) i → (f : Fault) × Repeated ns f
repeated_at ns j i lt inside e =
    let n = item_at ns i inside in
    let size : length (map text_of (take i ns)) ≡ i = length-map (take i ns) text_of ∙ length-take-le i ns (no_more i (length ns) inside) in
    let at : slice_index_or (map text_of (take i ns)) j [] ≡ name_at (map text_of ns) j = ap (λ (us : List (List ℕ)). slice_index_or us j []) (sym (take-map text_of i ns)) ∙ get_or-take i (map text_of ns) j [] lt in
    let less : j < length (map text_of (take i ns)) = subst (λ (k : ℕ). j < k) (sym size) lt in (
      fault n.item.place words.Twice,
      record {
        index = i;
        item = n.item;
        there = n.there;
        wrong = ((j, less, any_default (map text_of (take i ns)) j n.item.name [] less ∙ at ∙ e ∙ n.name), refl);
      },
    )

-- ---- file order

counts_range : (k : ℕ) (xs : List ℕ) → counts_from k xs ≡ true → range_with_len k (length xs) ≡ xs
counts_range k [] e = refl
counts_range k (x ∷ xs) e =
    let h = and_parts (x == k) (counts_from (suc k) xs) e in
    let is : x ≡ k = eqb-true x k h.0 in
    let next : k + 1 ≡ suc k = omega arith in
    (λ i. sym is i ∷ range_with_len (next i) (length xs)) ∙ ap (λ us. x ∷ us) (counts_range (suc k) xs h.1)

counts_get : (k : ℕ) (xs : List ℕ) (i x : ℕ) → counts_from k xs ≡ true → slice_get xs i ≡ Some x → x ≡ k + i
counts_get k [] i x e g = absurd cc
counts_get k (y ∷ xs) zero x e g = let is : y ≡ x = cc in let at : y ≡ k = eqb-true y k (and_parts (y == k) (counts_from (suc k) xs) e).0 in omega arith
counts_get k (y ∷ xs) (suc i) x e g = let r : x ≡ suc k + i = counts_get (suc k) xs i x (and_parts (y == k) (counts_from (suc k) xs) e).1 g in omega arith

all_below : (k m n : ℕ) → k ≤ n → AllOf (λ j. j < n) (range_with_len k m) → k + m ≤ n
all_below k zero n le h = omega arith
all_below k (suc m) n le h = let lt : k < n = h.0 in let r : (k + 1) + m ≤ n = all_below (k + 1) m n (omega arith) h.1 in omega arith

module _ (q : Parts) (faultless : (f : Fault) → IsFault q f → ⊥) where
  abbrev names : List (List ℕ)
  names = object_names q.objects

  -- an order with fewer members leaves an object out
  leaves_out : (o : OrderTree) → AllOf (Made names) o.names → counts_from 0 (map (meaning.position_of names) o.names) ≡ true → length o.names < length names → IsComplete names o → ⊥
  leaves_out o made counts short complete =
      let lasts : ℕ = length o.names in
      let c = complete (name_at names lasts) (lasts, short, any_default names lasts (name_at names lasts) [] short) in
      let less : c.0 < length o.names = subst (λ (k : ℕ). c.0 < k) (length-map o.names text_of) c.1 in
      let n = item_at o.names c.0 less in
      let m = all_at (Made names) o.names c.0 n.item made n.there in
      let at : meaning.position_of names n.item ≡ 0 + c.0 = counts_get 0 (map (meaning.position_of names) o.names) c.0 (meaning.position_of names n.item) counts (map_at (meaning.position_of names) o.names c.0 n.item n.there) in
      let where_it_is : meaning.position_of names n.item ≡ c.0 = from_none (meaning.position_of names n.item) c.0 at in
      let same : name_at names c.0 ≡ name_at names lasts = ap (λ i. name_at names i) (sym where_it_is) ∙ m.is ∙ sym n.name ∙ any_default (map text_of o.names) c.0 [] (name_at names lasts) c.1 ∙ c.2 in
      let inside : lasts < length (map object_name q.objects) = subst (λ (k : ℕ). lasts < k) (length-map (map object_name q.objects) text_of) short in
      let r = repeated_at (map object_name q.objects) c.0 lasts less inside same in
      faultless r.0 (objects (inl (inr r.1)))

  file_order_of : (os : List OrderTree) → os ≡ q.orders → counts_from 0 (meaning.order_of names os) ≡ true → range_with_len 0 (length names) ≡ meaning.order_of names os
  file_order_of [] e counts = refl
  file_order_of (o ∷ os) e counts =
      let made = order_made q faultless o os (sym e) in
      let js : List ℕ = map (meaning.position_of names) o.names in
      let range : range_with_len 0 (length js) ≡ js = counts_range 0 js counts in
      let below : AllOf (λ j. j < length names) js = mapped (λ j. j < length names) (meaning.position_of names) o.names (all_as {P = Made names} {Q = λ n. meaning.position_of names n < length names} (λ n m. m.inside) o.names made) in
      let most : length js ≤ length names = from_none_le (length js) (length names) (all_below 0 (length js) (length names) (at_least_none (length names)) (subst (λ (us : List ℕ). AllOf (λ j. j < length names) us) (sym range) below)) in
      let count : length js ≡ length o.names = length-map o.names (meaning.position_of names) in
      let least : length names ≤ length js = elim (cases_Bool (nat_le (length names) (length js))) [
        | inl t ↦ leb-true (length names) (length js) t
        | inr f ↦ absurd (let short : length js < length names = leb-false (length names) (length js) f in
            faultless (fault o.place words.Order) (orders (subst (λ (us : List OrderTree). Among (OrderFault names) us (fault o.place words.Order)) e (record { index = 0; item = o; there = refl; wrong = inr (inr (inr ((λ complete. leaves_out o made counts (subst (λ (k : ℕ). k < length names) count short) complete), refl))) }))))
      ] in
      let same : length names ≡ length js = equal_both (length names) (length js) least most in
      ap (λ n. range_with_len 0 n) same ∙ range

  -- ---- sides

  abbrev dims : ℕ
  dims = count_of q.dims.value

  all_low : (ss : List SideText) → list_any runs_down (map meaning.side_of ss) ≡ false → replicate (length ss) Low ≡ map meaning.side_of ss
  all_low [] e = refl
  all_low (s ∷ ss) e = first_low s.side ss e (all_low ss)
    where
      first_low : (x : Side) (us : List SideText) → list_any runs_down (x ∷ map meaning.side_of us) ≡ false → (list_any runs_down (map meaning.side_of us) ≡ false → replicate (length us) Low ≡ map meaning.side_of us) → Low ∷ replicate (length us) Low ≡ x ∷ map meaning.side_of us
      first_low Low us h f = ap (λ ys. Low ∷ ys) (f h)
      first_low High us h f = absurd cc

  low_sides_of : (ss : List SidesTree) → ss ≡ q.sides → list_any runs_down (meaning.sides_of dims ss) ≡ false → replicate dims Low ≡ meaning.sides_of dims ss
  low_sides_of [] e low = refl
  low_sides_of (s ∷ ss) e low =
      let counted : length s.sides ≡ dims = elim (cases_Bool (length s.sides == dims)) [
        | inl t ↦ eqb-true (length s.sides) dims t
        | inr f ↦ absurd (faultless (fault (first_place side_place s.sides) words.Limit)
            (sides (subst (λ (us : List SidesTree). Among (SidesFault dims) us (fault (first_place side_place s.sides) words.Limit)) e (record { index = 0; item = s; there = refl; wrong = inr (eqb-false (length s.sides) dims f, refl) }))))
      ] in
      ap (λ n. replicate n Low) (sym counted) ∙ all_low s.sides low

  pub parts_consistent : IsWellFormed (meaning.problem_of q) → IsConsistent (meaning.problem_of q)
  parts_consistent well =
      let objects_differ : AllDifferent (canonical.object_names (meaning.problem_of q)) = subst (λ (ns : List (List ℕ)). AllDifferent ns) (sym (object_names_of q)) (texts_differ (map object_name q.objects) (λ f w. faultless f (objects (inl (inr w))))) in
      let size : length (canonical.object_names (meaning.problem_of q)) ≡ length (meaning.problem_of q).objects = length-map (meaning.problem_of q).objects (λ (o : ObjectData). o.name) in
      let order_inside : All (λ j. j < length (canonical.object_names (meaning.problem_of q))) (meaning.order_of names q.orders) = subst (λ n. All (λ j. j < n) (meaning.order_of names q.orders)) (sym size) well.order in
      record {
        shapes = subst (λ (ns : List (List ℕ)). HavePositions ns (map (meaning.object_of (shape_names q.shapes)) q.objects)) (sym (shape_names_of q)) (objects_are (shape_names q.shapes) q.objects (object_shapes_made q faultless));
        order = positions_there (canonical.object_names (meaning.problem_of q)) objects_differ (meaning.order_of names q.orders) order_inside;
        file_order = λ e. subst (λ (ns : List (List ℕ)). range_with_len 0 (length ns) ≡ meaning.order_of names q.orders) (sym (object_names_of q)) (file_order_of q.orders refl e);
        low_sides = λ e. low_sides_of q.sides refl e;
      }
