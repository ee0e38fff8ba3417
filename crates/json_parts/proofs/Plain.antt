-- Values without floats, and how deep they nest.
use Rattle.std.proofs.Common.{◌≡◌, ℕ, suc, ◌≤◌, ◌||◌, ℤ, pos, negsuc, Bool, true, false, List, [], ◌∷◌, map, refl, arith}
use Rattle.serde_json.specs.Data.{Data, object, Members, no_members, member, depth, items_depth, members_depth}
use Rattle.serde_json.specs.View.{items_of}
use Rattle.serde_json.specs.Written.{has_float, items_have_float, members_have_float}
use Rattle.problem_data.specs.declared.tree.Side.{Side}
use Rattle.problem_data.specs.declared.tree.Side.TheVariants.{Low, High}
use Rattle.problem_data.specs.Problem.{BoxData, ShapeData, RangeData, AttributeData}
use Rattle.json_parts.specs.Form.{list_json, pair_json, int_json, count_json, text_json}
use Rattle.json_parts.specs.Values.{side_json, range_json, pieces_json, attribute_json, box_json, shape_json}

-- no float stands in the value, and it nests at most n deep
pub record IsPlain (n : ℕ) (d : Data) : Type 0 where
  pub float : has_float d ≡ false
  pub nests : depth d ≤ n

-- the same of each member
pub record ArePlain (n : ℕ) (ms : Members) : Type 0 where
  pub float : members_have_float ms ≡ false
  pub nests : members_depth ms ≤ n

neither : (a b : Bool) → a ≡ false → b ≡ false → (a || b) ≡ false
neither true b e f = e
neither false b e f = f

pub plain_text : (n : ℕ) (text : List ℕ) → IsPlain n (text_json text)
plain_text n text = record { float = refl; nests = omega arith }

pub plain_count : (n k : ℕ) → IsPlain n (count_json k)
plain_count n k = record { float = refl; nests = omega arith }

pub plain_int : (n : ℕ) (z : ℤ) → IsPlain n (int_json z)
plain_int n (pos k) = record { float = refl; nests = omega arith }
plain_int n (negsuc k) = record { float = refl; nests = omega arith }

plain_items : {A : Type 0} (n : ℕ) (json : A → Data) → ((x : A) → IsPlain n (json x)) → (xs : List A) → (items_have_float (items_of (map json xs)) ≡ false) × (items_depth (items_of (map json xs)) ≤ n)
plain_items n json each [] = (refl, omega arith)
plain_items n json each (x ∷ xs) =
    let rest = plain_items n json each xs in
    let own = each x in
    (neither (has_float (json x)) (items_have_float (items_of (map json xs))) own.float rest.0, omega (arith, own.nests, rest.1))

pub plain_list : {A : Type 0} (n : ℕ) (json : A → Data) → ((x : A) → IsPlain n (json x)) → (xs : List A) → IsPlain (suc n) (list_json json xs)
plain_list n json each xs = let all = plain_items n json each xs in record { float = all.0; nests = omega (arith, all.1) }

pub plain_none : (n : ℕ) → ArePlain n no_members
plain_none n = record { float = refl; nests = omega arith }

pub plain_member : (n : ℕ) (k : List ℕ) (d : Data) (ms : Members) → IsPlain n d → ArePlain n ms → ArePlain n (member k d ms)
plain_member n k d ms own rest = record { float = neither (has_float d) (members_have_float ms) own.float rest.float; nests = omega (arith, own.nests, rest.nests) }

pub plain_object : (n : ℕ) (ms : Members) → ArePlain n ms → IsPlain (suc n) (object ms)
plain_object n ms all = record { float = all.float; nests = omega (arith, all.nests) }

pub plain_pair : (n : ℕ) (a b : Data) → IsPlain n a → IsPlain n b → IsPlain (suc n) (pair_json a b)
plain_pair n a b first second = record {
  float = neither (has_float a) (has_float b || false) first.float (neither (has_float b) false second.float refl);
  nests = omega (arith, first.nests, second.nests);
}

-- ---- parts of problems

pub plain_side : (n : ℕ) (s : Side) → IsPlain n (side_json s)
plain_side n Low = plain_text n _
plain_side n High = plain_text n _

plain_range : (r : RangeData) → IsPlain 1 (range_json r)
plain_range r = plain_pair 0 (int_json r.low) (int_json r.high) (plain_int 0 r.low) (plain_int 0 r.high)

pub plain_pieces : (rs : List RangeData) → IsPlain 2 (pieces_json rs)
plain_pieces rs = plain_list 1 range_json plain_range rs

pub plain_attribute : (a : AttributeData) → IsPlain 1 (attribute_json a)
plain_attribute a = plain_pair 0 (text_json a.name) (int_json a.value) (plain_text 0 a.name) (plain_int 0 a.value)

plain_box : (b : BoxData) → IsPlain 2 (box_json b)
plain_box b = plain_object 1 _ (plain_member 1 _ _ _ (plain_list 0 int_json (plain_int 0) b.offsets) (plain_member 1 _ _ _ (plain_list 0 int_json (plain_int 0) b.sizes) (plain_none 1)))

pub plain_shape : (s : ShapeData) → IsPlain 4 (shape_json s)
plain_shape s = plain_object 3 _ (plain_member 3 _ _ _ (plain_list 2 box_json plain_box s.boxes) (plain_member 3 _ _ _ (plain_text 3 s.name) (plain_none 3)))

-- what nests less deep
pub plain_raised : (m n : ℕ) (d : Data) → m ≤ n → IsPlain m d → IsPlain n d
plain_raised m n d le is = record { float = is.float; nests = omega (arith, le, is.nests) }
