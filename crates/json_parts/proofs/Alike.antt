-- Different parts have different values.
use Rattle.std.proofs.Common.{◌≡◌, pos, negsuc, List, [], ◌∷◌, map, length, refl, sym, ap, arith, codes}
use Rattle.serde_json.specs.Data.{Data}
use Rattle.serde_json.specs.View.{items_of}
use Rattle.problem_data.specs.declared.tree.Side.TheVariants.{Low, High}
use Rattle.json_parts.specs.Form.{list_json, int_json, count_json, text_json}
use Rattle.json_parts.specs.Values.{side_json, range_json, pieces_json, attribute_json, box_json, shape_json}
use Rattle.json_parts.proofs.Lists.{items_same}

abbrev pub IsInjective : {A : Type 0} → (A → Data) → Type 0
IsInjective {A} json = (a b : A) → json a ≡ json b → a ≡ b

values_same : {A : Type 0} (json : A → Data) → IsInjective json → (xs ys : List A) → map json xs ≡ map json ys → xs ≡ ys
values_same json one [] [] e = refl
values_same json one [] (y ∷ ys) e = absurd cc
values_same json one (x ∷ xs) [] e = absurd cc
values_same json one (x ∷ xs) (y ∷ ys) e =
    let first : json x ≡ json y = cc in
    let others : map json xs ≡ map json ys = cc in
    λ i. one x y first i ∷ values_same json one xs ys others i

pub one_list : {A : Type 0} (json : A → Data) → IsInjective json → IsInjective (list_json json)
one_list json one xs ys e = let items : items_of (map json xs) ≡ items_of (map json ys) = cc in values_same json one xs ys (items_same (map json xs) (map json ys) items)

pub one_text : IsInjective text_json
one_text a b e = cc

pub one_count : IsInjective count_json
one_count a b e = cc

pub one_int : IsInjective int_json
one_int (pos m) (pos n) e = let same : m ≡ n = cc in ap pos same
one_int (pos m) (negsuc n) e = absurd cc
one_int (negsuc m) (pos n) e = absurd cc
one_int (negsuc m) (negsuc n) e = cc

low_is_not_high : text_json (codes "low") ≡ text_json (codes "high") → ⊥
low_is_not_high e =
    let texts : codes "low" ≡ codes "high" = cc in
    let sizes : length (codes "low") ≡ length (codes "high") = ap length texts in
    absurd (omega (arith, sizes))

pub one_side : IsInjective side_json
one_side Low Low e = refl
one_side Low High e = absurd (low_is_not_high e)
one_side High Low e = absurd (low_is_not_high (sym e))
one_side High High e = refl

one_range : IsInjective range_json
one_range a b e =
    let low : int_json a.low ≡ int_json b.low = cc in
    let high : int_json a.high ≡ int_json b.high = cc in
    λ i. record { low = one_int a.low b.low low i; high = one_int a.high b.high high i }

pub one_pieces : IsInjective pieces_json
one_pieces = one_list range_json one_range

pub one_attribute : IsInjective attribute_json
one_attribute a b e =
    let name : text_json a.name ≡ text_json b.name = cc in
    let value : int_json a.value ≡ int_json b.value = cc in
    λ i. record { name = one_text a.name b.name name i; value = one_int a.value b.value value i }

one_box : IsInjective box_json
one_box a b e =
    let offsets : list_json int_json a.offsets ≡ list_json int_json b.offsets = cc in
    let sizes : list_json int_json a.sizes ≡ list_json int_json b.sizes = cc in
    λ i. record { offsets = one_list int_json one_int a.offsets b.offsets offsets i; sizes = one_list int_json one_int a.sizes b.sizes sizes i }

pub one_shape : IsInjective shape_json
one_shape a b e =
    let boxes : list_json box_json a.boxes ≡ list_json box_json b.boxes = cc in
    let name : text_json a.name ≡ text_json b.name = cc in
    λ i. record { name = one_text a.name b.name name i; boxes = one_list box_json one_box a.boxes b.boxes boxes i }
