-- Values of boxes and shapes from their members.
use Rattle.std.proofs.Common.{◌≡◌, ℤ, ℕ, List, map, All, codes, subst, ap, ◌∙◌}
use Rattle.std.proofs.lemmas.List.{map-id}
use Rattle.serde_json.specs.Data.{Data, object, Members, no_members}
use Rattle.problem_data.specs.Problem.{BoxData}
use Rattle.json_parts.specs.Form.{HasForm, IsMember, IsInt, IsWord, list_json, int_json, text_json}
use Rattle.json_parts.specs.Values.{box_json, shape_json, IsBox, IsShape}
use Rattle.json_parts.proofs.Lists.{then_member}

abbrev pub ListMember : {S : Type 0} → (S → Type 0) → (S → Data) → List ℕ → Members → List S → Members → Type 0
ListMember IsRight json key ms xs more = IsMember (λ ys. All IsRight ys) (λ ys. list_json json ys) key ms xs more

abbrev pub TextMember : (List ℕ → Type 0) → List ℕ → Members → List ℕ → Members → Type 0
TextMember IsRight key ms text more = IsMember IsRight text_json key ms text more

-- what a list is seen as item by item, where each item is seen as itself
pub as_it_is : {S : Type 0} (IsRight : S → Type 0) (json : S → Data) (key : List ℕ) (ms more : Members) (xs : List S) → ListMember IsRight json key ms (map (λ x. x) xs) more → ListMember IsRight json key ms xs more
as_it_is IsRight json key ms more xs is = subst (λ ys. ListMember IsRight json key ms ys more) (map-id xs) is

pub box_formed : (d : Data) (m0 m1 m2 : Members) (os ss : List ℤ) → d ≡ object m0 → ListMember IsInt int_json (codes "offset") m0 (map (λ z. z) os) m1
    → ListMember IsInt int_json (codes "size") m1 (map (λ z. z) ss) m2 → m2 ≡ no_members → HasForm IsBox box_json d (record { offsets = os; sizes = ss })
box_formed d m0 m1 m2 os ss e p q n =
    let a = as_it_is IsInt int_json (codes "offset") m0 m1 os p in
    let b = as_it_is IsInt int_json (codes "size") m1 m2 ss q in
    record { right = record { offsets = a.right; sizes = b.right }; value = e ∙ ap object (then_member a (then_member b n)) }

pub shape_formed : (d : Data) (m0 m1 m2 : Members) (bs : List BoxData) (name : List ℕ) → d ≡ object m0 → ListMember IsBox box_json (codes "boxes") m0 (map (λ z. z) bs) m1
    → TextMember IsWord (codes "name") m1 name m2 → m2 ≡ no_members → HasForm IsShape shape_json d (record { name = name; boxes = bs })
shape_formed d m0 m1 m2 bs name e p q n =
    let a = as_it_is IsBox box_json (codes "boxes") m0 m1 bs p in
    record { right = record { boxes = a.right; name = q.right }; value = e ∙ ap object (then_member a (then_member q n)) }
