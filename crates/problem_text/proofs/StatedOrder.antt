-- An order that lists the name of each object once has no fault.
use Rattle.std.proofs.Common.{◌≡◌, ◌≢◌, ℕ, ◌<◌, ◌≤◌, List, [], length, take, map, get_or, inl, inr, sym, ap, ◌∙◌, subst, arith}
use Rattle.std.specs.Prelude.{slice_index_or}
use Rattle.std.specs.List.{All, AllPairs, Contains}
use Rattle.std.proofs.lemmas.Bool.{cases_order}
use Rattle.std.proofs.lemmas.Option.{slice_get_within, get_or_from_slice_get}
use Rattle.std.proofs.lemmas.List.{take-map, length-take-le, get_or-take, get_or-map, get_or_default, length-map}
use Rattle.geo_tokens.specs.Names.{AllDifferent}
use Rattle.rule_syntax.specs.declared.tree.PlacedName.{PlacedName}
use Rattle.problem_data.specs.Tree.{OrderTree}
use Rattle.problem_data.specs.Faults.{text_of, Repeated, OrderFault}
use Rattle.problem_data.proofs.NoFault.{NoFault}
use Rattle.problem_text.specs.Canonical.{name_at}
use Rattle.problem_text.proofs.Consistent.{map_at}

-- names of which no two are the same are not repeated
pub once_right : (ns : List PlacedName) → AllDifferent (map text_of ns) → NoFault (Repeated ns)
once_right ns differ f w =
    let i = w.index in
    let name = w.item.name in
    let there : i < length ns = slice_get_within ns i w.item w.there in
    let size : length (map text_of (take i ns)) ≡ i =
    length-map (take i ns) text_of ∙ length-take-le i ns (omega arith) in
    let total : length (map text_of ns) ≡ length ns = length-map ns text_of in
    let k = w.wrong.0.0 in
    let less : k < length (map text_of (take i ns)) = w.wrong.0.1 in
    let before : k < i = omega arith in
    let within : i < length (map text_of ns) = omega arith in
    let first : slice_index_or (map text_of ns) k name ≡ name =
    sym (get_or-take i (map text_of ns) k name before)
    ∙ ap (λ (us : List (List ℕ)). slice_index_or us k name) (take-map text_of i ns) ∙ w.wrong.0.2 in
    let second : slice_index_or (map text_of ns) i name ≡ name =
    get_or_from_slice_get (map text_of ns) i name name (map_at text_of ns i w.item w.there) in
    differ k i name before within (first ∙ sym second)

-- names that are different, and an order of each of their positions once
module _ (names : List (List ℕ)) (differ : AllDifferent names) (order : List ℕ)
    (inside : All (λ i. i < length names) order)
    (each : (i : ℕ) → i < length names → Contains order i) (once : AllPairs (λ i j. i ≢ j) order) where
  abbrev texts : List (List ℕ)
  texts = map (name_at names) order

  text_at : (k : ℕ) (d : List ℕ) → k < length order
      → get_or texts k d ≡ name_at names (get_or order k 0)
  text_at k d less = get_or-map (name_at names) order k 0 d less

  texts_differ : AllDifferent texts
  texts_differ j k d before within e =
      let size : length texts ≡ length order = length-map order (name_at names) in
      let l : k < length order = omega (arith, within, size) in
      let m : j < length order = omega (arith, before, l) in
      let a : ℕ = get_or order j 0 in
      let b : ℕ = get_or order k 0 in
      let same : name_at names a ≡ name_at names b = sym (text_at j d m) ∙ e ∙ text_at k d l in
      let first : a < length names = inside j 0 m in
      let second : b < length names = inside k 0 l in
      elim (cases_order a b) [
        | inl equal ↦ once j k 0 before l equal
        | inr (inl less) ↦ differ a b [] less second same
        | inr (inr more) ↦ differ b a [] more first (sym same)
      ]

  texts_made : (name : List ℕ) → Contains texts name → Contains names name
  texts_made name c =
      let size : length texts ≡ length order = length-map order (name_at names) in
      let l : c.0 < length order =
      (let less : c.0 < length texts = c.1 in omega (arith, less, size)) in
      let there : get_or order c.0 0 < length names = inside c.0 0 l in
      let default = get_or_default names (get_or order c.0 0) name [] there in
      (get_or order c.0 0, there, default ∙ sym (text_at c.0 name l) ∙ c.2)

  texts_all : (name : List ℕ) → Contains names name → Contains texts name
  texts_all name c =
      let size : length texts ≡ length order = length-map order (name_at names) in
      let u = each c.0 c.1 in
      let l : u.0 < length order = u.1 in
      let at : get_or order u.0 0 ≡ c.0 = get_or_default order u.0 0 c.0 l ∙ u.2 in
      let less : u.0 < length texts = omega (arith, l, size) in
      let same = ap (name_at names) at ∙ get_or_default names c.0 [] name c.1 ∙ c.2 in
      (u.0, less, text_at u.0 name l ∙ same)

  pub order_faultless : (o : OrderTree) → map text_of o.names ≡ texts
      → NoFault (OrderFault names [] o)
  order_faultless o e f (inl w) = (let some : 1 ≤ 0 = w.0 in absurd (omega (arith, some)))
  order_faultless o e f (inr (inl w)) =
      once_right o.names (subst (λ (us : List (List ℕ)). AllDifferent us) (sym e) texts_differ) f w
  order_faultless o e f (inr (inr (inl w))) =
      let name = w.item.name in
      let at = map_at text_of o.names w.index w.item w.there in
      let there : Contains (map text_of o.names) name = (
        w.index,
        slice_get_within (map text_of o.names) w.index name at,
        get_or_from_slice_get (map text_of o.names) w.index name name at,
      ) in
      w.wrong.0 (texts_made name (subst (λ (us : List (List ℕ)). Contains us name) e there))
  order_faultless o e f (inr (inr (inr w))) =
      w.0 (λ name c. subst (λ (us : List (List ℕ)). Contains us name) (sym e) (texts_all name c))
