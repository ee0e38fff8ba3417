-- Lists of values that say nothing.
use Rattle.std.proofs.Common.{◌≡◌, ◌<◌, ℕ, zero, suc, List, [], ◌∷◌, Some, map, length, drop, get_or, refl, sym, ap, ◌∙◌, arith, Result, Ok, Err, IfOk}
use Rattle.std.proofs.lemmas.List.{length-map}
use Rattle.serde_json.specs.Data.{Data, object, item, no_items, Members, member}
use Rattle.serde_json.specs.Find.{as_array}
use Rattle.serde_json.specs.declared.value.Value.{Value}
use Rattle.serde_json.specs.View.{view, items_of}
use Rattle.json_parts.specs.Form.{HasNoForm, HaveNoForm, IsMember, list_json, pair_json}

-- where one value says nothing that may be said, the values do not
pub no_form_at : {A S : Type 0} {IsRight : S → Type 0} {json : S → Data} (f : A → Data) (xs : List A) (k : ℕ) (d : A) → k < length xs → HasNoForm IsRight json (f (get_or xs k d)) → HaveNoForm IsRight json (map f xs)
no_form_at f [] k d l n ss all e = omega (arith, l)
no_form_at f (x ∷ xs) zero d l n [] all e = absurd cc
no_form_at f (x ∷ xs) zero d l n (s ∷ ss) all e = n s (all 0 s (omega arith)) (ap (λ (ys : List Data). get_or ys 0 (f d)) e)
no_form_at f (x ∷ xs) (suc k) d l n [] all e = absurd cc
no_form_at f (x ∷ xs) (suc k) d l n (s ∷ ss) all e = no_form_at f xs k d (omega (arith, l)) n ss (λ j z m. all (suc j) z (omega (arith, m))) (ap (drop 1) e)

pub items_same : (xs ys : List Data) → items_of xs ≡ items_of ys → xs ≡ ys
items_same [] [] e = refl
items_same [] (y ∷ ys) e = absurd cc
items_same (x ∷ xs) [] e = absurd cc
items_same (x ∷ xs) (y ∷ ys) e = let h : x ≡ y = cc in let t : items_of xs ≡ items_of ys = cc in λ i. h i ∷ items_same xs ys t i

-- the values of a list
pub listed_values : {S : Type 0} (json : S → Data) (d : Data) (xs : List Data) (ss : List S) → Some (items_of xs) ≡ as_array d → d ≡ list_json json ss → xs ≡ map json ss
listed_values json d xs ss is e =
    let p : Some (items_of xs) ≡ Some (items_of (map json ss)) = is ∙ ap as_array e in
    let q : items_of xs ≡ items_of (map json ss) = cc in
    items_same xs (map json ss) q

-- a list of two values has the length 2
pub pair_length : {A : Type 0} (f : A → Data) (d a b : Data) (xs : List A) → Some (items_of (map f xs)) ≡ as_array d → d ≡ pair_json a b → length xs ≡ 2
pair_length f d a b xs is e =
    let p : Some (items_of (map f xs)) ≡ Some (item a (item b no_items)) = is ∙ ap as_array e in
    let q : items_of (map f xs) ≡ items_of (a ∷ b ∷ []) = cc in
    sym (length-map xs f) ∙ ap length (items_same (map f xs) (a ∷ b ∷ []) q)

-- the value of an answer, in other words
pub seen_as : {E : Type 0} (r : Result Value E) (a b : Data) → a ≡ b → IfOk r (λ v. view v ≡ a) → IfOk r (λ v. view v ≡ b)
seen_as (Ok v) a b e is = is ∙ e
seen_as (Err x) a b e is = tt

-- ---- objects whose first members are known

pub opened : {d : Data} {ms ns : Members} → d ≡ object ms → d ≡ object ns → ms ≡ ns
opened {ms = ms} {ns = ns} e f = let g : object ms ≡ object ns = sym e ∙ f in cc

pub behind : {S : Type 0} {R : S → Type 0} {f : S → Data} {k : List ℕ} {ms more rest : Members} {s : S} {d : Data} → IsMember R f k ms s more → ms ≡ member k d rest → more ≡ rest
behind {f = f} {k = k} {more = more} {rest = rest} {s = s} {d = d} is e = let g : member k (f s) more ≡ member k d rest = sym is.members ∙ e in cc

-- a member, and what the others are
pub then_member : {S : Type 0} {R : S → Type 0} {f : S → Data} {k : List ℕ} {ms more rest : Members} {s : S} → IsMember R f k ms s more → more ≡ rest → ms ≡ member k (f s) rest
then_member {f = f} {k = k} {s = s} is e = is.members ∙ ap (member k (f s)) e
