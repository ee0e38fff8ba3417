-- A table of names stays one where a new name is appended.
use Rattle.std.proofs.Common.{◌≡◌, ℕ, ◌+◌, ◌<◌, ◌≤◌, List, [], ◌∷◌, ◌++◌, length, get_or, map, ◌⊎◌, inl, inr, sym, ◌∙◌, subst, arith}
use Rattle.std.specs.List.{All, Contains}
use Rattle.std.proofs.lemmas.List.{length-append, map-append, get_or_append_left, get_or_at, get_or_default}
use Rattle.std.proofs.lemmas.List.Elements.{All-push}
use Rattle.std.proofs.lemmas.Bool.{cases_lt}
use Rattle.geo_tokens.specs.Names.{NameTable, IsNameText, IsPlaceText, AllDifferent, object_names, IsShapeList, IsNameTable}

-- the last place, or one before it
last_or_before : (k n : ℕ) → k < n + 1 → (k < n) ⊎ (k ≡ n)
last_or_before k n h = elim (cases_lt k n) [ inl l ↦ inl l | inr g ↦ inr (omega arith) ]

module _ {X : Type 0} (xs : List X) (x : X) where
  pushed_length : length (xs ++ x ∷ []) ≡ length xs + 1
  pushed_length = length-append xs (x ∷ [])

  before : (k : ℕ) (d : X) → k < length xs → get_or (xs ++ x ∷ []) k d ≡ get_or xs k d
  before k d h = get_or_append_left xs (x ∷ []) d k h

  at_last : (k : ℕ) (d : X) → k ≡ length xs → get_or (xs ++ x ∷ []) k d ≡ x
  at_last k d h = get_or_at xs x [] d k (sym h)

  pub different_pushed : AllDifferent xs → (Contains xs x → ⊥) → AllDifferent (xs ++ x ∷ [])
  different_pushed h new j k d l m same = elim (last_or_before k (length xs) (omega (arith, pushed_length))) [
    | inl b ↦ h j k d l b (sym (before j d (omega arith)) ∙ same ∙ before k d b)
    | inr e ↦ (let i : j < length xs = omega arith in
        new (j, i, get_or_default xs j x d i ∙ sym (before j d i) ∙ same ∙ at_last k d e))
  ]

-- a longer list of shapes has all the old positions
longer : (m n : ℕ) (xs : List ℕ) → m ≤ n → IsShapeList m xs → IsShapeList n xs
longer m n xs h s = record { some = s.some; few = s.few; inside = λ k d l. (let b : get_or xs k d < m = s.inside k d l in omega arith); different = s.different }

pub with_shape : (t : NameTable) (name : List ℕ) → IsNameTable t → IsPlaceText name → (Contains t.shapes name → ⊥) → IsNameTable (record t { shapes = t.shapes ++ name ∷ [] })
with_shape t name h text new = record {
  dims = h.dims;
  few = h.few;
  shape_texts = All-push IsPlaceText t.shapes name h.shape_texts text;
  shapes_differ = different_pushed t.shapes name h.shapes_differ new;
  object_texts = h.object_texts;
  objects_differ = h.objects_differ;
  lists = λ k d l. longer (length t.shapes) (length (t.shapes ++ name ∷ [])) (get_or t.objects k d).1 (omega (arith, pushed_length t.shapes name)) (h.lists k d l);
}

pub with_object : (t : NameTable) (name shapes : List ℕ) → IsNameTable t → IsNameText name → (Contains (object_names t) name → ⊥) → length t.objects < 200 → IsShapeList (length t.shapes) shapes
    → IsNameTable (record t { objects = t.objects ++ (name, shapes) ∷ [] })
with_object t name shapes h text new room list =
    let o : List ℕ × List ℕ = (name, shapes) in
    let names : map (λ (p : List ℕ × List ℕ). p.0) (t.objects ++ o ∷ []) ≡ object_names t ++ name ∷ [] = map-append (λ (p : List ℕ × List ℕ). p.0) t.objects (o ∷ []) in
    record {
      dims = h.dims;
      few = omega (arith, pushed_length t.objects o);
      shape_texts = h.shape_texts;
      shapes_differ = h.shapes_differ;
      object_texts = subst (λ (ns : List (List ℕ)). All IsNameText ns) (sym names) (All-push IsNameText (object_names t) name h.object_texts text);
      objects_differ = subst (λ (ns : List (List ℕ)). AllDifferent ns) (sym names) (different_pushed (object_names t) name h.objects_differ new);
      lists = All-push (λ (p : List ℕ × List ℕ). IsShapeList (length t.shapes) p.1) t.objects o h.lists list;
    }
