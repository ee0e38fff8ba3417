-- What holds of a problem that some text says: its names make a table.
use Rattle.std.proofs.Common.{◌≡◌, ◌==◌, ℕ, zero, suc, ◌+◌, ◌<◌, ◌≤◌, List, [], ◌∷◌, ◌++◌, map, length, get_or, Bool, true, false, inl, inr, refl, sym, ap, ◌∙◌, subst, arith}
use Rattle.std.specs.Prelude.{if◌then◌else◌}
use Rattle.std.specs.List.{All, Contains, list_any}
use Rattle.std.proofs.lemmas.List.{length-map, length-append, append-nil}
use Rattle.std.proofs.lemmas.List.Elements.{All-push}
use Rattle.std.proofs.lemmas.List.Folds.{list_any_at}
use Rattle.geo_tokens.specs.declared.token.Keyword.TheVariants as keywords
use Rattle.geo_tokens.specs.Class.{word_bytes}
use Rattle.geo_tokens.proofs.Table.{different_pushed}
use Rattle.geo_tokens.specs.Names.{IsNameText, IsPlaceText, AllDifferent, IsShapeList, IsNameTable, object_names}
use Rattle.rule_print.proofs.Respelled.{AllOf}
use Rattle.problem_data.specs.declared.fault.Fault.{Fault}
use Rattle.problem_data.specs.Parts.{Parts, parts_of}
use Rattle.problem_data.specs.Faults.{IsFault, shapes, objects}
use Rattle.problem_data.specs.Faults as faults
use Rattle.problem_data.specs.Meaning.{problem_of}
use Rattle.problem_data.specs.Meaning as meaning
use Rattle.problem_data.specs.Problem.{ObjectData, no_object, ProblemData}
use Rattle.problem_text.specs.Canonical as canonical
use Rattle.problem_data.specs.WellFormed.{IsObject, IsWellFormed}
use Rattle.problem_data.specs.Accepted.{Accepts, AreSaid, IsWhollySaid, IsSaid}
use Rattle.problem_text.specs.NameTable.{shape_name, is_optional, absent_names, place_names, absent_positions, named_object, name_table}
use Rattle.problem_data.proofs.NoFault.{all_mapped, within_limit}
use Rattle.problem_data.proofs.Sound.{texts_differ}
use Rattle.problem_data.proofs.Accepted.{accepted_well_formed}
use Rattle.problem_text.proofs.BareParts.{map_after}
use Rattle.problem_text.proofs.PrintingParts.{all_as}
use Rattle.problem_text.proofs.PrintingStatements.{CanWriteShape, CanWriteObject}
use Rattle.problem_text.proofs.PrintingProblem.{CanWriteProblem}
use Rattle.problem_text.proofs.SaysAgain.{says_of, says_written, shape_names_of, object_names_of}

-- statements of a text without a fault say the problem that they spell
pub said_right : (q : Parts) → AreSaid q → ((f : Fault) → IsFault q f → ⊥) → (p : ProblemData) → p ≡ problem_of q → IsWhollySaid p
said_right q s right p e = record {
  text = s.text;
  accepts = record {
    tree = s.tree;
    says = s.says;
    right = subst (λ (u : Parts). (f : Fault) → IsFault u f → ⊥) (sym s.are) right;
    means = e ∙ ap problem_of (sym s.are);
  };
}

-- ---- the names

all_texts : {A : Type 0} (f : A → List ℕ) (xs : List A) → AllOf (λ x. IsNameText (f x)) xs → All IsNameText (map f xs)
all_texts f [] h k d l = absurd (omega arith)
all_texts f (x ∷ xs) h zero d l = h.0
all_texts f (x ∷ xs) h (suc k) d l = let less : k < length (map f xs) = omega arith in all_texts f xs h.1 k d less

-- the word `absent` is no name
pub absent_is_new : (ns : List (List ℕ)) → All IsNameText ns → Contains ns (word_bytes keywords.Absent) → ⊥
absent_is_new ns h c = (subst IsNameText c.2 (h c.0 (word_bytes keywords.Absent) c.1)).free keywords.Absent refl

as_places : (ns : List (List ℕ)) → All IsNameText ns → All IsPlaceText ns
as_places ns h = λ k d l. inl (h k d l)

place_texts : (b : Bool) (ns : List (List ℕ)) → All IsNameText ns → All IsPlaceText (ns ++ absent_names b)
place_texts true ns h = All-push IsPlaceText ns (word_bytes keywords.Absent) (as_places ns h) (inr refl)
place_texts false ns h = subst (All IsPlaceText) (sym (append-nil ns)) (as_places ns h)

places_differ : (b : Bool) (ns : List (List ℕ)) → All IsNameText ns → AllDifferent ns → AllDifferent (ns ++ absent_names b)
places_differ true ns h d = different_pushed ns (word_bytes keywords.Absent) d (absent_is_new ns h)
places_differ false ns h d = subst (λ (us : List (List ℕ)). AllDifferent us) (sym (append-nil ns)) d

no_such : (xs : List ℕ) (n : ℕ) → All (λ x. x < n) xs → Contains xs n → ⊥
no_such xs n h c = let less : get_or xs c.0 n < n = h c.0 n c.1 in let same : get_or xs c.0 n ≡ n = c.2 in absurd (omega (arith, less, same))

-- the places of an object, where b tells whether the word stands behind the shapes
place_list_of : (o b : Bool) (xs : List ℕ) (n : ℕ) (ns : List (List ℕ)) → (o ≡ true → b ≡ true) → length ns ≡ n → 0 < length xs → length xs + (if o then 1 else 0) ≤ 16 → All (λ x. x < n) xs → AllDifferent xs
    → IsShapeList (length (ns ++ absent_names b)) (xs ++ absent_positions o n)
place_list_of false b xs n ns there size some few inside differ =
    let long : length (ns ++ absent_names b) ≡ length ns + length (absent_names b) = length-append ns (absent_names b) in
    subst (λ (ys : List ℕ). IsShapeList (length (ns ++ absent_names b)) ys) (sym (append-nil xs)) (record {
      some = omega (arith, some);
      few = omega (arith, few);
      inside = λ k d l. (let less : get_or xs k d < n = inside k d l in omega (arith, less, long, size));
      different = differ;
    })
place_list_of true b xs n ns there size some few inside differ =
    let long : length (ns ++ word_bytes keywords.Absent ∷ []) ≡ length ns + 1 = length-append ns (word_bytes keywords.Absent ∷ []) in
    let more : length (xs ++ n ∷ []) ≡ length xs + 1 = length-append xs (n ∷ []) in
    subst (λ (u : Bool). IsShapeList (length (ns ++ absent_names u)) (xs ++ n ∷ [])) (sym (there refl)) (record {
      some = omega (arith, some, more);
      few = omega (arith, few, more);
      inside = All-push (λ x. x < length (ns ++ word_bytes keywords.Absent ∷ [])) xs n (λ k d l. (let less : get_or xs k d < n = inside k d l in omega (arith, less, long, size))) (omega (arith, long, size));
      different = different_pushed xs n differ (no_such xs n inside);
    })

module _ (text : List ℕ) (p : ProblemData) (a : Accepts text p) where
  abbrev q : Parts
  q = parts_of a.tree

  shape_names_differ : AllDifferent (map shape_name p.shapes)
  shape_names_differ =
      subst (λ (ns : List (List ℕ)). AllDifferent ns) (sym (ap canonical.shape_names a.means ∙ shape_names_of q))
      (texts_differ (map faults.shape_name q.shapes) (λ f w. a.right f (shapes (inl (inr w)))))

  named : object_names (name_table p) ≡ canonical.object_names p
  named = map_after (λ o. o.0) (named_object (length p.shapes)) (λ (o : ObjectData). o.name) (λ o. refl) p.objects

  object_names_differ : AllDifferent (canonical.object_names p)
  object_names_differ =
      subst (λ (ns : List (List ℕ)). AllDifferent ns) (sym (ap canonical.object_names a.means ∙ object_names_of q))
      (texts_differ (map faults.object_name q.objects) (λ f w. a.right f (objects (inl (inr w)))))

  -- at most so many shapes
  few_shapes : length p.shapes ≤ 256
  few_shapes =
      let most : length (map faults.shape_name q.shapes) ≤ 256 = within_limit 256 (map faults.shape_name q.shapes) (λ f w. a.right f (shapes (inl (inl w)))) in
      let trees : length (map faults.shape_name q.shapes) ≡ length q.shapes = length-map q.shapes faults.shape_name in
      let made : length (problem_of q).shapes ≡ length q.shapes = length-map q.shapes meaning.shape_of in
      let same : length p.shapes ≡ length (problem_of q).shapes = ap (λ (u : ProblemData). length u.shapes) a.means in
      omega (arith, most, trees, made, same)

  -- each shape has a name
  named_shapes : All IsNameText (map shape_name p.shapes)
  named_shapes =
      let written : CanWriteProblem p = says_written text p (says_of text p a) in
      all_texts shape_name p.shapes (all_as {P = CanWriteShape} {Q = λ s. IsNameText s.name} (λ s h. h.name) p.shapes written.shapes)

  -- some object may be absent
  abbrev optional : Bool
  optional = list_any is_optional p.objects

  place_list : (o : ObjectData) → IsObject p o → (o.may_be_absent ≡ true → optional ≡ true) → IsShapeList (length (place_names p)) (o.shapes ++ absent_positions o.may_be_absent (length p.shapes))
  place_list o h there = place_list_of o.may_be_absent optional o.shapes (length p.shapes) (map shape_name p.shapes) there (length-map p.shapes shape_name) h.some h.few h.shapes h.once

  accepted_table : IsNameTable (name_table p)
  accepted_table =
      let written : CanWriteProblem p = says_written text p (says_of text p a) in
      let well : IsWellFormed p = accepted_well_formed text p a in
      record {
        dims = written.dims;
        few = (let n = length-map p.objects (named_object (length p.shapes)) in omega (arith, n, well.few));
        shape_texts = place_texts optional (map shape_name p.shapes) named_shapes;
        shapes_differ = places_differ optional (map shape_name p.shapes) named_shapes shape_names_differ;
        object_texts = subst (λ (ns : List (List ℕ)). All IsNameText ns) (sym named) (all_texts (λ (o : ObjectData). o.name) p.objects
            (all_as {P = CanWriteObject (p.version == 2) (canonical.shape_names p)} {Q = λ o. IsNameText o.name} (λ o h. h.name) p.objects written.objects));
        objects_differ = subst (λ (ns : List (List ℕ)). AllDifferent ns) (sym named) object_names_differ;
        lists = all_mapped (named_object (length p.shapes)) (λ o. IsShapeList (length (place_names p)) o.1) p.objects no_object
            (λ i l. place_list (get_or p.objects i no_object) (well.objects i no_object l) (λ e. list_any_at is_optional p.objects i no_object l e));
      }

-- what holds of the shapes alone
pub said_shape_texts : (p : ProblemData) → IsSaid p → All IsNameText (map shape_name p.shapes)
said_shape_texts p s = subst (λ (u : ProblemData). All IsNameText (map shape_name u.shapes)) (sym s.is) (named_shapes s.said.text s.whole s.said.accepts)

pub said_shapes_differ : (p : ProblemData) → IsSaid p → AllDifferent (map shape_name p.shapes)
said_shapes_differ p s = subst (λ (u : ProblemData). AllDifferent (map shape_name u.shapes)) (sym s.is) (shape_names_differ s.said.text s.whole s.said.accepts)

pub said_few_shapes : (p : ProblemData) → IsSaid p → length p.shapes ≤ 256
said_few_shapes p s = subst (λ (u : ProblemData). length u.shapes ≤ 256) (sym s.is) (few_shapes s.said.text s.whole s.said.accepts)

pub said_table : (p : ProblemData) → IsSaid p → IsNameTable (name_table p)
said_table p s = subst (λ (u : ProblemData). IsNameTable (name_table u)) (sym s.is) (accepted_table s.said.text s.whole s.said.accepts)
