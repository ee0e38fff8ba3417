-- The text that is made is the canonical one.
use Rattle.std.proofs.Common.{◌≡◌, ℕ, List, [], ◌∷◌, ◌++◌, map, refl, sym, ap, ◌∙◌}
use Rattle.std.specs.Prelude.{codes, flat_map}
use Rattle.std.specs.Fmt.{digits}
use Rattle.geo_tokens.specs.declared.token.Keyword.TheVariants as keywords
use Rattle.rule_print.specs.Canonical.{word, number}
use Rattle.problem_text.specs.Canonical.{line_text, rule_spelling, shape_names, problem_text, object_spelling}
use Rattle.problem_generator.specs.Made.{numbers_to, all_objects, made_text}
use Rattle.generated_problems.specs.Problem.{object, rules, made_problem}
use Rattle.generated_problems.proofs.Lines.{shapes_text, objects_text}
use Rattle.generated_problems.proofs.Names.{shape_list}
use Rattle.generated_problems.proofs.Parts.{shape_names_are}

head_text : codes "geost 1 dims 3\n" ≡ line_text (word keywords.Geost ∷ number 1 ∷ word keywords.Dims ∷ number 3 ∷ [])
unfolding digits
head_text = refl

tail_text : codes "rule rack : within 0..19 0..19 0..9 ;\nrule free : apart ;\nend\n" ≡ flat_map (λ r. line_text (rule_spelling r)) rules ++ line_text (word keywords.End ∷ [])
unfolding digits
tail_text = refl

pub made_is_canonical : (seed : ℕ) → made_text seed ≡ problem_text (made_problem seed)
made_is_canonical seed =
    let named : flat_map (λ o. line_text (object_spelling (shape_list 80) o)) (map object (numbers_to 40)) ≡ flat_map (λ o. line_text (object_spelling (shape_names (made_problem seed)) o)) (map object (numbers_to 40)) =
    ap (λ (names : List (List ℕ)). flat_map (λ o. line_text (object_spelling names o)) (map object (numbers_to 40))) (sym (shape_names_are seed)) in
    let objects : all_objects 40 ≡ flat_map (λ o. line_text (object_spelling (shape_names (made_problem seed)) o)) (map object (numbers_to 40)) = objects_text ∙ named in
    λ k. head_text k ++ (shapes_text seed (numbers_to 40) k ++ (objects k ++ tail_text k))
