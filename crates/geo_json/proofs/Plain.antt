-- The value of a layout has no float, and does not nest deep. And what is said of a text of such a
-- value.
use Rattle.std.proofs.Common.{◌≡◌, ℕ, ◌≤◌, ◌++◌, ◌∷◌, [], false, Some, Result, Ok, Err, IfOk, ap, ◌∙◌, arith}
use Rattle.std.specs.declared.alloc.Global.{Global}
use Rattle.std.specs.Prelude.{Vec, length}
use Rattle.std.specs.List.{range_with_len}
use Rattle.serde_json.specs.Data.{Data, depth}
use Rattle.serde_json.specs.Read.{read}
use Rattle.serde_json.specs.Written.{compact_text, has_float}
use Rattle.problem_data.specs.Problem.{ProblemData}
use Rattle.problem_data.specs.Tuple.{Tuple, spot}
use Rattle.json_parts.specs.Form.{int_json}
use Rattle.json_parts.proofs.Plain.{IsPlain, plain_text, plain_int, plain_list, plain_none, plain_member, plain_object}
use Rattle.geo_json.specs.LayoutJson.{place_json, layout_json}

plain_place : (p : ProblemData) (t : Tuple) (o : ℕ) → IsPlain 2 (place_json p t o)
plain_place p t o =
    plain_object 1 _ (plain_member 1 _ _ _ (plain_text 1 _) (plain_member 1 _ _ _ (plain_list 0 int_json (plain_int 0) (spot t o).origin) (plain_member 1 _ _ _ (plain_text 1 _) (plain_none 1))))

pub layout_plain : (p : ProblemData) (t : Tuple) → IsPlain 4 (layout_json p t)
layout_plain p t = plain_object 3 _ (plain_member 3 _ _ _ (plain_list 2 (place_json p t) (plain_place p t) (range_with_len 0 (length t))) (plain_member 3 _ _ _ (plain_text 3 _) (plain_none 3)))

module _ {E : Type 0} (r : Result (Vec ℕ Global) E) (d e : Data) (n : ℕ) (le : n ≤ 127) (is : d ≡ e) (plain : IsPlain n e) where
  pub line_text : IfOk r (λ t. has_float d ≡ false → t.items ≡ compact_text d ++ 10 ∷ []) → IfOk r (λ t. t.items ≡ compact_text e ++ 10 ∷ [])
  line_text h = by r h
    where
      by : (s : Result (Vec ℕ Global) E) → IfOk s (λ t. has_float d ≡ false → t.items ≡ compact_text d ++ 10 ∷ []) → IfOk s (λ t. t.items ≡ compact_text e ++ 10 ∷ [])
      by (Ok t) g = g (ap has_float is ∙ plain.float) ∙ ap (λ (x : Data). compact_text x ++ 10 ∷ []) is
      by (Err x) g = tt

  pub line_again : IfOk r (λ t. depth d ≤ 127 → read t.items ≡ Some d) → IfOk r (λ t. read t.items ≡ Some e)
  line_again h = by r h
    where
      by : (s : Result (Vec ℕ Global) E) → IfOk s (λ t. depth d ≤ 127 → read t.items ≡ Some d) → IfOk s (λ t. read t.items ≡ Some e)
      by (Ok t) g = g (let a = plain.nests in let b : depth d ≡ depth e = ap depth is in omega (arith, a, b, le)) ∙ ap Some is
      by (Err x) g = tt
