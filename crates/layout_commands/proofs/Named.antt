-- The objects that are named, and their lines.
use Rattle.std.proofs.Common.{◌≡◌, ◌<◌, ◌+◌, ◌++◌, ℕ, List, length, take, get_or, sym, ap, ◌∙◌, append_assoc}
use Rattle.std.specs.Prelude.{All, codes}
use Rattle.std.proofs.lemmas.List.{get_or_default}
use Rattle.std.proofs.lemmas.List.Elements.{All-from_get_or}
use Rattle.geo_base.specs.Tuple.{Tuple}
use Rattle.geo_chan.proofs.Pieces.{one_more}
use Rattle.geo_load.specs.Blocks.{Blocks, present}
use Rattle.geo_load.specs.Order.{Has, IsLoading}
use Rattle.geo_load.specs.declared.order.Loading.TheVariants.{Order, Cycle}
use Rattle.geo_load.proofs.Laws.{order_inside, cycle_inside}
use Rattle.geo_load.proofs.Members.{index_has}
use Rattle.geo_load.proofs.Presence.{present_inside}
use Rattle.problem_data.specs.Problem.{ProblemData, ObjectData, no_object}
use Rattle.problem_data.specs.Tuple.{object_of}
use Rattle.layout_commands.specs.Load.{name_lines}

are_inside : (p : ProblemData) (t : Tuple) (objects : List ℕ) → ((o : ℕ) → Has objects o → Has (present p t) o) → All (λ o. o < length p.objects) objects
are_inside p t objects h = All-from_get_or (λ o. o < length p.objects) objects 0 (λ i l. present_inside p t (get_or objects i 0) (h (get_or objects i 0) (index_has objects i 0 l)))

pub order_there : (p : ProblemData) (t : Tuple) (d : ℕ) (order : List ℕ) → IsLoading (Blocks p t d) (present p t) (Order order) → All (λ o. o < length p.objects) order
order_there p t d order l = are_inside p t order (order_inside (Blocks p t d) (present p t) order l)

pub cycle_there : (p : ProblemData) (t : Tuple) (d : ℕ) (cycle : List ℕ) → IsLoading (Blocks p t d) (present p t) (Cycle cycle) → All (λ o. o < length p.objects) cycle
cycle_there p t d cycle l = are_inside p t cycle (cycle_inside (Blocks p t d) (present p t) cycle l)

-- an object that was read at its number has the name of that object
pub name_is : (p : ProblemData) (xs : List ObjectData) (i o : ℕ) (x : ObjectData) → xs ≡ p.objects → i ≡ o → o < length p.objects → x ≡ get_or xs i x → x.name ≡ (object_of p o).name
name_is p xs i o x same at l is = ap (λ (y : ObjectData). y.name) (is ∙ (λ j. get_or (same j) (at j) x) ∙ get_or_default p.objects o x no_object l)

-- one name more, behind what is there
pub name_more : (p : ProblemData) (objects word old new name : List ℕ) (k : ℕ) → k < length objects → old ≡ word ++ name_lines p (take k objects) → name ≡ (object_of p (get_or objects k 0)).name
    → new ≡ (old ++ name) ++ codes "\n" → new ≡ word ++ name_lines p (take (k + 1) objects)
name_more p objects word old new name k l before is more =
    more
    ∙ (λ i. (before i ++ is i) ++ codes "\n")
    ∙ append_assoc (word ++ name_lines p (take k objects)) (object_of p (get_or objects k 0)).name (codes "\n")
    ∙ append_assoc word (name_lines p (take k objects)) ((object_of p (get_or objects k 0)).name ++ codes "\n")
    ∙ ap (λ (xs : List ℕ). word ++ xs) (sym (one_more (λ o. (object_of p o).name ++ codes "\n") objects k 0 l))
