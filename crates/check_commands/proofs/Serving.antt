-- What a derivation shows under the conditions of a problem, and under its capped conditions.
use Rattle.std.proofs.Common.{◌≡◌, ◌++◌, ◌-◌, ◌≤◌, ℕ, ℤ, pos, negsuc, to_z-of_z, w64, arith, List, map, true, sym, ap, ◌∙◌, subst}
use Rattle.std.specs.Prelude.{◌-ℤ◌, ◌≤ℤ◌}
use Rattle.std.proofs.lemmas.Int.{ints}
use mir.Val.{to_z, of_z, SFits}
use Rattle.std.proofs.lemmas.List.{map-append}
use Rattle.std.proofs.lemmas.List.Elements.{All-append}
use Rattle.geo_base.specs.Tuple.{Tuple}
use Rattle.geo_conditions.specs.declared.cond.Cond.{Cond}
use Rattle.geo_conditions.specs.Conditions.{AllFit, AllHold, FitsIn, holds}
use Rattle.problem_data.specs.Cells.{IsWideTuple}
use Rattle.problem_data.specs.Layouts.{IsLayout}
use Rattle.problem_data.proofs.Accepted.{accepted_well_formed}
use Rattle.problem_data.proofs.Hulls.{tuple_is_wide}
use Rattle.linear_conditions.specs.CondTree.{cond_view}
use Rattle.rule_ground.specs.Start.{first_state}
use Rattle.extent_caps.specs.Capped.{AddsCaps}
use Rattle.command_input.specs.Words.{IsExtent}
use Rattle.command_reply.specs.declared.accepted.Accepted.{Accepted}
use Rattle.command_reply.specs.Accepted.{HasRead}
use Rattle.check_commands.specs.Claims.{no_layout, none_below}
use Rattle.check_commands.specs.Checks.{Serves}

-- ends are the same as numbers of 64 bits
fits : (z : ℤ) → (negsuc 2000000 ≤ℤ z) × (z ≤ℤ pos 3000000) → SFits w64 z
fits (pos n) h = let a : pos n ≤ℤ pos 3000000 = h.1 in record { sfits = omega (arith, ints, a) }
fits (negsuc n) h = let a : negsuc 2000000 ≤ℤ negsuc n = h.0 in record { sfits = omega (arith, ints, a) }

pub extent_kept : (e : ℤ) → IsExtent e → to_z w64 (of_z w64 e) ≡ e
extent_kept e h = let a = h.0 in let b = h.1 in to_z-of_z (fits e (omega (arith, ints, a), omega (arith, ints, b)))

pub end_kept : (e : ℤ) → IsExtent e → to_z w64 (of_z w64 (e -ℤ pos 1)) ≡ (e -ℤ pos 1)
end_kept e h = let a = h.0 in let b = h.1 in to_z-of_z (fits (e -ℤ pos 1) (omega (arith, ints, a), omega (arith, ints, b)))

module _ (text : List ℕ) (a : Accepted) (h : HasRead text a) where
  wide : (t : Tuple) → IsLayout a.problem t → IsWideTuple a.problem t
  wide t l = tuple_is_wide a.problem t (accepted_well_formed text a.problem h.accepted.spells) l.tuple

  -- a solution of the conditions is a layout
  pub serves_none : Serves no_layout a.problem a.conditions.items
  serves_none = record { asked = tt; are = h.are; none = λ n t l. n t (wide t l) ((h.meaning t (wide t l)).1 l) }

  module _ (d : ℕ) (e : ℤ) (cs : List Cond) (adds : AddsCaps a.problem (d - 1) (e -ℤ pos 1) a.conditions.items cs) where
    pub fit_below : AllFit cs (first_state a.problem)
    fit_below = subst (λ (l : List Cond). AllFit l (first_state a.problem)) (sym adds.behind) (All-append (λ (c : Cond). FitsIn c (first_state a.problem)) a.conditions.items adds.added h.fit adds.are.fit)

    -- and one of the caps too ends below the number
    pub serves_below : d ≤ a.problem.dims → Serves (none_below d e) a.problem cs
    serves_below l = record {
      asked = l;
      are = ap (map cond_view) adds.behind ∙ map-append cond_view a.conditions.items adds.added ∙ (λ i. h.are i ++ adds.are.trees i);
      none = λ n t lays ends. n t (wide t lays) (subst (λ (l : List Cond). AllHold l t) (sym adds.behind)
          (All-append (λ (c : Cond). holds c t ≡ true) a.conditions.items adds.added ((h.meaning t (wide t lays)).1 lays) ((adds.are.meaning t (wide t lays)).1 ends)));
    }
