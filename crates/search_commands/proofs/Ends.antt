-- What is said at the end of the rounds for the least extent, and of those for the rules that
-- refuse.
use Rattle.std.proofs.Common.{◌≡◌, ◌<◌, ◌∙◌, ℕ, ℤ, List, [], length, get_or, map, sym, subst, Option, Some}
use Rattle.std.specs.Prelude.{All}
use Rattle.std.proofs.lemmas.List.{get_or_default}
use Rattle.geo_base.specs.Tuple.{Tuple}
use Rattle.geo_conditions.specs.declared.cond.Cond.{Cond}
use Rattle.derivation.specs.Events.{Kept}
use Rattle.derivation.specs.declared.event.Event.{Event}
use Rattle.geo_best.specs.declared.extent.Extent.{Extent}
use Rattle.geo_best.specs.declared.one_round.Best.{Best}
use Rattle.geo_best.specs.declared.one_round.Best.TheVariants as bests
use Rattle.geo_best.specs.Rounds.{ShowsBest, ShowsEnd}
use Rattle.problem_data.specs.Problem.{ProblemData}
use Rattle.problem_data.specs.WellFormed.{IsWellFormed}
use Rattle.command_input.specs.declared.command.Status.{Status}
use Rattle.command_input.specs.declared.command.Status.TheVariants.{Answered}
use Rattle.search_commands.specs.Best.{SaysBest, extent_lines}
use Rattle.search_commands.specs.First.{IsNoneBehind, ShowsNone}
use Rattle.fewer_rules.proofs.Truth.{tuple_from}
use Rattle.geo_core.specs.Cores.{Refutes, without}
use Rattle.problem_data.specs.SomeRules.{numbered}
use Rattle.geo_core.specs.Refusing.{IsCore}
use Rattle.problem_data.specs.Cells.{IsShaped}
use Rattle.command_reply.specs.Accepted.{AreConditions}
use Rattle.search_commands.proofs.Found.{shaped_tuple}
use Rattle.search_commands.proofs.Shown.{shown, shows-alike}

-- what shows that a round finds nothing can be printed
pub shows-none : (p : ProblemData) (d : ℕ) (r : Option Extent) (cs : List Cond) (log : Kept) → IsWellFormed p → ShowsEnd p d r cs log → ShowsNone p cs log.events
shows-none p d r cs log well h = shown p cs log.events well h.derivation h.few

-- the lines of a layout and its end, with `none` and a derivation behind them
pub says-least : (p : ProblemData) (d n : ℕ) (best : Best) (e : ℤ) (t : Tuple) (log : Kept) (cs ds : List Cond) (lines all : List ℕ) (status mine : Status) → best ≡ bests.Least e t log → ds ≡ cs
    → ShowsBest p d cs best → lines ≡ extent_lines p (Some (record { end = e; layout = t })) → mine ≡ Answered → IsNoneBehind p ds lines all × (status ≡ mine) → SaysBest p d n best all status
says-least p d n best e t log cs ds lines all status mine is same shows own answered (behind, ends) =
    let h = subst (λ (b : Best). ShowsBest p d cs b) is shows in
    let none = subst (λ (l : List ℕ). IsNoneBehind p cs l all) own (subst (λ (xs : List Cond). IsNoneBehind p xs lines all) same behind) in
    subst (λ (b : Best). SaysBest p d n b all status) (sym is)
    (subst (λ (s : Status). SaysBest p d n (bests.Least e t log) all s) (sym (ends ∙ answered)) (record { conditions = cs; are = h.are; none = none }))

-- ---- rules that refuse together

-- each of the layouts has the form of one
pub layouts-shaped : (p : ProblemData) (R : List ℕ) (ts : List Tuple) → IsCore p R ts → All (IsShaped p) ts
layouts-shaped p R ts h = λ k d l.
    let there : k < length R = subst (λ (n : ℕ). k < n) h.alike l in
    subst (IsShaped p) (get_or_default ts k [] d l) (shaped_tuple p (get_or ts k []) (tuple_from p (map (numbered p.rules) (without (get_or R k 0) R)) (get_or ts k []) (h.each k there).tuple))

-- what refutes the problem under some conditions with its trees can be printed, under any of them
pub refutes-none : (p : ProblemData) (cs : List Cond) (es : List Event) → IsWellFormed p → AreConditions p cs → Refutes p es → ShowsNone p cs es
refutes-none p cs es well are h = shows-alike p cs h.conditions es are h.are (shown p h.conditions es well h.derivation h.few)
