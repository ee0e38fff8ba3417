-- What is written where a problem has no layout is confirmed by `check`, behind the text of the
-- problem and a line feed.
use Rattle.std.proofs.Common.{◌≡◌, ℕ, ℤ, ◌≤◌, ◌^◌, List, map, ◌++◌, length, inl, refl, sym, subst}
use Rattle.std.specs.Prelude.{codes}
use Rattle.geo_conditions.specs.declared.cond.Cond.{Cond}
use Rattle.derivation.specs.declared.event.Event.{Event}
use Rattle.derivation_reading.specs.FirstFault.{IsText}
use Rattle.printed_derivation.specs.Laws.{printed, printed_behind}
use Rattle.printed_derivation.proofs.ReadBack.{read_printable_behind}
use Rattle.problem_data.specs.Problem.{ProblemData}
use Rattle.problem_text.specs.NameTable.{name_table}
use Rattle.problem_data.proofs.SomeRules.{wholly_said}
use Rattle.problem_text.proofs.Said.{said_table}
use Rattle.accepted_fronts.specs.Fronts.{HasFrontThere}
use Rattle.accepted_fronts.proofs.Fronts.{has_front_there}
use Rattle.layout_search.specs.FirstLayout.{HasNoLayout}
use Rattle.command_reply.specs.Accepted.{IsAccepted, AreConditions}
use Rattle.command_reply.specs.Texts.{AreTextsOf}
use Rattle.search_commands.specs.First.{ShowsNone, SaysNone}
use Rattle.check_commands.specs.Check.{FindsValid}
use Rattle.check_commands.specs.Claims.{Claim, EndsNoneBelow, no_layout, none_below}
use Rattle.linear_conditions.specs.CondTree.{cond_view}
use Rattle.geost_run.specs.Headline.{IsConfirmed, IsConfirmedBelow}
use Rattle.command_reply.proofs.TwoTexts.{one-cut}

-- What is printed is checked, however the input is cut: under the conditions of a claim, where the
-- claim is so.
checked : (c : Claim) (input : List ℕ) (p : ProblemData) (cs : List Cond) (es : List Event) → ShowsNone p cs es → IsAccepted input p → c.asked p → map cond_view cs ≡ c.conditions p → c.none p
    → (first second : List ℕ) → AreTextsOf (input ++ (codes "\n" ++ printed (name_table p) es)) first second → length second ≤ 2 ^ 40 → FindsValid c (input ++ (codes "\n" ++ printed (name_table p) es)) (codes "yes\n")
checked c input p cs es h a asked are none first second cut short =
    let n = name_table p in
    let f : HasFrontThere input (printed n es) p = has_front_there input p a.spells (printed n es) in
    let behind : List ℕ = printed_behind f.blank n es in
    let mine : AreTextsOf (input ++ (codes "\n" ++ printed n es)) f.front behind = record { both = f.both; split = inl f.ends } in
    let same = one-cut (input ++ (codes "\n" ++ printed n es)) f.front behind first second mine cut in
    let few : length behind ≤ 2 ^ 40 = subst (λ (z : List ℕ). length z ≤ 2 ^ 40) (sym same.1) short in
    let reads : IsText n behind es =
    read_printable_behind n h.root es f.blank (said_table p (wholly_said p (record { text = input; accepts = a.spells }))) h.tree h.printable f.behind few in
    record {
      problem = p;
      conditions = cs;
      root = h.root;
      derives = record {
        first = f.front;
        second = behind;
        cut = mine;
        accepted = record { spells = f.spells; names = a.names; expands = a.expands; grounds = a.grounds };
        asked = asked;
        spells = subst (λ (fs : List Event). IsText n behind fs) h.tree reads;
      };
      are = are;
      valid = h.valid;
      none = none;
      says = refl;
    }

pub confirmed : (input : List ℕ) (p : ProblemData) (cs : List Cond) (text : List ℕ) → IsAccepted input p → AreConditions p cs → HasNoLayout p → SaysNone p cs text → IsConfirmed input text
confirmed input p cs text a are none h = subst (λ (t : List ℕ). IsConfirmed input t) (sym h.says) (checked no_layout input p cs h.events h.shows a tt are none)

-- the same of an end in a dimension that the problem has
pub confirmed_below : (d : ℕ) (e : ℤ) (input : List ℕ) (p : ProblemData) (cs : List Cond) (text : List ℕ) → IsAccepted input p → d ≤ p.dims → map cond_view cs ≡ (none_below d e).conditions p
    → EndsNoneBelow d e p → SaysNone p cs text → IsConfirmedBelow d e input text
confirmed_below d e input p cs text a there are none h = subst (λ (t : List ℕ). IsConfirmedBelow d e input t) (sym h.says) (checked (none_below d e) input p cs h.events h.shows a there are none)
