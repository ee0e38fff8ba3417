-- How chains of a derivation come together.
use Rattle.std.proofs.Common.{◌≡◌, ℕ, ℤ, List, [], ◌∷◌, ◌++◌, refl, sym, ap, ◌∙◌, subst, arith, append_assoc}
use Rattle.std.specs.Int.{int_min, int_max}
use Rattle.std.proofs.lemmas.Int.{ints, clamps}
use Rattle.std.proofs.lemmas.List.{append-nil}
use Rattle.geo_conditions.specs.declared.cond.Cond.{Cond}
use Rattle.geo_conditions.specs.Reach.{State, reach, low, high, with_low, with_high}
use Rattle.derivation.specs.declared.event.Event.{Event}
use Rattle.derivation.specs.declared.side.Side.{Side}
use Rattle.derivation.specs.declared.side.Side.TheVariants.{Upto, From}
use Rattle.derivation.specs.Events.{Continues}
use Rattle.derivation.specs.Chains.{Link, link_events, moved, cut_to_side, Narrows, after, Holds, links_events, behind, EachHolds, Leads, Ending, ending_events, EndHolds, Closes, IsLed, IsClosed}

events_append : (ls ms : List Link) → links_events (ls ++ ms) ≡ links_events ls ++ links_events ms
events_append [] ms = refl
events_append (l ∷ ls) ms = ap (λ (es : List Event). link_events l ++ es) (events_append ls ms) ∙ sym (append_assoc (link_events l) (links_events ls) (links_events ms))

behind_append : (ls ms : List Link) (S : State) → behind (ls ++ ms) S ≡ behind ms (behind ls S)
behind_append [] ms S = refl
behind_append (l ∷ ls) ms S = behind_append ls ms (after l S)

each_append : (cs : List Cond) (ls ms : List Link) (S : State) → EachHolds cs S ls → EachHolds cs (behind ls S) ms → EachHolds cs S (ls ++ ms)
each_append cs [] ms S h k = k
each_append cs (l ∷ ls) ms S h k = (h.0, each_append cs ls ms (after l S) h.1 k)

-- no events lead from a state to itself
pub leads_nil : (cs : List Cond) (S : State) → Leads cs S [] S
leads_nil cs S = record { links = []; events = refl; state = refl; each_holds = tt }

-- one link that holds
pub leads_one : (cs : List Cond) (S : State) (l : Link) → Holds cs S l → Leads cs S (link_events l) (after l S)
leads_one cs S l h = record {
  links = l ∷ [];
  events = sym (append-nil (link_events l));
  state = refl;
  each_holds = (h, tt);
}

-- one chain behind another
pub leads_on : (cs : List Cond) (S T U : State) (es fs : List Event) → Leads cs S es T → Leads cs T fs U → Leads cs S (es ++ fs) U
leads_on cs S T U es fs p q = record {
  links = p.links ++ q.links;
  events = ap (λ (gs : List Event). gs ++ fs) p.events ∙ ap (λ (gs : List Event). links_events p.links ++ gs) q.events ∙ sym (events_append p.links q.links);
  state = q.state ∙ ap (behind q.links) p.state ∙ sym (behind_append p.links q.links S);
  each_holds = each_append cs p.links q.links S p.each_holds (subst (λ (X : State). EachHolds cs X q.links) p.state q.each_holds);
}

-- an ending that holds closes
pub closes_end : (cs : List Cond) (S : State) (e : Ending) → EndHolds cs S e → Closes cs S (ending_events e)
closes_end cs S e h = record {
  chain = [];
  state = S;
  ending = e;
  events = refl;
  leads = leads_nil cs S;
  holds = h;
}

-- a chain, and then what closes
pub closes_on : (cs : List Cond) (S T : State) (es fs : List Event) → Leads cs S es T → Closes cs T fs → Closes cs S (es ++ fs)
closes_on cs S T es fs p q = record {
  chain = es ++ q.chain;
  state = q.state;
  ending = q.ending;
  events = ap (λ (gs : List Event). es ++ gs) q.events ∙ sym (append_assoc es q.chain (ending_events q.ending));
  leads = leads_on cs S T q.state es q.chain p q.leads;
  holds = q.holds;
}

-- where it does not widen, moving an end is an intersection
pub moved_is_cut : (S : State) (o : ℕ) (side : Side) → Narrows S o side → moved side (reach S o) ≡ cut_to_side side (reach S o)
moved_is_cut S o (Upto d v) n =
    let e : v ≡ int_min (high S o d) v = omega (arith, ints, clamps) in
    ap (λ (x : ℤ). with_high (reach S o) d x) e
moved_is_cut S o (From d v) n =
    let e : v ≡ int_max (low S o d) v = omega (arith, ints, clamps) in
    ap (λ (x : ℤ). with_low (reach S o) d x) e

-- ---- chains behind the old events

-- nothing changed
pub led_same : (cs : List Cond) (S T : State) (old new : List Event) → T ≡ S → new ≡ old → IsLed cs S T old new
led_same cs S T old new e f = ([], f ∙ sym (append-nil old), subst (Leads cs S []) (sym e) (leads_nil cs S))

-- a list with a chain behind it went on
pub led_continues : (cs : List Cond) (S T : State) (old new : List Event) → IsLed cs S T old new → Continues old new
led_continues cs S T old new p = (p.0, p.1)

-- one chain behind another
pub led_on : (cs : List Cond) (S T U : State) (a b c : List Event) → IsLed cs S T a b → IsLed cs T U b c → IsLed cs S U a c
led_on cs S T U a b c p q = (
  p.0 ++ q.0,
  q.1 ∙ ap (λ (xs : List Event). xs ++ q.0) p.1 ∙ append_assoc a p.0 q.0,
  leads_on cs S T U p.0 q.0 p.2 q.2,
)

-- what closes behind a chain
pub led_closed : (cs : List Cond) (S T : State) (a b c : List Event) → IsLed cs S T a b → IsClosed cs T b c → IsClosed cs S a c
led_closed cs S T a b c p q = (
  p.0 ++ q.0,
  q.1 ∙ ap (λ (xs : List Event). xs ++ q.0) p.1 ∙ append_assoc a p.0 q.0,
  closes_on cs S T p.0 q.0 p.2 q.2,
)
