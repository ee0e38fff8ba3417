-- What `all` replies, which is written while its layouts are found.
use Rattle.std.specs.Prelude.{◌≡◌, ◌≤◌, ◌^◌, ℕ, List, Option, IfSome, length}
use Rattle.problem_data.specs.Cells.{IsTuple}
use Rattle.geo_base.specs.Tuple.{Tuple}
use Rattle.layout_search.specs.FirstLayout.{AreConditionsOf, walk_after}
use Rattle.command_input.specs.declared.command.Status.{Status}
use Rattle.command_reply.specs.Reply.{IsSaid}
use Rattle.command_reply.specs.declared.accepted.Accepted.{Accepted}
use Rattle.search_commands.specs.declared.listing.Listing.{Listing as ListingOf}
use Rattle.search_commands.specs.declared.all.ListingReply.{ListingReply}
use Rattle.search_commands.specs.declared.all.ListingReply.TheVariants.{Text, Listing}
use Rattle.search_commands.specs.All.{SaysListing}

abbrev pub listing_says : ListingReply → List ℕ → Status → Type 0
listing_says (Text r) = IsSaid r.text.items r.status
listing_says (Listing l) = SaysListing l.problem (walk_after l.problem l.conditions.items l.after) l.most l.budget

-- its conditions are those of the problem, and it lists what comes behind a tuple of it
pub record CanList (l : ListingOf) : Type 0 where
  pub means : AreConditionsOf l.problem l.conditions.items
  pub few : length l.conditions.items ≤ 10 ^ 9
  pub from : IfSome l.after (IsTuple l.problem)

abbrev pub is_listing_ready : ListingReply → Type 0
is_listing_ready (Text r) = Unit {0}
is_listing_ready (Listing l) = CanList l

-- the reply lists the layouts of this problem under its conditions
abbrev pub IsListingOf : Accepted → Option Tuple → ℕ → ℕ → ListingReply → Type 0
IsListingOf a after most n (Text r) = ⊥
IsListingOf a after most n (Listing l) =
    (l.problem ≡ a.problem) × (l.conditions.items ≡ a.conditions.items) × (l.after ≡ after) × (l.most ≡ most) × (l.budget ≡ n)
