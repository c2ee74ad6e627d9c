-- The number and the values of each case of an answer, as scripts and callers see them.
-- Document 01, "How each place should look": "If an answer is an enum, a definition gives this paper's number and values for each of its cases."
-- Statuses and many-to-one values have the specification's numbers; a reply's answers are drop 0, established 1, relay 2.
-- Assumes nothing.
use Rattle.std.specs.Prelude.{ℕ, List, [], ◌∷◌, Option, Some, None}
use Rattle.standard.specs.declared.Status.{Status}
use Rattle.standard.specs.declared.Status.TheVariants.{Active, DiscoveryUnderway, DiscoveryFailed, Inactive}
use Rattle.standard.specs.declared.ManyToOne.{ManyToOne}
use Rattle.standard.specs.declared.ManyToOne.TheVariants.{NotManyToOne, SenderSupportsRouteRecordTable, SenderDoesntSupportRouteRecordTable, Reserved}
use Rattle.standard.specs.declared.RouteReplyDisposition.{RouteReplyDisposition}
use Rattle.standard.specs.declared.RouteReplyDisposition.TheVariants.{Drop, Established, Relay}
use Rattle.standard.specs.declared.RouteUpdate.{RouteUpdate}

abbrev pub status_number : Status → ℕ
status_number Active = 0
status_number DiscoveryUnderway = 1
status_number DiscoveryFailed = 2
status_number Inactive = 3

abbrev pub many_to_one_number : ManyToOne → ℕ
many_to_one_number NotManyToOne = 0
many_to_one_number SenderSupportsRouteRecordTable = 1
many_to_one_number SenderDoesntSupportRouteRecordTable = 2
many_to_one_number Reserved = 3

-- no update, or the route: destination, next hop, cost
abbrev pub update_numbers : Option RouteUpdate → List ℕ
update_numbers None = 0 ∷ []
update_numbers (Some u) = 1 ∷ u.destination.0 ∷ u.next_hop.0 ∷ u.path_cost ∷ []

-- what is done with a reply; a relay names the hop and the cost
abbrev pub disposition_numbers : RouteReplyDisposition → List ℕ
disposition_numbers Drop = 0 ∷ []
disposition_numbers Established = 1 ∷ []
disposition_numbers (Relay hop cost) = 2 ∷ hop.0 ∷ cost ∷ []
