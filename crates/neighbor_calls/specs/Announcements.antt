-- What an announcement and a claim of another router answer and leave: the rule on the rows, for a well-formed state; refusal 10 for any other.
-- A list of more than 64 is refused with 8 and leaves the rows, and with them a well-formed state (`rows-kept`).
-- Document 01, "Refusal numbers"; 05-3474, sections 2.4.4.2.22.1 and 2.4.4.2.22.2.
-- Assumes nothing.
use Rattle.std.specs.Prelude.{true, false, cond, [], Result, Err}
use Rattle.types.specs.declared.Refusal.{Refusal}
use Rattle.types.specs.declared.Refusal.TheVariants.{StateIllFormed}
use Rattle.neighbor_queries.specs.declared.Eui64List.{Eui64List}
use Rattle.neighbor_queries.specs.Lists.{eui_list, child_list}
use Rattle.parent_annce.specs.Settle.{Settling}
use Rattle.parent_annce.specs.Rules.{list_answer, settled_by}
use Rattle.neighbors.specs.declared.Neighbors.{Neighbors}
use Rattle.neighbors.specs.State.{well_formed, rows, with_rows}
use Rattle.neighbor_calls.specs.declared.Removal.{Removal}
use Rattle.neighbor_calls.specs.declared.Announced.{Announced}
use Rattle.neighbor_calls.specs.Outcomes.{refused_removal}

abbrev pub refused_announced : Neighbors → Refusal → Announced
refused_announced s r = record { answer = Err r; claimed = eui_list []; removed = child_list []; state = s }

abbrev pub removed_by : Neighbors → Result Unit Refusal → Settling → Removal
removed_by s answer x = record { answer = answer; removed = child_list x.removed; state = with_rows s x.rows }

abbrev pub announced_by : Neighbors → Result Unit Refusal → Settling → Announced
announced_by s answer x = record { answer = answer; claimed = eui_list x.claimed; removed = child_list x.removed; state = with_rows s x.rows }

-- every end device of the list goes
unfoldable pub remove_claimed_children : Neighbors → Eui64List → Removal
remove_claimed_children s list = cond (well_formed s) (removed_by s (list_answer list) (settled_by false list (rows s))) (refused_removal s StateIllFormed)

-- those that have sent a keepalive here are claimed back
unfoldable pub process_parent_annce : Neighbors → Eui64List → Announced
process_parent_annce s list = cond (well_formed s) (announced_by s (list_answer list) (settled_by true list (rows s))) (refused_announced s StateIllFormed)
