-- What an announcement and a claim of another router answer and leave, as rules on the rows.
-- Document 01, "Refusal numbers": 8; "announced or claimed addresses in one call 64"; "All hand back the given state .. unchanged and no other answer".
-- Assumes nothing.
use Rattle.std.specs.Prelude.{ℕ, Bool, cond, ◌&&◌, List, ◌≡◌, ltb, take, get_or, Result, Ok, Err}
use Rattle.types.specs.declared.Eui64.{Eui64}
use Rattle.types.specs.declared.Nwk.{Nwk}
use Rattle.types.specs.declared.Refusal.TheVariants.{ListTooLong}
use Rattle.neighbor_table.specs.declared.NeighborEntry.{NeighborEntry}
use Rattle.neighbor_table.specs.Entry.{is_end_device}
use Rattle.neighbor_columns.specs.Codec.{link_of}
use Rattle.neighbor_columns.specs.Table.{NeighborTable, Holds}
use Rattle.neighbor_queries.specs.declared.Child.{Child}
use Rattle.neighbor_queries.specs.declared.ChildList.{ChildList}
use Rattle.neighbor_queries.specs.declared.Eui64List.{Eui64List}
use Rattle.neighbor_queries.specs.Lists.{eui_list, child_list}
use Rattle.parent_annce.specs.Settle.{Settling, settle_one, settle_all, start}
use Rattle.parent_annce.specs.declared.Verdict.{Verdict}
use Rattle.parent_annce.specs.declared.Verdict.TheVariants.{Away, Claimed, Goes}
use Rattle.types.specs.declared.Refusal.{Refusal}

-- what the neighbour in a place means, by its link word, and what an address does, by where it stands
abbrev pub judged : Bool → ℕ → ℕ → Verdict
judged confirm word i = cond (is_end_device (link_of word).device_type) (cond (confirm && (link_of word).keepalive_received) Claimed (Goes i)) Away

abbrev pub verdict_at : Bool → List ℕ → Result ℕ ℕ → Verdict
verdict_at confirm links (Ok i) = judged confirm (get_or links i 0) i
verdict_at confirm links (Err i) = Away

abbrev pub child : Eui64 → Nwk → Child
child eui64 nwk = record { eui64 = eui64; network_address = nwk }

-- columns and lists that hold how far a list has been gone through
pub record Reaches (t : NeighborTable) (claimed : Eui64List) (removed : ChildList) (x : Settling) : Type 0 where
  pub neighbors : Holds t x.rows
  pub claims : claimed ≡ eui_list x.claimed
  pub removals : removed ≡ child_list x.removed

-- one address more
abbrev pub Advances : NeighborTable → Eui64List → ChildList → NeighborTable → Eui64List → ChildList → Bool → Eui64 → Type 0
Advances t claimed removed u claimed' removed' confirm eui64 = (x : Settling) → Reaches t claimed removed x → Reaches u claimed' removed' (settle_one confirm eui64 x)

-- refusal 8 for a list of more than 64, which leaves everything as it is; any other is gone through in its order
abbrev pub list_answer : Eui64List → Result Unit Refusal
list_answer list = cond (ltb 64 list.count) (Err ListTooLong) (Ok tt)

abbrev pub settled_by : Bool → Eui64List → List NeighborEntry → Settling
settled_by confirm list xs = cond (ltb 64 list.count) (start xs) (settle_all confirm (take list.count list.addresses) (start xs))
