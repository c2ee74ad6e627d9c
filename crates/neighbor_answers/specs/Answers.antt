-- The number and the values of each answer about neighbours.
-- Document 01, "How each place should look": "a definition gives this paper's number and values for each of its cases".
-- Assumes nothing.
use Rattle.std.specs.Prelude.{ℕ, List, [], ◌∷◌, ◌++◌, Option, Some, None, Result, Ok, Err, Bool}
use Rattle.numbers.specs.declared.Answer as numbers
use Rattle.numbers.specs.declared.Numbers.{Numbers}
use Rattle.numbers.specs.Said.{Said, ok, refused_by, flag_number, spoken}
use Rattle.neighbor_table.specs.declared.NeighborEntry.{NeighborEntry}
use Rattle.neighbor_table.specs.Entry.{device_type_number, quality_of, cost_of, is_child_of}
use Rattle.neighbor_queries.specs.declared.ChildList.{ChildList}
use Rattle.neighbor_queries.specs.declared.Eui64List.{Eui64List}
use Rattle.neighbor_queries.specs.declared.NwkList.{NwkList}
use Rattle.neighbor_queries.specs.declared.LinkStatusList.{LinkStatusList}
use Rattle.neighbor_queries.specs.declared.NeighborLink.{NeighborLink}
use Rattle.neighbor_queries.specs.declared.Capability.{Capability}
use Rattle.neighbor_values.specs.Values.{neighbor_numbers, children_numbers, eui64s_numbers, nwks_numbers, statuses_numbers}
use Rattle.types.specs.declared.Nwk.{Nwk}
use Rattle.types.specs.declared.Eui64.{Eui64}
use Rattle.types.specs.declared.Refusal.{Refusal}

-- 0 for none
abbrev pub nothing : Said
nothing = ok (0 ∷ [])

-- 1 and the values
abbrev pub given : List ℕ → Said
given xs = ok (1 ∷ xs)

abbrev pub truth_said : Result Bool Refusal → Said
truth_said (Ok b) = ok (flag_number b ∷ [])
truth_said (Err why) = refused_by why

abbrev pub count_said : Result ℕ Refusal → Said
count_said (Ok n) = ok (n ∷ [])
count_said (Err why) = refused_by why

abbrev pub eui64_said : Result (Option Eui64) Refusal → Said
eui64_said (Ok (Some a)) = given (a.0 ∷ [])
eui64_said (Ok None) = nothing
eui64_said (Err why) = refused_by why

abbrev pub nwk_said : Result (Option Nwk) Refusal → Said
nwk_said (Ok (Some a)) = given (a.0 ∷ [])
nwk_said (Ok None) = nothing
nwk_said (Err why) = refused_by why

-- the extended address, the outgoing and the incoming cost
abbrev pub link_given : NeighborLink → Said
link_given l = given (l.eui64.0 ∷ l.outgoing_cost ∷ l.incoming_cost ∷ [])

abbrev pub link_said : Result (Option NeighborLink) Refusal → Said
link_said (Ok (Some l)) = link_given l
link_said (Ok None) = nothing
link_said (Err why) = refused_by why

-- the device type, and whether it listens when idle
abbrev pub capability_said : Result (Option Capability) Refusal → Said
capability_said (Ok (Some able)) = given (device_type_number able.device_type ∷ flag_number able.rx_on_when_idle ∷ [])
capability_said (Ok None) = nothing
capability_said (Err why) = refused_by why

abbrev pub moment_said : Result (Option ℕ) Refusal → Said
moment_said (Ok (Some t)) = given (t ∷ [])
moment_said (Ok None) = nothing
moment_said (Err why) = refused_by why

-- nothing more is said of a call that is done
abbrev pub done_said : Result Unit Refusal → Said
done_said (Ok tt) = ok []
done_said (Err why) = refused_by why

-- what is said of an entry, if there is one
abbrev pub of_entry : (NeighborEntry → List ℕ) → Result (Option NeighborEntry) Refusal → Said
of_entry numbers (Ok (Some e)) = given (numbers e)
of_entry numbers (Ok None) = nothing
of_entry numbers (Err why) = refused_by why

-- the whole entry
abbrev pub entry_said : Result (Option NeighborEntry) Refusal → Said
entry_said a = of_entry neighbor_numbers a

-- a quality that is known, or none
abbrev pub quality_numbers : Option ℕ → List ℕ
quality_numbers None = 0 ∷ []
quality_numbers (Some q) = 1 ∷ q ∷ []

-- the entry's own questions: its quality, its incoming cost, whether it is a child
abbrev pub quality_said : Result (Option NeighborEntry) Refusal → Said
quality_said a = of_entry (λ e. quality_numbers (quality_of e.lqas)) a

abbrev pub cost_said : Result (Option NeighborEntry) Refusal → Said
cost_said a = of_entry (λ e. cost_of (quality_of e.lqas) ∷ []) a

abbrev pub is_child_said : Result (Option NeighborEntry) Refusal → Said
is_child_said a = of_entry (λ e. flag_number (is_child_of e.relationship) ∷ []) a

-- a call that answers a list
abbrev pub list_said : {L : Type 0} → (L → List ℕ) → Result L Refusal → Said
list_said numbers (Ok list) = ok (numbers list)
list_said numbers (Err why) = refused_by why

-- a call that answers values where it is done
abbrev pub said_of : Result Unit Refusal → List ℕ → Said
said_of (Ok tt) xs = ok xs
said_of (Err why) xs = refused_by why

-- the same of values that were put one after another
abbrev pub told_by : Result Unit Refusal → Numbers → numbers.Answer
told_by (Ok tt) n = record { kind = 0; numbers = n }
told_by (Err why) n = spoken (refused_by why)

abbrev pub children_said : Result ChildList Refusal → Said
children_said a = list_said children_numbers a

abbrev pub eui64s_said : Result Eui64List Refusal → Said
eui64s_said a = list_said eui64s_numbers a

abbrev pub nwks_said : Result NwkList Refusal → Said
nwks_said a = list_said nwks_numbers a

abbrev pub statuses_said : Result LinkStatusList Refusal → Said
statuses_said a = list_said statuses_numbers a

-- the children that were removed
abbrev pub removed_said : Result Unit Refusal → ChildList → Said
removed_said a removed = said_of a (children_numbers removed)

-- the children claimed back, then those that were removed
abbrev pub announced_said : Result Unit Refusal → Eui64List → ChildList → Said
announced_said a claimed removed = said_of a (eui64s_numbers claimed ++ children_numbers removed)
