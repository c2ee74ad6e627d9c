-- Places that are not 64 are no call. Columns that are not well formed are refused; of any others the list of the columns is written.
use mathlib.Core.Path.{refl, ap, ◌∙◌}
use borrow.Author.Tests.{not-true, not-false}
use Rattle.neighbor_queries_lent.proofs.Ready.{words-in-use}
use Rattle.neighbors.specs.State.{well_formed}
use Rattle.neighbors.specs.Queries.{link_status_entries}
use Rattle.door.proofs.Lent.{ill-asked, rule-asked}
use Rattle.door_neighbors.proofs.Lent.{test_of, formed-in}
use Rattle.door_lists.specs.Lists.{statuses_out}
use Rattle.door_neighbor_lists.proofs.Lent.{table_of}
use Rattle.door_neighbor_lists.proofs.warpteasel_raw_link_status_entries.Goals as goal

pub returns-then-addresses-ne64 : goal.returns-then-addresses-ne64
returns-then-addresses-ne64 c = record { call = λ h. absurd (c.if-addresses-ne64.true h.0); none = λ _. record { places = refl; status = refl } }

pub returns-then-incoming_costs-ne64 : goal.returns-then-incoming_costs-ne64
returns-then-incoming_costs-ne64 c = record { call = λ h. absurd (c.if-incoming_costs-ne64.true h.1); none = λ _. record { places = refl; status = refl } }

pub returns-then-outgoing_costs-ne64 : goal.returns-then-outgoing_costs-ne64
returns-then-outgoing_costs-ne64 c = record { call = λ h. absurd (c.if-outgoing_costs-ne64.true h.2); none = λ _. record { places = refl; status = refl } }

pub returns-then-not-columns_formed : goal.returns-then-not-columns_formed
unfolding link_status_entries
returns-then-not-columns_formed c =
    record {
      call = λ _. ill-asked well_formed _ _ (test_of _ _ _ c.columns_formed.ensures (not-true _ c.if-not-columns_formed.true-raw)) (λ _. record { status = refl; places = refl });
      none = λ n. absurd (n (c.if-addresses-ne64.false, c.if-incoming_costs-ne64.false, c.if-outgoing_costs-ne64.false));
    }

pub link_status_entries-list-requires : goal.link_status_entries-list-requires
link_status_entries-list-requires c = words-in-use _ (formed-in _ _ _ c.columns_formed.ensures (not-false _ c.if-not-columns_formed.false-raw)).table.formed

pub returns : goal.returns
unfolding link_status_entries
returns c =
    let e = c.columns_formed.ensures in
    let p = not-false _ c.if-not-columns_formed.false-raw in
    let list = c.link_status_entries-list.ensures (table_of _ _ _ e) (formed-in _ _ _ e p).table.formed in
    record {
      call = λ _. rule-asked well_formed _ _ (test_of _ _ _ e p) (λ _. record { status = refl; places = c.write_statuses.ensures ∙ ap statuses_out list });
      none = λ n. absurd (n (c.if-addresses-ne64.false, c.if-incoming_costs-ne64.false, c.if-outgoing_costs-ne64.false));
    }
