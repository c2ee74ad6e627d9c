-- Places that are not 64 are no call. Columns that are not well formed are refused; of any others the list of the columns is written.
use mathlib.Core.Path.{refl, ap, ◌∙◌}
use borrow.Author.Tests.{not-true, not-false}
use Rattle.neighbor_queries_lent.proofs.Ready.{seen-in-use}
use Rattle.neighbors.specs.State.{well_formed}
use Rattle.neighbors.specs.Queries.{sleepy_children}
use Rattle.door.proofs.Lent.{ill-asked, rule-asked}
use Rattle.door_neighbors.proofs.Lent.{test_of, formed-in}
use Rattle.door_lists.specs.Lists.{children_out}
use Rattle.door_neighbor_lists.proofs.Lent.{table_of}
use Rattle.door_neighbor_lists.proofs.warpteasel_raw_sleepy_children.Goals as goal

pub returns-then-eui64s-ne64 : goal.returns-then-eui64s-ne64
returns-then-eui64s-ne64 c = record { call = λ h. absurd (c.if-eui64s-ne64.true h.0); none = λ _. record { places = refl; status = refl } }

pub returns-then-addresses-ne64 : goal.returns-then-addresses-ne64
returns-then-addresses-ne64 c = record { call = λ h. absurd (c.if-addresses-ne64.true h.1); none = λ _. record { places = refl; status = refl } }

pub returns-then-not-columns_formed : goal.returns-then-not-columns_formed
unfolding sleepy_children
returns-then-not-columns_formed c =
    record {
      call = λ _. ill-asked well_formed _ _ (test_of _ _ _ c.columns_formed.ensures (not-true _ c.if-not-columns_formed.true-raw)) (λ _. record { status = refl; places = refl });
      none = λ n. absurd (n (c.if-eui64s-ne64.false, c.if-addresses-ne64.false));
    }

pub sleepy_children-list-requires : goal.sleepy_children-list-requires
sleepy_children-list-requires c = seen-in-use _ (formed-in _ _ _ c.columns_formed.ensures (not-false _ c.if-not-columns_formed.false-raw)).table.formed

pub returns : goal.returns
unfolding sleepy_children
returns c =
    let e = c.columns_formed.ensures in
    let p = not-false _ c.if-not-columns_formed.false-raw in
    let list = c.sleepy_children-list.ensures (table_of _ _ _ e) (formed-in _ _ _ e p).table.formed in
    record {
      call = λ _. rule-asked well_formed _ _ (test_of _ _ _ e p) (λ _. record { status = refl; places = c.write_children.ensures ∙ ap children_out list });
      none = λ n. absurd (n (c.if-eui64s-ne64.false, c.if-addresses-ne64.false));
    }
