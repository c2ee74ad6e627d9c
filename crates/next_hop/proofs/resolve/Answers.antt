-- States that are not well formed, a store that disagrees and lists too long are refused; of any other call the columns are lent, and the decision is theirs.
-- Assumes nothing.
use mathlib.Core.Bool.{Bool, true, false, ◌&&◌, ◌||◌}
use mathlib.Core.Path.{◌≡◌, refl, sym, ◌∙◌, subst}
use borrow.Author.Tests.{not-true, not-false}
use Rattle.standard.proofs.Tells.{tells_both}
use Rattle.neighbor_columns.specs.Table as neighbor
use Rattle.record_table.specs.Table.{RecordTable}
use Rattle.route_table.specs.Table.{rows_of}
use Rattle.relay_store.specs.Store.{agrees, Agrees}
use Rattle.relay_store.proofs.Agree.{agrees-told}
use Rattle.routing.specs.State as routes
use Rattle.routing.specs.State.{record_table}
use Rattle.routing.proofs.State as routes-of
use Rattle.neighbors.specs.State as neighbours
use Rattle.neighbors.specs.State.{table_in}
use Rattle.neighbors.proofs.State as neighbours-of
use Rattle.next_hop.specs.Decision.{decided_on, resolve}
use Rattle.next_hop.proofs.resolve.Goals as goal
use Rattle.next_hop.proofs.resolve.Goals.{Else-not-routes_fine-neighbors_fine, Else-not-agrees}

good : (c : Else-not-routes_fine-neighbors_fine) → (routes.well_formed c.args.routing && neighbours.well_formed c.args.neighbors) ≡ true
good c =
    let r = c.columns_formed-routes_fine in
    let n = c.columns_formed-neighbors_fine in
    rw (neighbours-of.columns-told c.args.neighbors n.ensures, routes-of.columns-told c.args.routing r.ensures) at (not-false (r.result && n.result) c.if-not-routes_fine-neighbors_fine.false-raw)

fit : (c : Else-not-agrees) → agrees (record_table c.args.routing) c.args.store.now ≡ true
fit c = sym c.agrees.ensures ∙ not-false _ c.if-not-agrees.false-raw

neither : (a b : Bool) → (a || b) ≡ false → a ≡ false
neither true b e = e
neither false b e = refl

pub returns-then-not-routes_fine-neighbors_fine : goal.returns-then-not-routes_fine-neighbors_fine
unfolding resolve
returns-then-not-routes_fine-neighbors_fine c =
    let r = c.columns_formed-routes_fine in
    let n = c.columns_formed-neighbors_fine in
    let ill = rw (neighbours-of.columns-told c.args.neighbors n.ensures, routes-of.columns-told c.args.routing r.ensures) at (not-true (r.result && n.result) c.if-not-routes_fine-neighbors_fine.true-raw) in
    rw ill c.refuse.ensures

pub agrees-requires : goal.agrees-requires
agrees-requires c = ((tells_both (routes-of.state-told _) (neighbours-of.state-told _)).fact (good (goal.at.agrees-requires c).Else-not-routes_fine-neighbors_fine)).0.records.ordered.long.1.0

pub returns-then-not-agrees : goal.returns-then-not-agrees
unfolding resolve
returns-then-not-agrees c = rw (good (goal.at.returns-then-not-agrees c).Else-not-routes_fine-neighbors_fine, sym c.agrees.ensures ∙ not-true _ c.if-not-agrees.true-raw) c.refuse-then-not-agrees.ensures

pub returns-then-names_long-carries_long : goal.returns-then-names_long-carries_long
unfolding resolve
returns-then-names_long-carries_long c =
    let long = rw (c.carries_long.ensures, c.names_long.ensures) at c.if-names_long-carries_long.true in
    rw (good (goal.at.returns-then-names_long-carries_long c).Else-not-routes_fine-neighbors_fine, fit (goal.at.returns-then-names_long-carries_long c).Else-not-agrees, long) c.refuse-then-names_long-carries_long.ensures

pub records_seen-requires : goal.records_seen-requires
records_seen-requires c = ((tells_both (routes-of.state-told _) (neighbours-of.state-told _)).fact (good (goal.at.records_seen-requires c).Else-not-routes_fine-neighbors_fine)).0

pub routes_seen-requires : goal.routes_seen-requires
routes_seen-requires c = ((tells_both (routes-of.state-told _) (neighbours-of.state-told _)).fact (good (goal.at.routes_seen-requires c).Else-not-routes_fine-neighbors_fine)).0

pub decide-requires : goal.decide-requires
decide-requires c =
    let formed = (tells_both (routes-of.state-told _) (neighbours-of.state-told _)).fact (good (goal.at.decide-requires c).Else-not-routes_fine-neighbors_fine) in
    let few = rw c.names_long.ensures at c.if-names_long-carries_long.false in
    (subst (λ (t : RecordTable). Agrees t c.args.store.now) (sym c.records_seen.ensures) ((agrees-told _ _).fact (fit (goal.at.decide-requires c).Else-not-agrees)), record { table = table_in c.args.neighbors; formed = formed.1.table.formed }, neither _ _ few)

pub returns : goal.returns
unfolding resolve
returns c =
    let formed = (tells_both (routes-of.state-told _) (neighbours-of.state-told _)).fact (good (goal.at.returns c).Else-not-routes_fine-neighbors_fine) in
    let few = rw (c.carries_long.ensures, c.names_long.ensures) at c.if-names_long-carries_long.false in
    rw (good (goal.at.returns c).Else-not-routes_fine-neighbors_fine, fit (goal.at.returns c).Else-not-agrees, few)
    (c.decide.ensures (table_in c.args.neighbors) formed.1.table.formed
    ∙ (λ z. decided_on (rows_of (c.routes_seen.ensures z)) (c.records_seen.ensures z) (neighbor.rows_of (table_in c.args.neighbors)) c.args.header c.args.mode c.args.policy c.args.store.now))
