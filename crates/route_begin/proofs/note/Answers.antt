-- The discovery stands under its pair, whose place is sought.
-- Assumes nothing.
use Prim.Native.Nat.{ℕ, ◌≤◌}
use mathlib.Core.Path.{sym, ap, ◌∙◌, subst}
use Rattle.standard.specs.Discovery.{pair_key, discovery_key}
use Rattle.standard.specs.Ordered.{count_with}
use Rattle.discovery_table.specs.Lent.{table, discoveries_of, place_in}
use Rattle.discovery_table.specs.Table.{DiscoveryTable}
use Rattle.route_begin.proofs.note.Goals as goal

pub put_at-requires : goal.put_at-requires
put_at-requires c =
    let a = c.args in
    let d = a.discoveries.now in (
      c.place_of-pair.ensures ∙ ap (λ (t : DiscoveryTable). place_in t (pair_key a.own a.id)) c.seen.ensures ∙ sym (ap (place_in (table d)) c.requires.0),
      subst (λ (k : ℕ). count_with discovery_key k (discoveries_of d) ≤ 32) (sym c.requires.0) c.requires.1,
    )
