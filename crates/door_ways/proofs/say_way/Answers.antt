-- The record's word decides, as the definition goes; where it names no way, the hop of the Active route does.
use Rattle.std.specs.Prelude.{Option, Result, Some}
use mathlib.Core.Path.{◌≡◌, refl, sym, ap, ◌∙◌}
use borrow.Author.Rules.{rules}
use Rattle.standard.specs.declared.RecordRoute.{RecordRoute}
use Rattle.standard.specs.declared.RecordRoute.TheVariants.{Direct, SourceRoute}
use Rattle.route_table.specs.Lent.{seen_routes}
use Rattle.routing.specs.Records.{hop_to, answer_in}
use Rattle.door.proofs.Lent.{says-as}
use Rattle.door_ways.specs.Ways.{beside}
use Rattle.door_ways.proofs.say_way.Goals as goal
use Rattle.types.specs.declared.Nwk.{Nwk}
use Rattle.types.specs.declared.Refusal.{Refusal}

pub returns-in-Some-Direct : goal.returns-in-Some-Direct
returns-in-Some-Direct c =
    let e : Some Direct ≡ c.args.word = search rules in
    says-as (let a = c.args in ap (λ (w : Option RecordRoute). beside (answer_in (seen_routes a.routes.now) a.destination w) a.list) e) (record { status = refl; places = c.write_relayed.ensures })

pub returns-in-Some-SourceRoute : goal.returns-in-Some-SourceRoute
returns-in-Some-SourceRoute c =
    let e : Some SourceRoute ≡ c.args.word = search rules in
    says-as (let a = c.args in ap (λ (w : Option RecordRoute). beside (answer_in (seen_routes a.routes.now) a.destination w) a.list) e) (record { status = refl; places = c.write_relayed-in-Some-SourceRoute.ensures })

pub returns-in-None : goal.returns-in-None
returns-in-None c = says-as (ap (λ (h : Result (Option Nwk) Refusal). beside (hop_to h) c.args.list) c.next_hop-hop.ensures ∙ (let a = c.args in ap (λ (w : Option RecordRoute). beside (answer_in (seen_routes a.routes.now) a.destination w) a.list) (sym c.in-None.is))) c.say_hop.ensures
