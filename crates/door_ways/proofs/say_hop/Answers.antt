-- The hop's answer decides, as the definition goes.
use Rattle.std.specs.Prelude.{Ok, Option, Result, Some, None}
use mathlib.Core.Path.{◌≡◌, refl, sym, ap}
use borrow.Author.Rules.{rules}
use Rattle.routing.specs.Records.{hop_to}
use Rattle.door.proofs.Lent.{says-as}
use Rattle.door_ways.specs.Ways.{beside}
use Rattle.door_ways.proofs.say_hop.Goals as goal
use Rattle.types.specs.declared.Nwk.{Nwk}
use Rattle.types.specs.declared.Refusal.{Refusal}

pub returns-in-Ok-None : goal.returns-in-Ok-None
returns-in-Ok-None c =
    let e : Ok None ≡ c.args.hop = search rules in
    says-as (ap (λ (h : Result (Option Nwk) Refusal). beside (hop_to h) c.args.list) e) (record { status = refl; places = c.write_relayed.ensures })

pub returns-in-Ok-Some : goal.returns-in-Ok-Some
returns-in-Ok-Some c =
    let e : Ok (Some c.in-Ok-Some.n) ≡ c.args.hop = search rules in
    says-as (ap (λ (h : Result (Option Nwk) Refusal). beside (hop_to h) c.args.list) e) (record { status = refl; places = c.write_relayed-in-Ok-Some.ensures })

pub returns-in-Err : goal.returns-in-Err
returns-in-Err c = says-as (ap (λ (h : Result (Option Nwk) Refusal). beside (hop_to h) c.args.list) (sym c.in-Err.is)) (record { status = c.number.ensures; places = refl })
