-- P1: "quality 16, 17, 192, 193 give 7, 6, 2, 1."
-- The definition that the contract of `lqi_to_link_cost` cites computes to these costs.
use mathlib.Core.Path.{◌≡◌, refl}
use Rattle.standard.specs.LinkCost.{link_cost}

pub p1-16 : link_cost 16 ≡ 7
p1-16 = refl

pub p1-17 : link_cost 17 ≡ 6
p1-17 = refl

pub p1-192 : link_cost 192 ≡ 2
p1-192 = refl

pub p1-193 : link_cost 193 ≡ 1
p1-193 = refl
