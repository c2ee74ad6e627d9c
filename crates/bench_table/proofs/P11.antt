-- P11: "limit 3: two relays go by source route, three fall back; limit 0, no relays: direct."
-- The rule that the contract of `route_to` cites computes to these ways; where it names none, the Active route decides.
use Rattle.std.specs.Prelude.{Some}
use mathlib.Core.List.{[], ◌∷◌}
use mathlib.Core.Path.{◌≡◌, refl}
use Rattle.types.specs.declared.Nwk.{Nwk}
use Rattle.standard.specs.declared.RecordRoute.TheVariants.{Direct, SourceRoute}
use Rattle.standard.specs.Records.{no_way, record_for, way_by}

module _ (d a b c : Nwk) where
  pub p11-two : way_by 3 (Some (record_for d (a ∷ b ∷ []))) ≡ record { route = Some SourceRoute; relays = a ∷ b ∷ [] }
  p11-two = refl

  pub p11-three : way_by 3 (Some (record_for d (a ∷ b ∷ c ∷ []))) ≡ no_way
  p11-three = refl

  pub p11-none : way_by 0 (Some (record_for d [])) ≡ record { route = Some Direct; relays = [] }
  p11-none = refl
