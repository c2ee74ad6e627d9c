-- A list of relays that is given has as many as there are numbers, and is refused exactly where they are more than 32.
use Prim.Native.Nat.{ℕ, ◌<◌, ◌≤◌}
use mathlib.Core.Bool.{true, false}
use mathlib.Core.List.{List}
use mathlib.Core.Path.{◌≡◌, ap, sym, subst, ◌∙◌}
use borrow.Author.Tests.{lt-ltb, le-ltb}
use lib.Dec.{ltb}
use lib.ListN.{length, length-map}
use Rattle.standard.specs.Route.{nwk}
use Rattle.relay_store.specs.Store.{relay_list}
use Rattle.door_records.specs.Records.{given}

module _ (relays : List ℕ) where
  as_many : (given relays).count ≡ length relays
  unfolding relay_list
  as_many = length-map relays nwk

  pub given-few : length relays ≤ 32 → (given relays).count ≤ 32
  given-few h = subst (λ (n : ℕ). n ≤ 32) (sym as_many) h

  pub given-short : length relays ≤ 32 → ltb 32 (given relays).count ≡ false
  given-short h = ap (ltb 32) as_many ∙ le-ltb 32 (length relays) h

  pub given-long : 32 < length relays → ltb 32 (given relays).count ≡ true
  given-long h = ap (ltb 32) as_many ∙ lt-ltb 32 (length relays) h
