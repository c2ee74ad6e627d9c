-- What the calls about children leave of columns that are lent. An address that may be given is a flag and a number; a device type and a
-- relationship are their numbers.
-- Document 01, "How each place should look": "a definition gives this paper's number and values for each of its cases".
-- Assumes nothing.
use Rattle.std.specs.Prelude.{ℕ, ◌≤◌, cond, eqb, Option, Some, None}
use Rattle.neighbor_columns.specs.Kinds.{device_type_of, relationship_of}
use Rattle.children.specs.declared.ChildDescriptor.{ChildDescriptor}
use Rattle.neighbors.specs.declared.Neighbors.{Neighbors}
use Rattle.neighbor_calls.specs.declared.TruthOutcome.{TruthOutcome}
use Rattle.neighbor_calls.specs.declared.NwkOutcome.{NwkOutcome}
use Rattle.neighbor_calls.specs.Children.{refresh_child_timeout, upsert_child}
use Rattle.door.specs.Lent.{Made, NotMade}
use Rattle.door_neighbors.specs.declared.AddressPlaces.{AddressPlaces}
use Rattle.door_neighbors.specs.Answers.{truth_numbers, address_numbers}
use Rattle.door_neighbors.specs.Lent.{DoneMade}
use Rattle.types.specs.declared.Nwk.{Nwk}
use Rattle.types.specs.declared.Eui64.{Eui64}

-- what a call leaves that is told yes or no, and one that is told a network address
abbrev pub TruthMade : (Neighbors → TruthOutcome) → (Unit {0} → Neighbors) → (Unit {0} → Neighbors) → ℕ → ℕ → ℕ → Type 0
TruthMade call before after old new r = Made truth_numbers (λ (x : TruthOutcome). x.answer) (λ (x : TruthOutcome). x.state) call before after old new r

abbrev pub AddressMade : (Neighbors → NwkOutcome) → (Unit {0} → Neighbors) → (Unit {0} → Neighbors) → AddressPlaces → AddressPlaces → ℕ → Type 0
AddressMade call before after old new r = Made address_numbers (λ (x : NwkOutcome). x.answer) (λ (x : NwkOutcome). x.state) call before after old new r

-- an address that is given where its flag is 1
abbrev pub maybe_name : ℕ → ℕ → Option Eui64
maybe_name given n = cond (eqb given 1) (Some (record { 0 = n })) None

abbrev pub maybe_address : ℕ → ℕ → Option Nwk
maybe_address given n = cond (eqb given 1) (Some (record { 0 = n })) None

-- a flag is 0 or 1: what is given otherwise is no call, whatever the state
pub record RefreshMade (before after : Unit {0} → Neighbors) (named name addressed address now old new r : ℕ) : Type 0 where
  pub call : (named ≤ 1) × (addressed ≤ 1)
      → TruthMade (λ (s : Neighbors). refresh_child_timeout s (maybe_name named name) (maybe_address addressed address) now) before after old new r
  pub none : ((named ≤ 1) × (addressed ≤ 1) → ⊥) → NotMade before after old new r

-- a child as it joins or rejoins
abbrev pub child_of : ℕ → ℕ → ℕ → ℕ → ℕ → ℕ → ChildDescriptor
child_of name address kind listens timeout relation = record {
  eui64 = record { 0 = name };
  network_address = record { 0 = address };
  device_type = device_type_of kind;
  rx_on_when_idle = eqb listens 1;
  device_timeout = timeout;
  relationship = relationship_of relation;
}

-- there are three device types and ten relationships, and a flag is 0 or 1
pub record IsChild (a b c : ℕ) : Type 0 where
  pub kind : a ≤ 2
  pub listens : b ≤ 1
  pub relation : c ≤ 9

pub record UpsertMade (before after : Unit {0} → Neighbors) (name address kind listens timeout relation now r : ℕ) : Type 0 where
  pub call : IsChild kind listens relation → DoneMade (λ (s : Neighbors). upsert_child s (child_of name address kind listens timeout relation) now) before after r
  pub none : (IsChild kind listens relation → ⊥) → NotMade {P = Unit {0}} before after tt tt r
