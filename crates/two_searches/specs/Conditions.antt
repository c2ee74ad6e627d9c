-- The conditions under which two searches cannot disturb each other, phrase by phrase. Demand 3:
--   "From well-formed tables and a relay store that agrees with them, take two streams of replies for two searches held in the
--   discovery table, one responder each, our own address unchanged. The responders differ from each other and from both originators;
--   the originators differ unless both are us; responders and foreign originators have route entries; no other call comes between."
-- Assumes nothing.
use Rattle.std.specs.Prelude.{ℕ, ◌<◌, ◌≤◌, ◌≡◌, ◌≢◌, length, Some}
use Rattle.types.specs.declared.Nwk.{Nwk}
use Rattle.standard.specs.declared.RouteEntry.{RouteEntry}
use Rattle.standard.specs.declared.DiscoveryEntry.{DiscoveryEntry}
use Rattle.standard.specs.Ordered.{lookup}
use Rattle.standard.specs.Route.{route_key}
use Rattle.standard.specs.Discovery.{pair_key, discovery_key}
use Rattle.standard.specs.Tables.{Tables, InOrder}
use Rattle.flat_map.specs.Table.{Each}
use Rattle.route_table.specs.Codec as route
use Rattle.discovery_table.specs.Codec as discovery
use Rattle.two_searches.specs.Streams.{Search}

-- the key of a search in the discovery table
abbrev pub search_key : Search → ℕ
search_key s = pair_key s.originator s.id

-- the discovery d is the search's
abbrev pub HeldAs : Search → DiscoveryEntry → Tables → Type 0
HeldAs s d t = lookup discovery_key (search_key s) t.discoveries ≡ Some d

-- r is the route to n
abbrev pub RouteTo : Nwk → RouteEntry → Tables → Type 0
RouteTo n r t = lookup route_key n.0 t.routes ≡ Some r

-- the search is in the discovery table
abbrev pub Held : Search → Tables → Type 0
Held s t = (d : DiscoveryEntry) × HeldAs s d t

-- n has a route entry
abbrev pub Known : Nwk → Tables → Type 0
Known n t = (r : RouteEntry) × RouteTo n r t

-- n is neither originator
abbrev pub NoOriginator : Nwk → Search → Search → Type 0
NoOriginator n a b = (n ≢ a.originator) × (n ≢ b.originator)

-- a foreign originator has a route entry
abbrev pub ForeignKnown : Nwk → Search → Tables → Type 0
ForeignKnown own s t = s.originator ≢ own → Known s.originator t

-- "From well-formed tables and a relay store that agrees with them": on rows that is `InOrder t`, which stands beside this record in a
-- theorem that needs it; no reply reads or writes the store.
pub record Conditions (own : Nwk) (a b : Search) (t : Tables) : Type 0 where
  -- "take two streams of replies for two searches": two pairs of originator and id, and an id is a byte
  pub pairs-differ : a.originator ≡ b.originator → a.id ≢ b.id
  pub ids-are-bytes : (a.id < 256) × (b.id < 256)
  -- "held in the discovery table"
  pub held : Held a t × Held b t
  -- "one responder each": a `Search` has one; "our own address unchanged": `own` is one for all replies
  -- "The responders differ from each other"
  pub responders-differ : a.responder ≢ b.responder
  -- "and from both originators"
  pub no-responder-is-originator : NoOriginator a.responder a b × NoOriginator b.responder a b
  -- "the originators differ unless both are us"
  pub originators-differ : a.originator ≡ b.originator → a.originator ≡ own
  -- "responders .. have route entries"
  pub responders-known : Known a.responder t × Known b.responder t
  -- "and foreign originators"
  pub originators-known : ForeignKnown own a t × ForeignKnown own b t
  -- "no other call comes between": a `Merge` of the streams holds their replies and nothing else

-- What of them the merge itself needs, whatever the tables hold: no route that one search writes is read or written by the other.
-- A search writes its responder's route and, if it is another node's, its originator's.
pub record Apart (own : Nwk) (a b : Search) : Type 0 where
  pub keys-apart : search_key a ≢ search_key b
  pub responders-apart : a.responder ≢ b.responder
  pub first-responder-apart : b.originator ≢ own → a.responder ≢ b.originator
  pub second-responder-apart : a.originator ≢ own → b.responder ≢ a.originator
  pub originators-apart : a.originator ≡ b.originator → a.originator ≡ own

-- The numbers of every row are within their fields, as those of a well-formed state's rows are.
pub record Ranged (t : Tables) : Type 0 where
  pub routes : Each route.InRange t.routes
  pub discoveries : Each discovery.InRange t.discoveries

-- Tables that meet the conditions, are in order and within range and have room for what they hold: from such tables no reply is refused.
pub record Fits (own : Nwk) (a b : Search) (routes discoveries : ℕ) (t : Tables) : Type 0 where
  pub conditions : Conditions own a b t
  pub in_order : InOrder t
  -- a row's numbers are within their fields, so that columns can hold them
  pub in-range : Ranged t
  pub routes-fit : length t.routes ≤ routes
  pub discoveries-fit : length t.discoveries ≤ discoveries
