-- The conditions can be met: worked tables with searches that meet them all, and a merge of six replies.
-- Every answer and the end are found by computing the rule.
use Rattle.std.specs.Prelude.{Option, Some, None}
use Prim.Native.Nat.{ℕ, ◌%◌}
use mathlib.Core.Path.{◌≡◌, refl}
use mathlib.Core.Logic.{◌⊎◌, inl, inr, ◌≢◌}
use mathlib.Core.List.{List, [], ◌∷◌}
use native.Mathlib.Omega.{arith}
use Rattle.types.specs.declared.Nwk.{Nwk}
use Rattle.standard.specs.declared.RouteEntry.{RouteEntry}
use Rattle.standard.specs.declared.DiscoveryEntry.{DiscoveryEntry}
use Rattle.standard.specs.declared.Status.TheVariants.{DiscoveryUnderway, Inactive}
use Rattle.standard.specs.declared.RouteReplyDisposition.{RouteReplyDisposition}
use Rattle.standard.specs.declared.RouteReplyDisposition.TheVariants.{Established, Relay}
use Rattle.standard.specs.Ordered.{lookup, put}
use Rattle.standard.specs.Route.{nwk, unknown_hop, new_route, via, considered, considering, news}
use Rattle.standard.specs.Request.{new_discovery}
use Rattle.standard.specs.Begin.{own_discovery}
use Rattle.standard.specs.Reply.{settled, reply_ours, reply_theirs, reply_to, reply}
use Rattle.standard.specs.Tables.{Tables, InOrder}
use Rattle.two_searches.specs.Streams.{Search, Heard, Answer, hear, answers, final, Merge, done, of-first, of-second, either, hear_both}
use Rattle.two_searches.specs.Conditions.{Conditions}
use Rattle.two_searches.specs.Exactly.{drop_answer}
use Rattle.two_searches.specs.Promise.{Promise}
use Rattle.two_searches.proofs.Merged.{addresses-differ}
use Rattle.two_searches.proofs.TwoSearches.{two-searches}
use Rattle.standard.specs.declared.RouteUpdate.{RouteUpdate}

-- our own address
abbrev pub own : Nwk
own = nwk 0x0000

-- the way back to 1111 was lost since its requests came by 2222 and by 6666; the one to 3333 is in use; two loggers are looked for
abbrev pub lost : RouteEntry
lost = new_route (nwk 0x1111) Inactive (nwk 0x2222)

abbrev pub in_use : RouteEntry
in_use = via (nwk 0x2222) 5 (new_route (nwk 0x3333) Inactive unknown_hop)

abbrev pub wanted : ℕ → RouteEntry
wanted logger = new_route (nwk logger) DiscoveryUnderway unknown_hop

abbrev pub our_first : DiscoveryEntry
our_first = own_discovery own 1 10000 (nwk 0x5555)

abbrev pub our_second : DiscoveryEntry
our_second = own_discovery own 2 10000 (nwk 0x4444)

abbrev pub their_first : DiscoveryEntry
their_first = new_discovery (nwk 0x1111) 7 (nwk 0x2222) 5 10000 (nwk 0x4444)

abbrev pub their_second : DiscoveryEntry
their_second = new_discovery (nwk 0x1111) 8 (nwk 0x6666) 5 10000 (nwk 0x5555)

abbrev pub another : DiscoveryEntry
another = new_discovery (nwk 0x3333) 9 (nwk 0x2222) 5 10000 (nwk 0x5555)

abbrev pub tables : Tables
tables = record {
  routes = lost ∷ in_use ∷ wanted 0x4444 ∷ wanted 0x5555 ∷ [];
  discoveries = our_first ∷ our_second ∷ their_first ∷ their_second ∷ another ∷ [];
}

abbrev pub search : ℕ → ℕ → ℕ → Search
search originator id responder = record { originator = nwk originator; id = id; responder = nwk responder }

infix 80 from◌at◌
abbrev pub from◌at◌ : ℕ → ℕ → Heard
from sender at cost = record { sender = nwk (sender % 65536); cost = cost % 256; short = omega arith; byte = omega arith }

-- "From well-formed tables": in order
pub worked-in-order : InOrder tables
worked-in-order = record { routes = omega arith; discoveries = omega arith }

-- two addresses that are numbered differently
pub differ : (m n : ℕ) → m ≢ n → nwk m ≢ nwk n
differ m n h = addresses-differ (nwk m) (nwk n) h

-- another node's search and one of ours
pub theirs-and-ours : Conditions own (search 0x1111 7 0x4444) (search 0x0000 1 0x5555) tables
unfolding lookup
theirs-and-ours =
    record {
      pairs-differ = λ e. omega arith;
      ids-are-bytes = omega arith;
      held = ((their_first, refl), (our_first, refl));
      responders-differ = differ 0x4444 0x5555 (omega arith);
      no-responder-is-originator = (
        (differ 0x4444 0x1111 (omega arith), differ 0x4444 0x0000 (omega arith)),
        (differ 0x5555 0x1111 (omega arith), differ 0x5555 0x0000 (omega arith)),
      );
      originators-differ = λ e. absurd (differ 0x1111 0x0000 (omega arith) e);
      responders-known = ((wanted 0x4444, refl), (wanted 0x5555, refl));
      originators-known = (λ n. (lost, refl), λ n. absurd (n refl));
    }

-- two searches of other nodes
pub both-theirs : Conditions own (search 0x1111 7 0x4444) (search 0x3333 9 0x5555) tables
unfolding lookup
both-theirs =
    record {
      pairs-differ = λ e. omega arith;
      ids-are-bytes = omega arith;
      held = ((their_first, refl), (another, refl));
      responders-differ = differ 0x4444 0x5555 (omega arith);
      no-responder-is-originator = (
        (differ 0x4444 0x1111 (omega arith), differ 0x4444 0x3333 (omega arith)),
        (differ 0x5555 0x1111 (omega arith), differ 0x5555 0x3333 (omega arith)),
      );
      originators-differ = λ e. absurd (differ 0x1111 0x3333 (omega arith) e);
      responders-known = ((wanted 0x4444, refl), (wanted 0x5555, refl));
      originators-known = (λ n. (lost, refl), λ n. (in_use, refl));
    }

-- two of our own
pub both-ours : Conditions own (search 0x0000 2 0x4444) (search 0x0000 1 0x5555) tables
unfolding lookup
both-ours =
    record {
      pairs-differ = λ e. omega arith;
      ids-are-bytes = omega arith;
      held = ((our_second, refl), (our_first, refl));
      responders-differ = differ 0x4444 0x5555 (omega arith);
      no-responder-is-originator = (
        (differ 0x4444 0x0000 (omega arith), differ 0x4444 0x0000 (omega arith)),
        (differ 0x5555 0x0000 (omega arith), differ 0x5555 0x0000 (omega arith)),
      );
      originators-differ = λ e. refl;
      responders-known = ((wanted 0x4444, refl), (wanted 0x5555, refl));
      originators-known = (λ n. absurd (n refl), λ n. absurd (n refl));
    }

-- three replies each to another node's search and to ours, and one way of merging them
abbrev their_stream : List Heard
their_stream = from 0x6666 at 9 ∷ from 0x7777 at 9 ∷ from 0x8888 at 8 ∷ []

abbrev our_stream : List Heard
our_stream = from 0x6666 at 12 ∷ from 0x7777 at 14 ∷ from 0x8888 at 10 ∷ []

abbrev mixed : List (Heard ⊎ Heard)
mixed =
    inl (from 0x6666 at 9) ∷ inr (from 0x6666 at 12) ∷ inr (from 0x7777 at 14) ∷ inl (from 0x7777 at 9) ∷ inl (from 0x8888 at 8)
    ∷ inr (from 0x8888 at 10) ∷ []

pub six : Merge their_stream our_stream mixed
six = of-first (of-second (of-second (of-first (of-first (of-second done)))))

abbrev pub changed : ℕ → ℕ → ℕ → Option RouteUpdate
changed destination hop cost = Some (record { destination = nwk destination; next_hop = nwk hop; path_cost = cost })

abbrev pub answer : RouteReplyDisposition → Option RouteUpdate → Answer
answer d u = record { disposition = d; update = u }

-- relayed (and the way back to 1111 is made again), established, dropped, dropped, relayed, established
pub six-answers : answers (hear_both own (search 0x1111 7 0x4444) (search 0x0000 1 0x5555)) mixed tables
    ≡ inl (answer (Relay (nwk 0x2222) 9) (changed 0x1111 0x2222 5)) ∷ inr (answer Established (changed 0x5555 0x6666 12)) ∷ inr drop_answer
    ∷ inl drop_answer ∷ inl (answer (Relay (nwk 0x2222) 8) None) ∷ inr (answer Established (changed 0x5555 0x8888 10)) ∷ []
unfolding answers either hear reply reply_to reply_ours reply_theirs lookup put considered considering news
six-answers = refl

-- each logger's route is by the sender of its last reply taken
pub six-end : final (hear_both own (search 0x1111 7 0x4444) (search 0x0000 1 0x5555)) mixed tables
    ≡ record {
      routes = via (nwk 0x2222) 5 lost ∷ in_use ∷ via (nwk 0x8888) 8 (wanted 0x4444) ∷ via (nwk 0x8888) 10 (wanted 0x5555) ∷ [];
      discoveries = settled 10 our_first ∷ our_second ∷ settled 8 their_first ∷ their_second ∷ another ∷ [];
    }
unfolding final either hear reply reply_to reply_ours reply_theirs lookup put considered considering news
six-end = refl

-- and what the theorem promises of this merge, as of every other
pub six-promise : Promise own (search 0x1111 7 0x4444) (search 0x0000 1 0x5555) their_stream our_stream mixed tables
six-promise = two-searches own (search 0x1111 7 0x4444) (search 0x0000 1 0x5555) tables worked-in-order theirs-and-ours six
