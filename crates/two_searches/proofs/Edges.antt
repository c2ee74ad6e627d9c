-- Where the promise ends: for each condition the smallest example without it, and what happens there, found by computing the rule.
-- Tables and searches are those of Worked, which meet every condition, with the one thing changed that the example is about;
-- OneBroken shows that all other conditions still hold.
--
-- Two conditions are wider than the merge needs, as `merged-apart` (Merged) shows: a responder may be its own search's originator, and it
-- may be an originator that is us. The first is needed for the route that is left: `responder-is-own-originator`. For the second nothing
-- fails: an own search writes no originator's route. The held searches and the route entries are needed for what is relayed and for room.
use Rattle.std.specs.Prelude.{Option, Some, None}
use Prim.Native.Nat.{ℕ}
use mathlib.Core.Path.{◌≡◌, refl, ap}
use mathlib.Core.Logic.{◌⊎◌, inl, inr}
use mathlib.Core.List.{List, [], ◌∷◌}
use native.Mathlib.Omega.{arith}
use lib.ListN.{length}
use Rattle.types.specs.declared.Nwk.{Nwk}
use Rattle.standard.specs.declared.RouteEntry.{RouteEntry}
use Rattle.standard.specs.declared.Status.TheVariants.{Inactive}
use Rattle.standard.specs.declared.RouteReplyDisposition.TheVariants.{Established, Relay}
use Rattle.standard.specs.Ordered.{lookup, put, keep}
use Rattle.standard.specs.Route.{nwk, unknown_hop, route_key, new_route, via, considered, considering, news}
use Rattle.standard.specs.Discovery.{pair_key, live}
use Rattle.standard.specs.Begin.{begin}
use Rattle.standard.specs.Reply.{reply_ours, reply_theirs, reply_to, reply}
use Rattle.standard.specs.Tables.{Tables}
use Rattle.two_searches.specs.Streams.{Search, Heard, hear, answers, final, either, AsAlone, hear_both}
use Rattle.two_searches.specs.Conditions.{RouteTo}
use Rattle.two_searches.specs.Exactly.{drop_answer}
use Rattle.two_searches.proofs.Worked.{own, lost, in_use, wanted, tables, search, from◌at◌, changed, answer}

-- the cost and the hop of the route to n; 0 without one
abbrev cost_in : Option RouteEntry → ℕ
cost_in None = 0
cost_in (Some r) = r.path_cost

abbrev hop_in : Option RouteEntry → ℕ
hop_in None = 0
hop_in (Some r) = r.next_hop_address.0

abbrev cost_to : ℕ → Tables → ℕ
cost_to n t = cost_in (lookup route_key n t.routes)

abbrev hop_to : ℕ → Tables → ℕ
hop_to n t = hop_in (lookup route_key n t.routes)

-- what a merge of replies to two searches leaves of the worked tables
abbrev left : Search → Search → List (Heard ⊎ Heard) → Tables
left a b zs = final (hear_both own a b) zs tables

-- the merge of one reply each, the first search's coming first, is as the streams alone
abbrev Unmixed : Search → Search → Heard → Heard → Type 0
Unmixed a b x y = AsAlone (hear own a) (hear own b) (x ∷ []) (y ∷ []) (inl x ∷ inr y ∷ []) tables

-- "The responders differ from each other". Two searches for one logger: the dearer reply, coming later, replaces the cheaper route.
pub cheaper-then-dearer :
    cost_to 0x4444 (left (search 0x1111 7 0x4444) (search 0x3333 9 0x4444) (inl (from 0x6666 at 5) ∷ inr (from 0x7777 at 9) ∷ []))
    ≡ 9
unfolding final either hear reply reply_to reply_ours reply_theirs lookup put considered considering news
cheaper-then-dearer = refl

pub dearer-then-cheaper :
    cost_to 0x4444 (left (search 0x1111 7 0x4444) (search 0x3333 9 0x4444) (inr (from 0x7777 at 9) ∷ inl (from 0x6666 at 5) ∷ []))
    ≡ 5
unfolding final either hear reply reply_to reply_ours reply_theirs lookup put considered considering news
dearer-then-cheaper = refl

pub same-responder : Unmixed (search 0x1111 7 0x4444) (search 0x3333 9 0x4444) (from 0x6666 at 5) (from 0x7777 at 9) → ⊥
unfolding final either hear reply reply_to reply_ours reply_theirs lookup put considered considering news
same-responder k = let z : ◌≡◌ {A = ℕ} 9 5 = ap (cost_to 0x4444) k.other-end in omega arith

-- ".. and from both originators". The responder of the one search began the other: the way back to it and the way to it are one route.
pub way-to-then-way-back :
    cost_to 0x3333 (left (search 0x1111 7 0x3333) (search 0x3333 9 0x5555) (inl (from 0x6666 at 9) ∷ inr (from 0x7777 at 9) ∷ []))
    ≡ 5
unfolding final either hear reply reply_to reply_ours reply_theirs lookup put considered considering news
way-to-then-way-back = refl

pub way-back-then-way-to :
    cost_to 0x3333 (left (search 0x1111 7 0x3333) (search 0x3333 9 0x5555) (inr (from 0x7777 at 9) ∷ inl (from 0x6666 at 9) ∷ []))
    ≡ 9
unfolding final either hear reply reply_to reply_ours reply_theirs lookup put considered considering news
way-back-then-way-to = refl

pub responder-is-other-originator :
    Unmixed (search 0x1111 7 0x3333) (search 0x3333 9 0x5555) (from 0x6666 at 9) (from 0x7777 at 9) → ⊥
unfolding final either hear reply reply_to reply_ours reply_theirs lookup put considered considering news
responder-is-other-originator k = let z : ◌≡◌ {A = ℕ} 5 9 = ap (cost_to 0x3333) k.other-end in omega arith

-- The same of its own originator: the reply is relayed, and yet its sender is not the route that is left.
pub own-originator-relayed :
    answers (hear own (search 0x1111 7 0x1111)) (from 0x6666 at 9 ∷ []) tables
    ≡ answer (Relay (nwk 0x2222) 9) (changed 0x1111 0x2222 5) ∷ []
unfolding answers hear reply reply_to reply_ours reply_theirs lookup put considered considering news
own-originator-relayed = refl

pub responder-is-own-originator :
    RouteTo (nwk 0x1111) (via (nwk 0x6666) 9 lost) (final (hear own (search 0x1111 7 0x1111)) (from 0x6666 at 9 ∷ []) tables) → ⊥
unfolding final hear reply reply_to reply_ours reply_theirs lookup put considered considering news
responder-is-own-originator e = let z : ◌≡◌ {A = ℕ} 0x2222 0x6666 = ap hop_in e in omega arith

-- "the originators differ unless both are us". Two searches of one other node: whichever is relayed first makes the way back.
pub first-makes-way-back :
    hop_to 0x1111 (left (search 0x1111 7 0x4444) (search 0x1111 8 0x5555) (inl (from 0x7777 at 9) ∷ inr (from 0x7777 at 9) ∷ []))
    ≡ 0x2222
unfolding final either hear reply reply_to reply_ours reply_theirs lookup put considered considering news
first-makes-way-back = refl

pub second-makes-way-back :
    hop_to 0x1111 (left (search 0x1111 7 0x4444) (search 0x1111 8 0x5555) (inr (from 0x7777 at 9) ∷ inl (from 0x7777 at 9) ∷ []))
    ≡ 0x6666
unfolding final either hear reply reply_to reply_ours reply_theirs lookup put considered considering news
second-makes-way-back = refl

pub same-foreign-originator :
    Unmixed (search 0x1111 7 0x4444) (search 0x1111 8 0x5555) (from 0x7777 at 9) (from 0x7777 at 9) → ⊥
unfolding final either hear reply reply_to reply_ours reply_theirs lookup put considered considering news
same-foreign-originator k = let z : ◌≡◌ {A = ℕ} 0x2222 0x6666 = ap (hop_to 0x1111) k.other-end in omega arith

-- "two searches". One search of ours answered for two responders: the second's reply is dropped, since the residual is the first's cost.
pub one-search-alone : cost_to 0x3333 (final (hear own (search 0x0000 1 0x3333)) (from 0x7777 at 9 ∷ []) tables) ≡ 9
unfolding final hear reply reply_to reply_ours reply_theirs lookup put considered considering news
one-search-alone = refl

pub one-search-mixed :
    cost_to 0x3333 (left (search 0x0000 1 0x5555) (search 0x0000 1 0x3333) (inl (from 0x6666 at 5) ∷ inr (from 0x7777 at 9) ∷ []))
    ≡ 5
unfolding final either hear reply reply_to reply_ours reply_theirs lookup put considered considering news
one-search-mixed = refl

pub one-search : Unmixed (search 0x0000 1 0x5555) (search 0x0000 1 0x3333) (from 0x6666 at 5) (from 0x7777 at 9) → ⊥
unfolding final either hear reply reply_to reply_ours reply_theirs lookup put considered considering news
one-search k = let z : ◌≡◌ {A = ℕ} 5 9 = ap (cost_to 0x3333) k.other-end in omega arith

-- An id that is no byte could pass for another search's: 263 of 1110 has the key of 7 of 1111.
pub no_byte : pair_key (nwk 0x1110) 263 ≡ pair_key (nwk 0x1111) 7
no_byte = refl

-- "our own address unchanged". A search of ours under 0000; the address becomes 0009 between its two replies. The second is relayed to
-- the hop that stands for none, and a route over that hop to our old address is made.
abbrev moved : Nwk
moved = nwk 0x0009

abbrev before_move : Tables
before_move = final (hear own (search 0x0000 1 0x5555)) (from 0x6666 at 9 ∷ []) tables

pub not-moved :
    answers (hear own (search 0x0000 1 0x5555)) (from 0x7777 at 8 ∷ []) before_move
    ≡ answer Established (changed 0x5555 0x7777 8) ∷ []
unfolding answers final hear reply reply_to reply_ours reply_theirs lookup put considered considering news
not-moved = refl

pub address-moved :
    answers (hear moved (search 0x0000 1 0x5555)) (from 0x7777 at 8 ∷ []) before_move
    ≡ answer (Relay unknown_hop 8) (changed 0x0000 0xFFFF 0) ∷ []
unfolding answers final hear reply reply_to reply_ours reply_theirs lookup put considered considering news
address-moved = refl

pub address-moved-route :
    RouteTo own (via unknown_hop 0 (new_route own Inactive unknown_hop)) (final (hear moved (search 0x0000 1 0x5555)) (from 0x7777 at 8 ∷ []) before_move)
unfolding final hear reply reply_to reply_ours reply_theirs lookup put considered considering news
address-moved-route = refl

-- "no other call comes between". An expiry: a cheaper reply comes after the discovery is gone, is dropped, and the dearer route stays.
abbrev swept : ℕ → Tables → Tables
swept now t = record { routes = t.routes; discoveries = keep (live now) t.discoveries }

abbrev before_expiry : Tables
before_expiry = final (hear own (search 0x1111 7 0x4444)) (from 0x6666 at 9 ∷ []) tables

pub no-expiry : cost_to 0x4444 (final (hear own (search 0x1111 7 0x4444)) (from 0x7777 at 8 ∷ []) before_expiry) ≡ 8
unfolding final hear reply reply_to reply_ours reply_theirs lookup put considered considering news
no-expiry = refl

pub expiry-between :
    cost_to 0x4444 (final (hear own (search 0x1111 7 0x4444)) (from 0x7777 at 8 ∷ []) (swept 10000 before_expiry))
    ≡ 9
unfolding final hear reply reply_to reply_ours reply_theirs lookup put considered considering news
expiry-between = refl

-- A begin for the same logger: its route is no longer Active, so that a dearer reply to the earlier search establishes.
abbrev before_begin : Tables
before_begin = final (hear own (search 0x0000 1 0x5555)) (from 0x6666 at 9 ∷ []) tables

pub no-begin : cost_to 0x5555 (final (hear own (search 0x0000 1 0x5555)) (from 0x7777 at 12 ∷ []) before_begin) ≡ 9
unfolding final hear reply reply_to reply_ours reply_theirs lookup put considered considering news
no-begin = refl

pub begin-between :
    cost_to 0x5555 (final (hear own (search 0x0000 1 0x5555)) (from 0x7777 at 12 ∷ []) (begin own 3 (nwk 0x5555) 10000 before_begin))
    ≡ 12
unfolding final hear reply reply_to reply_ours reply_theirs lookup put considered considering news begin
begin-between = refl

-- "held in the discovery table". A reply to a search that is not held is dropped, at any cost.
pub not-held : answers (hear own (search 0x1111 99 0x4444)) (from 0x6666 at 0 ∷ []) tables ≡ drop_answer ∷ []
unfolding answers hear reply reply_to lookup
not-held = refl

-- "responders .. have route entries". A reply from a responder without one is dropped, though its cost is below the residual.
pub responder-unknown : answers (hear own (search 0x1111 7 0x9999)) (from 0x6666 at 0 ∷ []) tables ≡ drop_answer ∷ []
unfolding answers hear reply reply_to lookup
responder-unknown = refl

-- "and foreign originators". Without one the relay makes it: the table grows, and a full one would refuse the reply.
abbrev pub without_way_back : Tables
without_way_back = record { routes = in_use ∷ wanted 0x4444 ∷ wanted 0x5555 ∷ []; discoveries = tables.discoveries }

pub originator-unknown :
    length (final (hear own (search 0x1111 7 0x4444)) (from 0x6666 at 9 ∷ []) without_way_back).routes
    ≡ 4
unfolding final hear reply reply_to reply_ours reply_theirs lookup put considered considering news
originator-unknown = refl

-- "From well-formed tables". Where the rows are out of order, a row is put a second time and the table grows.
abbrev out_of_order : Tables
out_of_order = record { routes = wanted 0x5555 ∷ wanted 0x4444 ∷ lost ∷ []; discoveries = tables.discoveries }

pub order-lost : length (final (hear own (search 0x1111 7 0x4444)) (from 0x6666 at 9 ∷ []) out_of_order).routes ≡ 5
unfolding final hear reply reply_to reply_ours reply_theirs lookup put considered considering news
order-lost = refl
