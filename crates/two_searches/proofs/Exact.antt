-- Another node's search: which replies are relayed, and which one is left as the responder's route.
-- The rule of a stream (Rule), read for relays; and since a merge answers as the streams alone do (Merged), the same in any merge.
--
-- Not all of the conditions are needed: `relayed-iff` wants only that the search is held and that its responder has a route entry.
use Prim.Native.Nat.{ℕ, ◌<◌}
use mathlib.Core.Path.{◌≡◌, refl, sym, ap, ◌∙◌}
use mathlib.Core.Logic.{◌⊎◌, inl, inr, ◌≢◌, ◌↔◌}
use mathlib.Core.Bool.{true, false, false≢true}
use mathlib.Core.List.{List}
use lib.ListN.{length}
use borrow.Author.Tests.{ne_eqb}
use Rattle.types.specs.declared.Nwk.{Nwk}
use Rattle.standard.specs.declared.RouteEntry.{RouteEntry}
use Rattle.standard.specs.declared.DiscoveryEntry.{DiscoveryEntry}
use Rattle.standard.specs.declared.RouteReplyDisposition.TheVariants.{Relay}
use Rattle.standard.specs.Ordered.{lookup}
use Rattle.standard.specs.Route.{route_key}
use Rattle.standard.specs.Tables.{Tables}
use Rattle.two_searches.specs.Streams.{Search, Heard, Answer, hear, answers, final, Merge, firsts, seconds, hear_both}
use Rattle.two_searches.specs.Conditions.{HeldAs, RouteTo, Conditions}
use Rattle.two_searches.specs.Exactly.{reply_at, drop_answer, answer_at, Beats, is_relay, Relayed, RelayedExactly}
use Rattle.two_searches.proofs.Touch.{is_ours_of}
use Rattle.two_searches.proofs.Rule.{taken, Stands, exactly, nothing-taken, last_taken, taken-or-dropped}
use Rattle.two_searches.proofs.Merged.{numbers-differ, conditions-apart, merged, first-route, second-route}

module _
    (own : Nwk)
    (s : Search)
    (theirs : s.originator ≢ own)
    (t : Tables)
    (d : DiscoveryEntry)
    (held : HeldAs s d t)
    (r : RouteEntry)
    (known : RouteTo s.responder r t)
    (xs : List Heard)
  where
    not_ours : is_ours_of own s ≡ false
    not_ours = ne_eqb s.originator.0 own.0 (numbers-differ s.originator own theirs)

    relay-marked : (e : DiscoveryEntry) (x : Heard) → is_relay (taken (is_ours_of own s) e x) ≡ true
    relay-marked e x = rw not_ours

    stands : Stands s d r t
    stands = record { discovery = held; route = known }

    pub relayed-iff : (i : ℕ) → i < length xs → Relayed (answer_at (answers (hear own s) xs t) i) ↔ Beats d.residual_cost xs i
    relayed-iff =
        exactly own s is_relay refl relay-marked xs t d
        (record { route = r; stands = stands; active = λ e. absurd (false≢true (sym not_ours ∙ e)) })

    -- "In a stream for another node's search, a reply is relayed exactly if .."
    pub relayed-exactly : s.responder ≢ s.originator → RelayedExactly s d r xs (answers (hear own s) xs t) (final (hear own s) xs t)
    relayed-exactly n =
        record {
          exactly = relayed-iff;
          relayed-to = λ i l e. to i e (taken-or-dropped own s xs t d r stands i l);
          else-dropped = λ i l e. else i e (taken-or-dropped own s xs t d r stands i l);
          last = last_taken own s is_relay refl relay-marked (λ e. numbers-differ s.responder s.originator n) xs t d r stands;
          none = λ e. rw (nothing-taken own s is_relay refl relay-marked xs t d r stands e) known;
        }
      where
        at : ℕ → Answer
        at i = answer_at (answers (hear own s) xs t) i

        to : (i : ℕ) → Relayed (at i) → ((at i).disposition ≡ taken (is_ours_of own s) d (reply_at xs i)) ⊎ (at i ≡ drop_answer)
            → (at i).disposition ≡ Relay d.sender_address (reply_at xs i).cost
        to i e (inl q) = q ∙ ap (λ b. taken b d (reply_at xs i)) not_ours
        to i e (inr q) = absurd (false≢true (rw q at e))

        else : (i : ℕ) → (Relayed (at i) → ⊥) → ((at i).disposition ≡ taken (is_ours_of own s) d (reply_at xs i)) ⊎ (at i ≡ drop_answer) → at i ≡ drop_answer
        else i e (inl q) = absurd (e (ap is_relay q ∙ relay-marked d (reply_at xs i)))
        else i e (inr q) = q

-- the promise rests on the answers and on the responder's route alone
carried-over : (s : Search) (d : DiscoveryEntry) (r : RouteEntry) (xs : List Heard) (rs qs : List Answer) (u v : Tables)
    → qs ≡ rs → lookup route_key s.responder.0 v.routes ≡ lookup route_key s.responder.0 u.routes
    → RelayedExactly s d r xs rs u → RelayedExactly s d r xs qs v
carried-over s d r xs rs qs u v e f h =
    rw e
    (record {
      exactly = h.exactly;
      relayed-to = h.relayed-to;
      else-dropped = h.else-dropped;
      last = λ i l. f ∙ h.last i l;
      none = λ n. f ∙ h.none n;
    })

-- The same in any merge, of the first search and of the second.
module _
    (own : Nwk)
    (a b : Search)
    (t : Tables)
    (c : Conditions own a b t)
    {xs ys : List Heard}
    {zs : List (Heard ⊎ Heard)}
    (m : Merge xs ys zs)
    (d : DiscoveryEntry)
    (r : RouteEntry)
  where
    pub relayed-exactly-first : a.originator ≢ own → HeldAs a d t → RouteTo a.responder r t
        → RelayedExactly a d r xs (firsts (answers (hear_both own a b) zs t)) (final (hear_both own a b) zs t)
    relayed-exactly-first theirs held known =
        carried-over a d r xs (answers (hear own a) xs t) _ (final (hear own a) xs t) _
        (merged own a b t c m).first
        (first-route own a b (conditions-apart own a b t c) m t)
        (relayed-exactly own a theirs t d held r known xs c.no-responder-is-originator.0.0)

    pub relayed-exactly-second : b.originator ≢ own → HeldAs b d t → RouteTo b.responder r t
        → RelayedExactly b d r ys (seconds (answers (hear_both own a b) zs t)) (final (hear_both own a b) zs t)
    relayed-exactly-second theirs held known =
        carried-over b d r ys (answers (hear own b) ys t) _ (final (hear own b) ys t) _
        (merged own a b t c m).second
        (second-route own a b (conditions-apart own a b t c) m t)
        (relayed-exactly own b theirs t d held r known ys c.no-responder-is-originator.1.1)
