-- Our own search: which replies establish, and which one is left as the responder's route.
-- By the rule of a stream (Rule), from an Active route as for another's search; from any other, the first reply makes the route Active.
--
-- Not all of the conditions are needed: `established-exactly` wants only that the search is held and that its responder has a route entry.
use Prim.Native.Nat.{ℕ, zero, suc, ◌<◌}
use mathlib.Core.Path.{◌≡◌, refl, sym, ap, ◌∙◌}
use mathlib.Core.Logic.{◌⊎◌, inl, inr, ◌≢◌, ◌↔◌}
use mathlib.Core.Bool.{true, false, false≢true}
use mathlib.Core.List.{List, [], ◌∷◌}
use native.Mathlib.Omega.{arith}
use lib.ListN.{length}
use borrow.Author.Tests.{eq-eqb}
use Rattle.types.specs.declared.Nwk.{Nwk}
use Rattle.standard.specs.declared.RouteEntry.{RouteEntry}
use Rattle.standard.specs.declared.DiscoveryEntry.{DiscoveryEntry}
use Rattle.standard.specs.Ordered.{lookup}
use Rattle.standard.specs.Route.{route_key, is_active, via}
use Rattle.standard.specs.Tables.{Tables}
use Rattle.standard.specs.Reply.{settled}
use Rattle.two_searches.specs.Streams.{Search, Heard, Answer, hear, answers, final, Merge, firsts, seconds, hear_both}
use Rattle.two_searches.specs.Conditions.{HeldAs, RouteTo, Conditions}
use Rattle.two_searches.specs.Exactly.{reply_at, drop_answer, answer_at, Beats, is_established, Establishes, EstablishedExactly}
use Rattle.two_searches.proofs.Touch.{is_ours_of, drops}
use Rattle.two_searches.proofs.Rule.{taken, Stands, beats-stayed, exactly, nothing-taken, last_taken, taken-is-marked, stands_after, taken-or-dropped}
use Rattle.two_searches.proofs.Merged.{conditions-apart, merged, first-route, second-route}

module _
    (own : Nwk)
    (s : Search)
    (ours : s.originator ≡ own)
    (t : Tables)
    (d : DiscoveryEntry)
    (held : HeldAs s d t)
    (r : RouteEntry)
    (known : RouteTo s.responder r t)
  where
    is_ours : is_ours_of own s ≡ true
    is_ours = eq-eqb s.originator.0 own.0 (ap (λ n. n.0) ours)

    establish-marked : (e : DiscoveryEntry) (x : Heard) → is_established (taken (is_ours_of own s) e x) ≡ true
    establish-marked e x = rw is_ours

    stands : Stands s d r t
    stands = record { discovery = held; route = known }

    -- no originator's route is written
    not-theirs : is_ours_of own s ≡ false → s.responder.0 ≢ s.originator.0
    not-theirs e = absurd (false≢true (sym e ∙ is_ours))

    -- from a route that is not Active the first reply is not dropped
    not-dropped : is_active r.status ≡ false → (x : Heard) → drops (is_ours_of own s) x d r ≡ false
    not-dropped idle x = rw (is_ours, idle)

    first_taken : is_active r.status ≡ false → (xs : List Heard) → 0 < length xs → Establishes (answer_at (answers (hear own s) xs t) 0)
    unfolding answers
    first_taken idle [] l = absurd (omega arith)
    first_taken idle (x ∷ xs) l = taken-is-marked own s is_established refl establish-marked x t d r stands (not-dropped idle x)

    from-its-cost : is_active r.status ≡ false → (xs : List Heard) (i : ℕ) → 0 < i → i < length xs
        → Establishes (answer_at (answers (hear own s) xs t) i) ↔ Beats (reply_at xs 0).cost xs i
    unfolding answers
    from-its-cost idle [] i p l = absurd (omega arith)
    from-its-cost idle (x ∷ xs) zero p l = absurd (omega arith)
    from-its-cost idle (x ∷ xs) (suc i) p l =
        let rest =
        exactly own s is_established refl establish-marked xs (hear own s x t).1 (settled x.cost d)
        (record {
          route = via x.sender x.cost r;
          stands = stands_after own s is_established refl establish-marked x t d r stands not-theirs (not-dropped idle x);
          active = λ e. refl;
        })
        i (omega arith) in
        let on = beats-stayed x.cost x xs i (omega arith) in
        (λ e. on.0 (rest.0 e), λ b. rest.1 (on.1 b))

    -- "Our own search establishes by the same rule, but .."
    pub established-exactly : (xs : List Heard) → EstablishedExactly s d r xs (answers (hear own s) xs t) (final (hear own s) xs t)
    established-exactly xs =
        record {
          exactly = λ active. exactly own s is_established refl establish-marked xs t d (record { route = r; stands = stands; active = λ e. active });
          first-always = λ idle. first_taken idle xs;
          from_first = λ idle. from-its-cost idle xs;
          else-dropped = λ i l e. else i e (taken-or-dropped own s xs t d r stands i l);
          last = last_taken own s is_established refl establish-marked not-theirs xs t d r stands;
          none = λ e. rw (nothing-taken own s is_established refl establish-marked xs t d r stands e) known;
        }
      where
        at : ℕ → Answer
        at i = answer_at (answers (hear own s) xs t) i

        else : (i : ℕ) → (Establishes (at i) → ⊥) → ((at i).disposition ≡ taken (is_ours_of own s) d (reply_at xs i)) ⊎ (at i ≡ drop_answer) → at i ≡ drop_answer
        else i e (inl q) = absurd (e (ap is_established q ∙ establish-marked d (reply_at xs i)))
        else i e (inr q) = q

-- the promise rests on the answers and on the responder's route alone
carried-over : (s : Search) (d : DiscoveryEntry) (r : RouteEntry) (xs : List Heard) (rs qs : List Answer) (u v : Tables)
    → qs ≡ rs → lookup route_key s.responder.0 v.routes ≡ lookup route_key s.responder.0 u.routes
    → EstablishedExactly s d r xs rs u → EstablishedExactly s d r xs qs v
carried-over s d r xs rs qs u v e f h =
    rw e
    (record {
      exactly = h.exactly;
      first-always = h.first-always;
      from_first = h.from_first;
      else-dropped = h.else-dropped;
      last = λ i l. f ∙ h.last i l;
      none = λ n. f ∙ h.none n;
    })

-- The same in any merge, of the first search and of the second.
module _
    (own : Nwk)
    (a b : Search)
    (t : Tables)
    (c : Conditions own a b t)
    {xs ys : List Heard}
    {zs : List (Heard ⊎ Heard)}
    (m : Merge xs ys zs)
    (d : DiscoveryEntry)
    (r : RouteEntry)
  where
    pub established-exactly-first : a.originator ≡ own → HeldAs a d t → RouteTo a.responder r t
        → EstablishedExactly a d r xs (firsts (answers (hear_both own a b) zs t)) (final (hear_both own a b) zs t)
    established-exactly-first ours held known =
        carried-over a d r xs (answers (hear own a) xs t) _ (final (hear own a) xs t) _
        (merged own a b t c m).first
        (first-route own a b (conditions-apart own a b t c) m t)
        (established-exactly own a ours t d held r known xs)

    pub established-exactly-second : b.originator ≡ own → HeldAs b d t → RouteTo b.responder r t
        → EstablishedExactly b d r ys (seconds (answers (hear_both own a b) zs t)) (final (hear_both own a b) zs t)
    established-exactly-second ours held known =
        carried-over b d r ys (answers (hear own b) ys t) _ (final (hear own b) ys t) _
        (merged own a b t c m).second
        (second-route own a b (conditions-apart own a b t c) m t)
        (established-exactly own b ours t d held r known ys)
