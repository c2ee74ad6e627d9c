-- Each example of Edges breaks one condition and meets all the others, so that nothing but that condition is to blame.
-- The conditions are taken one by one, and the one in question is left out.
use Prim.Native.Nat.{◌<◌}
use mathlib.Core.Path.{◌≡◌, refl}
use mathlib.Core.Logic.{◌≢◌}
use native.Mathlib.Omega.{arith}
use Rattle.types.specs.declared.Nwk.{Nwk}
use Rattle.standard.specs.Ordered.{lookup}
use Rattle.standard.specs.Tables.{Tables, InOrder}
use Rattle.two_searches.specs.Streams.{Search}
use Rattle.two_searches.specs.Conditions.{Held, Known, NoOriginator, ForeignKnown, Conditions}
use Rattle.two_searches.proofs.Worked.{own, lost, in_use, wanted, our_first, their_first, their_second, another, tables, search, differ}
use Rattle.two_searches.proofs.Edges.{without_way_back}

pub data Condition : Type 0 where
  pairs bytes held responders no-originator originators responders-known originators-known : Condition

-- what each of them says
abbrev pub Says : Condition → Nwk → Search → Search → Tables → Type 0
Says pairs own a b t = a.originator ≡ b.originator → a.id ≢ b.id
Says bytes own a b t = (a.id < 256) × (b.id < 256)
Says held own a b t = Held a t × Held b t
Says responders own a b t = a.responder ≢ b.responder
Says no-originator own a b t = NoOriginator a.responder a b × NoOriginator b.responder a b
Says originators own a b t = a.originator ≡ b.originator → a.originator ≡ own
Says responders-known own a b t = Known a.responder t × Known b.responder t
Says originators-known own a b t = ForeignKnown own a t × ForeignKnown own b t

-- together they are the conditions
pub together : (own : Nwk) (a b : Search) (t : Tables) → ((c : Condition) → Says c own a b t) → Conditions own a b t
together own a b t h =
    record {
      pairs-differ = h pairs;
      ids-are-bytes = h bytes;
      held = h held;
      responders-differ = h responders;
      no-responder-is-originator = h no-originator;
      originators-differ = h originators;
      responders-known = h responders-known;
      originators-known = h originators-known;
    }

-- all of them hold but for `broken`
abbrev pub AllBut : Condition → Search → Search → Tables → Type 0
AllBut broken a b t = (c : Condition) → c ≢ broken → Says c own a b t

pub same-responder : AllBut responders (search 0x1111 7 0x4444) (search 0x3333 9 0x4444) tables
unfolding lookup
same-responder pairs n = λ e. omega arith
same-responder bytes n = omega arith
same-responder held n = ((their_first, refl), (another, refl))
same-responder responders n = absurd (n refl)
same-responder no-originator n =
    ((differ 0x4444 0x1111 (omega arith), differ 0x4444 0x3333 (omega arith)), (differ 0x4444 0x1111 (omega arith), differ 0x4444 0x3333 (omega arith)))
same-responder originators n = λ e. absurd (differ 0x1111 0x3333 (omega arith) e)
same-responder responders-known n = ((wanted 0x4444, refl), (wanted 0x4444, refl))
same-responder originators-known n = (λ f. (lost, refl), λ f. (in_use, refl))

pub responder-is-other-originator : AllBut no-originator (search 0x1111 7 0x3333) (search 0x3333 9 0x5555) tables
unfolding lookup
responder-is-other-originator pairs n = λ e. omega arith
responder-is-other-originator bytes n = omega arith
responder-is-other-originator held n = ((their_first, refl), (another, refl))
responder-is-other-originator responders n = differ 0x3333 0x5555 (omega arith)
responder-is-other-originator no-originator n = absurd (n refl)
responder-is-other-originator originators n = λ e. absurd (differ 0x1111 0x3333 (omega arith) e)
responder-is-other-originator responders-known n = ((in_use, refl), (wanted 0x5555, refl))
responder-is-other-originator originators-known n = (λ f. (lost, refl), λ f. (in_use, refl))

pub responder-is-own-originator : AllBut no-originator (search 0x1111 7 0x1111) (search 0x3333 9 0x5555) tables
unfolding lookup
responder-is-own-originator pairs n = λ e. omega arith
responder-is-own-originator bytes n = omega arith
responder-is-own-originator held n = ((their_first, refl), (another, refl))
responder-is-own-originator responders n = differ 0x1111 0x5555 (omega arith)
responder-is-own-originator no-originator n = absurd (n refl)
responder-is-own-originator originators n = λ e. absurd (differ 0x1111 0x3333 (omega arith) e)
responder-is-own-originator responders-known n = ((lost, refl), (wanted 0x5555, refl))
responder-is-own-originator originators-known n = (λ f. (lost, refl), λ f. (in_use, refl))

pub same-foreign-originator : AllBut originators (search 0x1111 7 0x4444) (search 0x1111 8 0x5555) tables
unfolding lookup
same-foreign-originator pairs n = λ e. omega arith
same-foreign-originator bytes n = omega arith
same-foreign-originator held n = ((their_first, refl), (their_second, refl))
same-foreign-originator responders n = differ 0x4444 0x5555 (omega arith)
same-foreign-originator no-originator n =
    ((differ 0x4444 0x1111 (omega arith), differ 0x4444 0x1111 (omega arith)), (differ 0x5555 0x1111 (omega arith), differ 0x5555 0x1111 (omega arith)))
same-foreign-originator originators n = absurd (n refl)
same-foreign-originator responders-known n = ((wanted 0x4444, refl), (wanted 0x5555, refl))
same-foreign-originator originators-known n = (λ f. (lost, refl), λ f. (lost, refl))

pub one-search : AllBut pairs (search 0x0000 1 0x5555) (search 0x0000 1 0x3333) tables
unfolding lookup
one-search pairs n = absurd (n refl)
one-search bytes n = omega arith
one-search held n = ((our_first, refl), (our_first, refl))
one-search responders n = differ 0x5555 0x3333 (omega arith)
one-search no-originator n =
    ((differ 0x5555 0x0000 (omega arith), differ 0x5555 0x0000 (omega arith)), (differ 0x3333 0x0000 (omega arith), differ 0x3333 0x0000 (omega arith)))
one-search originators n = λ e. refl
one-search responders-known n = ((wanted 0x5555, refl), (in_use, refl))
one-search originators-known n = (λ f. absurd (f refl), λ f. absurd (f refl))

pub not-held : AllBut held (search 0x1111 99 0x4444) (search 0x3333 9 0x5555) tables
unfolding lookup
not-held pairs n = λ e. omega arith
not-held bytes n = omega arith
not-held held n = absurd (n refl)
not-held responders n = differ 0x4444 0x5555 (omega arith)
not-held no-originator n =
    ((differ 0x4444 0x1111 (omega arith), differ 0x4444 0x3333 (omega arith)), (differ 0x5555 0x1111 (omega arith), differ 0x5555 0x3333 (omega arith)))
not-held originators n = λ e. absurd (differ 0x1111 0x3333 (omega arith) e)
not-held responders-known n = ((wanted 0x4444, refl), (wanted 0x5555, refl))
not-held originators-known n = (λ f. (lost, refl), λ f. (in_use, refl))

pub responder-unknown : AllBut responders-known (search 0x1111 7 0x9999) (search 0x3333 9 0x5555) tables
unfolding lookup
responder-unknown pairs n = λ e. omega arith
responder-unknown bytes n = omega arith
responder-unknown held n = ((their_first, refl), (another, refl))
responder-unknown responders n = differ 0x9999 0x5555 (omega arith)
responder-unknown no-originator n =
    ((differ 0x9999 0x1111 (omega arith), differ 0x9999 0x3333 (omega arith)), (differ 0x5555 0x1111 (omega arith), differ 0x5555 0x3333 (omega arith)))
responder-unknown originators n = λ e. absurd (differ 0x1111 0x3333 (omega arith) e)
responder-unknown responders-known n = absurd (n refl)
responder-unknown originators-known n = (λ f. (lost, refl), λ f. (in_use, refl))

pub originator-unknown : AllBut originators-known (search 0x1111 7 0x4444) (search 0x3333 9 0x5555) without_way_back
unfolding lookup
originator-unknown pairs n = λ e. omega arith
originator-unknown bytes n = omega arith
originator-unknown held n = ((their_first, refl), (another, refl))
originator-unknown responders n = differ 0x4444 0x5555 (omega arith)
originator-unknown no-originator n =
    ((differ 0x4444 0x1111 (omega arith), differ 0x4444 0x3333 (omega arith)), (differ 0x5555 0x1111 (omega arith), differ 0x5555 0x3333 (omega arith)))
originator-unknown originators n = λ e. absurd (differ 0x1111 0x3333 (omega arith) e)
originator-unknown responders-known n = ((wanted 0x4444, refl), (wanted 0x5555, refl))
originator-unknown originators-known n = absurd (n refl)

-- and these tables too are in order
pub without-in-order : InOrder without_way_back
without-in-order = record { routes = omega arith; discoveries = omega arith }
