-- The policy decides whether the record is asked; then its place and the number of its relays do, as the definition goes.
-- Assumes nothing.
use native.Mathlib.Omega.{arith}
use mathlib.Core.Path.{sym, ◌∙◌}
use Rattle.record_table.specs.Lent.{seen_table}
use Rattle.record_table.proofs.Lent.{seen-formed}
use Rattle.record_table.proofs.Rows.{place-within}
use Rattle.hop_choice.proofs.Steps.{not-asked, no_record, empty-record, short-record, long-record}
use Rattle.hop_choice.proofs.record_says.Goals as goal

pub returns-then-not-policy : goal.returns-then-not-policy
returns-then-not-policy c =
    let a = c.args in
    not-asked a.policy (seen_table a.records.now) a.destination c.if-not-policy.true-raw

pub returns-in_default : goal.returns-in_default
returns-in_default c =
    let a = c.args in
    no_record a.policy (seen_table a.records.now) a.destination c.if-not-policy.false-raw _ c.place_of-place.ensures _ c.in_default.is

pub bounds-records-i : goal.bounds-records-i
bounds-records-i c =
    let a = c.args in
    let t = seen_table a.records.now in
    omega (arith, place-within t (seen-formed a.records.now) _ _ (sym c.in-Ok.is ∙ c.place_of-place.ensures), (seen-formed a.records.now).ordered.long.1.0, (seen-formed a.records.now).ordered.small)

pub returns-then-n-eq0 : goal.returns-then-n-eq0
returns-then-n-eq0 c =
    let a = c.args in
    empty-record a.policy (seen_table a.records.now) a.destination c.if-not-policy.false-raw _ c.place_of-place.ensures _ c.in-Ok.is c.if-n-eq0.true

pub returns-then-n-policy : goal.returns-then-n-policy
returns-then-n-policy c =
    let a = c.args in
    short-record a.policy (seen_table a.records.now) a.destination c.if-not-policy.false-raw _ c.place_of-place.ensures _ c.in-Ok.is c.if-n-eq0.false c.if-n-policy.true

pub returns : goal.returns
returns c =
    let a = c.args in
    long-record a.policy (seen_table a.records.now) a.destination c.if-not-policy.false-raw _ c.place_of-place.ensures _ c.in-Ok.is c.if-n-eq0.false c.if-n-policy.false
