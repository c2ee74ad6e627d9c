-- A list past its capacity is refused; else the record is put.
use borrow.Author.Tests.{lt-ltb, le-ltb}
use Rattle.route_loads.specs.Loads.{put_record, put_record_store}
use Rattle.route_loads.proofs.put_record.Goals as goal

pub returns-then-l-gt32 : goal.returns-then-l-gt32
unfolding put_record put_record_store
returns-then-l-gt32 c =
    let long = lt-ltb 32 c.relays-l.result.count c.if-l-gt32.true in
    record { value = rw (← c.relays-l.ensures, long) c.refuse_list.ensures; store_after = rw (← c.relays-l.ensures, long) }

pub returns : goal.returns
unfolding put_record put_record_store
returns c =
    let short = le-ltb 32 c.relays-l.result.count c.if-l-gt32.false in
    record { value = rw (← c.relays-l.ensures, ← c.nwk-destination.ensures, short) c.load_record.ensures.value; store_after = rw (← c.relays-l.ensures, ← c.nwk-destination.ensures, short) c.load_record.ensures.store_after }
