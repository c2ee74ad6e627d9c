-- Where there is room the rows stay; else the lowest address goes.
use mathlib.Core.Bool.{Bool, cond}
use mathlib.Core.Path.{sym, ap, ◌∙◌}
use Rattle.standard.specs.Ordered.{pop_first}
use Rattle.waiting_columns.specs.Table.{in_columns, rows_of}
use Rattle.link_quality.proofs.make_room.Goals as goal

pub has_room-requires : goal.has_room-requires
has_room-requires c = c.requires

pub pop_first-requires : goal.pop_first-requires
pop_first-requires c = c.requires

pub returns-then-has_room : goal.returns-then-has_room
returns-then-has_room c =
    let xs = rows_of (in_columns c.args.senders.now c.args.samples.now c.args.waiting) in
    record { formed = c.requires; rows = sym (ap (λ (b : Bool). cond b xs (pop_first xs)) (sym c.has_room.ensures ∙ c.if-has_room.true)) }

pub returns-else-has_room : goal.returns-else-has_room
returns-else-has_room c =
    let xs = rows_of (in_columns c.args.senders.now c.args.samples.now c.args.waiting) in
    record { formed = c.pop_first.ensures.formed; rows = c.pop_first.ensures.rows ∙ sym (ap (λ (b : Bool). cond b xs (pop_first xs)) (sym c.has_room.ensures ∙ c.if-has_room.false)) }
