-- By the request's field, as the definition goes.
-- Assumes nothing.
use Rattle.route_entry.proofs.flagged.Goals as goal

pub returns-in-NotManyToOne : goal.returns-in-NotManyToOne
returns-in-NotManyToOne c = rw c.in-NotManyToOne.is

pub returns-in-SenderSupportsRouteRecordTable : goal.returns-in-SenderSupportsRouteRecordTable
returns-in-SenderSupportsRouteRecordTable c = rw (c.concentrator.ensures, c.in-SenderSupportsRouteRecordTable.is)

pub returns-in-SenderDoesntSupportRouteRecordTable : goal.returns-in-SenderDoesntSupportRouteRecordTable
returns-in-SenderDoesntSupportRouteRecordTable c = rw (c.concentrator-in-SenderDoesntSupportRouteRecordTable.ensures, c.in-SenderDoesntSupportRouteRecordTable.is)

pub returns-in-Reserved : goal.returns-in-Reserved
returns-in-Reserved c = rw (c.concentrator-in-Reserved.ensures, c.in-Reserved.is)
