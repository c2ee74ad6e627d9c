-- What a call about children or a link status is given, read from numbers: values that may be given, lists, a child, a command.
-- "OPT is `0` or `1 value`. LIST is `n x1 .. xn`." A count above the array's length stays as it is, and only what has a place is read.
-- Assumes nothing.
use Rattle.std.specs.Prelude.{ℕ, ◌+◌, ◌*◌, min, cond, List, Option, Some, None}
use Rattle.types.specs.declared.Eui64.{Eui64}
use Rattle.numbers.specs.Read.{number_at, byte_at, flag_at, nwk_at, eui64_at, listed}
use Rattle.flat_map.specs.Rows.{pad}
use Rattle.neighbor_queries.specs.declared.Eui64List.{Eui64List}
use Rattle.neighbor_queries.specs.declared.LinkStatus.{LinkStatus}
use Rattle.neighbor_queries.specs.Lists.{no_name, no_status}
use Rattle.neighbor_values.specs.Kinds.{device_type_of, relationship_of}
use Rattle.children.specs.declared.ChildDescriptor.{ChildDescriptor}
use Rattle.link_status.specs.declared.LinkStatusCommand.{LinkStatusCommand}
use Rattle.child_arguments.specs.declared.Poll.{Poll}
use Rattle.types.specs.declared.Nwk.{Nwk}

-- an address that may be given at a place
abbrev pub maybe_eui64_at : List ℕ → ℕ → Option Eui64
maybe_eui64_at args i = cond (flag_at args i) (Some (eui64_at args (i + 1))) None

abbrev pub maybe_nwk_at : List ℕ → ℕ → Option Nwk
maybe_nwk_at args i = cond (flag_at args i) (Some (nwk_at args (i + 1))) None

-- the place after a value that may be given
unfoldable pub past : List ℕ → ℕ → ℕ
past args i = cond (flag_at args i) (i + 2) (i + 1)

-- a data poll: OPT_EUI OPT_NWK NOW
unfoldable pub poll_of : List ℕ → Poll
poll_of args = record {
  eui64 = maybe_eui64_at args 0;
  nwk = maybe_nwk_at args (past args 0);
  now = number_at args (past args (past args 0));
}

-- a child that joins: EUI NWK TYPE RXON SPAN REL
unfoldable pub child_of : List ℕ → ChildDescriptor
child_of args = record {
  eui64 = eui64_at args 0;
  network_address = nwk_at args 1;
  device_type = device_type_of (number_at args 2);
  rx_on_when_idle = flag_at args 3;
  device_timeout = number_at args 4;
  relationship = relationship_of (number_at args 5);
}

-- the addresses after a count at the first place
abbrev pub name_at : List ℕ → ℕ → Eui64
name_at args i = eui64_at args (i + 1)

abbrev pub names_to : List ℕ → ℕ → Eui64List
names_to args n = record { count = number_at args 0; addresses = pad 64 no_name (listed (name_at args) 0 n) }

unfoldable pub names_of : List ℕ → Eui64List
names_of args = names_to args (min (number_at args 0) 64)

-- the link statuses after a count at the eighth place, three numbers each
abbrev pub status_at : List ℕ → ℕ → LinkStatus
status_at args i = record {
  address = nwk_at args (3 * i + 8);
  incoming_cost = byte_at args (3 * i + 9);
  outgoing_cost = byte_at args (3 * i + 10);
}

-- a link status command: OWN EUI NWK Q FIRST LAST NOW n (nwk in out)*
abbrev pub command_to : List ℕ → ℕ → LinkStatusCommand
command_to args n = record {
  is_first_frame = flag_at args 4;
  is_last_frame = flag_at args 5;
  count = number_at args 7;
  statuses = pad 31 no_status (listed (status_at args) 0 n);
}

unfoldable pub command_of : List ℕ → LinkStatusCommand
command_of args = command_to args (min (number_at args 7) 31)
