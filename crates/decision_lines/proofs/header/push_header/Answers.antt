-- The parts are put in turn.
use Rattle.frame.specs.Numbers.{name_numbers, byte_numbers, route_numbers, header_numbers}
use Rattle.decision_lines.proofs.Parts.{four}
use Rattle.decision_lines.proofs.header.push_header.Goals as goal

pub returns : goal.returns
unfolding header_numbers
returns c =
    let h = c.args.h in
    rw (c.push_route.ensures, c.push_optional_byte-i.ensures, c.push_optional_eui64-g.ensures, c.push_optional_eui64-f.ensures, c.push_byte-e.ensures, c.push_byte-d.ensures, c.push_nwk-c.ensures, c.push_nwk-b.ensures, c.push_control-a.ensures)
    (four _ (name_numbers h.destination_ieee) (name_numbers h.source_ieee) (byte_numbers h.multicast_control) (route_numbers h.has_source_route h.source_route))
