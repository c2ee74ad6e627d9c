-- The command that the benchmark sends: the links to 1 .. 8.
-- Assumes nothing.
use Rattle.std.specs.Prelude.{ℕ, ◌%◌, true, [], ◌∷◌}
use Rattle.flat_map.specs.Rows.{pad}
use Rattle.neighbor_queries.specs.declared.LinkStatus.{LinkStatus}
use Rattle.link_status.specs.declared.LinkStatusCommand.{LinkStatusCommand}

-- the link to an address, with costs made from it
abbrev pub link_to : ℕ → LinkStatus
link_to n = record { address = record { 0 = n }; incoming_cost = n % 8; outgoing_cost = n % 3 }

unfoldable pub eight_links : LinkStatusCommand
eight_links = record {
  is_first_frame = true;
  is_last_frame = true;
  count = 8;
  statuses = pad 31 (link_to 0) (link_to 1 ∷ link_to 2 ∷ link_to 3 ∷ link_to 4 ∷ link_to 5 ∷ link_to 6 ∷ link_to 7 ∷ link_to 8 ∷ []);
}
