-- Each link is made in turn and put in its place.
use Rattle.std.proofs.Common.{true, [], ◌∷◌}
use Rattle.flat_map.specs.Rows.{pad}
use Rattle.speed_links.specs.Command.{eight_links}
use Rattle.speed_links.proofs.command.Goals as goal

pub returns : goal.returns
unfolding eight_links
returns c =
    λ z. record {
      is_first_frame = true;
      is_last_frame = true;
      count = 8;
      statuses =
          pad 31 (c.status-a.ensures z)
          (c.status.ensures z
          ∷ c.status-2.ensures z
          ∷ c.status-3.ensures z
          ∷ c.status-4.ensures z
          ∷ c.status-5.ensures z
          ∷ c.status-6.ensures z
          ∷ c.status-7.ensures z
          ∷ c.status-8.ensures z
          ∷ []);
    }
