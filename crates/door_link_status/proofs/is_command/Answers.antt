-- The four tests, taken together, tell what makes a command.
use Rattle.standard.proofs.Tells.{tells-le, tells-eq, tells_both, tells-so}
use Rattle.door_link_status.proofs.is_command.Goals as goal

pub returns : goal.returns
returns c = tells-so (λ p. record { first = p.0.0; last = p.0.1; incoming = p.1.0; outgoing = p.1.1 }) (λ w. ((w.first, w.last), (w.incoming, w.outgoing)))
    (tells_both (tells_both (tells-le _ 1) (tells-le _ 1)) (tells_both (tells-eq _ _) (tells-eq _ _)))
