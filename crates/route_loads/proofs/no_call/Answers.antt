-- Nothing is said.
use Rattle.route_loads.proofs.no_call.Goals as goal

pub returns : goal.returns
returns c = λ z. record { answer = c.no_call-answer.ensures z; state = c.args.s }
