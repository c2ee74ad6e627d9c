-- The refusal is said.
use Rattle.route_loads.proofs.refuse_list.Goals as goal

pub returns : goal.returns
returns c = λ z. record { answer = c.refused-answer.ensures z; state = c.args.s }
