-- Nothing more is said.
use Rattle.neighbor_loads.proofs.load.Goals as goal

pub returns : goal.returns
returns c = λ z. record { answer = c.done-answer.ensures z; state = c.args.s }
