-- `ring_buffer::RingBuffer::well_formed` meets its contract. Below three the next place and the unused ones decide, at three only
-- the next place, since none is unused, and a count above three refutes.
use native.Mathlib.Omega.{arith}
use mathlib.Core.Path.{◌≡◌, ap, ◌∙◌, sym}
use borrow.Author.Rules.{rules}
use borrow.Author.Tests.{ltb-true, lt-ltb}
use lib.ListN.{length, drop, drop_of_length-le}
use Rattle.standard.proofs.Tells.{not_so}
use Rattle.ring_buffer.specs.Ring.{all_zero}
use Rattle.ring_buffer.proofs.Zeros.{all_are}
use Rattle.ring_buffer.proofs.RingBuffer.well_formed.Goals as goal

pub returns-then-next-len : goal.returns-then-next-len
returns-then-next-len c =
    record {
      fact = λ e. record {
        places = search rules;
        count = search rules;
        filling = λ _. c.if-next-len.true;
        full = λ h. search rules;
        blank = sym (c.zero_from.ensures ∙ all_are (drop c.args.self.len c.args.self.values)) ∙ e;
      };
      flag = λ w. c.zero_from.ensures ∙ all_are (drop c.args.self.len c.args.self.values) ∙ w.blank;
    }

pub returns-else-next-len : goal.returns-else-next-len
returns-else-next-len c = not_so (λ w. c.if-next-len.false (w.filling c.if-len-lt3.true))

pub returns-then-len-eq3 : goal.returns-then-len-eq3
returns-then-len-eq3 c =
    let ring = c.args.self in
    let three : length ring.values ≡ 3 = search rules in
    record {
      fact = λ e. record {
        places = three;
        count = search rules;
        filling = λ h. absurd (omega arith);
        full = λ _. ltb-true _ _ e;
        blank = ap all_zero (drop_of_length-le ring.values {i = ring.len} (omega arith));
      };
      flag = λ w. lt-ltb _ _ (w.full c.if-len-eq3.true);
    }

pub returns-else-len-eq3 : goal.returns-else-len-eq3
returns-else-len-eq3 c = not_so (λ w. omega (arith, w.count, c.if-len-eq3.false))
