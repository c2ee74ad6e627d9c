-- `ring_buffer::RingBuffer::push` meets its contract: the code counts the next place round before it adds one, the definition after,
-- and both come to the same place.
use Prim.Native.Nat.{◌+◌, ◌%◌}
use native.Mathlib.Omega.{arith}
use mathlib.Core.Path.{◌≡◌}
use lib.ListN.{set}
use Rattle.ring_buffer.proofs.RingBuffer.push.Goals as goal

pub returns : goal.returns
returns c =
    let a = c.args in
    let round : (a.self.next % 3 + 1) % 3 ≡ (a.self.next + 1) % 3 = omega arith in
    λ z. record {
      values = set a.self.values (a.self.next % 3) a.value;
      len = c.one_more.ensures z;
      next = round z;
    }
