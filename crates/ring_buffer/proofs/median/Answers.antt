-- `ring_buffer::median` meets its contract: place 1 is the middle of three, and whatever puts the samples in order has the median in
-- the middle.
use Prim.Native.Nat.{ℕ, ◌/◌}
use mathlib.Core.Path.{◌≡◌, sym, ap, ◌∙◌}
use lib.ListN.{length, get_or}
use borrow.Author.Rules.{rules}
use Rattle.standard.proofs.Median.{median-of}
use Rattle.ring_buffer.proofs.median.Goals as goal

pub returns : goal.returns
returns c =
    let o = c.ordered-sorted.result in
    let three : length o ≡ 3 = search rules in
    ap (λ (n : ℕ). get_or o (n / 2) 0) (sym three) ∙ median-of c.args.samples o c.ordered-sorted.ensures
