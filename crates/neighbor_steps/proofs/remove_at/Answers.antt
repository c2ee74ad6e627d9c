-- What is taken out of each column.
use Prim.Native.Nat.{◌-◌}
use native.Mathlib.Omega.{arith}
use mathlib.Core.Path.{ap, ◌∙◌}
use lib.ListN.{length}
use Rattle.flat_map.proofs.Shift.{length-shift-out}
use Rattle.neighbor_columns.specs.Table.{in_columns}
use Rattle.neighbor_steps.proofs.remove_at.Goals as goal

pub shift_out-requires : goal.shift_out-requires
shift_out-requires c = c.requires.0.0

pub shift_out-requires-2 : goal.shift_out-requires-2
shift_out-requires-2 c = c.requires.0.1

pub shift_out-requires-3 : goal.shift_out-requires-3
shift_out-requires-3 c = c.requires.0.2

pub shift_out-requires-4 : goal.shift_out-requires-4
shift_out-requires-4 c = c.requires.0.3

pub shift_out-requires-5 : goal.shift_out-requires-5
shift_out-requires-5 c = c.requires.0.4

pub shift_out-requires-6 : goal.shift_out-requires-6
shift_out-requires-6 c = c.requires.0.5

pub shift_out-requires-7 : goal.shift_out-requires-7
shift_out-requires-7 c = c.requires.0.6

pub shift_out-requires-8 : goal.shift_out-requires-8
shift_out-requires-8 c = c.requires.0.7

pub shift_out-requires-9 : goal.shift_out-requires-9
shift_out-requires-9 c = c.requires.0.8

pub shift_out-requires-10 : goal.shift_out-requires-10
shift_out-requires-10 c = c.requires.0.9

pub overflow_sub-result : goal.overflow_sub-result
overflow_sub-result c = omega (arith, c.requires.1)

pub shape_of-keys : goal.shape_of-keys
shape_of-keys c = ap length c.shift_out.ensures ∙ length-shift-out c.args.keys.now _ _

pub shape_of-nwks : goal.shape_of-nwks
shape_of-nwks c = ap length c.shift_out-2.ensures ∙ length-shift-out c.args.nwks.now _ _

pub shape_of-links : goal.shape_of-links
shape_of-links c = ap length c.shift_out-3.ensures ∙ length-shift-out c.args.links.now _ _

pub shape_of-counts : goal.shape_of-counts
shape_of-counts c = ap length c.shift_out-4.ensures ∙ length-shift-out c.args.counts.now _ _

pub shape_of-deadlines : goal.shape_of-deadlines
shape_of-deadlines c = ap length c.shift_out-5.ensures ∙ length-shift-out c.args.deadlines.now _ _

pub shape_of-periods : goal.shape_of-periods
shape_of-periods c = ap length c.shift_out-6.ensures ∙ length-shift-out c.args.periods.now _ _

pub shape_of-heard : goal.shape_of-heard
shape_of-heard c = ap length c.shift_out-7.ensures ∙ length-shift-out c.args.heard.now _ _

pub shape_of-added : goal.shape_of-added
shape_of-added c = ap length c.shift_out-8.ensures ∙ length-shift-out c.args.added.now _ _

pub shape_of-beacons : goal.shape_of-beacons
shape_of-beacons c = ap length c.shift_out-9.ensures ∙ length-shift-out c.args.beacons.now _ _

pub shape_of-bytes : goal.shape_of-bytes
shape_of-bytes c = ap length c.shift_out-10.ensures ∙ length-shift-out c.args.bytes.now _ _

pub returns : goal.returns
returns c = λ z. in_columns (c.shift_out.ensures z) (c.shift_out-2.ensures z) (c.shift_out-3.ensures z) (c.shift_out-4.ensures z) (c.shift_out-5.ensures z) (c.shift_out-6.ensures z) (c.shift_out-7.ensures z) (c.shift_out-8.ensures z) (c.shift_out-9.ensures z) (c.shift_out-10.ensures z) (c.args.count - 1)
