-- The cost, the samples and the kinds, each told by a test.
use mathlib.Core.Bool.{◌&&◌}
use mathlib.Core.Path.{sym, subst}
use lib.Dec.{leb}
use Prim.Native.Nat.{◌/◌, ◌%◌}
use Rattle.standard.specs.Tells.{Tells}
use Rattle.neighbor_columns.specs.Table.{SoundLink}
use Rattle.neighbor_columns.proofs.Told.{link-told}
use Rattle.neighbor_columns.proofs.sound_link.Goals as goal

pub returns : goal.returns
returns c =
    subst (Tells (SoundLink c.args.w)) (sym (λ z. (leb ((c.args.w / 1099511627776) % 256) 7 && c.word_sound-samples.ensures z) && c.clean_link-clean.ensures z)) (link-told c.args.w)
