-- The masks before place 32 are 0 still, and those from there on are filled.
use native.Mathlib.Omega.{arith}
use mathlib.Core.Path.{refl}
use Rattle.relay_store.proofs.Agree.{masks-filled}
use Rattle.relay_store.proofs.set_masks.Goals as goal

pub returns : goal.returns
returns c = masks-filled c.args.masks.now _ c.requires.0 c.requires.1 (omega (arith, c.fill.ensures.len)) (λ j h. c.fill.ensures.clones j 0 (omega (arith, c.requires.0)) refl)
