-- The device type in the word decides, and then the keepalive.
use mathlib.Core.Bool.{Bool, cond, ◌&&◌}
use mathlib.Core.Path.{sym, ap, ◌∙◌}
use Rattle.neighbor_table.specs.Entry.{is_end_device}
use Rattle.neighbor_columns.specs.declared.LinkPart.{LinkPart}
use Rattle.neighbor_columns.specs.Codec.{link_of}
use Rattle.neighbor_columns.proofs.Told.{not_yes, not-no}
use Rattle.parent_annce.specs.declared.Verdict.TheVariants.{Away, Claimed, Goes}
use Rattle.parent_annce.proofs.judge.Goals as goal

pub returns-then-not-is_end_device : goal.returns-then-not-is_end_device
returns-then-not-is_end_device c =
    let a = c.args in
    sym (ap (λ (b : Bool). cond b (cond (a.confirm && (link_of a.word).keepalive_received) Claimed (Goes a.i)) Away) (sym (c.is_end_device.ensures ∙ ap (λ (p : LinkPart). is_end_device p.device_type) c.link_of-part.ensures) ∙ not_yes _ c.if-not-is_end_device.true-raw))

pub returns-then-confirm-part : goal.returns-then-confirm-part
returns-then-confirm-part c =
    let a = c.args in
    sym (ap (λ (b : Bool). cond b (cond (a.confirm && (link_of a.word).keepalive_received) Claimed (Goes a.i)) Away) (sym (c.is_end_device.ensures ∙ ap (λ (p : LinkPart). is_end_device p.device_type) c.link_of-part.ensures) ∙ not-no _ c.if-not-is_end_device.false-raw) ∙ ap (λ (b : Bool). cond b Claimed (Goes a.i)) (sym (ap (λ (p : LinkPart). a.confirm && p.keepalive_received) c.link_of-part.ensures) ∙ c.if-confirm-part.true))

pub returns-else-confirm-part : goal.returns-else-confirm-part
returns-else-confirm-part c =
    let a = c.args in
    sym (ap (λ (b : Bool). cond b (cond (a.confirm && (link_of a.word).keepalive_received) Claimed (Goes a.i)) Away) (sym (c.is_end_device.ensures ∙ ap (λ (p : LinkPart). is_end_device p.device_type) c.link_of-part.ensures) ∙ not-no _ c.if-not-is_end_device.false-raw) ∙ ap (λ (b : Bool). cond b Claimed (Goes a.i)) (sym (ap (λ (p : LinkPart). a.confirm && p.keepalive_received) c.link_of-part.ensures) ∙ c.if-confirm-part.false))
