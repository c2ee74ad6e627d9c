-- The digits of a tenth, and the last one; or one digit alone.
-- Assumes nothing.
use native.Mathlib.Omega.{arith}
use Prim.Native.Nat.{ℕ, ◌+◌, ◌%◌}
use mathlib.Core.Path.{sym, ap, ◌∙◌}
use Rattle.say.specs.Page.{Page, page, put_byte}
use Rattle.say.proofs.Pages.{digits-none, digits_last, digits_more}
use Rattle.say.proofs.+put_digits.Goals as goal

pub returns-then-k-eq0 : goal.returns-then-k-eq0
returns-then-k-eq0 t c =
    let a = c.args in
    sym (digits-none (page a.out.now a.at) a.n a.k c.if-k-eq0.true)

pub returns-then-n-lt10 : goal.returns-then-n-lt10
returns-then-n-lt10 t c =
    let a = c.args in
    c.put.ensures
    ∙ (ap (λ (d : ℕ). put_byte (page a.out.now a.at) d) c.digit.ensures
    ∙ sym (digits_last (page a.out.now a.at) a.n a.k (omega (arith, c.if-k-eq0.false)) c.if-n-lt10.true))

pub returns : goal.returns
returns t c =
    let a = c.args in
    let from = c.put_digits-to in
    c.put-2.ensures
    ∙ (ap (λ (d : ℕ). put_byte (page from.new.out from.result) d) c.digit-2.ensures
    ∙ (ap (λ (p : Page). put_byte p (48 + a.n % 10)) from.ensures
    ∙ sym (digits_more (page a.out.now a.at) a.n a.k (omega (arith, c.if-k-eq0.false)) c.if-n-lt10.false)))
