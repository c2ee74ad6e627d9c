-- Each answer is that of the tests that led to it.
-- Assumes nothing.
use Rattle.script.proofs.line_of.Goals as goal

pub returns-then-mode : goal.returns-then-mode
returns-then-mode c = rw c.if-mode.true

pub returns-then-mode-2 : goal.returns-then-mode-2
returns-then-mode-2 c = rw (c.if-mode.false, c.if-mode-2.true)

pub returns : goal.returns
returns c = rw (c.if-mode.false, c.if-mode-2.false)
