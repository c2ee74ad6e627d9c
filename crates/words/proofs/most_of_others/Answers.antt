-- The tests are the definition's.
-- Assumes nothing.
use mathlib.Core.Path.{sym, ◌∙◌}
use borrow.Author.Tests.{eq-eqb, ne_eqb}
use Rattle.words.specs.Shape.{most_of_others}
use Rattle.words.proofs.most_of_others.Goals as goal

pub returns-then-l-eq114 : goal.returns-then-l-eq114
unfolding most_of_others
returns-then-l-eq114 c = rw (eq-eqb _ _ c.if-l-eq114.true)

pub returns-then-l-eq118 : goal.returns-then-l-eq118
unfolding most_of_others
returns-then-l-eq118 c = rw (ne_eqb _ _ c.if-l-eq114.false, eq-eqb _ _ c.if-l-eq118.true)

pub returns-then-is_list : goal.returns-then-is_list
unfolding most_of_others
returns-then-is_list c = rw (ne_eqb _ _ c.if-l-eq114.false, ne_eqb _ _ c.if-l-eq118.false, sym c.is_list.ensures ∙ c.if-is_list.true)

pub returns-then-l-eq121 : goal.returns-then-l-eq121
unfolding most_of_others
returns-then-l-eq121 c = rw (ne_eqb _ _ c.if-l-eq114.false, ne_eqb _ _ c.if-l-eq118.false, sym c.is_list.ensures ∙ c.if-is_list.false, eq-eqb _ _ c.if-l-eq121.true)

pub returns-then-l : goal.returns-then-l
unfolding most_of_others
returns-then-l c = rw (ne_eqb _ _ c.if-l-eq114.false, ne_eqb _ _ c.if-l-eq118.false, sym c.is_list.ensures ∙ c.if-is_list.false, ne_eqb _ _ c.if-l-eq121.false, c.if-l.true)

pub returns-then-l-eq99 : goal.returns-then-l-eq99
unfolding most_of_others
returns-then-l-eq99 c = rw (ne_eqb _ _ c.if-l-eq114.false, ne_eqb _ _ c.if-l-eq118.false, sym c.is_list.ensures ∙ c.if-is_list.false, ne_eqb _ _ c.if-l-eq121.false, c.if-l.false, eq-eqb _ _ c.if-l-eq99.true)

pub returns-else-l-eq99 : goal.returns-else-l-eq99
unfolding most_of_others
returns-else-l-eq99 c = rw (ne_eqb _ _ c.if-l-eq114.false, ne_eqb _ _ c.if-l-eq118.false, sym c.is_list.ensures ∙ c.if-is_list.false, ne_eqb _ _ c.if-l-eq121.false, c.if-l.false, ne_eqb _ _ c.if-l-eq99.false)
