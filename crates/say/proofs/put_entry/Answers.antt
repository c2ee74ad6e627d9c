-- The number chooses the word.
-- Assumes nothing.
use borrow.Author.Tests.{eq-eqb, ne_eqb}
use Rattle.words.specs.Text.{bytes}
use Rattle.say.specs.Text.{put_word}
use Rattle.say.proofs.put_entry.Goals as goal

pub returns-then-word-eq3 : goal.returns-then-word-eq3
unfolding put_word bytes
returns-then-word-eq3 c = rw (eq-eqb _ _ c.if-word-eq3.true) c.put_line.ensures

pub returns-then-word-eq4 : goal.returns-then-word-eq4
unfolding put_word bytes
returns-then-word-eq4 c = rw (ne_eqb _ _ c.if-word-eq3.false, eq-eqb _ _ c.if-word-eq4.true) c.put_line-then-word-eq4.ensures

pub returns-then-word-eq5 : goal.returns-then-word-eq5
unfolding put_word bytes
returns-then-word-eq5 c = rw (ne_eqb _ _ c.if-word-eq3.false, ne_eqb _ _ c.if-word-eq4.false, eq-eqb _ _ c.if-word-eq5.true) c.put_line-then-word-eq5.ensures

pub returns-then-word-eq6 : goal.returns-then-word-eq6
unfolding put_word bytes
returns-then-word-eq6 c = rw (ne_eqb _ _ c.if-word-eq3.false, ne_eqb _ _ c.if-word-eq4.false, ne_eqb _ _ c.if-word-eq5.false, eq-eqb _ _ c.if-word-eq6.true) c.put_line-then-word-eq6.ensures

pub returns-then-word-eq7 : goal.returns-then-word-eq7
unfolding put_word bytes
returns-then-word-eq7 c = rw (ne_eqb _ _ c.if-word-eq3.false, ne_eqb _ _ c.if-word-eq4.false, ne_eqb _ _ c.if-word-eq5.false, ne_eqb _ _ c.if-word-eq6.false, eq-eqb _ _ c.if-word-eq7.true) c.put_line-then-word-eq7.ensures

pub returns : goal.returns
unfolding put_word bytes
returns c = rw (ne_eqb _ _ c.if-word-eq3.false, ne_eqb _ _ c.if-word-eq4.false, ne_eqb _ _ c.if-word-eq5.false, ne_eqb _ _ c.if-word-eq6.false, ne_eqb _ _ c.if-word-eq7.false) c.put_line-2.ensures
