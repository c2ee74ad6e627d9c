-- A lent buffer with the place where the next byte goes; what finds no place any more is left out.
-- Assumes nothing.
use Rattle.std.specs.Prelude.{ℕ, ◌+◌, cond, List, [], ◌∷◌, ltb, length, set}

pub record Page : Type 0 where
  pub text : List ℕ
  pub place : ℕ

abbrev pub page : List ℕ → ℕ → Page
page text place = record { text = text; place = place }

unfoldable pub put_byte : Page → ℕ → Page
put_byte p b = cond (ltb p.place (length p.text)) (page (set p.text p.place b) (p.place + 1)) p

-- bytes, one after the other
unfoldable pub puts : Page → List ℕ → Page
puts p [] = p
puts p (b ∷ bs) = puts (put_byte p b) bs
