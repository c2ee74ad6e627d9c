-- A ring of samples as a number, from the lowest bit: three values of 8 bits, how many are held 8, the next place 8: below 2^40.
-- Bits above stay unread, so that a word of more fields can hold a ring in its lowest 40. No other place knows this layout.
-- Assumes nothing.
use Rattle.std.specs.Prelude.{ℕ, ◌+◌, ◌*◌, ◌/◌, ◌%◌, ◌<◌, [], ◌∷◌, ◌≡◌, length, get_or}
use Rattle.ring_buffer.specs.declared.RingBuffer.{RingBuffer}

-- every word is below it
abbrev pub word_end : ℕ
word_end = 1099511627776

-- the ring in a word
unfoldable pub ring_of : ℕ → RingBuffer
ring_of w = record {
  values = w % 256 ∷ (w / 256) % 256 ∷ (w / 65536) % 256 ∷ [];
  len = (w / 16777216) % 256;
  next = (w / 4294967296) % 256;
}

-- the word of a ring
unfoldable pub ring_word : RingBuffer → ℕ
ring_word r =
    get_or r.values 0 0
    + get_or r.values 1 0 * 256
    + get_or r.values 2 0 * 65536
    + r.len * 16777216
    + r.next * 4294967296

-- a ring whose numbers are within their fields, as every ring of a program is
pub record InRange (r : RingBuffer) : Type 0 where
  pub places : length r.values ≡ 3
  pub first : get_or r.values 0 0 < 256
  pub second : get_or r.values 1 0 < 256
  pub third : get_or r.values 2 0 < 256
  pub held : r.len < 256
  pub next : r.next < 256
