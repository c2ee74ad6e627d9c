-- What a row's layout in numbers has to keep to: a row goes into its numbers and comes back, and numbers that are clean go into a row and come back.
-- Assumes nothing.
use Rattle.std.specs.Prelude.{ℕ, List, ◌≡◌, length, get_or}
use Rattle.columns.specs.Columns.{noughts}

-- rows E under the key key_of, each in `width` numbers, the first of them the key; numbers are clean where no bit stands past the fields
pub record Codec {E : Type 0} (width : ℕ) (key_of : E → ℕ) (blank : E) (read : List ℕ → E) (write : E → List ℕ) (Clean : List ℕ → Type 0) (InRange : E → Type 0) : Type 0 where
  pub back : (e : E) → InRange e → read (write e) ≡ e
  pub forth : (v : List ℕ) → length v ≡ width → Clean v → write (read v) ≡ v
  pub wide : (e : E) → length (write e) ≡ width
  pub key-first : (e : E) → get_or (write e) 0 0 ≡ key_of e
  pub own_key : (v : List ℕ) → Clean v → key_of (read v) ≡ get_or v 0 0
  pub zero : read (noughts width) ≡ blank
  pub clean : (e : E) → InRange e → Clean (write e)
  pub clean-zero : Clean (noughts width)
  pub within : (v : List ℕ) → Clean v → InRange (read v)
