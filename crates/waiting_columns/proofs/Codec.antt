-- A sender with its samples goes into its two numbers and comes back, since the ring goes into its word and comes back;
-- numbers are clean where the word has no bit past its fields, and zeros are the blank entry.
use Prim.Native.Nat.{ℕ}
use native.Mathlib.Omega.{arith}
use mathlib.Core.List.{List, [], ◌∷◌}
use mathlib.Core.Path.{◌≡◌, refl}
use lib.ListN.{length, get_or}
use Rattle.columns.specs.Codec.{Codec}
use Rattle.ring_buffer.proofs.Word.{ring-back, word_back, word_small, zero-read, read-in-range}
use Rattle.waiting_table.specs.declared.WaitingEntry.{WaitingEntry}
use Rattle.waiting_table.specs.Entry.{waiting_key, blank_waiting}
use Rattle.waiting_columns.specs.Codec.{waiting_numbers, waiting_in, waiting_of, Clean, InRange}

back : (e : WaitingEntry) → InRange e → waiting_of (waiting_numbers e) ≡ e
back e r = λ z. record { network_address = e.network_address; lqas = ring-back e.lqas r z }

forth : (v : List ℕ) → length v ≡ 2 → Clean v → waiting_numbers (waiting_of v) ≡ v
forth [] h c = absurd (omega arith)
forth (a ∷ []) h c = absurd (omega arith)
forth (a ∷ b ∷ []) h c = λ z. a ∷ word_back b c z ∷ []
forth (a ∷ b ∷ x ∷ v) h c = absurd (omega arith)

zero : waiting_in 0 0 ≡ blank_waiting
zero = λ z. record { network_address = record { 0 = 0 }; lqas = zero-read z }

pub codec : Codec 2 waiting_key blank_waiting waiting_of waiting_numbers Clean InRange
codec = record {
  back = back;
  forth = forth;
  wide = λ e. refl;
  key-first = λ e. refl;
  own_key = λ v c. refl;
  zero = zero;
  clean = λ e r. word_small e.lqas r;
  clean-zero = omega arith;
  within = λ v c. read-in-range (get_or v 1 0);
}
