-- The sweep of the discoveries that are over: the laws of columns' sweep for this table.
-- A discovery stays exactly where now is below its end.
use Prim.Native.Nat.{ℕ, ◌+◌, ◌-◌, ◌<◌, ◌≤◌}
use mathlib.Core.List.{List, [], ◌∷◌}
use mathlib.Core.Path.{◌≡◌, sym, subst}
use borrow.Author.Tests.{lt-ltb, le-ltb}
use lib.ListN.{get_or}
use Rattle.flat_map.specs.Shift.{shift_out}
use Rattle.standard.specs.declared.DiscoveryEntry.{DiscoveryEntry}
use Rattle.standard.specs.Discovery.{discovery_key, live}
use Rattle.standard.specs.Ordered.{keep}
use Rattle.columns.proofs.Sweep.{Sweeping, sweep-begins, sweep-passes, sweep-takes, sweep-ends}
use Rattle.discovery_table.specs.Codec.{discovery_numbers, discovery_in, discovery_of, Clean, InRange}
use Rattle.discovery_table.specs.Table.{DiscoveryTable, in_columns, blank_discovery, WellFormed, rows_of, Holds}
use Rattle.discovery_table.proofs.Codec.{codec}
use Rattle.discovery_table.proofs.Rows.{table-sound, holds}

-- i rows are passed, and the rest of the sweep leaves the rows `goal`
abbrev pub Swept : ℕ → List DiscoveryEntry → List ℕ → List ℕ → List ℕ → ℕ → ℕ → Type 0
Swept now goal keys words ends n i = Sweeping 32 3 discovery_key blank_discovery discovery_of discovery_numbers Clean InRange codec (live now) goal keys (words ∷ ends ∷ []) n i

module _ (now : ℕ) (keys words ends : List ℕ) (n : ℕ) where
  pub begun : WellFormed (in_columns keys words ends n) → Swept now (keep (live now) (rows_of (in_columns keys words ends n))) keys words ends n 0
  begun w = sweep-begins 32 3 discovery_key blank_discovery discovery_of discovery_numbers Clean InRange codec (live now) keys (words ∷ ends ∷ []) n (table-sound (in_columns keys words ends n) w)

  module _ (goal : List DiscoveryEntry) (i : ℕ) (s : Swept now goal keys words ends n i) where
    pub kept : i < n → now < get_or ends i 0 → Swept now goal keys words ends n (i + 1)
    unfolding discovery_in
    kept l h = sweep-passes 32 3 discovery_key blank_discovery discovery_of discovery_numbers Clean InRange codec (live now) keys (words ∷ ends ∷ []) n goal i s l (lt-ltb now (get_or ends i 0) h)

    pub taken : i < n → get_or ends i 0 ≤ now → (keys' words' ends' : List ℕ) → keys' ≡ shift_out i 0 keys → words' ≡ shift_out i 0 words → ends' ≡ shift_out i 0 ends
        → Swept now goal keys' words' ends' (n - 1) i
    unfolding discovery_in
    taken l h keys' words' ends' p q r =
        subst (λ (t : DiscoveryTable). Swept now goal t.keys t.words t.ends (n - 1) i) (sym (λ z. in_columns (p z) (q z) (r z) n))
        (sweep-takes 32 3 discovery_key blank_discovery discovery_of discovery_numbers Clean InRange codec (live now) keys (words ∷ ends ∷ []) n goal i s l (le-ltb now (get_or ends i 0) h))

    pub ended : n ≤ i → Holds (in_columns keys words ends n) goal
    ended h = holds (in_columns keys words ends n) goal s.sound (sweep-ends 32 3 discovery_key blank_discovery discovery_of discovery_numbers Clean InRange codec (live now) keys (words ∷ ends ∷ []) n goal i s h)
