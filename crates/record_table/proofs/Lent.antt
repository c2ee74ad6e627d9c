-- A table that is lent is well formed, which the type says; so it is a table for every law of tables, and each step leaves one.
use Prim.Native.Nat.{ℕ}
use mathlib.Core.Bool.{true}
use mathlib.Core.List.{List}
use mathlib.Core.Path.{◌≡◌, sym, subst, ◌∙◌}
use Rattle.standard.specs.declared.RecordEntry.{RecordEntry}
use Rattle.record_table.specs.Table.{RecordTable, in_columns, WellFormed, well_formed, Holds}
use Rattle.record_table.specs.declared.Records.{Records}
use Rattle.record_table.specs.declared.RecordsSeen.{RecordsSeen}
use Rattle.record_table.specs.Lent.{table, entries_of, seen_table, SameColumns}
use Rattle.record_table.proofs.Rows.{well-formed-told}

pub formed : (r : Records) → WellFormed (table r)
formed r = (well-formed-told (table r)).fact r.formed

pub seen-formed : (r : RecordsSeen) → WellFormed (seen_table r)
seen-formed r = (well-formed-told (seen_table r)).fact r.formed

-- the test of columns that hold entries
pub told : (t : RecordTable) → WellFormed t → well_formed t ≡ true
told t w = (well-formed-told t).flag w

-- a lent table as one that holds its entries
pub holds : (r : Records) (xs : List RecordEntry) → entries_of r ≡ xs → Holds (table r) xs
holds r xs p = record { formed = formed r; rows = p }

-- one table for another that is the same
pub holds-as : (t u : RecordTable) → u ≡ t → (xs : List RecordEntry) → Holds t xs → Holds u xs
holds-as t u p xs h = subst (λ (x : RecordTable). Holds x xs) (sym p) h

-- one call after another
pub same-on : (a b c : Records) → SameColumns a b → SameColumns b c → SameColumns a c
same-on a b c p q = record { keys = q.keys ∙ p.keys; lengths = q.lengths ∙ p.lengths }

-- the columns when a loan is over, each of them the memory that was lent: they are the table that the loan left
pub given-back : (r : Records) (keys lengths : List ℕ) → keys ≡ r.keys.now → lengths ≡ r.lengths.now → table r ≡ in_columns keys lengths r.count
given-back r keys lengths k l = λ z. in_columns (sym k z) (sym l z) r.count
