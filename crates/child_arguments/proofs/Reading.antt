-- A list read place by place into an array: storing what is read at the next place is reading one more.
use Prim.Native.Nat.{ℕ, ◌+◌, ◌≤◌, ◌<◌}
use mathlib.Core.Bool.{Bool, true, false, cond}
use mathlib.Core.List.{List, [], ◌∷◌, ◌++◌}
use mathlib.Core.Path.{◌≡◌, sym, ap, ◌∙◌}
use native.Mathlib.Nat.{zero-add}
use native.Mathlib.Numerals.{add-one}
use native.Mathlib.Omega.{arith}
use lib.ListN.{set}
use Rattle.types.specs.declared.Eui64.{Eui64}
use Rattle.numbers.specs.Read.{flag_at, listed}
use Rattle.numbers.proofs.Listed.{listed_more, listed-length}
use Rattle.flat_map.specs.Rows.{pad}
use Rattle.flat_map.proofs.Query.{push-pad}
use Rattle.neighbor_queries.specs.declared.Eui64List.{Eui64List}
use Rattle.neighbor_queries.specs.declared.LinkStatus.{LinkStatus}
use Rattle.neighbor_queries.specs.Lists.{no_name, no_status}
use Rattle.link_status.specs.declared.LinkStatusCommand.{LinkStatusCommand}
use Rattle.child_arguments.specs.Arguments.{past, name_at, names_to, status_at, command_to}

-- one more is read into an array of n places
read_more : {E : Type 0} (f : ℕ → E) (n : ℕ) (b : E) (i : ℕ) → i < n → set (pad n b (listed f 0 i)) i (f i) ≡ pad n b (listed f 0 (i + 1))
read_more f n b i h =
    ap (λ (k : ℕ). set (pad n b (listed f 0 i)) k (f i)) (sym (listed-length f 0 i))
    ∙ push-pad n b (f i) (listed f 0 i) (omega (arith, listed-length f 0 i))
    ∙ ap (λ (k : ℕ). pad n b (listed f 0 i ++ (f k ∷ []))) (sym (zero-add i))
    ∙ ap (pad n b) (sym (listed_more f 0 i))
    ∙ ap (λ (k : ℕ). pad n b (listed f 0 k)) (sym (add-one i))

-- a value that may be given takes at most two places
pub past_near : (args : List ℕ) (i : ℕ) → past args i ≤ i + 2
unfolding past
past_near args i = go (flag_at args i) where
  go : (b : Bool) → cond b (i + 2) (i + 1) ≤ i + 2
  go true = omega arith
  go false = omega arith

-- an address stored at the next place of a list
pub name-stored : (args : List ℕ) (list : Eui64List) (i : ℕ) (name : Eui64) → list ≡ names_to args i → name ≡ name_at args i → i < 64
    → ◌≡◌ {A = Eui64List} (record { count = list.count; addresses = set list.addresses i name }) (names_to args (i + 1))
name-stored args list i name e n h = λ z. record {
  count = ap (λ (l : Eui64List). l.count) e z;
  addresses = ((λ z. set (e z).addresses i (n z)) ∙ read_more (name_at args) 64 no_name i h) z;
}

-- a status stored at the next place of a command
pub status-stored : (args : List ℕ) (command : LinkStatusCommand) (i : ℕ) (status : LinkStatus) → command ≡ command_to args i → status ≡ status_at args i → i < 31
    → ◌≡◌ {A = LinkStatusCommand}
    (record { is_first_frame = command.is_first_frame; is_last_frame = command.is_last_frame; count = command.count; statuses = set command.statuses i status })
    (command_to args (i + 1))
status-stored args command i status e n h = λ z. record {
  is_first_frame = ap (λ (c : LinkStatusCommand). c.is_first_frame) e z;
  is_last_frame = ap (λ (c : LinkStatusCommand). c.is_last_frame) e z;
  count = ap (λ (c : LinkStatusCommand). c.count) e z;
  statuses = ((λ z. set (e z).statuses i (n z)) ∙ read_more (status_at args) 31 no_status i h) z;
}
