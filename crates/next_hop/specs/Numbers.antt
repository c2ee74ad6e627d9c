-- The number and the values of a decision: resolved 0 and the hop, discovery needed 1, discard 2, and after them the header.
-- Document 01, "How each place should look": "If an answer is an enum, a definition gives this paper's number and values for each of its cases."
-- Assumes nothing.
use Rattle.std.specs.Prelude.{◌∷◌, Result, Ok, Err, Bool}
use Rattle.numbers.specs.Said.{Said, ok, refused_by, flag_number}
use Rattle.frame.specs.declared.NwkHeader.{NwkHeader}
use Rattle.frame.specs.Numbers.{header_numbers}
use Rattle.relay_header.specs.declared.ClearOutcome.{ClearOutcome}
use Rattle.next_hop.specs.declared.NextHop.{NextHop}
use Rattle.next_hop.specs.declared.NextHop.TheVariants.{Resolved, NeedDiscovery, Discard}
use Rattle.next_hop.specs.declared.ResolveOutcome.{ResolveOutcome}
use Rattle.types.specs.declared.Refusal.{Refusal}

abbrev pub decision_said : NwkHeader → Result NextHop Refusal → Said
decision_said h (Err why) = refused_by why
decision_said h (Ok (Resolved n)) = ok (0 ∷ n.0 ∷ header_numbers h)
decision_said h (Ok NeedDiscovery) = ok (1 ∷ header_numbers h)
decision_said h (Ok Discard) = ok (2 ∷ header_numbers h)

-- a refusal says its number alone
abbrev pub resolve_said : ResolveOutcome → Said
resolve_said x = decision_said x.header x.answer

-- whether the end device initiator bit was cleared, and after it the header
abbrev pub truth_said : NwkHeader → Result Bool Refusal → Said
truth_said h (Ok b) = ok (flag_number b ∷ header_numbers h)
truth_said h (Err why) = refused_by why

abbrev pub clear_said : ClearOutcome → Said
clear_said x = truth_said x.header x.answer
