-- P3: "id 255, begin: id 0."
use Rattle.std.specs.Prelude.{Ok}
use mathlib.Core.Path.{◌≡◌, refl}
use Rattle.standard.specs.Begin.{begin, advertise}
use Rattle.standard.specs.Expiry.{expired}
use Rattle.standard.specs.Ordered.{lookup, put}
use Rattle.standard.specs.Query.{some_fits}
use Rattle.standard.specs.Route.{nwk}
use Rattle.route_table.specs.Table as routes
use Rattle.discovery_table.specs.Table as discoveries
use Rattle.record_table.specs.Table as records
use Rattle.route_begin.specs.Answer.{begun, begun_on, begun_with, advertised}
use Rattle.columns.specs.Columns.{places, ordered}
use Rattle.route_table.specs.Codec.{route_word, route_in}
use Rattle.discovery_table.specs.Codec.{discovery_word, discovery_in}
use Rattle.routing.specs.declared.BeginOutcome.{BeginOutcome}
use Rattle.routing.specs.Search.{begin_discovery, begin_many_to_one_advertisement}
use Rattle.routing.specs.State.{well_formed, fresh, with_id}
use Rattle.bench_table.proofs.Calls.{own, moment, span}

abbrev pub search : BeginOutcome
search = begin_discovery (with_id fresh 255) own (nwk 0x4444) moment span

pub p3-answer : search.answer ≡ Ok 0
unfolding begin_discovery begun begun_on begun_with begin expired some_fits well_formed ordered places route_word route_in discovery_word discovery_in routes.table_of discoveries.table_of records.table_of lookup put
p3-answer = refl

pub p3-id : search.state.request_sequence_number ≡ 0
unfolding begin_discovery begun begun_on begun_with begin expired some_fits well_formed ordered places route_word route_in discovery_word discovery_in routes.table_of discoveries.table_of records.table_of lookup put
p3-id = refl

-- an advertisement steps the id alike
abbrev pub advertisement : BeginOutcome
advertisement = begin_many_to_one_advertisement (with_id fresh 255) own moment span

pub p3-advertised : advertisement.answer ≡ Ok 0
unfolding begin_many_to_one_advertisement advertised begun_with advertise expired some_fits well_formed ordered places route_word route_in discovery_word discovery_in routes.table_of discoveries.table_of records.table_of lookup put
p3-advertised = refl

pub p3-advertised-id : advertisement.state.request_sequence_number ≡ 0
unfolding begin_many_to_one_advertisement advertised begun_with advertise expired some_fits well_formed ordered places route_word route_in discovery_word discovery_in routes.table_of discoveries.table_of records.table_of lookup put
p3-advertised-id = refl
