-- Each arm's tests are those of its filter on the row.
use mathlib.Core.Path.{sym, ap, ◌∙◌, subst}
use Rattle.neighbor_queries.specs.Filter.{fits}
use Rattle.neighbor_queries.specs.declared.Filter.{Filter}
use Rattle.neighbor_columns.specs.Codec.{neighbor_from, neighbor_in}
use Rattle.neighbor_queries_lent.specs.Read.{Untimed}
use Rattle.neighbor_queries_lent.proofs.fits_word.Goals as goal

pub returns-in-Address : goal.returns-in-Address
unfolding fits neighbor_from
returns-in-Address c =
    λ key counts deadline period late new beacon bytes. ap (λ (g : Filter). fits g (neighbor_in key c.args.nwk c.args.word counts deadline period late new beacon bytes)) (sym c.in-Address.is)

pub returns-in-EndDeviceChild : goal.returns-in-EndDeviceChild
unfolding fits neighbor_from
returns-in-EndDeviceChild c =
    λ key counts deadline period late new beacon bytes. c.is_end_device_child.ensures ∙ ap (λ (g : Filter). fits g (neighbor_in key c.args.nwk c.args.word counts deadline period late new beacon bytes)) (sym c.in-EndDeviceChild.is)

pub returns-in-EndDeviceChildAt : goal.returns-in-EndDeviceChildAt
unfolding fits neighbor_from
returns-in-EndDeviceChildAt c =
    λ key counts deadline period late new beacon bytes. rw c.is_end_device_child-in-EndDeviceChildAt.ensures (ap (λ (g : Filter). fits g (neighbor_in key c.args.nwk c.args.word counts deadline period late new beacon bytes)) (sym c.in-EndDeviceChildAt.is))

pub returns-in-SleepyChild : goal.returns-in-SleepyChild
unfolding fits neighbor_from
returns-in-SleepyChild c =
    λ key counts deadline period late new beacon bytes. c.is_sleepy_child.ensures ∙ ap (λ (g : Filter). fits g (neighbor_in key c.args.nwk c.args.word counts deadline period late new beacon bytes)) (sym c.in-SleepyChild.is)

pub returns-in-SleepyChildAt : goal.returns-in-SleepyChildAt
unfolding fits neighbor_from
returns-in-SleepyChildAt c =
    λ key counts deadline period late new beacon bytes. rw c.is_sleepy_child-in-SleepyChildAt.ensures (ap (λ (g : Filter). fits g (neighbor_in key c.args.nwk c.args.word counts deadline period late new beacon bytes)) (sym c.in-SleepyChildAt.is))

pub returns-in-LiveRouter : goal.returns-in-LiveRouter
unfolding fits neighbor_from
returns-in-LiveRouter c =
    λ key counts deadline period late new beacon bytes. rw (c.is_router.ensures, c.outgoing_cost.ensures) (ap (λ (g : Filter). fits g (neighbor_in key c.args.nwk c.args.word counts deadline period late new beacon bytes)) (sym c.in-LiveRouter.is))

pub returns-in-LiveLinkAt : goal.returns-in-LiveLinkAt
unfolding fits neighbor_from
returns-in-LiveLinkAt c =
    λ key counts deadline period late new beacon bytes. rw c.outgoing_cost-in-LiveLinkAt.ensures (ap (λ (g : Filter). fits g (neighbor_in key c.args.nwk c.args.word counts deadline period late new beacon bytes)) (sym c.in-LiveLinkAt.is))

pub returns-in-SampledRouter : goal.returns-in-SampledRouter
unfolding fits neighbor_from
returns-in-SampledRouter c =
    λ key counts deadline period late new beacon bytes. rw (c.is_router-in-SampledRouter.ensures, c.samples.ensures) (ap (λ (g : Filter). fits g (neighbor_in key c.args.nwk c.args.word counts deadline period late new beacon bytes)) (sym c.in-SampledRouter.is))

pub returns-in-TimedOut : goal.returns-in-TimedOut
returns-in-TimedOut c = absurd (subst Untimed c.in-TimedOut.is c.requires)
