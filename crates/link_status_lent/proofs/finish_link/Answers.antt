-- Field by field; the device type is asked of other functions.
use Rattle.link_status_lent.proofs.finish_link.Goals as goal

pub returns : goal.returns
returns c =
    rw (c.is_end_device.ensures, c.as_router.ensures)
