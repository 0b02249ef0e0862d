-- `item_kept_code::carried_fits` meets its contract.
use Rattle.item_kept_code.proofs.Fits.{kept}
use Rattle.item_kept_code.proofs.carried_fits.Goals as goal

pub returns : goal.returns
returns c =
    let args = c.args in
    kept args.c args.flash.now args.recorded.now args.probes.now c.within_types.ensures
