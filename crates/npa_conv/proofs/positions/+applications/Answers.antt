use Rattle.std.proofs.Common.{refl}
use Rattle.npa_conv.proofs.Applications.{added_all}
use Rattle.npa_conv.proofs.positions.+applications.Goals as goal

pub add_applications-returns-in_ok-add_all_applications-in-App : goal.add_applications-returns-in_ok-add_all_applications-in-App
add_applications-returns-in_ok-add_all_applications-in-App t c =
    added_all c.args.found.now.items _ c.add_all_applications.new.found.items _ c.args.t.now c.in-App.field-0 c.in-App.args _ c.in-App.is c.as_slice.ensures refl
    c.in_ok-push-in-App.ensures.items c.in_ok-add_all_applications-in-App.ensures
