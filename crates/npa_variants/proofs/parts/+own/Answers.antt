use Rattle.std.proofs.Common.{not}
use Rattle.std.specs.Prelude.{flat_map}
use Rattle.npa_variants.specs.Rows.{is_among, parts}
use Rattle.npa_variants.specs.Told.{seen}
use Rattle.npa_variants.proofs.Parting.{added_all}
use Rattle.npa_variants.proofs.parts.+own.Goals as goal

pub add_own-returns-in_ok-add_all_own-in-App : goal.add_own-returns-in_ok-add_all_own-in-App
add_own-returns-in_ok-add_all_own-in-App t c =
    added_all (λ u. not (is_among (flat_map parts c.args.values.now) u)) (seen c.args.own.now.items) (seen c.add_one_own.new.own.items) (seen c.add_all_own.new.own.items)
    c.args.t.now _ c.in-App.args _ c.in-App.is c.as_slice.ensures c.in_ok-add_one_own-in-App.ensures c.in_ok-add_all_own-in-App.ensures
