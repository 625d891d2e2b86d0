use Rattle.std.proofs.Common.{◌≡◌, ◌++◌, ◌∙◌, List, map, ap, subst, IfOk}
use Rattle.jack_debug.specs.declared.places.PlacedRange.{PlacedRange}
use Rattle.vm_debug.specs.Places.{placed_range, trees_of}
use Rattle.vm_debug.specs.Inner.Tables.{range_by, table_of}
use Rattle.vm_debug.proofs.Adding.{all_tables, ranges_are}
use Rattle.vm_debug.proofs.places.placed_ranges.Goals as goal

pub returns : goal.returns
returns c =
    let trees = trees_of (c.args.own.now ++ c.args.system.now) in
    let tables : c.add_tables-2.new.tables ≡ map table_of trees =
    all_tables c.args.own.now c.args.system.now c.new-tables.result c.add_tables.new.tables c.add_tables-2.new.tables c.new-tables.ensures c.in_ok-add_tables.ensures c.in_ok-add_tables-2.ensures in
    let same : map (range_by c.as_slice.result.now) c.args.points.now ≡ map (placed_range trees) c.args.points.now =
    ap (λ ts. map (range_by ts) c.args.points.now) (c.as_slice.ensures ∙ tables) ∙ ranges_are trees c.args.points.now in
    subst (λ (x : List PlacedRange). IfOk c.ranges_of.result (λ ranges. ranges ≡ x)) same c.ranges_of.ensures
