use Rattle.std.proofs.Common.{◌≡◌, ◌++◌, List, length, length-append, map, ap, ◌∙◌, arith}
use Rattle.vm_link.specs.declared.linked.LinkedFile.{LinkedFile}
use Rattle.vm_link.specs.declared.linked.LinkedFunction.{LinkedFunction}
use Rattle.jack_debug.specs.Order.{classes_by_name}
use Rattle.vm_debug.specs.Places.{linked_numbers, placed_classes, placed_range, placed_subs, trees_of}
use Rattle.vm_debug.proofs.Adding.{classes_long}
use Rattle.vm_debug.proofs.places.places_of.Goals as goal

pub classes_by_name-requires : goal.classes_by_name-requires
classes_by_name-requires c =
    let own = c.args.own.now in
    let system = c.args.system.now in
    let size : length c.as_slice-3.result.now ≡ length (own ++ system) =
    ap length (c.as_slice-3.ensures ∙ c.in_ok-classes.ensures) ∙ classes_long c.as_slice-2.result.now (length own) 0 (own ++ system) in
    let both = length-append own system in
    omega (arith, size, both, c.requires.few)

pub returns : goal.returns
returns c =
    let own = c.args.own.now in
    let all = own ++ c.args.system.now in
    let linked = c.args.linked.now in
    let m = c.args.map.now in
    let subs : c.in_ok-subs.subs ≡ placed_subs linked.functions m.entries 0 1 all =
    c.in_ok-subs.ensures ∙ ap (λ (fs : List LinkedFunction). placed_subs fs c.as_slice.result.now 0 1 all) c.as_slice-functions.ensures ∙ ap (λ es. placed_subs linked.functions es 0 1 all) c.as_slice.ensures in
    let classes : c.in_ok-classes.classes ≡ placed_classes linked.files (length own) 0 all =
    c.in_ok-classes.ensures ∙ ap (λ (files : List LinkedFile). placed_classes files (length own) 0 all) c.as_slice-2.ensures in
    let numbers : c.in_ok-numbers.numbers ≡ linked_numbers linked.functions = c.in_ok-numbers.ensures ∙ ap linked_numbers c.as_slice-functions.ensures in
    let by_name : c.in_ok-by_name.by_name ≡ classes_by_name (placed_classes linked.files (length own) 0 all) (placed_subs linked.functions m.entries 0 1 all) (linked_numbers linked.functions) =
    c.in_ok-by_name.ensures ∙ (λ i. classes_by_name ((c.as_slice-3.ensures ∙ classes) i) ((c.as_slice-4.ensures ∙ subs) i) ((c.as_slice-5.ensures ∙ numbers) i)) in
    let ranges = c.in_ok-placed_ranges.ensures ∙ ap (map (placed_range (trees_of all))) c.as_slice-6.ensures in
    let commits = c.in_ok-commits_of.ensures ∙ c.as_slice-7.ensures in
    let shared = c.in_ok-shared_of.ensures ∙ c.as_slice-8.ensures in
    λ i. record { ranges = ranges i; commits = commits i; shared = shared i; subs = subs i; classes = classes i; linked = numbers i; by_name = by_name i }
