use Rattle.std.proofs.Common.{◌≡◌, ℕ, List, Some, sym, ap, subst, ◌∙◌}
use Rattle.hdl_tree.specs.declared.library.Entry.{Entry}
use Rattle.hdl_tree.specs.Chips.{find_entry}
use Rattle.hdl_check.specs.Whole.{chips_in}
use Rattle.hack_cpu.proofs.Libraries.{libraries}
use Rattle.script_device.specs.Directory.{FitsNet}
use Rattle.script_device.specs.Driven.{chip_of}
use Rattle.tst_runner.proofs.Fits.{few_nodes, fits}
use Rattle.tst_runner.proofs.building.build_chip.Goals as goal

found_is : (entries own : List Entry) (name text : List ℕ) (top : Entry) → own ≡ entries → text ≡ name → find_entry own text ≡ Some top → find_entry entries name ≡ Some top
found_is entries own name text top e f h = ap (λ es. find_entry es name) (sym e) ∙ ap (find_entry own) (sym f) ∙ h

pub elaborate-requires-clause-ends : goal.elaborate-requires-clause-ends
elaborate-requires-clause-ends c = libraries.ends c.args.library.now.entries c.args.memories c.requires.sound.library

pub evaluated-requires-clause-fits : goal.evaluated-requires-clause-fits
evaluated-requires-clause-fits c = λ d is among.
    let entries = c.args.library.now.entries in
    let top = c.in-Some.top.now in
    let found = found_is c.args.library.now.entries c.as_slice.result.now c.args.name.now c.as_bytes.result.now top c.as_slice.ensures c.as_bytes.ensures c.in-Some.ensures in
    fits (chips_in entries c.args.memories) entries c.requires.sound.narrow c.args.name.now top found c.in-Ok.e (c.in-Ok.ensures.elaborated top found) d is among

pub evaluated-requires-clause-few : goal.evaluated-requires-clause-few
evaluated-requires-clause-few c =
    let entries = c.args.library.now.entries in
    let top = c.in-Some.top.now in
    let found = found_is c.args.library.now.entries c.as_slice.result.now c.args.name.now c.as_bytes.result.now top c.as_slice.ensures c.as_bytes.ensures c.in-Some.ensures in
    few_nodes (chips_in entries c.args.memories) top c.in-Ok.e (c.in-Ok.ensures.fine top found) (c.in-Ok.ensures.elaborated top found)

pub returns-in_ok-evaluated-in-Ok-clause-loads : goal.returns-in_ok-evaluated-in-Ok-clause-loads
returns-in_ok-evaluated-in-Ok-clause-loads c = λ files.
    let entries = c.args.library.now.entries in
    let chips = chips_in entries c.args.memories in
    let name = c.args.name.now in
    let top = c.in-Some.top.now in
    let e = c.in-Ok.e in
    let chip = chip_of c.in_ok-evaluated-in-Ok.field-0 in
    let found = found_is c.args.library.now.entries c.as_slice.result.now c.args.name.now c.as_bytes.result.now top c.as_slice.ensures c.as_bytes.ensures c.in-Some.ensures in
    let elaborated = c.in-Ok.ensures.elaborated top found in
    let is = c.in_ok-evaluated-in-Ok.ensures in
    record {
      top = top;
      found = found;
      fine = c.in-Ok.ensures.fine top found;
      e = e;
      elaborated = elaborated;
      net = is.net;
      ordered = is.ordered;
      directory = is.directory;
      fits = subst (λ net. FitsNet net chip.directory) (sym is.net) (fits chips entries c.requires.sound.narrow name top found e elaborated chip.directory is.directory is.among);
    }
