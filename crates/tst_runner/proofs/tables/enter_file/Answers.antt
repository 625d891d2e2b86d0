use Rattle.std.proofs.Common.{◌≡◌, ◌++◌, ℕ, List, None, Some, sym, ap, ◌∙◌}
use Rattle.std.specs.Prelude.{codes}
use Rattle.std.proofs.lemmas.Bool.Decides.{Decides-eqb}
use Rattle.std.proofs.lemmas.Slice.Eq.{strip_suffix_is}
use Rattle.tst_runner.proofs.Tabling.{no_chip, one_chip}
use Rattle.tst_runner.proofs.tables.enter_file.Goals as goal

pub returns-in-None : goal.returns-in-None
returns-in-None c = λ names.
    let other = strip_suffix_is Decides-eqb c.as_bytes.result.now (codes ".hdl") None c.in-None.ensures.cases in
    no_chip names c.args.file.now c.args.files.now (λ front is. other front (c.as_bytes.ensures ∙ is))

pub returns-in_ok-enter-in-Some : goal.returns-in_ok-enter-in-Some
returns-in_ok-enter-in-Some c = λ names.
    let is = strip_suffix_is Decides-eqb c.as_bytes.result.now (codes ".hdl") (Some c.in-Some.stem) c.in-Some.ensures.cases in
    one_chip names c.args.file c.in-Some.stem.now c.args.files.now c.enter.new.self (sym c.as_bytes.ensures ∙ is) c.in_ok-enter-in-Some.ensures.entered
