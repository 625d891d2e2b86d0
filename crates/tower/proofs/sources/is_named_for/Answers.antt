use Rattle.std.proofs.Common.{None, Some, ap, ◌∙◌}
use Rattle.std.specs.Prelude.{codes}
use Rattle.std.specs.Str.{bytes_eq}
use Rattle.std.proofs.lemmas.Bool.Decides.{Decides-eqb}
use Rattle.std.proofs.lemmas.Slice.Eq.{strip_suffix_is}
use Rattle.tower.proofs.Beside.{other_file, same_file}
use Rattle.tower.proofs.sources.is_named_for.Goals as goal

pub returns-in-None : goal.returns-in-None
returns-in-None c = other_file c.args.class.now.name.text c.args.file.now (strip_suffix_is Decides-eqb c.args.file.now (codes ".jack") None c.in-None.ensures.cases)

pub returns-in-Some : goal.returns-in-Some
returns-in-Some c =
    c.eq.ensures ∙ (ap (λ name. bytes_eq name c.in-Some.stem.now) c.as_bytes.ensures
    ∙ same_file c.args.class.now.name.text c.in-Some.stem.now c.args.file.now (strip_suffix_is Decides-eqb c.args.file.now (codes ".jack") (Some c.in-Some.stem) c.in-Some.ensures.cases))
