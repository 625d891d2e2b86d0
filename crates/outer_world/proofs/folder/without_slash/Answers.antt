use Rattle.std.proofs.Common.{◌≡◌, ◌∙◌, sym, refl, arith, true, false}
use Rattle.std.proofs.lemmas.Str.Pattern.{contains_char}
use Rattle.outer_world.proofs.Entries.{no_slash_from}
use Rattle.outer_world.proofs.folder.without_slash.Goals as goal

pub returns-else-contains : goal.returns-else-contains
returns-else-contains c =
    let h = contains_char 47 c.args.name.now c.contains.result c.contains.ensures.cases (omega arith) in
    (no_slash_from c.args.name.now (λ k lt e. let bad : false ≡ true = sym c.if-contains.false ∙ h.1 k lt e in cc), refl)
