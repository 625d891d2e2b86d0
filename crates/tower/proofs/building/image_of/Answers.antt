use Rattle.std.proofs.Common.{◌∙◌, ap, map, sym, subst}
use Rattle.hack_isa.specs.Table.{word_of}
use Rattle.image_map.specs.Map.{IsMapped}
use Rattle.tower.proofs.building.image_of.Goals as goal

pub returns-clause-mapped : goal.returns-clause-mapped
returns-clause-mapped c =
    subst (λ ws. IsMapped (record { words = ws; map = c.args.coded.map })) (sym (c.of.ensures ∙ c.in_ok-words.ensures ∙ ap (map word_of) c.as_slice.ensures)) c.requires.mapped
