use Rattle.std.proofs.Common.{◌++◌, ◌-◌, length, take, vec_len, ap, ◌∙◌}
use Rattle.std.specs.Prelude.{replicate}
use Rattle.std.proofs.lemmas.List.{take_all}
use Rattle.script_device.proofs.device.whole_memory.Goals as goal

pub returns-clause-words : goal.returns-clause-words
returns-clause-words c =
    let image = c.args.image.now in
    c.in_ok-resize.ensures.items
    ∙ ap (λ t. take 32768 t ++ replicate (32768 - vec_len c.in_ok-words.words) 0) c.in_ok-words.ensures.items
    ∙ ap (λ n. take 32768 image ++ replicate (32768 - n) 0) c.in_ok-words.ensures.len
    ∙ ap (λ t. t ++ replicate (32768 - length image) 0) (take_all 32768 image c.requires)
