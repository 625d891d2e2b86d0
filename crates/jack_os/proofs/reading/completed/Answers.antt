use Rattle.std.proofs.Common.{ℕ, List, ap, ◌∙◌}
use Rattle.jack_os.specs.System.{added_to}
use Rattle.jack_os.proofs.Seen.{completes}
use Rattle.jack_os.proofs.reading.completed.Goals as goal

pub returns : goal.returns
returns c =
    completes c.args.class c.append.new.self c.in_ok-added.added.items _ c.in_ok-append.ensures.items
    (c.in_ok-added.ensures ∙ ap (λ (f : List ℕ). added_to f) (c.as_bytes.ensures.value ∙ c.as_str.ensures))
