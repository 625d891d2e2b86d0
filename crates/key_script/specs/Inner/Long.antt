-- A key script of more than 1,048,576 bytes is refused, without a place.
use Rattle.std.specs.Prelude.{◌<◌, ℕ, List, length, refl}
use Rattle.grammar.specs.Cutting.{too_long}
use Rattle.source_files.specs.Inner.Long.{refused_long}
use Rattle.source_files.specs.Sources.{past_limit}
use Rattle.key_script.specs.Faults.{key_fault}
use Rattle.key_script.specs.Grammar.{script, whole}
use Rattle.key_script.specs.Language.{RefusesKeys}
use Rattle.key_script.specs.Tokens.{finish}

pub keys_limited : (text : List ℕ) → 1048576 < length text → RefusesKeys text past_limit
keys_limited text long = (key_fault too_long, (too_long, refused_long (script (finish text)) whole 0 _ text long, refl), refl)
