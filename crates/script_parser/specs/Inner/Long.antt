-- A script of more than 1,048,576 bytes is refused, without a place.
use Rattle.std.specs.Prelude.{◌<◌, ℕ, List, length, refl}
use Rattle.grammar.specs.Cutting.{too_long}
use Rattle.source_files.specs.Inner.Long.{refused_long}
use Rattle.source_files.specs.Sources.{past_limit}
use Rattle.script_parser.specs.Grammar.{outermost, script, whole}
use Rattle.script_parser.specs.Language.{RefusesScript}
use Rattle.script_parser.specs.Tokens.{finish}

pub script_limited : (text : List ℕ) → 1048576 < length text → RefusesScript text past_limit
script_limited text long = (too_long, refused_long (script (finish text)) whole outermost _ text long, refl)
