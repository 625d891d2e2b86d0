-- A text of more than 1,048,576 bytes is refused, without a place.
use Rattle.std.specs.Prelude.{◌<◌, ℕ, List, length, refl}
use Rattle.grammar.specs.Cutting.{too_long}
use Rattle.source_files.specs.Inner.Long.{refused_long}
use Rattle.source_files.specs.Sources.{past_limit}
use Rattle.jack_lexer.specs.Tokens.{finish}
use Rattle.jack_parser.specs.Grammar.{fresh, jack, whole}
use Rattle.jack_parser.specs.Language.{RefusesClass}

pub class_limited : (text : List ℕ) → 1048576 < length text → RefusesClass text past_limit
class_limited text long = (too_long, refused_long (jack (finish text)) whole (fresh 0) _ text long, refl)
