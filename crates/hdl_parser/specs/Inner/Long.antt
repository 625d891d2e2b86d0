-- A text of more than 1,048,576 bytes is refused, without a place.
use Rattle.std.specs.Prelude.{◌<◌, ℕ, List, length, refl}
use Rattle.grammar.specs.Cutting.{too_long}
use Rattle.source_files.specs.Inner.Long.{refused_long}
use Rattle.source_files.specs.Sources.{past_limit}
use Rattle.hdl_parser.specs.Grammar.{hdl, whole}
use Rattle.hdl_parser.specs.Language.{RefusesHdl}
use Rattle.hdl_parser.specs.Tokens.{finish}

pub hdl_limited : (text : List ℕ) → 1048576 < length text → RefusesHdl text past_limit
hdl_limited text long = (too_long, refused_long (hdl (finish text)) whole 0 _ text long, refl)
