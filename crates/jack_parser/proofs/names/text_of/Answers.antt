use Rattle.std.proofs.Common.{rules}
use Rattle.std.specs.Prelude.{IsUtf8}
use Rattle.std.proofs.lemmas.Str.{IsUtf8-from_ascii}
use Rattle.jack_parser.proofs.names.text_of.Goals as goal

pub unwrap-requires : goal.unwrap-requires
unwrap-requires c = let utf8 : IsUtf8 c.args.bytes.now = IsUtf8-from_ascii c.args.bytes.now c.requires in search rules
